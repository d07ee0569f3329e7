-- Files that are staged one after another.
use Rattle.std.specs.Prelude.{◌≡◌, ◌<◌, ℕ, List, take, [], ◌∷◌, Option, Some, IfSome, option_map}
use Rattle.std.specs.FinMap as fin
use Rattle.mit_files.specs.Files.{FileMap}
use Rattle.mit_world.specs.Outside.{Held, stages}

-- each file in turn adds or replaces one name of the staged ones
unfoldable pub stages_all : List (List ℕ × List ℕ) → Held → Held
stages_all [] held = held
stages_all (file ∷ files) held = stages_all files (stages file.0 file.1 held)

-- what is published, where the outbox tells it
abbrev pub published_in : Option Held → Option (Option FileMap)
published_in held = option_map (λ h. h.published) held

-- where nothing was staged before, these files are staged now
abbrev pub StagesAfresh : FileMap → Option Held → Option Held → Type 0
StagesAfresh files old new = IfSome old (λ held. held.staged ≡ fin.empty → new ≡ Some (record held { staged = files }))

-- exactly the first of these files, in rising order of names, are staged, and not all of them
abbrev pub StagesSome : FileMap → Option Held → Option Held → Type 0
StagesSome files old new = (count : ℕ) × (count < fin.len files) × (new ≡ option_map (stages_all (take count (fin.entries files))) old)
