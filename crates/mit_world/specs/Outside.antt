-- What folder, outbox and console mean: what they hold, where they tell it, and how their faults are counted.
use Rattle.std.specs.Prelude.{◌≡◌, ◌⊎◌, ◌≤◌, ◌+◌, ◌-◌, ◌^◌, ◌++◌, ⊤, ℕ, List, [], ◌∷◌, Bool, true, false, Option, Some, None, IfSome, option_map, min}
use Rattle.std.specs.FinMap as map
use Rattle.mit_files.specs.Files.{FileMap}
use Rattle.mit_world.specs.declared.outside.OutsideStop.{OutsideStop}
use Rattle.mit_world.specs.declared.outside.OutsideStop.TheVariants.{Failed, NoMemory}

-- a count of faults rose, or stands at its last value
abbrev pub Rose : ℕ → ℕ → Type 0
Rose before now = min (before + 1) (2 ^ 64 - 1) ≤ now

-- a fact that comes with a failed call; where memory ran out, nothing is said
abbrev pub IfFailed : OutsideStop → Type 0 → Type 0
IfFailed Failed fact = fact
IfFailed NoMemory fact = ⊤

-- what a read tells: the file's bytes were appended, or there is no such file
abbrev pub ReadsAs : Option FileMap → List ℕ → Bool → List ℕ → List ℕ → Type 0
ReadsAs files name true old new = (bytes : List ℕ) × (new ≡ old ++ bytes) × IfSome files (λ told. map.get told name ≡ Some bytes)
ReadsAs files name false old new = (new ≡ old) × IfSome files (λ told. map.get told name ≡ None)

-- the names that were asked for with this one more, where they are told
abbrev pub asks : List ℕ → Option (List (List ℕ)) → Option (List (List ℕ))
asks name asked = option_map (λ names. names ++ name ∷ []) asked

-- where the names are told, this one was asked for once at most, and no other
abbrev pub AsksAtMost : List ℕ → Option (List (List ℕ)) → Option (List (List ℕ)) → Type 0
AsksAtMost name before now = (now ≡ before) ⊎ (now ≡ asks name before)

-- what an outbox holds: the staged files, and the published ones where there are any
pub record Held : Type 0 where
  pub staged : FileMap
  pub published : Option FileMap

-- a stage adds or replaces one name
abbrev pub stages : List ℕ → List ℕ → Held → Held
stages name bytes held = record held { staged = map.insert held.staged name bytes }

-- a publish publishes what is staged
abbrev pub publishes : Held → Held
publishes held = record held { published = Some held.staged }

-- the bytes written now begin with those written before
abbrev pub Continues : Option (List ℕ) → Option (List ℕ) → Type 0
Continues None now = now ≡ None
Continues (Some before) now = (more : List ℕ) × (now ≡ Some (before ++ more))
