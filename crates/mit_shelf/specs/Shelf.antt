-- What a shelf keeps of a folder: the names that were asked for, in that order, each with what was found.
use Rattle.std.specs.Prelude.{◌≡◌, ℕ, List, [], ◌∷◌, ◌++◌, Option, Some, None, Result, Ok, Err, IfSome, MatchOption, option_and_then, slice_get}
use Rattle.std.specs.FinMap as fin
use Rattle.std.specs.Map.{lookup}
use Rattle.std.specs.Str.{bytes_eq}
use Rattle.mit_files.specs.Files.{FileMap}
use Rattle.mit_shelf.specs.declared.shelf.FetchFault.{FetchFault}
use Rattle.mit_shelf.specs.declared.shelf.FetchFault.TheVariants.{BadName, NoFile}
use Rattle.mit_shelf.specs.declared.stop.Stop.{Stop}
use Rattle.mit_shelf.specs.declared.stop.Stop.TheVariants.{Fault, Folder, NoMemory}

-- each name with its bytes, or with none where the folder had no such file
abbrev pub Kept : Type 0
Kept = List (List ℕ × Option (List ℕ))

-- what is kept of a name, by its first entry: nothing, that it is absent, or its bytes
abbrev pub kept : Kept → List ℕ → Option (Option (List ℕ))
kept shelf name = lookup (bytes_eq name) shelf

-- the bytes of a name that is kept as found
abbrev pub kept_bytes : Kept → List ℕ → Option (List ℕ)
kept_bytes shelf name = option_and_then (λ file. file) (kept shelf name)

-- the bytes of the file that was found for the entry at a place
abbrev pub bytes_at : Kept → ℕ → Option (List ℕ)
bytes_at shelf place = option_and_then (λ entry. entry.1) (slice_get shelf place)

-- each kept name is kept as these files have it
abbrev pub Agrees : Kept → FileMap → Type 0
Agrees shelf files = (name : List ℕ) → IfSome (kept shelf name) (λ file. fin.get files name ≡ file)

-- files with this file of a name, or without one
abbrev pub with_file : FileMap → List ℕ → Option (List ℕ) → FileMap
with_file files name (Some bytes) = fin.insert files name bytes
with_file files name None = fin.remove files name

-- the files that are kept as found: of the entries of a name the first one counts
unfoldable pub kept_files : Kept → FileMap
kept_files [] = fin.empty
kept_files (entry ∷ rest) = with_file (kept_files rest) entry.0 entry.1

-- a name is kept so now: as it was kept before, or as a new last entry, as the told files have it
abbrev pub KeepsAs : Kept → Kept → List ℕ → Option FileMap → Option (List ℕ) → Type 0
KeepsAs old new name told file = (kept new name ≡ Some file)
    × MatchOption (kept old name)
    ((new ≡ old ++ (name, file) ∷ []) × IfSome told (λ files. fin.get files name ≡ file))
    (λ before. (new ≡ old) × (before ≡ file))

-- what a fetch does to the shelf: a kept name is answered from it, and a name that could not be read is not kept
abbrev pub FetchesAs : Kept → Kept → List ℕ → Option FileMap → Result ℕ (Stop FetchFault) → Type 0
FetchesAs old new name told (Ok place) =
    (bytes : List ℕ) × (slice_get new place ≡ Some (name, Some bytes)) × KeepsAs old new name told (Some bytes)
FetchesAs old new name told (Err (Fault NoFile)) = KeepsAs old new name told None
FetchesAs old new name told (Err (Fault BadName)) = new ≡ old
FetchesAs old new name told (Err Folder) = (kept old name ≡ None) × (new ≡ old)
FetchesAs old new name told (Err NoMemory) = (kept old name ≡ None) × (new ≡ old)
