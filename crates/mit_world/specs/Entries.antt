-- Devices of the proofs: nobody has to believe them. The entries of the tree that keeps files, as pairs of a name and its bytes.
use Rattle.std.specs.Prelude.{ℕ, List, String, Vec, map}
use Rattle.std.specs.String.{string_bytes}

module _ {Y Z : Type 0} where
  -- an entry as its name and its bytes
  abbrev pub name_and_bytes : String Y × Vec ℕ Z → List ℕ × List ℕ
  name_and_bytes entry = (string_bytes entry.0, entry.1.items)

  -- all entries so, in their order
  abbrev pub as_pairs : List (String Y × Vec ℕ Z) → List (List ℕ × List ℕ)
  as_pairs entries = map name_and_bytes entries
