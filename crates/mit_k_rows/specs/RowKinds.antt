-- The kinds of operators that look at one row at a time.
use Rattle.std.specs.Prelude.{ℕ, [], ◌∷◌, ◌==◌, IsTrue}
use Rattle.std.specs.List.{list_any}

-- scalars, maps, filters, flat maps, unions, rows, empty bags and copies
abbrev pub IsRowKind : ℕ → Type 0
IsRowKind kind = IsTrue (list_any (λ other. kind == other) (0 ∷ 2 ∷ 3 ∷ 4 ∷ 7 ∷ 12 ∷ 13 ∷ 15 ∷ []))
