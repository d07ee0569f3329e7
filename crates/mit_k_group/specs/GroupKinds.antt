-- The kinds of operators that group rows.
use Rattle.std.specs.Prelude.{ℕ, Bool, ◌==◌, ◌||◌, IsTrue}

-- a reduction, distinct rows, the only row, a count, a sum
abbrev pub groups_rows : ℕ → Bool
groups_rows kind = kind == 6 || kind == 8 || kind == 9 || kind == 10 || kind == 11

abbrev pub IsGroupKind : ℕ → Type 0
IsGroupKind kind = IsTrue (groups_rows kind)
