-- Why the bytes of a file give no rows.
use Rattle.std.specs.Prelude.{◌≡◌, ⊤, ℕ, List, Result, Err}
use Rattle.mit_rows.specs.Bags.{RowOf}
use Rattle.mit_shelf.specs.declared.rows.RowsRefused.{RowsRefused}
use Rattle.mit_shelf.specs.declared.rows.RowsRefused.TheVariants as refused

-- what a refusal tells of a file's rows: the number of the bad record, or nothing where memory ran out
abbrev pub TellsBadRow : Result (List RowOf) ℕ → RowsRefused → Type 0
TellsBadRow rows (refused.BadRow number) = rows ≡ Err number
TellsBadRow rows refused.NoMemory = ⊤
