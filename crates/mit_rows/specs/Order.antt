-- The order of values and of rows.
use Rattle.std.specs.Prelude.{List, ℕ}
use Rattle.std.specs.Ordering.{bool_cmp, int_cmp, nat_cmp}
use Rattle.std.specs.Cmp.Lexicographic.{slice_cmp}
use Rattle.std.specs.declared.cmp.Ordering.{Ordering}
use Rattle.std.specs.declared.cmp.Ordering.TheVariants.{Less, Greater}
use Rattle.mit_rows.specs.declared.value.Value.{Value}
use Rattle.mit_rows.specs.declared.value.Value.TheVariants.{Int, Text, Bool}

-- texts are ordered by their bytes; a proper prefix is below
abbrev pub text_cmp : List ℕ → List ℕ → Ordering
text_cmp = slice_cmp nat_cmp

-- integers are below texts and texts below booleans; integers by value, texts by bytes, false before true
abbrev pub value_cmp : Value → Value → Ordering
value_cmp (Int a) (Int b) = int_cmp a b
value_cmp (Int a) (Text b) = Less
value_cmp (Int a) (Bool b) = Less
value_cmp (Text a) (Int b) = Greater
value_cmp (Text a) (Text b) = text_cmp a b
value_cmp (Text a) (Bool b) = Less
value_cmp (Bool a) (Int b) = Greater
value_cmp (Bool a) (Text b) = Greater
value_cmp (Bool a) (Bool b) = bool_cmp a b

-- column by column; a row that is a proper prefix of another is below it
abbrev pub row_cmp : List Value → List Value → Ordering
row_cmp = slice_cmp value_cmp
