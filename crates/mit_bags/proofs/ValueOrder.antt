-- The orders of values and of rows are total, and tie at equal values alone.
--     value_cmp_total, row_cmp_total      they are total orders
--     value_cmp-IsAntisymmetric, row_cmp-IsAntisymmetric      only equal values, and only equal rows, tie
use Rattle.std.proofs.Common.{◌≡◌, ℕ, ℤ, pos, Bool, true, false, List, [], refl, ap, subst}
use Rattle.std.specs.Cmp.{IsTotalOrder, bool_cmp_total}
use Rattle.std.specs.FinMap.{IsAntisymmetric, nat_cmp-IsAntisymmetric, int_cmp-IsAntisymmetric, slice_cmp-IsAntisymmetric}
use Rattle.std.specs.Ordering.{nat_cmp, int_cmp, bool_cmp, ordering_then, on, then_cmp}
use Rattle.std.specs.declared.cmp.Ordering.{Ordering}
use Rattle.std.specs.declared.cmp.Ordering.TheVariants.{Less, Equal, Greater}
use Rattle.std.proofs.lemmas.Cmp.{nat_cmp_total, int_cmp_total, nat_list_cmp_total, lists_total, on_total, then_total}
use Rattle.mit_rows.specs.declared.value.Value.{Value}
use Rattle.mit_rows.specs.declared.value.Value.TheVariants.{Int, Text, Bool as Truth}
use Rattle.mit_rows.specs.Order.{text_cmp, value_cmp, row_cmp}

-- which kind a value is of, and its content, or a default where it is of another kind
abbrev kind_of : Value → ℕ
kind_of (Int a) = 0
kind_of (Text a) = 1
kind_of (Truth a) = 2

abbrev int_of : Value → ℤ
int_of (Int a) = a
int_of (Text a) = pos 0
int_of (Truth a) = pos 0

abbrev text_of : Value → List ℕ
text_of (Int a) = []
text_of (Text a) = a
text_of (Truth a) = []

abbrev truth_of : Value → Bool
truth_of (Int a) = false
truth_of (Text a) = false
truth_of (Truth a) = a

-- by the kind, and then by the content
abbrev by_parts : Value → Value → Ordering
by_parts = then_cmp (on kind_of nat_cmp) (then_cmp (on int_of int_cmp) (then_cmp (on text_of text_cmp) (on truth_of bool_cmp)))

then_Equal : (r : Ordering) → ordering_then r Equal ≡ r
then_Equal Less = refl
then_Equal Equal = refl
then_Equal Greater = refl

by_parts_is : (a b : Value) → by_parts a b ≡ value_cmp a b
by_parts_is (Int a) (Int b) = then_Equal (int_cmp a b)
by_parts_is (Int a) (Text b) = refl
by_parts_is (Int a) (Truth b) = refl
by_parts_is (Text a) (Int b) = refl
by_parts_is (Text a) (Text b) = then_Equal (text_cmp a b)
by_parts_is (Text a) (Truth b) = refl
by_parts_is (Truth a) (Int b) = refl
by_parts_is (Truth a) (Text b) = refl
by_parts_is (Truth a) (Truth b) = refl

by_parts_total : IsTotalOrder by_parts
by_parts_total =
    then_total (on_total kind_of nat_cmp_total)
    (then_total (on_total int_of int_cmp_total) (then_total (on_total text_of nat_list_cmp_total) (on_total truth_of bool_cmp_total)))

pub value_cmp_total : IsTotalOrder value_cmp
value_cmp_total = subst IsTotalOrder (λ i a b. by_parts_is a b i) by_parts_total

pub row_cmp_total : IsTotalOrder row_cmp
row_cmp_total = lists_total value_cmp_total

same_truth : (a b : Bool) → bool_cmp a b ≡ Equal → a ≡ b
same_truth false false e = refl
same_truth false true e = cc
same_truth true false e = cc
same_truth true true e = refl

pub value_cmp-IsAntisymmetric : IsAntisymmetric value_cmp
value_cmp-IsAntisymmetric (Int a) (Int b) e = ap Int (int_cmp-IsAntisymmetric a b e)
value_cmp-IsAntisymmetric (Int a) (Text b) e = cc
value_cmp-IsAntisymmetric (Int a) (Truth b) e = cc
value_cmp-IsAntisymmetric (Text a) (Int b) e = cc
value_cmp-IsAntisymmetric (Text a) (Text b) e = ap Text (slice_cmp-IsAntisymmetric nat_cmp-IsAntisymmetric a b e)
value_cmp-IsAntisymmetric (Text a) (Truth b) e = cc
value_cmp-IsAntisymmetric (Truth a) (Int b) e = cc
value_cmp-IsAntisymmetric (Truth a) (Text b) e = cc
value_cmp-IsAntisymmetric (Truth a) (Truth b) e = ap Truth (same_truth a b e)

pub row_cmp-IsAntisymmetric : IsAntisymmetric row_cmp
row_cmp-IsAntisymmetric = slice_cmp-IsAntisymmetric value_cmp-IsAntisymmetric
