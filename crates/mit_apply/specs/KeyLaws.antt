-- Devices of the proofs: nobody has to believe them. Keys are the same where they are equal, so they can be keys of a map.
use Rattle.std.specs.Prelude.{◌≡◌, [], ◌∷◌, Bool, true, false}
use Rattle.std.specs.Cmp.{IsEquivalence, IsPartialEquivalence, Equal-is, bool_cmp_total, partial_equiv_from_equiv}
use Rattle.std.specs.FinMap.{IsAntisymmetric, nat_cmp-IsAntisymmetric, int_cmp-IsAntisymmetric, slice_cmp-IsAntisymmetric}
use Rattle.std.specs.Hash as fed
use Rattle.std.specs.Ordering.{bool_cmp, is_eq}
use Rattle.std.specs.declared.cmp.Ordering.TheVariants.{Equal}
use Rattle.std.proofs.Common.{ap, refl, subst}
use Rattle.std.proofs.lemmas.Cmp.{int_cmp_total, nat_list_cmp_total, tied_itself}
use Rattle.mit_rows.specs.Bags.{RowOf}
use Rattle.mit_rows.specs.Order.{row_cmp, value_cmp}
use Rattle.mit_rows.specs.declared.value.Value.{Value}
use Rattle.mit_rows.specs.declared.value.Value.TheVariants.{Int, Text, Bool as Truth}
use Rattle.mit_ops.specs.Forms.{same_row}
use Rattle.mit_ops.specs.Keys.{key_hash}

-- a value ties with itself, and only with itself
value_itself : (a : Value) → value_cmp a a ≡ Equal
value_itself (Int a) = tied_itself int_cmp_total a
value_itself (Text a) = tied_itself nat_list_cmp_total a
value_itself (Truth a) = tied_itself bool_cmp_total a

truth_alone : (a b : Bool) → bool_cmp a b ≡ Equal → a ≡ b
truth_alone false false e = refl
truth_alone false true e = cc
truth_alone true false e = cc
truth_alone true true e = refl

value_alone : IsAntisymmetric value_cmp
value_alone (Int a) (Int b) e = ap Int (int_cmp-IsAntisymmetric a b e)
value_alone (Int a) (Text b) e = cc
value_alone (Int a) (Truth b) e = cc
value_alone (Text a) (Int b) e = cc
value_alone (Text a) (Text b) e = ap Text (slice_cmp-IsAntisymmetric nat_cmp-IsAntisymmetric a b e)
value_alone (Text a) (Truth b) e = cc
value_alone (Truth a) (Int b) e = cc
value_alone (Truth a) (Text b) e = cc
value_alone (Truth a) (Truth b) e = ap Truth (truth_alone a b e)

-- and so does a row
row_itself : (a : RowOf) → row_cmp a a ≡ Equal
row_itself [] = refl
row_itself (x ∷ xs) = rw (value_itself x) (row_itself xs)

pub same_itself : (a : RowOf) → same_row a a ≡ true
same_itself a = ap is_eq (row_itself a)

pub same_alone : (a b : RowOf) → same_row a b ≡ true → a ≡ b
same_alone a b same = slice_cmp-IsAntisymmetric value_alone a b ((Equal-is (row_cmp a b)).0 same)

same_back : (a b : RowOf) → same_row a b ≡ true → same_row b a ≡ true
same_back a b same = subst (λ (c : RowOf). same_row c a ≡ true) (same_alone a b same) (same_itself a)

agree : (p q : Bool) → (p ≡ true → q ≡ true) → (q ≡ true → p ≡ true) → p ≡ q
agree true true there back = refl
agree true false there back = cc (there refl)
agree false true there back = cc (back refl)
agree false false there back = refl

pub keys_equal : IsEquivalence same_row
keys_equal = record {
  refl = same_itself;
  symm = λ a b. agree (same_row a b) (same_row b a) (same_back a b) (same_back b a);
  congr = λ a b c same. ap (λ (k : RowOf). same_row k c) (same_alone a b same);
}

pub keys_partial : IsPartialEquivalence same_row
keys_partial = partial_equiv_from_equiv keys_equal

-- keys that are the same have one hash
pub same_hash : (a b : RowOf) → same_row a b ≡ true → fed.u64 (key_hash a) ≡ fed.u64 (key_hash b)
same_hash a b same = ap (λ (k : RowOf). fed.u64 (key_hash k)) (same_alone a b same)
