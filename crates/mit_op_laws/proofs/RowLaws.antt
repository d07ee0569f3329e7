-- What the laws of rows and bags tell, and what follows for lists of rows that are the same bag.
--     bag_from, moved_from      lists are the same bag where the one is the other in another order, and only there
--     bag_from_counts      lists in which each row stands as often are the same bag
--     fold_same_bag      what is gathered row by row, by steps that may change places, depends on the bag alone
use Rattle.std.proofs.Common.{◌≡◌, ℕ, ◌+◌, ◌<◌, Bool, true, false, cond, List, [], ◌∷◌, ◌++◌, refl, ap, sym, subst, ◌∙◌, arith, if◌then◌else◌}
use Rattle.std.specs.Cmp.{IsTotalOrder, Equal-is}
use Rattle.std.specs.FinMap.{IsAntisymmetric}
use Rattle.std.specs.List.{sum_by}
use Rattle.std.specs.List.Sorted.{IsPermutation}
use Rattle.std.specs.Ordering.{is_eq, is_le, ordering_then}
use Rattle.std.specs.declared.cmp.Ordering.{Ordering}
use Rattle.std.specs.declared.cmp.Ordering.TheVariants.{Less, Equal, Greater}
use Rattle.std.proofs.lemmas.Cmp.{on_total, tied_itself}
use Rattle.std.proofs.lemmas.List.Sorted.{IsPermutation-cons, IsPermutation-middle, IsPermutation-refl, IsPermutation-sym, IsPermutation-trans}
use Rattle.std.proofs.lemmas.List.Sums.{sum_by-append, sum_by-cons}
use Rattle.mit_rows.specs.Bags.{RowOf, bag_of, insert_row}
use Rattle.mit_rows.specs.Order.{row_cmp, value_cmp}
use Rattle.mit_rows.specs.declared.value.Value.{Value}
use Rattle.mit_ops.specs.Forms.{same_row}

pub record RowLaws : Type 0 where
  pub total : IsTotalOrder row_cmp
  pub same : IsAntisymmetric row_cmp
  pub moved : (rows : List RowOf) → IsPermutation rows (bag_of rows)
  pub alike : (rows moved : List RowOf) → IsPermutation rows moved → bag_of moved ≡ bag_of rows

-- ---- how often a row stands in a list
-- 1 for true, and 0 for false
abbrev pub chosen : Bool → ℕ
chosen b = cond b 1 0

abbrev pub one : RowOf → RowOf → ℕ
one z row = chosen (same_row z row)

abbrev pub tally : RowOf → List RowOf → ℕ
tally z = sum_by (one z)

pub tally-cons : (z row : RowOf) (rows : List RowOf) → tally z (row ∷ rows) ≡ one z row + tally z rows
tally-cons z row rows = sum_by-cons (one z) row rows

-- ---- steps that may change places
module _ {B : Type 0} (step : RowOf → B → B) (gathered : List RowOf → B) (more : (row : RowOf) (rows : List RowOf) → gathered (row ∷ rows) ≡ step row (gathered rows)) where
  module _ (swap : (row other : RowOf) (b : B) → step row (step other b) ≡ step other (step row b)) where
    gathered-insert_row : (row : RowOf) (rows : List RowOf) → gathered (insert_row row rows) ≡ step row (gathered rows)
    unfolding insert_row
    gathered-insert_row row [] = more row []
    gathered-insert_row row (next ∷ rest) =
        elim (is_le (row_cmp row next)) as (λ b. gathered (if b then row ∷ next ∷ rest else next ∷ insert_row row rest) ≡ step row (gathered (next ∷ rest))) [
          | true ↦ more row (next ∷ rest)
          | false ↦
              more next (insert_row row rest) ∙ ap (step next) (gathered-insert_row row rest) ∙ swap next row (gathered rest)
              ∙ ap (step row) (sym (more next rest))
        ]

    gathered-bag_of : (rows : List RowOf) → gathered (bag_of rows) ≡ gathered rows
    unfolding bag_of
    gathered-bag_of [] = refl
    gathered-bag_of (row ∷ rows) = gathered-insert_row row (bag_of rows) ∙ ap (step row) (gathered-bag_of rows) ∙ sym (more row rows)

    pub fold_same_bag : (xs ys : List RowOf) → bag_of xs ≡ bag_of ys → gathered xs ≡ gathered ys
    fold_same_bag xs ys e = sym (gathered-bag_of xs) ∙ ap gathered e ∙ gathered-bag_of ys

then_tied : (r : Ordering) → ordering_then r Equal ≡ r
then_tied Less = refl
then_tied Equal = refl
then_tied Greater = refl

-- a value, as a row
alone : (a b : Value) → row_cmp (a ∷ []) (b ∷ []) ≡ value_cmp a b
alone a b = then_tied (value_cmp a b)

pub head_same : {X : Type 0} (x y : X) (xs ys : List X) → x ∷ xs ≡ y ∷ ys → x ≡ y
head_same x y xs ys e = cc

module _ (laws : RowLaws) where
  pub same_is : (a b : RowOf) → same_row a b ≡ true → a ≡ b
  same_is a b h = laws.same a b ((Equal-is (row_cmp a b)).0 h)

  pub same_itself : (row : RowOf) → same_row row row ≡ true
  same_itself row = ap is_eq (tied_itself laws.total row)

  pub value_total : IsTotalOrder value_cmp
  value_total = subst IsTotalOrder (λ i a b. alone a b i) (on_total (λ (value : Value). value ∷ []) laws.total)

  pub value_same : IsAntisymmetric value_cmp
  value_same a b e = head_same a b [] [] (laws.same (a ∷ []) (b ∷ []) (alone a b ∙ e))

  -- ---- the same bag
  pub bag_from : (xs ys : List RowOf) → IsPermutation xs ys → bag_of xs ≡ bag_of ys
  bag_from xs ys moved = sym (laws.alike xs ys moved)

  pub moved_from : (xs ys : List RowOf) → bag_of xs ≡ bag_of ys → IsPermutation xs ys
  moved_from xs ys e =
      IsPermutation-trans xs (bag_of xs) ys (laws.moved xs) (subst (λ bag. IsPermutation bag ys) (sym e) (IsPermutation-sym ys (bag_of ys) (laws.moved ys)))

  pub bag_of_bag : (rows : List RowOf) → bag_of (bag_of rows) ≡ bag_of rows
  bag_of_bag rows = laws.alike rows (bag_of rows) (laws.moved rows)

  here : (row : RowOf) (rows : List RowOf) → 0 < tally row (row ∷ rows)
  here row rows = omega (arith, tally-cons row row rows, ap chosen (same_itself row))

  abbrev Split : RowOf → List RowOf → Type 0
  Split row rows = (before : List RowOf) × (after : List RowOf) × (rows ≡ before ++ row ∷ after)

  -- the rows before and after one that stands there
  split_at : (row : RowOf) (rows : List RowOf) → 0 < tally row rows → Split row rows
  split_at row [] h = absurd (omega arith)
  split_at row (next ∷ rest) h =
      elim (same_row row next) as (λ b. same_row row next ≡ b → Split row (next ∷ rest)) [
        | true ↦ λ e. ([], rest, λ i. sym (same_is row next e) i ∷ rest)
        | false ↦ λ e.
            let later = split_at row rest (omega (arith, tally-cons row next rest, ap chosen e)) in
            (next ∷ later.0, later.1, ap (λ t. next ∷ t) later.2)
      ] refl

  moved_from_counts : (xs ys : List RowOf) → ((z : RowOf) → tally z xs ≡ tally z ys) → IsPermutation xs ys
  moved_from_counts [] [] t = IsPermutation-refl []
  moved_from_counts [] (y ∷ ys) t = absurd (omega (arith, here y ys, t y))
  moved_from_counts (x ∷ xs) ys t =
      let split = split_at x ys (omega (arith, here x xs, t x)) in
      let rest : (z : RowOf) → tally z xs ≡ tally z (split.0 ++ split.1) = λ z. omega (
        arith,
        t z,
        tally-cons z x xs,
        ap (tally z) split.2,
        sum_by-append (one z) split.0 (x ∷ split.1),
        tally-cons z x split.1,
        sum_by-append (one z) split.0 split.1,
      ) in
      subst (IsPermutation (x ∷ xs)) (sym split.2)
      (IsPermutation-trans (x ∷ xs) (x ∷ (split.0 ++ split.1)) (split.0 ++ x ∷ split.1)
      (IsPermutation-cons x xs (split.0 ++ split.1) (moved_from_counts xs (split.0 ++ split.1) rest))
      (IsPermutation-sym (split.0 ++ x ∷ split.1) (x ∷ (split.0 ++ split.1)) (IsPermutation-middle split.0 x split.1)))

  pub bag_from_counts : (xs ys : List RowOf) → ((z : RowOf) → tally z xs ≡ tally z ys) → bag_of xs ≡ bag_of ys
  bag_from_counts xs ys t = bag_from xs ys (moved_from_counts xs ys t)
