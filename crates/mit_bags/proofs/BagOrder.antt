-- A bag is the one sorted list of its rows.
--     tally-bag_of      a bag holds each row as often as it stands in the list
--     bag_of_permutation      the order of the list does not matter.        bag_of_bag      a bag of a bag's rows is that bag
--     bag_of_moved, bag_of_rises      a bag has the rows of the list, in rising order
--     bag_from_sorted      rows that `sort_by` has sorted are the bag of the rows as they stood before
use Rattle.std.proofs.Common.{◌≡◌, ◌≢◌, AllPairs, length, ◌+◌, true, false, List, [], ◌∷◌, ◌++◌, refl, ap, sym, ◌∙◌, arith, if◌then◌else◌, append_assoc, append-nil}
use Rattle.std.specs.List.{All}
use Rattle.std.specs.List.Sorted.{IsPermutation, IsSorted}
use Rattle.std.specs.Ordering.{is_le, is_lt, ordering_reverse}
use Rattle.std.specs.declared.cmp.Ordering.{Ordering}
use Rattle.std.specs.declared.cmp.Ordering.TheVariants.{Less, Equal, Greater}
use Rattle.std.proofs.lemmas.List.Elements.{All-nil, All-cons, All-head, All-tail, All-weaker}
use Rattle.std.proofs.lemmas.List.Kept.{AllPairs-cons}
use Rattle.std.proofs.lemmas.List.Sorted.{ranks_by, sum_by-IsPermutation, IsPermutation-cons, IsPermutation-middle, IsPermutation-refl, IsPermutation-trans}
use Rattle.std.proofs.lemmas.List.Sums.{sum_by-append}
use Rattle.mit_rows.specs.Order.{row_cmp}
use Rattle.mit_rows.specs.Bags.{RowOf, BagOf, insert_row, bag_of, all_rows, bag_sum, IsBag}
use Rattle.mit_bags.proofs.ValueOrder.{row_cmp_total, row_cmp-IsAntisymmetric}
use Rattle.mit_bags.proofs.Rising.{one, tally, Rising, tally-cons, rising_from_sorted, same_list}

tally-insert_row : (z row : RowOf) (rows : List RowOf) → tally row_cmp z (insert_row row rows) ≡ one row_cmp z row + tally row_cmp z rows
unfolding insert_row
tally-insert_row z row [] = tally-cons row_cmp z row []
tally-insert_row z row (next ∷ rest) =
    elim (is_le (row_cmp row next)) as (λ b. tally row_cmp z (if b then row ∷ next ∷ rest else next ∷ insert_row row rest) ≡ one row_cmp z row + tally row_cmp z (next ∷ rest)) [
      | true ↦ tally-cons row_cmp z row (next ∷ rest)
      | false ↦ omega (arith, tally-cons row_cmp z next (insert_row row rest), tally-insert_row z row rest, tally-cons row_cmp z next rest)
    ]

pub tally-bag_of : (z : RowOf) (rows : List RowOf) → tally row_cmp z (bag_of rows) ≡ tally row_cmp z rows
unfolding bag_of
tally-bag_of z [] = refl
tally-bag_of z (row ∷ rows) = omega (arith, tally-insert_row z row (bag_of rows), tally-bag_of z rows, tally-cons row_cmp z row rows)

All-insert_row : (P : RowOf → Type 0) (row : RowOf) (rows : List RowOf) → P row → All P rows → All P (insert_row row rows)
unfolding insert_row
All-insert_row P row [] p all = All-cons P row [] p all
All-insert_row P row (next ∷ rest) p all =
    elim (is_le (row_cmp row next)) as (λ b. All P (if b then row ∷ next ∷ rest else next ∷ insert_row row rest)) [
      | true ↦ All-cons P row (next ∷ rest) p all
      | false ↦ All-cons P next (insert_row row rest) (All-head P next rest all) (All-insert_row P row rest p (All-tail P next rest all))
    ]

not_above : (r s : Ordering) → s ≡ ordering_reverse r → is_le r ≡ true → is_lt s ≡ false
not_above Less s e h = ap is_lt e
not_above Equal s e h = ap is_lt e
not_above Greater s e h = cc

not_below : (r : Ordering) → is_le r ≡ false → is_lt r ≡ false
not_below Less h = cc
not_below Equal h = refl
not_below Greater h = refl

rising-insert_row : (row : RowOf) (rows : List RowOf) → Rising row_cmp rows → Rising row_cmp (insert_row row rows)
unfolding insert_row
rising-insert_row row [] up = (All-nil _, tt)
rising-insert_row row (next ∷ rest) up =
    let weak = ranks_by row_cmp_total (λ (r : RowOf). r) in
    elim (is_le (row_cmp row next)) as (λ b. is_le (row_cmp row next) ≡ b → Rising row_cmp (if b then row ∷ next ∷ rest else next ∷ insert_row row rest)) [
      | true ↦ λ e.
          let P : RowOf → Type 0 = λ y. is_lt (row_cmp y row) ≡ false in
          let Q : RowOf → Type 0 = λ y. is_lt (row_cmp y next) ≡ false in
          let first : P next = not_above (row_cmp row next) (row_cmp next row) (row_cmp_total.antisymm next row) e in
          (All-cons P next rest first (All-weaker Q P (λ y q. weak.chain y next row q first) rest up.0), up)
      | false ↦ λ e.
          let Q : RowOf → Type 0 = λ y. is_lt (row_cmp y next) ≡ false in
          (All-insert_row Q row rest (not_below (row_cmp row next) e) up.0, rising-insert_row row rest up.1)
    ] refl

pub rising-bag_of : (rows : List RowOf) → Rising row_cmp (bag_of rows)
unfolding bag_of
rising-bag_of [] = tt
rising-bag_of (row ∷ rows) = rising-insert_row row (bag_of rows) (rising-bag_of rows)

not_greater : (r s : Ordering) → s ≡ ordering_reverse r → is_lt r ≡ false → s ≢ Greater
not_greater Less s e h = cc
not_greater Equal s e h = λ above. cc
not_greater Greater s e h = λ above. cc

no_later_below : (rows : List RowOf) → Rising row_cmp rows → AllPairs (λ row later. row_cmp row later ≢ Greater) rows
no_later_below [] up = λ i j d lt within. absurd (omega arith)
no_later_below (row ∷ rows) up =
    let R : RowOf → RowOf → Type 0 = λ row later. row_cmp row later ≢ Greater in
    let first : All (R row) rows =
    All-weaker (λ later. is_lt (row_cmp later row) ≡ false) (R row) (λ later h. not_greater (row_cmp later row) (row_cmp row later) (row_cmp_total.antisymm row later) h) rows up.0 in
    AllPairs-cons R row rows first (no_later_below rows up.1)

pub bag_of_rises : (rows : List RowOf) → AllPairs (λ row later. row_cmp row later ≢ Greater) (bag_of rows)
bag_of_rises rows = no_later_below (bag_of rows) (rising-bag_of rows)

insert_row_moved : (row : RowOf) (rows : List RowOf) → IsPermutation (row ∷ rows) (insert_row row rows)
unfolding insert_row
insert_row_moved row [] = IsPermutation-refl (row ∷ [])
insert_row_moved row (next ∷ rest) =
    elim (is_le (row_cmp row next)) as (λ b. IsPermutation (row ∷ next ∷ rest) (if b then row ∷ next ∷ rest else next ∷ insert_row row rest)) [
      | true ↦ IsPermutation-refl (row ∷ next ∷ rest)
      | false ↦ IsPermutation-trans (row ∷ next ∷ rest) (next ∷ row ∷ rest) (next ∷ insert_row row rest) (IsPermutation-middle (row ∷ []) next rest)
          (IsPermutation-cons next (row ∷ rest) (insert_row row rest) (insert_row_moved row rest))
    ]

pub bag_of_moved : (rows : List RowOf) → IsPermutation rows (bag_of rows)
unfolding bag_of
bag_of_moved [] = IsPermutation-refl []
bag_of_moved (row ∷ rows) =
    IsPermutation-trans (row ∷ rows) (row ∷ bag_of rows) (insert_row row (bag_of rows)) (IsPermutation-cons row rows (bag_of rows) (bag_of_moved rows)) (insert_row_moved row (bag_of rows))

-- a rising list that holds each row as often is the bag
pub bag_from_rising : (rows sorted : List RowOf) → Rising row_cmp sorted → ((z : RowOf) → tally row_cmp z sorted ≡ tally row_cmp z rows) → sorted ≡ bag_of rows
bag_from_rising rows sorted up t = same_list row_cmp_total row_cmp-IsAntisymmetric sorted (bag_of rows) up (rising-bag_of rows) (λ z. t z ∙ sym (tally-bag_of z rows))

pub bag_from_sorted : (rows sorted : List RowOf) → IsPermutation rows sorted → IsSorted row_cmp sorted → sorted ≡ bag_of rows
bag_from_sorted rows sorted moved up = bag_from_rising rows sorted (rising_from_sorted row_cmp_total sorted up) (λ z. sum_by-IsPermutation (one row_cmp z) rows sorted moved)

pub bag_of_permutation : (rows moved : List RowOf) → IsPermutation rows moved → bag_of moved ≡ bag_of rows
bag_of_permutation rows moved p = bag_from_rising rows (bag_of moved) (rising-bag_of moved) (λ z. tally-bag_of z moved ∙ sum_by-IsPermutation (one row_cmp z) rows moved p)

pub bag_of_bag : (rows : List RowOf) → IsBag (bag_of rows)
bag_of_bag rows = bag_from_rising (bag_of rows) (bag_of rows) (rising-bag_of rows) (λ z. refl)

-- the bag of two lists is that of their bags
pub bag_of_parts : (first second : List RowOf) → bag_of (bag_of first ++ bag_of second) ≡ bag_of (first ++ second)
bag_of_parts first second =
    bag_from_rising (first ++ second) (bag_of (bag_of first ++ bag_of second)) (rising-bag_of (bag_of first ++ bag_of second))
    (λ z. omega (arith, tally-bag_of z (bag_of first ++ bag_of second), sum_by-append (one row_cmp z) (bag_of first) (bag_of second), tally-bag_of z first, tally-bag_of z second, sum_by-append (one row_cmp z) first second))

-- the sum of one bag is that bag
pub bag_sum_of_one : (others : List BagOf) (bag : BagOf) → length others ≡ 0 → IsBag bag → bag ≡ bag_sum (others ++ bag ∷ [])
unfolding all_rows
bag_sum_of_one [] bag none is = is ∙ ap bag_of (sym (append-nil bag))
bag_sum_of_one (other ∷ others) bag none is = absurd (omega arith)

pub all_rows-push : (bags : List BagOf) (bag : BagOf) → all_rows (bags ++ bag ∷ []) ≡ all_rows bags ++ bag
unfolding all_rows
all_rows-push [] bag = append-nil bag
all_rows-push (first ∷ bags) bag = ap (λ rows. first ++ rows) (all_rows-push bags bag) ∙ sym (append_assoc first (all_rows bags) bag)
