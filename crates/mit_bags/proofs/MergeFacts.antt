-- How two rising lists are merged, from their ends on.
--     Merges      how far the merge has come.        merges_start, merges_more, merges_end      its start, one row, and its end
use Rattle.std.proofs.Common.{◌≡◌, inl, inr, ◌+◌, true, false, List, [], ◌∷◌, ◌++◌, Option, Some, None, refl, ap, sym, subst, ◌∙◌, arith, append_assoc, append-nil}
use Rattle.std.specs.List.{All}
use Rattle.std.specs.Prelude.{reverse, IsSome, MatchOption, option_to_list, slice_get, ◌-◌, ◌<◌, ◌↔◌, length, suc}
use Rattle.std.proofs.lemmas.List.{reverse-append}
use Rattle.std.specs.declared.cmp.Ordering.{Ordering}
use Rattle.std.specs.declared.cmp.Ordering.TheVariants.{Less, Equal, Greater}
use Rattle.std.specs.List.Sorted.{IsPermutation}
use Rattle.std.specs.Ordering.{is_ge, is_lt, ordering_reverse}
use Rattle.std.proofs.lemmas.List.Elements.{All-nil, All-cons, All-head, All-tail, All-append}
use Rattle.std.proofs.lemmas.List.Sorted.{ranks_by, sum_by-IsPermutation}
use Rattle.std.proofs.lemmas.List.Sums.{sum_by-append}
use Rattle.mit_rows.specs.Order.{row_cmp}
use Rattle.mit_rows.specs.Bags.{RowOf, BagOf, all_rows, bag_of, bag_sum, IsBag}
use Rattle.mit_bags.specs.Merging.{EndsBelow, IsSideOf, TakesGreatest, last_row}
use Rattle.mit_bags.proofs.ValueOrder.{row_cmp_total}
use Rattle.mit_bags.proofs.Rising.{one, tally, Rising}
use Rattle.mit_bags.proofs.BagOrder.{all_rows-push, bag_from_rising, rising-bag_of, tally-bag_of}

-- a row that is not above this one
abbrev IsUnder : RowOf → RowOf → Type 0
IsUnder row other = is_lt (row_cmp row other) ≡ false

last_later : (first next : RowOf) (rows : List RowOf) → last_row (first ∷ next ∷ rows) ≡ last_row (next ∷ rows)
last_later first next rows =
    let e : length (first ∷ next ∷ rows) - 1 ≡ suc (length (next ∷ rows) - 1) = omega arith in
    ap (slice_get (first ∷ next ∷ rows)) e

last_push : (rows : List RowOf) (row : RowOf) → last_row (rows ++ row ∷ []) ≡ Some row
last_push [] row = refl
last_push (first ∷ []) row = refl
last_push (first ∷ next ∷ rows) row = last_later first next (rows ++ row ∷ []) ∙ last_push (next ∷ rows) row

last_none : (rows : List RowOf) → last_row rows ≡ None → rows ≡ []
last_none [] none = refl
last_none (first ∷ []) none = cc
last_none (first ∷ next ∷ rows) none = let no = last_none (next ∷ rows) (sym (last_later first next rows) ∙ none) in cc

-- where the last of a rising list is not above a row, none is
all_under : (rows : List RowOf) (row : RowOf) → Rising row_cmp rows → EndsBelow rows row → All (IsUnder row) rows
all_under [] row up below = All-nil _
all_under (first ∷ []) row up below = All-cons (IsUnder row) first [] below (All-nil _)
all_under (first ∷ next ∷ rest) row up below =
    let weak = ranks_by row_cmp_total (λ (r : RowOf). r) in
    let P : Option RowOf → Type 0 = λ o. MatchOption o (Unit {0}) (IsUnder row) in
    let later : All (IsUnder row) (next ∷ rest) = all_under (next ∷ rest) row up.1 (subst P (last_later first next rest) below) in
    All-cons (IsUnder row) first (next ∷ rest)
    (weak.chain row next first (All-head (IsUnder row) next rest later) (All-head (λ y. is_lt (row_cmp y first) ≡ false) next rest up.0)) later

All-front : (P : RowOf → Type 0) (rows later : List RowOf) → All P (rows ++ later) → All P rows
All-front P [] later all = All-nil P
All-front P (row ∷ rows) later all =
    All-cons P row rows (All-head P row (rows ++ later) all) (All-front P rows later (All-tail P row (rows ++ later) all))

All-back : (P : RowOf → Type 0) (rows later : List RowOf) → All P (rows ++ later) → All P later
All-back P [] later all = all
All-back P (row ∷ rows) later all = All-back P rows later (All-tail P row (rows ++ later) all)

rising_front : (rows later : List RowOf) → Rising row_cmp (rows ++ later) → Rising row_cmp rows
rising_front [] later up = tt
rising_front (row ∷ rows) later up = (All-front (λ y. is_lt (row_cmp y row) ≡ false) rows later up.0, rising_front rows later up.1)

rising_back : (rows later : List RowOf) → Rising row_cmp (rows ++ later) → Rising row_cmp later
rising_back [] later up = up
rising_back (row ∷ rows) later up = rising_back rows later up.1

-- a row between those that are under it and those that it is under
rising_between : (rows : List RowOf) (row : RowOf) (later : List RowOf) → Rising row_cmp (rows ++ later) → All (IsUnder row) rows → Rising row_cmp (row ∷ later)
    → Rising row_cmp (rows ++ row ∷ later)
rising_between [] row later up under after = after
rising_between (first ∷ rows) row later up under after =
    let P : RowOf → Type 0 = λ y. is_lt (row_cmp y first) ≡ false in (
      All-append P rows (row ∷ later) (All-front P rows later up.0)
          (All-cons P row later (All-head (IsUnder row) first rows under) (All-back P rows later up.0)),
      rising_between rows row later up.1 (All-tail (IsUnder row) first rows under) after,
    )

-- what is left of two lists, and the rows taken out so far, the greatest first
pub record Merges (first second left right rows : List RowOf) : Type 0 where
  pub lefts : Rising row_cmp (left ++ reverse rows)
  pub rights : Rising row_cmp (right ++ reverse rows)
  pub same : (z : RowOf) → tally row_cmp z left + tally row_cmp z right + tally row_cmp z rows ≡ tally row_cmp z first + tally row_cmp z second

reversed_more : (rows : List RowOf) (row : RowOf) → reverse (rows ++ row ∷ []) ≡ row ∷ reverse rows
reversed_more rows row = reverse-append rows (row ∷ [])

rising_bag : (rows : List RowOf) → IsBag rows → Rising row_cmp rows
rising_bag rows is = subst (Rising row_cmp) (sym is) (rising-bag_of rows)

pub merges_start : (first second left right rows : List RowOf) → left ≡ first → right ≡ second → IsBag left → IsBag right → rows ≡ [] → Merges first second left right rows
merges_start first second left right rows is also left_up right_up none = record {
  lefts = subst (λ l. Rising row_cmp (left ++ reverse l)) (sym none) (subst (Rising row_cmp) (sym (append-nil left)) (rising_bag left left_up));
  rights = subst (λ l. Rising row_cmp (right ++ reverse l)) (sym none) (subst (Rising row_cmp) (sym (append-nil right)) (rising_bag right right_up));
  same = λ z. omega (arith, ap (tally row_cmp z) none, ap (tally row_cmp z) is, ap (tally row_cmp z) also);
}

-- one list loses its last row, and the other ends below it
one_more : (old new other rows : List RowOf) (row : RowOf) → old ≡ new ++ row ∷ [] → EndsBelow other row
    → Rising row_cmp (old ++ reverse rows) → Rising row_cmp (other ++ reverse rows)
    → Rising row_cmp (new ++ row ∷ reverse rows) × Rising row_cmp (other ++ row ∷ reverse rows)
one_more old new other rows row is below up also =
    let moved : Rising row_cmp (new ++ row ∷ reverse rows) =
    subst (Rising row_cmp) (ap (λ l. l ++ reverse rows) is ∙ append_assoc new (row ∷ []) (reverse rows)) up in (
      moved,
      rising_between other row (reverse rows) also (all_under other row (rising_front other (reverse rows) also) below) (rising_back new (row ∷ reverse rows) moved),
    )

tally_last : (z : RowOf) (rows : List RowOf) (row : RowOf) → tally row_cmp z (rows ++ row ∷ []) ≡ tally row_cmp z rows + tally row_cmp z (row ∷ [])
tally_last z rows row = sum_by-append (one row_cmp z) rows (row ∷ [])

pub merges_more : (first second left right new_left new_right rows : List RowOf) (row : RowOf) → TakesGreatest left right new_left new_right (Some row)
    → Merges first second left right rows → Merges first second new_left new_right (rows ++ row ∷ [])
merges_more first second left right new_left new_right rows row (inl took) m =
    let both = one_more left new_left right rows row took.0 took.2 m.lefts m.rights in record {
      lefts = subst (λ l. Rising row_cmp (new_left ++ l)) (sym (reversed_more rows row)) both.0;
      rights = subst (λ l. Rising row_cmp (l ++ reverse (rows ++ row ∷ []))) (sym took.1)
          (subst (λ l. Rising row_cmp (right ++ l)) (sym (reversed_more rows row)) both.1);
      same = λ z. omega (arith, m.same z, tally_last z rows row, tally_last z new_left row, ap (tally row_cmp z) took.0, ap (tally row_cmp z) took.1);
    }
merges_more first second left right new_left new_right rows row (inr took) m =
    let both = one_more right new_right left rows row took.0 took.2 m.rights m.lefts in record {
      lefts = subst (λ l. Rising row_cmp (l ++ reverse (rows ++ row ∷ []))) (sym took.1)
          (subst (λ l. Rising row_cmp (left ++ l)) (sym (reversed_more rows row)) both.1);
      rights = subst (λ l. Rising row_cmp (new_right ++ l)) (sym (reversed_more rows row)) both.0;
      same = λ z. omega (arith, m.same z, tally_last z rows row, tally_last z new_right row, ap (tally row_cmp z) took.0, ap (tally row_cmp z) took.1);
    }

pub merges_end : (first second left right new_left new_right rows merged : List RowOf) → TakesGreatest left right new_left new_right None
    → IsPermutation rows merged → merged ≡ reverse rows → Merges first second left right rows → merged ≡ bag_of (first ++ second)
merges_end first second left right new_left new_right rows merged none moved is m =
    let up : Rising row_cmp merged = subst (Rising row_cmp) (ap (λ l. l ++ reverse rows) none.0 ∙ sym is) m.lefts in
    bag_from_rising (first ++ second) merged up
    (λ z. omega (
      arith,
      sum_by-IsPermutation (one row_cmp z) rows merged moved,
      m.same z,
      sum_by-append (one row_cmp z) first second,
      ap (tally row_cmp z) none.0,
      ap (tally row_cmp z) none.1,
    ))

-- ---- which row is taken out

no_row : (xs ys : List RowOf) (row : RowOf) → [] ≡ xs ++ row ∷ ys → ⊥
no_row [] ys row e = cc
no_row (x ∷ xs) ys row e = cc

pub took_left : (left right new : List RowOf) (result : Option RowOf) → IsSideOf left right true → left ≡ new ++ option_to_list result
    → (IsSome result ↔ (0 < length left)) → TakesGreatest left right new right result
took_left left right new None side is there =
    absurd (subst (λ o. MatchOption o ⊥ (EndsBelow right)) (ap last_row (none left (λ h. there.1 h))) side)
  where
    none : (rows : List RowOf) → (0 < length rows → false ≡ true) → rows ≡ []
    none [] h = refl
    none (row ∷ rows) h = let no = h (omega arith) in cc
took_left left right new (Some row) side is there =
    inl (is, refl, subst (λ o. MatchOption o ⊥ (EndsBelow right)) (ap last_row is ∙ last_push new row) side)

pub took_right : (left right new : List RowOf) (result : Option RowOf) → IsSideOf left right false → right ≡ new ++ option_to_list result
    → (IsSome result ↔ (0 < length right)) → TakesGreatest left right left new result
took_right left right new None side is there =
    let empty = none right (λ h. there.1 h) in (subst (λ o. MatchOption o (left ≡ []) (EndsBelow left)) (ap last_row empty) side, empty)
  where
    none : (rows : List RowOf) → (0 < length rows → false ≡ true) → rows ≡ []
    none [] h = refl
    none (row ∷ rows) h = let no = h (omega arith) in cc
took_right left right new (Some row) side is there =
    inr (is, refl, subst (λ o. MatchOption o (left ≡ []) (EndsBelow left)) (ap last_row is ∙ last_push new row) side)

not_lower : (r s : Ordering) → s ≡ ordering_reverse r → r ≡ Less → is_lt s ≡ false
not_lower Less s e h = ap is_lt e
not_lower Equal s e h = cc
not_lower Greater s e h = cc

pub side_of : (left right : List RowOf) (a b : RowOf) (o : Ordering) → o ≡ row_cmp a b → last_row left ≡ Some a → last_row right ≡ Some b → IsSideOf left right (is_ge o)
side_of left right a b Less is l r =
    let fact : is_lt (row_cmp b a) ≡ false = not_lower (row_cmp a b) (row_cmp b a) (row_cmp_total.antisymm b a) (sym is) in
    subst (λ o. MatchOption o (left ≡ []) (EndsBelow left)) (sym r) (subst (λ o. MatchOption o (Unit {0}) (IsUnder b)) (sym l) fact)
side_of left right a b Equal is l r =
    subst (λ o. MatchOption o ⊥ (EndsBelow right)) (sym l) (subst (λ o. MatchOption o (Unit {0}) (IsUnder a)) (sym r) (ap is_lt (sym is)))
side_of left right a b Greater is l r =
    subst (λ o. MatchOption o ⊥ (EndsBelow right)) (sym l) (subst (λ o. MatchOption o (Unit {0}) (IsUnder a)) (sym r) (ap is_lt (sym is)))

-- ---- the sum of bags, one after another

pub sum_none : [] ≡ bag_sum []
unfolding bag_of all_rows
sum_none = refl

pub bag_none : (rows : List RowOf) → rows ≡ [] → IsBag rows
unfolding bag_of
bag_none rows none = subst (λ (l : List RowOf). IsBag l) (sym none) refl

pub sum_more : (bags : List BagOf) (sum bag next : BagOf) → sum ≡ bag_sum bags → next ≡ bag_of (sum ++ bag) → next ≡ bag_sum (bags ++ bag ∷ [])
sum_more bags sum bag next is also =
    also ∙ ap (λ (l : List RowOf). bag_of (l ++ bag)) is
    ∙ bag_from_rising (all_rows bags ++ bag) (bag_of (bag_sum bags ++ bag)) (rising-bag_of (bag_sum bags ++ bag))
    (λ z. omega (
      arith,
      tally-bag_of z (bag_sum bags ++ bag),
      sum_by-append (one row_cmp z) (bag_sum bags) bag,
      tally-bag_of z (all_rows bags),
      sum_by-append (one row_cmp z) (all_rows bags) bag,
    ))
    ∙ ap bag_of (sym (all_rows-push bags bag))
