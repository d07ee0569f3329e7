-- The total of rows with one row more.
use Rattle.std.proofs.Common.{◌≡◌, ◌≢◌, ℕ, ℤ, pos, negsuc, ◌+◌, ◌^◌, ◌+ℤ◌, List, [], ◌∷◌, ◌++◌, length, length-append, true, false, ◌==◌, nat_lt, IsTrue, IsSome, map, option_map, Option, Some, None, slice_get, refl, ap, sym, ◌∙◌, arith, if◌then◌else◌}
use Rattle.std.specs.Cmp.{IsTotalOrder}
use Rattle.std.specs.Ordering.{is_gt, is_le, ordering_index, ordering_reverse, ordering_then}
use Rattle.std.specs.declared.cmp.Ordering.{Ordering}
use Rattle.std.specs.declared.cmp.Ordering.TheVariants.{Less, Equal, Greater}
use Rattle.std.proofs.lemmas.Cmp.{upto}
use Rattle.std.proofs.lemmas.Int.{ints}
use Rattle.std.proofs.lemmas.Option.{slice_get-map}
use Rattle.mit_rows.specs.Bags.{RowOf}
use Rattle.mit_rows.specs.Order.{row_cmp, value_cmp}
use Rattle.mit_rows.specs.declared.value.Value.{Value}
use Rattle.mit_rows.specs.declared.value.Value.TheVariants.{Int}
use Rattle.mit_expr.specs.Types.{type_of_value}
use Rattle.mit_expr.specs.Values.{ValueOrFault, faults, gives, overflow, untyped, value_at, within}
use Rattle.mit_ops.specs.Results.{agg_type}
use Rattle.mit_ops.specs.Totals.{aggregate, extreme, greater, integer_in, lesser, picked, total}
use Rattle.mit_ops.specs.declared.kinds.Agg.{Agg}
use Rattle.mit_ops.specs.declared.kinds.Agg.TheVariants as agg
use Rattle.mit_apply.specs.TotalStored.{beyond, counts_none, extreme_in, next_extreme, next_sum, sum_in, total_of}
use Rattle.mit_apply.specs.declared.total.Total.{Total}

-- ---- the order of values, from that of rows
then_end : (r : Ordering) → ordering_then r Equal ≡ r
then_end Less = refl
then_end Equal = refl
then_end Greater = refl

value_of_row : (a b : Value) → row_cmp (a ∷ []) (b ∷ []) ≡ value_cmp a b
value_of_row a b = then_end (value_cmp a b)

le_from : (r : Ordering) → is_le r ≡ false → r ≡ Greater
le_from Less h = cc
le_from Equal h = cc
le_from Greater h = refl

not_gt : (r : Ordering) → is_le r ≡ true → is_gt r ≡ false
not_gt Less h = refl
not_gt Equal h = refl
not_gt Greater h = cc

le_of : (r : Ordering) → is_gt r ≡ false → is_le r ≡ true
le_of Less h = refl
le_of Equal h = refl
le_of Greater h = cc

-- ---- the lesser or greater of what is there
picked_none : (pick : Value → Value → Value) (other : Option Value) → picked pick other None ≡ picked pick None other
picked_none pick None = refl
picked_none pick (Some value) = refl

picked_assoc : (pick : Value → Value → Value) → ((a b c : Value) → pick (pick a b) c ≡ pick a (pick b c)) → (a b c : Option Value)
    → picked pick (picked pick a b) c ≡ picked pick a (picked pick b c)
picked_assoc pick assoc None b c = refl
picked_assoc pick assoc (Some a) None c = refl
picked_assoc pick assoc (Some a) (Some b) None = refl
picked_assoc pick assoc (Some a) (Some b) (Some c) = ap Some (assoc a b c)

-- ---- sums
total-push : (column : ℕ) (rows : List RowOf) (row : RowOf) → total column (rows ++ row ∷ []) ≡ total column rows +ℤ integer_in (slice_get row column)
unfolding total
total-push column [] row = omega (arith, ints)
total-push column (first ∷ rows) row = omega (arith, ints, total-push column rows row)

sum_more : (agg : Agg) (rows : List RowOf) (row : RowOf) → sum_in agg (rows ++ row ∷ []) ≡ next_sum agg (sum_in agg rows) row
sum_more agg.Count rows row = refl
sum_more (agg.Sum column) rows row = total-push column rows row
sum_more (agg.Min column) rows row = refl
sum_more (agg.Max column) rows row = refl

abbrev pub total_at : Agg → ℕ → ℤ → Option Value → Total
total_at agg count sum kept = record { agg = agg; rows = count; sum = sum; extreme = kept }

module _ (o : IsTotalOrder row_cmp) (same : (a b : RowOf) → row_cmp a b ≡ Equal → a ≡ b) where
  reversed : (a b : Value) → value_cmp b a ≡ ordering_reverse (value_cmp a b)
  reversed a b = sym (value_of_row b a) ∙ o.antisymm (b ∷ []) (a ∷ []) ∙ ap ordering_reverse (value_of_row a b)

  up : (a b c : Value) → is_gt (value_cmp a b) ≡ false → is_gt (value_cmp b c) ≡ false → is_gt (value_cmp a c) ≡ false
  up a b c h k = rw (← value_of_row a c) (upto o (a ∷ []) (b ∷ []) (c ∷ []) (rw value_of_row h) (rw value_of_row k))

  below : (a b c : Value) → is_le (value_cmp a b) ≡ true → is_le (value_cmp b c) ≡ true → is_le (value_cmp a c) ≡ true
  below a b c h k = le_of (value_cmp a c) (up a b c (not_gt (value_cmp a b) h) (not_gt (value_cmp b c) k))

  -- a is above b, and b above c
  above : (a b c : Value) → is_le (value_cmp a b) ≡ false → is_le (value_cmp b c) ≡ false → is_le (value_cmp a c) ≡ false
  above a b c h k =
      let first : value_cmp b a ≡ Less = reversed a b ∙ ap ordering_reverse (le_from (value_cmp a b) h) in
      let second : value_cmp c b ≡ Less = reversed b c ∙ ap ordering_reverse (le_from (value_cmp b c) k) in
      let down : row_cmp (c ∷ []) (a ∷ []) ≡ Less = o.trans (c ∷ []) (b ∷ []) (a ∷ []) (value_of_row c b ∙ second) (value_of_row b a ∙ first) in
      ap is_le (reversed c a ∙ ap ordering_reverse (sym (value_of_row c a) ∙ down))

  same_value : (a b : Value) → value_cmp a b ≡ Equal → a ≡ b
  same_value a b e = let rows : a ∷ [] ≡ b ∷ [] = same (a ∷ []) (b ∷ []) (value_of_row a b ∙ e) in cc

  beyond_by : (a b : Value) (r s : Ordering) → s ≡ ordering_reverse r → (r ≡ Equal → a ≡ b)
      → ((if ordering_index s == ordering_index Less then b else a) ≡ (if is_le r then a else b)) × ((if ordering_index s == ordering_index Greater then b else a) ≡ (if is_le r then b else a))
  beyond_by a b Less s e h = (rw e refl, rw e refl)
  beyond_by a b Equal s e h = (rw e refl, rw e (h refl))
  beyond_by a b Greater s e h = (rw e refl, rw e refl)

  beyond_less : (a b : Value) → beyond Less a b ≡ lesser a b
  beyond_less a b = (beyond_by a b (value_cmp a b) (value_cmp b a) (reversed a b) (same_value a b)).0

  beyond_greater : (a b : Value) → beyond Greater a b ≡ greater a b
  beyond_greater a b = (beyond_by a b (value_cmp a b) (value_cmp b a) (reversed a b) (same_value a b)).1

  lesser_assoc : (a b c : Value) → lesser (lesser a b) c ≡ lesser a (lesser b c)
  lesser_assoc a b c =
      elim (is_le (value_cmp a b)) as (λ p. is_le (value_cmp a b) ≡ p → lesser (lesser a b) c ≡ lesser a (lesser b c)) [
        | true ↦ λ e.
            elim (is_le (value_cmp b c)) as (λ q. is_le (value_cmp b c) ≡ q → lesser (lesser a b) c ≡ lesser a (lesser b c)) [
              | true ↦ λ f. let h = below a b c e f in simp (e, f, h)
              | false ↦ λ f. simp (e, f)
            ] refl
        | false ↦ λ e.
            elim (is_le (value_cmp b c)) as (λ q. is_le (value_cmp b c) ≡ q → lesser (lesser a b) c ≡ lesser a (lesser b c)) [
              | true ↦ λ f. simp (e, f)
              | false ↦ λ f. let h = above a b c e f in simp (e, f, h)
            ] refl
      ] refl

  greater_assoc : (a b c : Value) → greater (greater a b) c ≡ greater a (greater b c)
  greater_assoc a b c =
      elim (is_le (value_cmp a b)) as (λ p. is_le (value_cmp a b) ≡ p → greater (greater a b) c ≡ greater a (greater b c)) [
        | true ↦ λ e.
            elim (is_le (value_cmp b c)) as (λ q. is_le (value_cmp b c) ≡ q → greater (greater a b) c ≡ greater a (greater b c)) [
              | true ↦ λ f. let h = below a b c e f in simp (e, f, h)
              | false ↦ λ f. simp (e, f)
            ] refl
        | false ↦ λ e.
            elim (is_le (value_cmp b c)) as (λ q. is_le (value_cmp b c) ≡ q → greater (greater a b) c ≡ greater a (greater b c)) [
              | true ↦ λ f. simp (e, f)
              | false ↦ λ f. let h = above a b c e f in simp (e, f, h)
            ] refl
      ] refl

  -- one row more
  extreme-push : (pick : Value → Value → Value) (column : ℕ) → ((a b c : Value) → pick (pick a b) c ≡ pick a (pick b c)) → (rows : List RowOf) (row : RowOf)
      → extreme pick column (rows ++ row ∷ []) ≡ picked pick (extreme pick column rows) (slice_get row column)
  unfolding extreme
  extreme-push pick column assoc [] row = picked_none pick (slice_get row column)
  extreme-push pick column assoc (first ∷ rows) row =
      ap (picked pick (slice_get first column)) (extreme-push pick column assoc rows row)
      ∙ sym (picked_assoc pick assoc (slice_get first column) (extreme pick column rows) (slice_get row column))

  extreme_more : (agg : Agg) (rows : List RowOf) (row : RowOf) → extreme_in agg (rows ++ row ∷ []) ≡ next_extreme agg (extreme_in agg rows) row
  extreme_more agg.Count rows row = refl
  extreme_more (agg.Sum column) rows row = refl
  extreme_more (agg.Min column) rows row =
      extreme-push lesser column lesser_assoc rows row ∙ ap (λ pick. picked pick (extreme lesser column rows) (slice_get row column)) (λ i a b. sym (beyond_less a b) i)
  extreme_more (agg.Max column) rows row =
      extreme-push greater column greater_assoc rows row ∙ ap (λ pick. picked pick (extreme greater column rows) (slice_get row column)) (λ i a b. sym (beyond_greater a b) i)

  pub total_more : (agg : Agg) (rows : List RowOf) (row : RowOf) (count : ℕ) (sum : ℤ) (kept : Option Value) → count ≡ length rows + 1 → sum ≡ next_sum agg (sum_in agg rows) row
      → kept ≡ next_extreme agg (extreme_in agg rows) row → total_at agg count sum kept ≡ total_of agg (rows ++ row ∷ [])
  total_more agg rows row count sum kept c s k =
      let long : count ≡ length (rows ++ row ∷ []) = omega (arith, length-append rows (row ∷ [])) in
      let adds : sum ≡ sum_in agg (rows ++ row ∷ []) = s ∙ sym (sum_more agg rows row) in
      let keeps : kept ≡ extreme_in agg (rows ++ row ∷ []) = k ∙ sym (extreme_more agg rows row) in
      λ i. total_at agg (long i) (adds i) (keeps i)

  pub total_stored : (it : Total) (agg : Agg) (rows : List RowOf) (row : RowOf) (count : ℕ) (sum : ℤ) (kept : Option Value) → it ≡ total_of agg rows → count ≡ it.rows + 1
      → sum ≡ next_sum it.agg it.sum row → kept ≡ next_extreme it.agg it.extreme row → total_at it.agg count sum kept ≡ total_of agg (rows ++ row ∷ [])
  total_stored it agg rows row count sum kept e c s k =
      ap (λ (t : Total). total_at t.agg count sum kept) e
      ∙ total_more agg rows row count sum kept (c ∙ ap (λ (t : Total). t.rows + 1) e) (s ∙ ap (λ (t : Total). next_sum t.agg t.sum row) e) (k ∙ ap (λ (t : Total). next_extreme t.agg t.extreme row) e)

-- what is made of the rows, by what is stored
abbrev pub stored_for : Agg → ℕ → ℤ → Option Value → ValueOrFault
stored_for agg.Count rows sum kept = within (pos rows)
stored_for (agg.Sum column) rows sum kept = within sum
stored_for (agg.Min column) rows sum kept = value_at kept
stored_for (agg.Max column) rows sum kept = value_at kept

stored_is : (agg : Agg) (rows : List RowOf) → aggregate agg rows ≡ stored_for agg (length rows) (sum_in agg rows) (extreme_in agg rows)
stored_is agg.Count rows = refl
stored_is (agg.Sum column) rows = refl
stored_is (agg.Min column) rows = refl
stored_is (agg.Max column) rows = refl

pub made_as : (it : Total) (agg is : Agg) (rows : List RowOf) → it ≡ total_of agg rows → it.agg ≡ is → aggregate agg rows ≡ stored_for is it.rows it.sum it.extreme
made_as it agg is rows e a =
    stored_is agg rows ∙ sym (ap (λ (t : Total). stored_for t.agg t.rows t.sum t.extreme) e) ∙ ap (λ (t : Agg). stored_for t it.rows it.sum it.extreme) a

-- no rows
pub new_is : (agg : Agg) → total_at agg 0 (pos 0) None ≡ total_of agg []
unfolding total extreme
new_is agg.Count = refl
new_is (agg.Sum column) = refl
new_is (agg.Min column) = refl
new_is (agg.Max column) = refl

-- ---- what has a value
within_made : (number : ℤ) → within number ≢ untyped
within_made (pos size) = elim (nat_lt size (2 ^ 63)) as (λ b. (if b then gives (Int (pos size)) else faults overflow) ≢ untyped) [ true ↦ λ e. cc | false ↦ λ e. cc ]
within_made (negsuc size) = elim (nat_lt size (2 ^ 63)) as (λ b. (if b then gives (Int (negsuc size)) else faults overflow) ≢ untyped) [ true ↦ λ e. cc | false ↦ λ e. cc ]

pub none_made : (agg : Agg) → IsTrue (counts_none agg) → aggregate agg [] ≢ untyped
none_made agg.Count h = within_made (pos 0)
none_made (agg.Sum column) h = within_made (total column [])
none_made (agg.Min column) h = cc
none_made (agg.Max column) h = cc

picked_made : (pick : Value → Value → Value) (kept next : Option Value) → IsSome next → value_at (picked pick kept next) ≢ untyped
picked_made pick None None h = cc
picked_made pick None (Some value) h = λ e. cc
picked_made pick (Some kept) None h = cc
picked_made pick (Some kept) (Some value) h = λ e. cc

column_there : (row : RowOf) (column : ℕ) → IsSome (slice_get (map type_of_value row) column) → IsSome (slice_get row column)
column_there row column h = mapped (slice_get row column) (rw (slice_get-map type_of_value row column) at h)
  where
    mapped : (found : Option Value) → IsSome (option_map type_of_value found) → IsSome found
    mapped None h = h
    mapped (Some value) h = refl

module _ (o : IsTotalOrder row_cmp) (same : (a b : RowOf) → row_cmp a b ≡ Equal → a ≡ b) where
  pub more_made : (agg : Agg) (rows : List RowOf) (row : RowOf) → IsSome (agg_type agg (map type_of_value row)) → aggregate agg (rows ++ row ∷ []) ≢ untyped
  more_made agg.Count rows row h = within_made (pos (length (rows ++ row ∷ [])))
  more_made (agg.Sum column) rows row h = within_made (total column (rows ++ row ∷ []))
  more_made (agg.Min column) rows row h =
      rw (extreme-push o same lesser column (lesser_assoc o same) rows row) (picked_made lesser (extreme lesser column rows) (slice_get row column) (column_there row column h))
  more_made (agg.Max column) rows row h =
      rw (extreme-push o same greater column (greater_assoc o same) rows row) (picked_made greater (extreme greater column rows) (slice_get row column) (column_there row column h))
