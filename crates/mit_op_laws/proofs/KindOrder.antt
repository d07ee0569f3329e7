-- No kind's answer depends on the order of its rows.
use Rattle.std.proofs.Common.{◌≡◌, ℕ, pos, ◌+ℤ◌, ◌≤◌, true, false, List, [], ◌∷◌, ◌++◌, map, length, take, drop, refl, ap, sym, ◌∙◌, arith, if◌then◌else◌, Option, Some, None, Ok, Err, slice_get}
use Rattle.std.specs.List.{take-map}
use Rattle.std.specs.Option.{option_and_then, option_map}
use Rattle.std.proofs.lemmas.Int.{ints}
use Rattle.std.proofs.lemmas.List.{drop-map}
use Rattle.std.proofs.lemmas.List.Sorted.{length_permutation}
use Rattle.mit_rows.specs.Bags.{RowOf, bag_of, insert_row}
use Rattle.mit_rows.specs.Order.{value_cmp}
use Rattle.mit_rows.specs.declared.value.Value.{Value}
use Rattle.mit_rows.specs.declared.value.Value.TheVariants.{Int, Text, Bool as Truth}
use Rattle.mit_files.specs.Files.{FileMap}
use Rattle.mit_files.specs.Names.{is_legal}
use Rattle.mit_expr.specs.Values.{ValueOrFault, faults, gives, untyped, value_at, value_in, within}
use Rattle.mit_ops.specs.Answers.{at_row, settled}
use Rattle.mit_ops.specs.EachRow.{given}
use Rattle.mit_ops.specs.Forms.{rows_at}
use Rattle.mit_ops.specs.Kinds.{bag_inputs_of}
use Rattle.mit_ops.specs.Operators.{captured, form_of, if_captured, one_value, part_apply, scalar_in, single, whole, written}
use Rattle.mit_ops.specs.Parts.{SameBags}
use Rattle.mit_ops.specs.Totals.{aggregate, extreme, greater, integer_in, lesser, picked, total}
use Rattle.mit_ops.specs.declared.faults.FaultKind.TheVariants.{BadName, NotOne}
use Rattle.mit_ops.specs.declared.kinds.Agg.{Agg}
use Rattle.mit_ops.specs.declared.kinds.Agg.TheVariants as agg
use Rattle.mit_ops.specs.declared.kinds.OpSpec.{OpSpec}
use Rattle.mit_ops.specs.declared.kinds.OpSpec.TheVariants as op
use Rattle.mit_op_laws.proofs.BagCounts.{map_same_bag}
use Rattle.mit_op_laws.proofs.FaultOrder.{lesser_assoc, lesser_comm, turned_same, turned_total}
use Rattle.mit_op_laws.proofs.FormOrder.{Unordered, part_order, rows_same, whole_order}
use Rattle.mit_op_laws.proofs.RowLaws.{RowLaws, bag_of_bag, fold_same_bag, moved_from, value_same, value_total}

-- ---- sums and extremes
total_same : (column : ℕ) (xs ys : List RowOf) → bag_of xs ≡ bag_of ys → total column xs ≡ total column ys
unfolding total
total_same column =
    fold_same_bag (λ row sum. integer_in (slice_get row column) +ℤ sum) (total column) (λ row rows. refl) (λ row other sum. omega (arith, ints))

module _ (pick : Value → Value → Value) (comm : (a b : Value) → pick a b ≡ pick b a) (assoc : (a b c : Value) → pick (pick a b) c ≡ pick a (pick b c)) where
  picked_swap : (a b c : Option Value) → picked pick a (picked pick b c) ≡ picked pick b (picked pick a c)
  picked_swap None b c = refl
  picked_swap (Some a) None None = refl
  picked_swap (Some a) None (Some c) = refl
  picked_swap (Some a) (Some b) None = ap Some (comm a b)
  picked_swap (Some a) (Some b) (Some c) = ap Some (sym (assoc a b c) ∙ ap (λ t. pick t c) (comm a b) ∙ assoc b a c)

  extreme_same : (column : ℕ) (xs ys : List RowOf) → bag_of xs ≡ bag_of ys → extreme pick column xs ≡ extreme pick column ys
  unfolding extreme
  extreme_same column =
      fold_same_bag (λ row. picked pick (slice_get row column)) (extreme pick column) (λ row rows. refl)
      (λ row other. picked_swap (slice_get row column) (slice_get other column))

-- ---- one row, and one value
not_single : (rows : List RowOf) → 2 ≤ length rows → single rows ≡ Err (NotOne (length rows))
not_single [] h = absurd (omega arith)
not_single (row ∷ []) h = absurd (omega arith)
not_single (row ∷ next ∷ rows) h = refl

not_scalar : (rows : List RowOf) → 2 ≤ length rows → scalar_in rows ≡ None
not_scalar [] h = absurd (omega arith)
not_scalar (row ∷ []) h = absurd (omega arith)
not_scalar ([] ∷ next ∷ rows) h = refl
not_scalar ((value ∷ []) ∷ next ∷ rows) h = refl
not_scalar ((value ∷ other ∷ row) ∷ next ∷ rows) h = refl

module _ (laws : RowLaws) where
  length_same : (xs ys : List RowOf) → bag_of xs ≡ bag_of ys → length xs ≡ length ys
  length_same xs ys e = sym (length_permutation xs ys (moved_from laws xs ys e))

  single_bag : (rows : List RowOf) → single (bag_of rows) ≡ single rows
  unfolding bag_of insert_row
  single_bag [] = refl
  single_bag (row ∷ []) = refl
  single_bag (row ∷ next ∷ rows) =
      let long = length_same (bag_of (row ∷ next ∷ rows)) (row ∷ next ∷ rows) (bag_of_bag laws (row ∷ next ∷ rows)) in
      not_single (bag_of (row ∷ next ∷ rows)) (omega arith) ∙ ap (λ n. Err (NotOne n)) long

  single_same : (xs ys : List RowOf) → bag_of xs ≡ bag_of ys → single xs ≡ single ys
  single_same xs ys e = sym (single_bag xs) ∙ ap single e ∙ single_bag ys

  scalar_bag : (rows : List RowOf) → scalar_in (bag_of rows) ≡ scalar_in rows
  unfolding bag_of insert_row
  scalar_bag [] = refl
  scalar_bag (row ∷ []) = refl
  scalar_bag (row ∷ next ∷ rows) =
      let long = length_same (bag_of (row ∷ next ∷ rows)) (row ∷ next ∷ rows) (bag_of_bag laws (row ∷ next ∷ rows)) in
      not_scalar (bag_of (row ∷ next ∷ rows)) (omega arith) ∙ sym (not_scalar (row ∷ next ∷ rows) (omega arith))

  captured_bags : (inputs : List (List RowOf)) → captured (map bag_of inputs) ≡ captured inputs
  unfolding captured
  captured_bags [] = refl
  captured_bags (rows ∷ later) = λ i. option_and_then (λ value. option_map (λ values. value ∷ values) (captured_bags later i)) (scalar_bag rows i)

  captured_same : (inputs others : List (List RowOf)) → SameBags inputs others → captured inputs ≡ captured others
  captured_same inputs others e = sym (captured_bags inputs) ∙ ap captured e ∙ captured_bags others

  -- ---- each kind
  aggregate_same : (agg : Agg) (xs ys : List RowOf) → bag_of xs ≡ bag_of ys → aggregate agg xs ≡ aggregate agg ys
  aggregate_same agg.Count xs ys e = ap (λ n. within (pos n)) (length_same xs ys e)
  aggregate_same (agg.Sum column) xs ys e = ap within (total_same column xs ys e)
  aggregate_same (agg.Min column) xs ys e =
      ap value_at (extreme_same lesser (lesser_comm value_cmp (value_total laws) (value_same laws)) (lesser_assoc value_cmp (value_total laws) (value_same laws)) column xs ys e)
  aggregate_same (agg.Max column) xs ys e = ap value_at (extreme_same greater (λ a b. turned_comm b a) (λ a b c. sym (turned_assoc c b a)) column xs ys e)
    where
      turned_comm : (a b : Value) → greater b a ≡ greater a b
      turned_comm = lesser_comm (λ a b. value_cmp b a) (turned_total value_cmp (value_total laws)) (turned_same value_cmp (value_same laws))

      turned_assoc : (a b c : Value) → greater c (greater b a) ≡ greater (greater c b) a
      turned_assoc = lesser_assoc (λ a b. value_cmp b a) (turned_total value_cmp (value_total laws)) (turned_same value_cmp (value_same laws))

  written_same : (name : ValueOrFault) (xs ys : List RowOf) → bag_of xs ≡ bag_of ys → settled (at_row [] (given name (written xs))) ≡ settled (at_row [] (given name (written ys)))
  written_same (gives (Text name)) xs ys e =
      elim (is_legal name) as (λ b. settled (at_row [] (if b then Ok xs else Err BadName)) ≡ settled (at_row [] (if b then Ok ys else Err BadName))) [ true ↦ ap Ok e | false ↦ refl ]
  written_same (gives (Int number)) xs ys e = refl
  written_same (gives (Truth truth)) xs ys e = refl
  written_same (faults fault) xs ys e = refl
  written_same untyped xs ys e = refl

  unordered : (spec : OpSpec) (files : FileMap) (captures : List Value) → Unordered (form_of spec files captures)
  unordered (op.Scalar expr) files captures = λ xs ys e. refl
  unordered (op.Read name types) files captures = tt
  unordered (op.Map exprs) files captures = tt
  unordered (op.Filter expr) files captures = tt
  unordered (op.FlatMap flat) files captures = tt
  unordered (op.Join left right) files captures = λ row xs ys e. ap Ok (map_same_bag laws (λ before. before ++ row) xs ys e)
  unordered (op.Reduce keys agg) files captures = λ key xs ys e.
      ap (λ made. settled (at_row key (given made (λ value. Ok ((key ++ value ∷ []) ∷ []))))) (aggregate_same agg xs ys e)
  unordered op.Union files captures = tt
  unordered op.Distinct files captures = λ key xs ys e. refl
  unordered op.Only files captures = λ xs ys e. ap (λ made. settled (at_row [] made)) (single_same (rows_at xs 0) (rows_at ys 0) (rows_same 0 xs ys e))
  unordered op.Count files captures = λ xs ys e.
      ap (λ n. settled (at_row [] (given (within (pos n)) one_value))) (length_same (rows_at xs 0) (rows_at ys 0) (rows_same 0 xs ys e))
  unordered (op.Sum column) files captures = λ xs ys e.
      ap (λ sum. settled (at_row [] (given (within sum) one_value))) (total_same column (rows_at xs 0) (rows_at ys 0) (rows_same 0 xs ys e))
  unordered (op.MakeRow exprs) files captures = λ xs ys e. refl
  unordered (op.Empty types) files captures = λ xs ys e. refl
  unordered (op.Write name) files captures = λ xs ys e.
      written_same (value_in [] captures name) (rows_at xs 0) (rows_at ys 0) (rows_same 0 xs ys e)
  unordered op.Copy files captures = tt

  -- ---- bags and captured scalars together
  bags_same : (n : ℕ) (inputs others : List (List RowOf)) → SameBags inputs others → SameBags (take n inputs) (take n others)
  bags_same n inputs others e = sym (take-map bag_of n inputs) ∙ ap (take n) e ∙ take-map bag_of n others

  values_same : (n : ℕ) (inputs others : List (List RowOf)) → SameBags inputs others → captured (drop n inputs) ≡ captured (drop n others)
  values_same n inputs others e =
      captured_same (drop n inputs) (drop n others) (sym (drop-map bag_of n inputs) ∙ ap (drop n) e ∙ drop-map bag_of n others)

  pub whole_same : (spec : OpSpec) (inputs others : List (List RowOf)) (files : FileMap) → SameBags inputs others → whole spec inputs files ≡ whole spec others files
  whole_same spec inputs others files e = λ i.
      if_captured (values_same (bag_inputs_of spec) inputs others e i) (λ captures.
      whole_order laws (form_of spec files captures) (unordered spec files captures) (take (bag_inputs_of spec) inputs) (take (bag_inputs_of spec) others)
      (bags_same (bag_inputs_of spec) inputs others e) i)

  pub part_same : (spec : OpSpec) (part parts : ℕ) (inputs others : List (List RowOf)) (files : FileMap) → SameBags inputs others →
      part_apply spec part parts inputs files ≡ part_apply spec part parts others files
  part_same spec part parts inputs others files e = λ i.
      if_captured (values_same (bag_inputs_of spec) inputs others e i) (λ captures.
      part_order laws (form_of spec files captures) (unordered spec files captures) part parts (take (bag_inputs_of spec) inputs) (take (bag_inputs_of spec) others)
      (bags_same (bag_inputs_of spec) inputs others e) i)
