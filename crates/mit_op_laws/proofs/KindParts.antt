-- The parts of each kind's answer add up to the whole.
use Rattle.std.proofs.Common.{◌≡◌, ℕ, suc, ◌+◌, ◌%◌, ◌<◌, ◌≤◌, true, false, List, [], map, take, drop, length, refl, ap, sym, ◌∙◌, arith, if◌then◌else◌, Option, Some, None, Ok, eqb, nat_lt}
use Rattle.std.specs.List.{range_with_len, take-map}
use Rattle.std.proofs.lemmas.Bool.{ne_eqb}
use Rattle.std.proofs.lemmas.Bool.Decides.{nat_tests}
use Rattle.std.proofs.lemmas.List.{drop-map}
use Rattle.std.proofs.lemmas.List.Elements.{All-take}
use Rattle.mit_rows.specs.Bags.{RowOf, all_rows, bag_of}
use Rattle.mit_rows.specs.declared.value.Value.{Value}
use Rattle.mit_files.specs.Files.{FileMap}
use Rattle.mit_expr.specs.declared.expr.Expr.{Expr}
use Rattle.mit_ops.specs.Answers.{BagOrFault, RowsOrKind, at_row, settled}
use Rattle.mit_ops.specs.Forms.{Form, each_key, each_match, each_row, once, part_answer, whole_answer}
use Rattle.mit_ops.specs.Keys.{key_hash, key_of}
use Rattle.mit_ops.specs.Kinds.{bag_inputs_of}
use Rattle.mit_ops.specs.Operators.{bags_in, captured, form_of, if_captured, part_apply, whole}
use Rattle.mit_ops.specs.Parts.{CutInto, routed_lists, sum_of_parts, sum_parts}
use Rattle.mit_ops.specs.Routes.{bag_route, capture_route, goes, lists_at, route_to}
use Rattle.mit_ops.specs.declared.kinds.OpSpec.{OpSpec}
use Rattle.mit_ops.specs.declared.kinds.OpSpec.TheVariants as op
use Rattle.mit_ops.specs.declared.routes.Route.{Route}
use Rattle.mit_ops.specs.declared.routes.Route.TheVariants.{Broadcast}
use Rattle.mit_op_laws.proofs.AnswerSums.{none, settled_settled}
use Rattle.mit_op_laws.proofs.FormParts.{AddsUp, dealt_parts, each_key_parts, each_match_parts, each_row_parts, goes_by, part_alone}
use Rattle.mit_op_laws.proofs.PartSums.{sum_first, sum_parts_none, sum_parts_same}
use Rattle.mit_op_laws.proofs.RoutedLists.{drop-lists, lists_all, lists_same, take-lists}
use Rattle.mit_op_laws.proofs.RowLaws.{RowLaws}

-- an operator in the one partition that there is
pub apply_alone : (spec : OpSpec) (inputs : List (List RowOf)) (files : FileMap) → part_apply spec 0 1 inputs files ≡ whole spec inputs files
apply_alone spec inputs files = λ i. if_captured (captured (drop (bag_inputs_of spec) inputs)) (λ captures. part_alone (form_of spec files captures) (bags_in spec inputs) i)

-- the one answer of a form that gathers
abbrev one_answer : Form → List (List RowOf) → RowsOrKind
one_answer (once give) bags = give bags
one_answer _ bags = Ok []

-- what a form gives for a row, and for a key or a row with other rows
abbrev row_gives : Form → RowOf → RowsOrKind
row_gives (each_row give) = give
row_gives _ = λ row. Ok []

abbrev rows_give : Form → RowOf → List RowOf → RowsOrKind
rows_give (each_key key give) = give
rows_give (each_match left right give) = give
rows_give _ = λ row rows. Ok []

module _ (columns : ℕ → ℕ) (parts : ℕ) where
  abbrev routes_of : OpSpec → ℕ → Route
  routes_of spec input = route_to spec input (columns input)

  abbrev bag_routes : OpSpec → ℕ → Route
  bag_routes spec input = bag_route spec input (columns input)

  pub bags_at : (spec : OpSpec) (part : ℕ) (cuts : List (List (List RowOf))) →
      take (bag_inputs_of spec) (lists_at (routes_of spec) parts part 0 cuts) ≡ lists_at (bag_routes spec) parts part 0 (take (bag_inputs_of spec) cuts)
  bags_at spec part cuts =
      take-lists (routes_of spec) parts part 0 (bag_inputs_of spec) cuts
      ∙ lists_same (routes_of spec) (bag_routes spec) parts part 0 (take (bag_inputs_of spec) cuts)
      (λ input l h. let here : nat_lt input (bag_inputs_of spec) ≡ true = grind (arith, nat_tests) in rw here refl)

  pub captures_at : (spec : OpSpec) (part : ℕ) (cuts : List (List (List RowOf))) → ((from : ℕ) (row : RowOf) → goes (capture_route spec) parts from part row ≡ true) →
      drop (bag_inputs_of spec) (lists_at (routes_of spec) parts part 0 cuts) ≡ map all_rows (drop (bag_inputs_of spec) cuts)
  captures_at spec part cuts all =
      drop-lists (routes_of spec) parts part 0 (bag_inputs_of spec) cuts
      ∙ lists_same (routes_of spec) (λ input. capture_route spec) parts part (0 + bag_inputs_of spec) (drop (bag_inputs_of spec) cuts)
      (λ input l h. let past : nat_lt input (bag_inputs_of spec) ≡ false = grind (arith, nat_tests) in rw past refl)
      ∙ lists_all (λ input. capture_route spec) parts part (0 + bag_inputs_of spec) (drop (bag_inputs_of spec) cuts) (λ input. all)

  -- all rows come to partition 0
  abbrev Gathers : OpSpec → List (List (List RowOf)) → Type 0
  Gathers spec cuts = routed_lists spec columns parts 0 cuts ≡ map all_rows cuts

  gathers : (spec : OpSpec) (cuts : List (List (List RowOf))) →
      ((input from : ℕ) (row : RowOf) → input < bag_inputs_of spec → goes (bag_routes spec input) parts from 0 row ≡ true) →
      ((from : ℕ) (row : RowOf) → goes (capture_route spec) parts from 0 row ≡ true) →
      Gathers spec cuts
  gathers spec cuts bags captures = lists_all (routes_of spec) parts 0 0 cuts (λ input from row.
      elim (nat_lt input (bag_inputs_of spec)) as (λ b. nat_lt input (bag_inputs_of spec) ≡ b → goes (if b then bag_routes spec input else capture_route spec) parts from 0 row ≡ true) [
        | true ↦ λ e. bags input from row (grind (arith, nat_tests))
        | false ↦ λ e. captures from row
      ] refl)

  pub write_gathers : (name : Expr) (cuts : List (List (List RowOf))) → Gathers (op.Write name) cuts
  write_gathers name cuts = gathers (op.Write name) cuts (λ input from row h. refl) (λ from row. refl)

  module _ (laws : RowLaws) (cuts : List (List (List RowOf))) (files : FileMap) (l : 0 < parts) where
    abbrev AllAddUp : OpSpec → Type 0
    AllAddUp spec = sum_of_parts spec columns parts cuts files ≡ whole spec (map all_rows cuts) files

    -- ---- captured scalars that come to every partition
    spread : (spec : OpSpec) → capture_route spec ≡ Broadcast → ((captures : List Value) → AddsUp parts (form_of spec files captures) (bag_routes spec) (take (bag_inputs_of spec) cuts)) → AllAddUp spec
    spread spec e adds =
        sum_parts_same _ (λ part. if_captured values (λ captures. part_answer (form_of spec files captures) parts part (lists_at (bag_routes spec) parts part 0 bags))) parts
        (λ part h. λ i. if_captured (captured (captures_at spec part cuts (λ from row. ap (λ route. goes route parts from part row) e) i)) (λ captures. part_answer (form_of spec files captures) parts part (bags_at spec part cuts i)))
        ∙ with_values values
        ∙ (λ i. if_captured (captured (sym (drop-map all_rows (bag_inputs_of spec) cuts) i)) (λ captures. whole_answer (form_of spec files captures) (sym (take-map all_rows (bag_inputs_of spec) cuts) i)))
      where
        bags : List (List (List RowOf))
        bags = take (bag_inputs_of spec) cuts

        values : Option (List Value)
        values = captured (map all_rows (drop (bag_inputs_of spec) cuts))

        with_values : (values : Option (List Value)) →
            sum_parts (λ part. if_captured values (λ captures. part_answer (form_of spec files captures) parts part (lists_at (bag_routes spec) parts part 0 bags))) parts
            ≡ if_captured values (λ captures. whole_answer (form_of spec files captures) (map all_rows bags))
        with_values None = sum_parts_none parts
        with_values (Some captures) = adds captures

    -- ---- one answer, in partition 0
    module _ (give : List Value → List (List RowOf) → RowsOrKind) where
      no_answer : (values : Option (List Value)) (part : ℕ) (bags : List (List RowOf)) → if_captured values (λ captures. part_answer (once (give captures)) parts (suc part) bags) ≡ none
      no_answer None part bags = refl
      no_answer (Some captures) part bags = let past : eqb (suc part) 0 ≡ false = ne_eqb (suc part) 0 (omega arith) in rw past refl

      in_order : (values : Option (List Value)) (bags : List (List RowOf)) → settled (if_captured values (λ captures. whole_answer (once (give captures)) bags)) ≡ if_captured values (λ captures. whole_answer (once (give captures)) bags)
      unfolding bag_of
      in_order None bags = refl
      in_order (Some captures) bags = settled_settled laws (at_row [] (give captures bags))

    gathered : (spec : OpSpec) → ((captures : List Value) → form_of spec files captures ≡ once (one_answer (form_of spec files captures))) → Gathers spec cuts → AllAddUp spec
    gathered spec is all =
        sum_parts_same _ answer parts (λ part h. λ i. if_captured (values part) (λ captures. part_answer (is captures i) parts part (bags part)))
        ∙ sum_first answer parts (λ part. no_answer give (values (suc part)) part (bags (suc part))) (in_order give (values 0) (bags 0)) l
        ∙ (λ i. if_captured (captured (drop (bag_inputs_of spec) (all i))) (λ captures. whole_answer (sym (is captures) i) (take (bag_inputs_of spec) (all i))))
      where
        give : List Value → List (List RowOf) → RowsOrKind
        give captures = one_answer (form_of spec files captures)

        bags : ℕ → List (List RowOf)
        bags part = take (bag_inputs_of spec) (routed_lists spec columns parts part cuts)

        values : ℕ → Option (List Value)
        values part = captured (drop (bag_inputs_of spec) (routed_lists spec columns parts part cuts))

        answer : ℕ → BagOrFault
        answer part = if_captured (values part) (λ captures. part_answer (once (give captures)) parts part (bags part))

    module _ (cut : CutInto parts cuts) where
      first_cut : (n : ℕ) → CutInto parts (take n cuts)
      first_cut n = All-take (λ (cut : List (List RowOf)). length cut ≤ parts) n cuts cut

      pub parts_add_up : (spec : OpSpec) → AllAddUp spec
      parts_add_up (op.Scalar expr) =
          gathered (op.Scalar expr) (λ captures. refl) (gathers (op.Scalar expr) cuts (λ input from row h. absurd (omega arith)) (λ from row. refl))
      parts_add_up (op.Read name types) =
          spread (op.Read name types) refl (λ captures. dealt_parts laws parts _ (bag_routes (op.Read name types)) (take 0 cuts) l)
      parts_add_up (op.Map exprs) = spread (op.Map exprs) refl (λ captures. each_row_parts laws parts (row_gives (form_of (op.Map exprs) files captures)) (take 1 cuts) (first_cut 1))
      parts_add_up (op.Filter expr) = spread (op.Filter expr) refl (λ captures. each_row_parts laws parts (row_gives (form_of (op.Filter expr) files captures)) (take 1 cuts) (first_cut 1))
      parts_add_up (op.FlatMap flat) = spread (op.FlatMap flat) refl (λ captures. each_row_parts laws parts (row_gives (form_of (op.FlatMap flat) files captures)) (take 1 cuts) (first_cut 1))
      parts_add_up (op.Join left right) =
          spread (op.Join left right) refl (λ captures.
          each_match_parts laws parts (λ key. key_hash key % parts) (λ key. omega arith) (bag_routes (op.Join left right)) (take 2 cuts) (key_of left) (key_of right) (rows_give (form_of (op.Join left right) files captures)) (goes_by left parts) (goes_by right parts))
      parts_add_up (op.Reduce keys agg) =
          spread (op.Reduce keys agg) refl (λ captures.
          each_key_parts laws parts (λ key. key_hash key % parts) (λ key. omega arith) (bag_routes (op.Reduce keys agg)) (take 1 cuts) (key_of keys) (rows_give (form_of (op.Reduce keys agg) files captures)) (goes_by keys parts))
      parts_add_up op.Union = spread op.Union refl (λ captures. each_row_parts laws parts (row_gives (form_of op.Union files captures)) (take 2 cuts) (first_cut 2))
      parts_add_up op.Distinct =
          spread op.Distinct refl (λ captures.
          each_key_parts laws parts (λ row. key_hash (key_of all_columns row) % parts) (λ row. omega arith) (bag_routes op.Distinct) (take 1 cuts) (λ row. row) (rows_give (form_of op.Distinct files captures)) (goes_by all_columns parts))
        where
          all_columns : List ℕ
          all_columns = range_with_len 0 (columns 0)
      parts_add_up op.Only = gathered op.Only (λ captures. refl) (gathers op.Only cuts (λ input from row h. refl) (λ from row. refl))
      parts_add_up op.Count = gathered op.Count (λ captures. refl) (gathers op.Count cuts (λ input from row h. refl) (λ from row. refl))
      parts_add_up (op.Sum column) = gathered (op.Sum column) (λ captures. refl) (gathers (op.Sum column) cuts (λ input from row h. refl) (λ from row. refl))
      parts_add_up (op.MakeRow exprs) =
          gathered (op.MakeRow exprs) (λ captures. refl) (gathers (op.MakeRow exprs) cuts (λ input from row h. absurd (omega arith)) (λ from row. refl))
      parts_add_up (op.Empty types) =
          gathered (op.Empty types) (λ captures. refl) (gathers (op.Empty types) cuts (λ input from row h. absurd (omega arith)) (λ from row. refl))
      parts_add_up (op.Write name) = gathered (op.Write name) (λ captures. refl) (write_gathers name cuts)
      parts_add_up op.Copy = spread op.Copy refl (λ captures. each_row_parts laws parts (row_gives (form_of op.Copy files captures)) (take 1 cuts) (first_cut 1))
