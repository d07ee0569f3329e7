-- A branch and its join, computed by the definitions over two partitions:
-- a = 1; b = 2; c = a == b; if c { y = a; } else { y = b; } z = row [y]; write z to "z";
use Rattle.std.proofs.Common.{◌≡◌, ◌∙◌, ℕ, List, [], ◌∷◌, ap, refl, false, Some, None, pos}
use Rattle.std.specs.List.{cons_option}
use Rattle.mit_rows.specs.Bags.{all_rows, bag_of, insert_row}
use Rattle.mit_rows.specs.declared.value.Value.TheVariants.{Int, Text, Bool as Truth}
use Rattle.mit_files.specs.Files.{FileMap}
use Rattle.mit_files.specs.Names.{is_legal}
use Rattle.mit_path.specs.Choice.{last_below}
use Rattle.mit_expr.specs.Values.{ValueOrFault, gives, value_in}
use Rattle.mit_expr.specs.declared.expr.Expr.{Expr}
use Rattle.mit_ops.specs.Answers.{at_row, over, settled}
use Rattle.mit_ops.specs.EachRow.{given, given_all}
use Rattle.mit_ops.specs.Endings.{finished, stopped}
use Rattle.mit_ops.specs.Operators.{captured, legal_in, written}
use Rattle.mit_ops.specs.declared.faults.FaultKind.TheVariants.{DecisionLimit}
use Rattle.mit_ops.specs.declared.kinds.OpSpec.TheVariants.{Copy, MakeRow, Scalar, Write}
use Rattle.mit_ops.specs.declared.leave.Leave.TheVariants.{Branch, End, Jump}
use Rattle.mit_ops.specs.declared.routes.Route.TheVariants.{Forward, Gather}
use Rattle.mit_plan.specs.Held.{History, Job, Part, Run, all_there, as_part, history_of, ok, rows, run, with_place}
use Rattle.mit_plan.specs.Meant.{first_or, history_ending, meant, write_of}
use Rattle.mit_plan.specs.Plans.{PlanOf, numbers_where}
use Rattle.mit_plan_laws.proofs.Computed.{block_of, edge, four_rows, next_place, one_row, op, scalar, start, three_rows, value_row}
use Rattle.mit_plan_laws.proofs.Stops.{run_stays}

-- the expressions, by the values that they have here
pub record Exprs (one two equal truth row name : Expr) : Type 0 where
  pub one_is : value_in [] [] one ≡ gives (Int (pos 1))
  pub two_is : value_in [] [] two ≡ gives (Int (pos 2))
  pub equal_is : value_in [] (Int (pos 1) ∷ Int (pos 2) ∷ []) equal ≡ gives (Truth false)
  pub truth_is : value_in [] (Truth false ∷ []) truth ≡ gives (Truth false)
  pub row_is : value_in [] (Int (pos 2) ∷ []) row ≡ gives (Int (pos 2))
  pub name_is : value_in [] [] name ≡ gives (Text (122 ∷ []))

abbrev pub plan_of : Expr → Expr → Expr → Expr → Expr → Expr → PlanOf
plan_of one two equal truth row name = record {
  blocks = block_of 0 4 (Branch 1 2) ∷ block_of 4 1 (Jump 3) ∷ block_of 5 1 (Jump 3) ∷ block_of 6 3 End ∷ [];
  ops =
      op 0 0 1 (Scalar one) 0 ∷ op 0 1 2 (Scalar two) 0 ∷ op 0 2 3 (Scalar equal) 0 ∷ op 0 3 4 (Scalar truth) 0
      ∷ op 1 0 5 Copy 0
      ∷ op 2 0 6 Copy 0
      ∷ op 3 0 0 Copy 2 ∷ op 3 1 7 (MakeRow (row ∷ [])) 0 ∷ op 3 2 8 (Write name) 0 ∷ [];
  edges =
      edge 0 2 0 Gather ∷ edge 1 2 1 Gather ∷ edge 2 3 0 Gather ∷ edge 0 4 0 Forward ∷ edge 1 5 0 Forward
      ∷ edge 4 6 0 Forward ∷ edge 5 6 1 Forward ∷ edge 6 7 0 Gather ∷ edge 7 8 0 Gather ∷ [];
}

module _ (one two equal truth row name : Expr) (files : FileMap) (values : Exprs one two equal truth row name) where
  abbrev job : ℕ → Job
  job decisions = record { plan = plan_of one two equal truth row name; files = files; decisions = decisions; partitions = 2 }

  -- block 0
  abbrev first_rows : List (List Part)
  first_rows = scalar (Int (pos 1)) ∷ scalar (Int (pos 2)) ∷ scalar (Truth false) ∷ scalar (Truth false) ∷ []

  first_are : (decisions : ℕ) → rows (job decisions) start 0 4 ≡ first_rows
  unfolding all_there all_rows bag_of insert_row captured last_below numbers_where over
  first_are decisions =
      four_rows (job decisions) start 0 (scalar (Int (pos 1))) (scalar (Int (pos 2))) (scalar (Truth false)) (scalar (Truth false))
      (value_row (value_in [] [] one) (Int (pos 1)) values.one_is)
      (value_row (value_in [] [] two) (Int (pos 2)) values.two_is)
      (value_row (value_in [] (Int (pos 1) ∷ Int (pos 2) ∷ []) equal) (Truth false) values.equal_is)
      (value_row (value_in [] (Truth false ∷ []) truth) (Truth false) values.truth_is)

  abbrev decided : History
  decided = with_place start 0 first_rows

  first_place : run (job 1) 1 ≡ record { history = decided; next = Some 2 }
  unfolding run
  first_place = next_place (job 1) 0 start 0 first_rows refl (first_are 1)

  -- block 2
  abbrev copied : History
  copied = with_place decided 2 (scalar (Int (pos 2)) ∷ [])

  copy_is : rows (job 1) decided 2 1 ≡ scalar (Int (pos 2)) ∷ []
  unfolding all_there all_rows bag_of insert_row captured last_below numbers_where over
  copy_is = one_row (job 1) decided 2 (scalar (Int (pos 2))) refl

  second_place : run (job 1) 2 ≡ record { history = copied; next = Some 3 }
  second_place = next_place (job 1) 1 decided 2 (scalar (Int (pos 2)) ∷ []) first_place copy_is

  -- block 3
  abbrev last_rows : List (List Part)
  last_rows = scalar (Int (pos 2)) ∷ scalar (Int (pos 2)) ∷ scalar (Int (pos 2)) ∷ []

  last_are : rows (job 1) copied 3 3 ≡ last_rows
  unfolding all_there all_rows bag_of insert_row captured last_below numbers_where over given_all is_legal
  last_are =
      three_rows (job 1) copied 3 (scalar (Int (pos 2))) (scalar (Int (pos 2))) (scalar (Int (pos 2))) refl
      (value_row (value_in [] (Int (pos 2) ∷ []) row) (Int (pos 2)) values.row_is)
      (ap (λ (v : ValueOrFault). as_part (settled (at_row [] (given v (written ((Int (pos 2) ∷ []) ∷ []))))) ∷ ok [] ∷ []) values.name_is)

  abbrev whole_history : History
  whole_history = with_place copied 3 last_rows

  last_place : run (job 1) 3 ≡ record { history = whole_history; next = None }
  last_place = next_place (job 1) 2 copied 3 last_rows second_place last_are

  all_of_it : history_of (job 1) ≡ whole_history
  all_of_it = ap (λ (state : Run). state.history) (run_stays (job 1) 3 5 (ap (λ (state : Run). state.next) last_place) ∙ last_place)

  -- with one decision it writes what the false block assigned
  pub branch_is : meant (plan_of one two equal truth row name) files 1 2 ≡ finished (record { name = 122 ∷ []; bag = (Int (pos 2) ∷ []) ∷ [] } ∷ []) 1
  unfolding all_there all_rows bag_of insert_row captured last_below numbers_where over is_legal
  branch_is =
      ap (history_ending (job 1)) all_of_it
      ∙ ap (λ (v : ValueOrFault). first_or [] (finished (cons_option (write_of (legal_in v) (ok ((Int (pos 2) ∷ []) ∷ []))) []) 1)) values.name_is

  -- ---- no decision

  stays : run (job 0) 1 ≡ record { history = decided; next = None }
  unfolding run
  stays = next_place (job 0) 0 start 0 first_rows refl (first_are 0)

  none_left : history_of (job 0) ≡ decided
  none_left = ap (λ (state : Run). state.history) (run_stays (job 0) 1 3 (ap (λ (state : Run). state.next) stays) ∙ stays)

  -- with none it stops at the condition
  pub limit_is : meant (plan_of one two equal truth row name) files 0 2 ≡ stopped (record { statement = 4; decisions = 0; kind = DecisionLimit })
  unfolding all_there all_rows bag_of insert_row captured last_below numbers_where over
  limit_is = ap (history_ending (job 0)) none_left
