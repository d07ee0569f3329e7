-- An `if` in a loop of two turns, computed by the definitions over two partitions:
-- t = 1; y = 0; while t <= 2 { if t == 1 { y = y + 10 * t; } t = t + 1; } z = row [y]; write z to "z";
use Rattle.std.proofs.Common.{◌≡◌, ◌∙◌, ℕ, List, [], ◌∷◌, ap, refl, true, false, Some, None, pos}
use Rattle.std.specs.List.{cons_option}
use Rattle.mit_rows.specs.Bags.{all_rows, bag_of, insert_row}
use Rattle.mit_rows.specs.declared.value.Value.{Value}
use Rattle.mit_rows.specs.declared.value.Value.TheVariants.{Int, Text, Bool as Truth}
use Rattle.mit_files.specs.Files.{FileMap}
use Rattle.mit_files.specs.Names.{is_legal}
use Rattle.mit_path.specs.Choice.{last_below}
use Rattle.mit_expr.specs.Values.{ValueOrFault, gives, value_in}
use Rattle.mit_expr.specs.declared.expr.Expr.{Expr}
use Rattle.mit_ops.specs.Answers.{at_row, over, settled}
use Rattle.mit_ops.specs.EachRow.{given, given_all}
use Rattle.mit_ops.specs.Endings.{finished}
use Rattle.mit_ops.specs.Operators.{captured, legal_in, written}
use Rattle.mit_ops.specs.declared.kinds.OpSpec.TheVariants.{Copy, MakeRow, Scalar, Write}
use Rattle.mit_ops.specs.declared.leave.Leave.TheVariants.{Branch, End, Jump}
use Rattle.mit_ops.specs.declared.routes.Route.TheVariants.{Forward, Gather}
use Rattle.mit_plan.specs.Held.{History, Job, Part, Run, all_there, as_part, history_of, ok, rows, run, with_place}
use Rattle.mit_plan.specs.Meant.{first_or, history_ending, meant, write_of}
use Rattle.mit_plan.specs.Plans.{PlanOf, numbers_where}
use Rattle.mit_plan_laws.proofs.Computed.{block_of, edge, next_place, one_row, op, scalar, start, three_rows, two_rows, value_row}
use Rattle.mit_plan_laws.proofs.Stops.{run_stays}

abbrev pub int : ℕ → Value
int n = Int (pos n)

-- the expressions, by the values that they have here
pub record Exprs (one nought low first more next row name : Expr) : Type 0 where
  pub one_is : value_in [] [] one ≡ gives (int 1)
  pub nought_is : value_in [] [] nought ≡ gives (int 0)
  pub low_1 : value_in [] (int 1 ∷ []) low ≡ gives (Truth true)
  pub low_2 : value_in [] (int 2 ∷ []) low ≡ gives (Truth true)
  pub low_3 : value_in [] (int 3 ∷ []) low ≡ gives (Truth false)
  pub first_1 : value_in [] (int 1 ∷ []) first ≡ gives (Truth true)
  pub first_2 : value_in [] (int 2 ∷ []) first ≡ gives (Truth false)
  pub more_is : value_in [] (int 0 ∷ int 1 ∷ []) more ≡ gives (int 10)
  pub next_1 : value_in [] (int 1 ∷ []) next ≡ gives (int 2)
  pub next_2 : value_in [] (int 2 ∷ []) next ≡ gives (int 3)
  pub row_is : value_in [] (int 10 ∷ []) row ≡ gives (int 10)
  pub name_is : value_in [] [] name ≡ gives (Text (122 ∷ []))

-- block 1 is the header, 2 the body, 3 and 4 are the branches, 5 is their join and 6 the exit
abbrev pub plan_of : Expr → Expr → Expr → Expr → Expr → Expr → Expr → Expr → PlanOf
plan_of one nought low first more next row name = record {
  blocks =
      block_of 0 2 (Jump 1) ∷ block_of 2 3 (Branch 2 6) ∷ block_of 5 1 (Branch 3 4) ∷ block_of 6 1 (Jump 5)
      ∷ block_of 7 0 (Jump 5) ∷ block_of 7 2 (Jump 1) ∷ block_of 9 2 End ∷ [];
  ops =
      op 0 0 1 (Scalar one) 0 ∷ op 0 1 2 (Scalar nought) 0
      ∷ op 1 0 0 Copy 2 ∷ op 1 1 0 Copy 2 ∷ op 1 2 3 (Scalar low) 0
      ∷ op 2 0 4 (Scalar first) 0
      ∷ op 3 0 5 (Scalar more) 0
      ∷ op 5 0 0 Copy 2 ∷ op 5 1 6 (Scalar next) 0
      ∷ op 6 0 7 (MakeRow (row ∷ [])) 0 ∷ op 6 1 8 (Write name) 0 ∷ [];
  edges =
      edge 0 2 0 Forward ∷ edge 8 2 1 Forward ∷ edge 1 3 0 Forward ∷ edge 7 3 1 Forward ∷ edge 2 4 0 Gather ∷ edge 2 5 0 Gather
      ∷ edge 3 6 0 Gather ∷ edge 2 6 1 Gather ∷ edge 6 7 0 Forward ∷ edge 3 7 1 Forward ∷ edge 2 8 0 Gather ∷ edge 3 9 0 Gather ∷ edge 9 10 0 Gather ∷ [];
}

-- what the two variables are in a block with two operators, and with the condition in the header
abbrev both_of : ℕ → ℕ → List (List Part)
both_of a b = scalar (int a) ∷ scalar (int b) ∷ []

abbrev header_of : ℕ → ℕ → Value → List (List Part)
header_of t y truth = scalar (int t) ∷ scalar (int y) ∷ scalar truth ∷ []

module _ (one nought low first more next row name : Expr) (files : FileMap) (values : Exprs one nought low first more next row name) where
  abbrev job : Job
  job = record { plan = plan_of one nought low first more next row name; files = files; decisions = 5; partitions = 2 }

  abbrev h0 : History
  h0 = with_place start 0 (both_of 1 0)

  abbrev h1 : History
  h1 = with_place h0 1 (header_of 1 0 (Truth true))

  abbrev h2 : History
  h2 = with_place h1 2 (scalar (Truth true) ∷ [])

  abbrev h3 : History
  h3 = with_place h2 3 (scalar (int 10) ∷ [])

  abbrev h4 : History
  h4 = with_place h3 5 (both_of 10 2)

  abbrev h5 : History
  h5 = with_place h4 1 (header_of 2 10 (Truth true))

  abbrev h6 : History
  h6 = with_place h5 2 (scalar (Truth false) ∷ [])

  abbrev h7 : History
  h7 = with_place h6 4 []

  abbrev h8 : History
  h8 = with_place h7 5 (both_of 10 3)

  abbrev h9 : History
  h9 = with_place h8 1 (header_of 3 10 (Truth false))

  abbrev h10 : History
  h10 = with_place h9 6 (both_of 10 10)

  -- ---- the first turn

  place_0 : run job 1 ≡ record { history = h0; next = Some 1 }
  unfolding run all_there all_rows bag_of insert_row captured last_below numbers_where over
  place_0 =
      next_place job 0 start 0 (both_of 1 0) refl
      (two_rows job start 0 (scalar (int 1)) (scalar (int 0)) (value_row (value_in [] [] one) (int 1) values.one_is) (value_row (value_in [] [] nought) (int 0) values.nought_is))

  place_1 : run job 2 ≡ record { history = h1; next = Some 2 }
  unfolding all_there all_rows bag_of insert_row captured last_below numbers_where over
  place_1 =
      next_place job 1 h0 1 (header_of 1 0 (Truth true)) place_0
      (three_rows job h0 1 (scalar (int 1)) (scalar (int 0)) (scalar (Truth true)) refl refl (value_row (value_in [] (int 1 ∷ []) low) (Truth true) values.low_1))

  place_2 : run job 3 ≡ record { history = h2; next = Some 3 }
  unfolding all_there all_rows bag_of insert_row captured last_below numbers_where over
  place_2 = next_place job 2 h1 2 (scalar (Truth true) ∷ []) place_1 (one_row job h1 2 (scalar (Truth true)) (value_row (value_in [] (int 1 ∷ []) first) (Truth true) values.first_1))

  place_3 : run job 4 ≡ record { history = h3; next = Some 5 }
  unfolding all_there all_rows bag_of insert_row captured last_below numbers_where over
  place_3 = next_place job 3 h2 3 (scalar (int 10) ∷ []) place_2 (one_row job h2 3 (scalar (int 10)) (value_row (value_in [] (int 0 ∷ int 1 ∷ []) more) (int 10) values.more_is))

  -- the join takes what the true block assigned
  place_4 : run job 5 ≡ record { history = h4; next = Some 1 }
  unfolding all_there all_rows bag_of insert_row captured last_below numbers_where over
  place_4 =
      next_place job 4 h3 5 (both_of 10 2) place_3
      (two_rows job h3 5 (scalar (int 10)) (scalar (int 2)) refl (value_row (value_in [] (int 1 ∷ []) next) (int 2) values.next_1))

  -- ---- the second turn

  place_5 : run job 6 ≡ record { history = h5; next = Some 2 }
  unfolding all_there all_rows bag_of insert_row captured last_below numbers_where over
  place_5 =
      next_place job 5 h4 1 (header_of 2 10 (Truth true)) place_4
      (three_rows job h4 1 (scalar (int 2)) (scalar (int 10)) (scalar (Truth true)) refl refl (value_row (value_in [] (int 2 ∷ []) low) (Truth true) values.low_2))

  place_6 : run job 7 ≡ record { history = h6; next = Some 4 }
  unfolding all_there all_rows bag_of insert_row captured last_below numbers_where over
  place_6 = next_place job 6 h5 2 (scalar (Truth false) ∷ []) place_5 (one_row job h5 2 (scalar (Truth false)) (value_row (value_in [] (int 2 ∷ []) first) (Truth false) values.first_2))

  place_7 : run job 8 ≡ record { history = h7; next = Some 5 }
  unfolding rows
  place_7 = next_place job 7 h6 4 [] place_6 refl

  -- the join takes what the header assigned in this turn, not what the true block assigned in the turn before
  place_8 : run job 9 ≡ record { history = h8; next = Some 1 }
  unfolding all_there all_rows bag_of insert_row captured last_below numbers_where over
  place_8 =
      next_place job 8 h7 5 (both_of 10 3) place_7
      (two_rows job h7 5 (scalar (int 10)) (scalar (int 3)) refl (value_row (value_in [] (int 2 ∷ []) next) (int 3) values.next_2))

  -- ---- the end

  place_9 : run job 10 ≡ record { history = h9; next = Some 6 }
  unfolding all_there all_rows bag_of insert_row captured last_below numbers_where over
  place_9 =
      next_place job 9 h8 1 (header_of 3 10 (Truth false)) place_8
      (three_rows job h8 1 (scalar (int 3)) (scalar (int 10)) (scalar (Truth false)) refl refl (value_row (value_in [] (int 3 ∷ []) low) (Truth false) values.low_3))

  place_10 : run job 11 ≡ record { history = h10; next = None }
  unfolding all_there all_rows bag_of insert_row captured last_below numbers_where over given_all is_legal
  place_10 =
      next_place job 10 h9 6 (both_of 10 10) place_9
      (two_rows job h9 6 (scalar (int 10)) (scalar (int 10)) (value_row (value_in [] (int 10 ∷ []) row) (int 10) values.row_is)
      (ap (λ (v : ValueOrFault). as_part (settled (at_row [] (given v (written ((int 10 ∷ []) ∷ []))))) ∷ ok [] ∷ []) values.name_is))

  all_of_it : history_of job ≡ h10
  all_of_it = ap (λ (state : Run). state.history) (run_stays job 11 31 (ap (λ (state : Run). state.next) place_10) ∙ place_10)

  -- five decisions, and one write
  pub loop_is : meant (plan_of one nought low first more next row name) files 5 2 ≡ finished (record { name = 122 ∷ []; bag = (int 10 ∷ []) ∷ [] } ∷ []) 5
  unfolding all_there all_rows bag_of insert_row captured last_below numbers_where over is_legal
  loop_is =
      ap (history_ending job) all_of_it
      ∙ ap (λ (v : ValueOrFault). first_or [] (finished (cons_option (write_of (legal_in v) (ok ((int 10 ∷ []) ∷ []))) []) 5)) values.name_is
