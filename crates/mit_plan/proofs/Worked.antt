-- A worked plan, a branch whose two blocks each define a variable anew: its text, and how many actions it takes at most, by the definitions.
use Rattle.std.proofs.Common.{◌≡◌, ℕ, [], ◌∷◌, codes, refl}
use Rattle.std.specs.Fmt.{digits}
use Rattle.mit_expr.specs.declared.expr.Expr.{Expr}
use Rattle.mit_ops.specs.declared.kinds.OpSpec.{OpSpec}
use Rattle.mit_ops.specs.declared.kinds.OpSpec.TheVariants.{Copy, MakeRow, Scalar, Write}
use Rattle.mit_ops.specs.declared.leave.Leave.TheVariants.{Jump, Branch, End}
use Rattle.mit_ops.specs.declared.routes.Route.{Route}
use Rattle.mit_ops.specs.declared.routes.Route.TheVariants.{Forward, Gather}
use Rattle.mit_plan.specs.declared.plan.Edge.{Edge}
use Rattle.mit_plan.specs.declared.plan.PlanOp.{PlanOp}
use Rattle.mit_plan.specs.Bound.{bound_of}
use Rattle.mit_plan.specs.Plans.{PlanOf, numbers_where}
use Rattle.mit_plan.specs.Printed.{plan_text}

abbrev op_of : ℕ → ℕ → ℕ → OpSpec → PlanOp
op_of block index statement spec = record { block = block; index = index; statement = statement; spec = spec; phi = 0 }

abbrev edge_of : ℕ → ℕ → ℕ → Route → Edge
edge_of from to input route = record { from = from; to = to; input = input; route = route }

-- the texts say nothing of expressions, so any one stands for all
abbrev worked : Expr → PlanOf
worked expr = record {
  blocks =
      record { first = 0; count = 4; leave = Branch 1 2 }
      ∷ record { first = 4; count = 1; leave = Jump 3 }
      ∷ record { first = 5; count = 1; leave = Jump 3 }
      ∷ record { first = 6; count = 3; leave = End }
      ∷ [];
  ops =
      op_of 0 0 1 (Scalar expr) ∷ op_of 0 1 2 (Scalar expr) ∷ op_of 0 2 3 (Scalar expr) ∷ op_of 0 3 4 (Scalar expr)
      ∷ op_of 1 0 5 Copy ∷ op_of 2 0 6 Copy
      ∷ record { block = 3; index = 0; statement = 0; spec = Copy; phi = 2 } ∷ op_of 3 1 7 (MakeRow (expr ∷ [])) ∷ op_of 3 2 8 (Write expr) ∷ [];
  edges =
      edge_of 0 2 0 Gather ∷ edge_of 1 2 1 Gather ∷ edge_of 2 3 0 Gather ∷ edge_of 0 4 0 Forward ∷ edge_of 1 5 0 Forward
      ∷ edge_of 4 6 0 Forward ∷ edge_of 5 6 1 Forward ∷ edge_of 6 7 0 Gather ∷ edge_of 7 8 0 Gather ∷ [];
}

worked_text : (expr : Expr) → plan_text (worked expr) ≡ codes "blocks 4, ops 9, edges 9\nblock 0 branch op 3 to 1 else 2\nop 0 scalar statement 1\nop 1 scalar statement 2\nop 2 scalar statement 3 from 0 gather, 1 gather\nop 3 scalar statement 4 from 2 gather\nblock 1 jump 3\nop 4 copy statement 5 from 0 forward\nblock 2 jump 3\nop 5 copy statement 6 from 1 forward\nblock 3 end\nop 6 phi from 4 forward, 5 forward\nop 7 row statement 7 from 6 gather\nop 8 write statement 8 from 7 gather\n"
unfolding numbers_where digits
worked_text expr = refl

worked_bound : (expr : Expr) → bound_of (worked expr) 2 3 ≡ 1656
worked_bound expr = refl

greatest_bound : (expr : Expr) → bound_of (worked expr) 4294967295 65535 ≡ 18446744073709551615
greatest_bound expr = refl
