-- A script's plan has few blocks where its operators are few.
use Rattle.std.proofs.Common.{◌≤◌, List, length, arith}
use Rattle.mit_ops.specs.declared.leave.Leave.TheVariants.{End}
use Rattle.mit_ops.specs.declared.types.VarType.{VarType}
use Rattle.mit_plan.specs.Valid.{IsWithinLimits}
use Rattle.mit_plan.specs.declared.plan.TheConstants.{MAX_EDGES, MAX_OPS}
use Rattle.mit_script.specs.declared.tree.Script.{Script}
use Rattle.mit_ssa.specs.PlanFor.{plan_for}
use Rattle.mit_ssa.specs.Woven.{just_left, start_place, woven_blocks}
use Rattle.mit_ssa.proofs.Counted.{block_counted, size_is}
use Rattle.mit_ssa.proofs.StructureLists.{length-blocks_from, length-ops_from}

pub within_limits : (script : Script) (types : List VarType) → length (plan_for script types).ops ≤ MAX_OPS → length (plan_for script types).edges ≤ MAX_EDGES
    → IsWithinLimits (plan_for script types)
within_limits script types ops edges =
    let blocks = woven_blocks script types in let counted = block_counted types script.body in
    let a = counted.few in let b = counted.grows start_place in let c = counted.size start_place (just_left End) in let d = counted.blocks start_place (just_left End) in
    let e = length-ops_from blocks 0 in let f = length-blocks_from blocks 0 in let g = size_is blocks in
    record { ops = ops; edges = edges; blocks = omega (arith, a, b, c, d, e, f, g, ops) }
