use Rattle.std.proofs.Common.{◌≡◌, ◌<◌, ℕ, IsTrue}
use Rattle.mit_rows.specs.declared.value.ColType.TheVariants.{Bool as Truth}
use Rattle.mit_ops.specs.Results.{scalar}
use Rattle.mit_plan.specs.Plans.{block_at}
use Rattle.mit_plan.specs.Types.{type_at}
use Rattle.mit_plan.specs.Valid.{is_branch, last_of}
use Rattle.mit_valid.proofs.typing.truths_given.Given as goal

abbrev pub invariant-loop-block : goal.invariant-loop-block
invariant-loop-block l =
    (block : ℕ) → block < l.block-index → IsTrue (is_branch (block_at l.plan block).leave) → type_at l.types (last_of (block_at l.plan block)) ≡ scalar Truth
