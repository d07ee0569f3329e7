-- One block more.
use Rattle.std.proofs.Common.{◌≡◌, ◌∙◌, ◌<◌, ℕ, List, IsTrue, ap, below_more, get_or, length, subst}
use Rattle.std.proofs.lemmas.List.{get_or_default}
use Rattle.mit_plan.specs.Plans.{PlanOf, block_at, no_block}
use Rattle.mit_plan.specs.Valid.{HasLast, is_branch}
use Rattle.mit_plan.specs.declared.plan.PlanBlock.{PlanBlock}
use Rattle.mit_plan.specs.declared.plan.PlanOp.{PlanOp}
use Rattle.mit_valid.proofs.leaves.branches_have_lasts.Goals as goal

last_of_read : (plan : PlanOf) (blocks : List PlanBlock) (ops : List PlanOp) (k : ℕ) (read : PlanBlock) → blocks ≡ plan.blocks → ops ≡ plan.ops → k < length blocks
    → (IsTrue (is_branch (get_or blocks k read).leave) → HasLast ops (get_or blocks k read)) → IsTrue (is_branch (block_at plan k).leave) → HasLast plan.ops (block_at plan k)
last_of_read plan blocks ops k read same all below has =
    subst (λ (block : PlanBlock). IsTrue (is_branch block.leave) → HasLast plan.ops block) (get_or_default blocks k read no_block below ∙ ap (λ (list : List PlanBlock). get_or list k no_block) same)
    (subst (λ (list : List PlanOp). IsTrue (is_branch (get_or blocks k read).leave) → HasLast list (get_or blocks k read)) all has)

pub loop-block-preserved : goal.loop-block-preserved
loop-block-preserved c =
    let plan = c.args.plan.now in
    below_more (λ block. IsTrue (is_branch (block_at plan block).leave) → HasLast plan.ops (block_at plan block)) c.loop-block.block-index c.loop-block.invariant
    (last_of_read plan c.blocks-block-items.result.now c.ops.result.now c.loop-block.block-index _ c.blocks-block-items.ensures.value c.ops.ensures.value c.loop-block-test.true
    c.if-not-has_last.ensures)
