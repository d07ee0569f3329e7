-- One empty list more.
use Rattle.std.proofs.Common.{ℕ, List, []}
use Rattle.std.proofs.lemmas.Grind.{replicate_next}
use Rattle.mit_plan.proofs.index.empty_lists.Goals as goal

pub loop-name-preserved : goal.loop-name-preserved
loop-name-preserved c =
    let next = replicate_next {X = List ℕ} c.loop-name._name [] in
    cc (c.in_ok-push.ensures.items)
