use Rattle.mit_view.proofs.Grown.{keeps_none}
use Rattle.mit_view.proofs.view.View.new.Goals as goal

pub invariant_of-result : goal.invariant_of-result
invariant_of-result c = rw c.new-2.ensures.items (keeps_none c.loop.places.items c.loop.invariant.empty)
