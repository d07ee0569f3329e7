use Rattle.std.proofs.Common.{◌≡◌, ◌∙◌, [], ap, rules}
use Rattle.mit_rows.specs.Bags.{bag_of}
use Rattle.mit_step.proofs.Stores.{one_more}
use Rattle.mit_step.proofs.store.Store.new.Goals as goal

pub loop-preserved : goal.loop-preserved
unfolding bag_of
loop-preserved c =
    let empty : c.in_ok-empty.empty.value ≡ [] = c.in_ok-empty.ensures ∙ (c.from_rows.ensures ∙ ap bag_of c.new.ensures.items) in
    let same : c.in_ok-clone.field-0.value ≡ c.in_ok-empty.empty.value = c.in_ok-clone.ensures.cases in
    one_more (λ bag. bag.value) c.loop.bags.items c.push.new.self.items c.in_ok-clone.field-0 c.loop.counter c.loop.invariant (search rules) (same ∙ empty)
