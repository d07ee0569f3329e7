use Rattle.std.proofs.Common.{◌∙◌, ap, sym, true}
use Rattle.std.specs.Option.{unwrap_or}
use Rattle.mit_k_join.specs.Slots.{left_keys}
use Rattle.mit_k_join.proofs.Indexing.{join_emptied, join_kept}
use Rattle.mit_k_join.proofs.slot.JoinSlot.renew.Goals as goal

pub invariant_of-self : goal.invariant_of-self
invariant_of-self c =
    join_emptied c.self.inside.fed c.renew.new.self c.self.inside.index c.new.result c.args.keep.now c.self.invariant
    (ap (λ flag. unwrap_or flag true) (sym c.first.ensures.value ∙ sym c.copied.ensures) ∙ sym c.unwrap_or-stays.ensures ∙ c.if-not-stays.true) c.renew.ensures (c.index_law.ensures.none (left_keys c.self.inside.fed.spec) c.new.result c.new.ensures)

pub invariant_of-self-else-not-stays : goal.invariant_of-self-else-not-stays
invariant_of-self-else-not-stays c =
    join_kept c.self.inside.fed c.renew.new.self c.self.inside.index c.args.keep.now c.self.invariant
    (ap (λ flag. unwrap_or flag true) (sym c.first.ensures.value ∙ sym c.copied.ensures) ∙ sym c.unwrap_or-stays.ensures ∙ c.if-not-stays.false) c.renew.ensures
