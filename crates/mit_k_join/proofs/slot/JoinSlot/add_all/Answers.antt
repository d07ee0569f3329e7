use Rattle.std.proofs.Common.{◌∙◌, sym}
use Rattle.mit_k_join.proofs.Parts.{join_part}
use Rattle.mit_k_join.proofs.slot.JoinSlot.add_all.Goals as goal

pub returns-clause-ok : goal.returns-clause-ok
returns-clause-ok c =
    join_part c.index_law.ensures.whole c.add_joined.result c.self.inside.fed c.args.self.now c.join_keys.result.0.now c.join_keys.result.1.now
    c.list-lefts.result.now c.list-rights.result.now c.args.out.now.items c.add_joined.new.out.items
    c.self.view_is (sym c.spec.ensures.value ∙ c.join_keys.ensures) c.self.invariant.two c.list-lefts.ensures c.list-rights.ensures c.add_joined.ensures.ok
