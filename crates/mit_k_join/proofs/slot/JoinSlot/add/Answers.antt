use Rattle.std.proofs.Common.{arith}
use Rattle.mit_k_join.proofs.Indexing.{join_other}
use Rattle.mit_k_join.proofs.slot.JoinSlot.add.Goals as goal

pub invariant_of-self : goal.invariant_of-self
invariant_of-self c =
    join_other c.add.result c.self.inside.fed c.add.new.self c.self.inside.index c.args.input c.args.row.now c.self.invariant (omega (arith, c.if-input-eq0.false)) c.add.ensures.ok c.add.ensures.err
