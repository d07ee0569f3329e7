use Rattle.std.proofs.Common.{None}
use Rattle.mit_k_join.proofs.Closing.{slot_after}
use Rattle.mit_k_join.proofs.JoinKernelKernel.close.Goals as goal

pub returns : goal.returns
returns c = λ i. record {
  kind = 5;
  fed = c.args.self.now.fed;
  slots = λ other. slot_after c.args.self.now.slots c.remove.new.self c.args.slot None c.remove.ensures.updates other i;
}
