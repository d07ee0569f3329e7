use Rattle.std.proofs.Common.{None}
use Rattle.mit_k_rows.proofs.Slots.{slots_updated}
use Rattle.mit_k_rows.proofs.RowsKernelKernel.close.Goals as goal

pub returns : goal.returns
returns c = λ i. record { kind = c.args.self.now.kind.number; fed = c.args.self.now.fed; slots = λ other. slots_updated c.args.self.now.slots c.remove.new.self c.args.slot None c.remove.ensures.updates other i }
