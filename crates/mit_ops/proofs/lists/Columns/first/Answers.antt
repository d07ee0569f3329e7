use Rattle.std.proofs.Common.{Ok, refl, arith}
use Rattle.std.specs.Prelude.{⊤}
use Rattle.std.proofs.lemmas.Iterator.{YieldsList-from_range, items_from_collect}
use Rattle.mit_ops.proofs.lists.Columns.first.Goals as goal

pub returns : goal.returns
returns c = items_from_collect {E = ⊤} (Ok c.in_ok-collect.field-0) c.in_ok-collect.ensures.ran (YieldsList-from_range 0 c.args.count c.args.count refl (omega arith))
