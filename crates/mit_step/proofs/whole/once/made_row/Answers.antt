use Rattle.std.proofs.Common.{[]}
use Rattle.mit_ops.specs.EachRow.{row_of_exprs}
use Rattle.mit_step.proofs.whole.once.made_row.Goals as goal

pub returns : goal.returns
returns c =
    c.stopped.ensures (row_of_exprs c.args.captures.now c.args.exprs.now [])
    (rw c.empty-nothing.ensures at c.in-Err.ensures.err)
