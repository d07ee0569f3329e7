use Rattle.std.proofs.Common.{ap, arith}
use Rattle.mit_script.specs.Trees.{count_of_all}
use Rattle.mit_cut.proofs.Counted.{block_few}
use Rattle.mit_cut.proofs.cut.blocks.Goals as goal

pub add_all-requires-clause-few : goal.add_all-requires-clause-few
add_all-requires-clause-few c =
    let same = (block_few c.as_slice.result.now).same in
    let body = ap count_of_all c.as_slice.ensures in
    let short = c.script.ensures.formed.short in
    let start = c.new-start.ensures.number in
    omega (arith, same, body, short, start)
