use Rattle.std.proofs.Common.{map, take}
use Rattle.std.specs.List.{AllZip}
use Rattle.mit_ops.specs.Parts.{HaveColumns}
use Rattle.mit_ops.specs.Results.{AreBags}
use Rattle.mit_tests_kernels.proofs.given.bags_of.Given as goal

abbrev pub invariant-loop-rows : goal.invariant-loop-rows
invariant-loop-rows g l =
    AreBags l.bags.items × AllZip HaveColumns (map (λ bag. bag.cols) l.bags.items) (map (λ rows. rows.items) (take l.rows-index l.lists))
