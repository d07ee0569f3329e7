use Rattle.std.proofs.Common.{◌≡◌, ◌++◌, flat_map, take, codes, slice_index_or}
use Rattle.mit_plan.specs.Plans.{no_edge}
use Rattle.mit_plan.specs.Printed.{edge_text}
use Rattle.mit_plan.proofs.print.add_more.Given as goal

abbrev pub invariant-loop-number : goal.invariant-loop-number
invariant-loop-number l =
    l.text.items ≡ l.initial.text.items
    ++ flat_map (λ number. codes ", " ++ edge_text (slice_index_or l.edges number no_edge)) (take l.number-index l.numbers)
