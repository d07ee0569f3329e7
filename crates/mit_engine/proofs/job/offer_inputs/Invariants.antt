use Rattle.std.proofs.Common.{◌≡◌, ◌++◌, drop}
use Rattle.mit_engine.specs.Running.{edge_parts_from}
use Rattle.mit_engine.proofs.job.offer_inputs.Given as goal

-- the offer so far, with that of the edges that are left, is the whole
abbrev pub invariant-loop-input : goal.invariant-loop-input
invariant-loop-input l = l.offer.items ++ edge_parts_from l.at l.input (drop l.input l.edges) ≡ l.initial.offer.items ++ edge_parts_from l.at 0 l.edges
