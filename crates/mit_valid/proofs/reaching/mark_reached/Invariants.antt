use Rattle.std.proofs.Common.{◌≡◌, ◌+◌, [], length, count_by, not, true}
use Rattle.mit_valid.specs.Searched.{is_marked, landing_of}
use Rattle.mit_valid.proofs.Searches.{IsUnderWay}
use Rattle.mit_valid.proofs.reaching.mark_reached.Given as goal

abbrev pub invariant-loop-block : goal.invariant-loop-block
invariant-loop-block l = record {
  start : is_marked l.marks (landing_of l.landings 0) ≡ true;
  under_way : IsUnderWay l.plan l.landings l.fn.marks [] (record { marks = l.marks; waiting = l.waiting.items });
}

abbrev pub decreases-loop-block : goal.decreases-loop-block
decreases-loop-block l = count_by not l.marks + length l.waiting.items
