use Rattle.std.proofs.Common.{◌≤◌, drop, length, map}
use Rattle.mit_staged.specs.StoredPuts.{put_of}
use Rattle.mit_staged.proofs.PutOrder.{BeginsAbove}
use Rattle.mit_staged.proofs.staged.first_above.Given as goal

abbrev pub invariant-loop-at : goal.invariant-loop-at
invariant-loop-at l = record { within : l.at ≤ length l.puts; above : BeginsAbove (l.place, l.index) (map put_of (drop l.at l.puts)) }

abbrev pub decreases-loop-at : goal.decreases-loop-at
decreases-loop-at l = l.at
