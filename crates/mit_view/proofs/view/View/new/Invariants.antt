use Rattle.std.proofs.Common.{◌≡◌, ◌<◌, ℕ, [], length, get_or}
use Rattle.mit_view.proofs.view.View.new.Given as goal

abbrev pub invariant-loop : goal.invariant-loop
invariant-loop l = record { count : length l.places.items ≡ l.counter; empty : (k : ℕ) → k < length l.places.items → get_or l.places.items k [] ≡ [] }
