use Rattle.std.proofs.Common.{◌≡◌, ℕ, ◌<◌, slice_index_or}
use Rattle.std.specs.Prelude.{slice_index}
use Rattle.mit_plan.specs.Plans.{no_edge}
use Rattle.mit_valid.proofs.inputs.are_inputs.Given as goal

abbrev pub invariant-loop-input : goal.invariant-loop-input
invariant-loop-input l = (input : ℕ) → input < l.input → (slice_index_or l.edges (slice_index l.numbers input) no_edge).input ≡ input
