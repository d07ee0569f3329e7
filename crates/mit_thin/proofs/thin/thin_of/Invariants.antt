-- The steps so far, before those of the statements left, are the steps of all.
use Rattle.std.proofs.Common.{◌≡◌, ◌++◌, drop, option_map}
use Rattle.mit_thin.specs.ThinScript.{steps_of}
use Rattle.mit_thin.proofs.thin.thin_of.Given as goal

abbrev pub invariant-loop-statement : goal.invariant-loop-statement
invariant-loop-statement l = option_map (λ more. l.steps.items ++ more) (steps_of (drop l.statement-index l.body)) ≡ steps_of l.body
