use Rattle.std.proofs.Common.{ℕ, List, [], ◌∷◌, inl, refl, rules}
use Rattle.mit_files.specs.Names.{IsLegal}
use Rattle.mit_engine.specs.Thin.{FormedFrom}
use Rattle.mit_engine.specs.declared.thin.ThinStep.TheVariants as step
use Rattle.mit_tests_parts.proofs.engine.doubling.Goals as goal

-- each variable is assigned before it is used
formed : (input output : List ℕ) → IsLegal input → IsLegal output
    → FormedFrom [] (step.Read 0 input 1 ∷ step.Union 1 0 0 ∷ step.Write 1 output ∷ [])
unfolding FormedFrom
formed input output from to = (from, search rules, search rules, inl refl, (1, refl, refl, inl refl, (to, search rules, tt)))

pub returns : goal.returns
returns c = rw c.from_steps.ensures (rw c.in_ok-vec.ensures.items (search rules, formed _ _ c.requires.input c.requires.output))
