use Rattle.std.proofs.Common.{ℕ, List, [], ◌∷◌, inl, refl, rules}
use Rattle.mit_files.specs.Names.{IsLegal}
use Rattle.mit_engine.specs.Thin.{FormedFrom}
use Rattle.mit_engine.specs.declared.thin.ThinStep.TheVariants as step
use Rattle.mit_tests_parts.proofs.engine.reading_files.Goals as goal

-- each file is read into a variable of its own
formed : (first second third : List ℕ) → IsLegal first → IsLegal second → IsLegal third
    → FormedFrom [] (step.Read 0 first 1 ∷ step.Read 1 second 1 ∷ step.Read 2 third 1 ∷ [])
unfolding FormedFrom
formed first second third one two three = (one, search rules, search rules, inl refl, (two, search rules, search rules, inl refl, (three, search rules, search rules, inl refl, tt)))

pub returns : goal.returns
returns c =
    rw c.from_steps.ensures (rw c.in_ok-vec.ensures.items (search rules, formed _ _ _ c.requires.first c.requires.second c.requires.third))
