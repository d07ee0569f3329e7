-- Formed statements: what the first of them names is assigned, and the later ones are formed after it.
use Rattle.std.proofs.Common.{◌≡◌, ◌∙◌, ◌≤◌, ◌++◌, ℕ, List, [], ◌∷◌, length, inl, inr, refl, arith}
use Rattle.std.specs.Prelude.{Bool, true, false, if◌then◌else◌, nat_lt, slice_set}
use Rattle.std.proofs.lemmas.List.{length-append, length-set}
use Rattle.std.proofs.lemmas.Option.{slice_get_within}
use Rattle.mit_engine.specs.Operators.{FitsVariables, assigned_after}
use Rattle.mit_engine.specs.Thin.{FormedFrom, IsFormedThin, MayAssign, columns_after, item_put}
use Rattle.mit_engine.specs.declared.thin.ThinStep.{ThinStep}
use Rattle.mit_engine.specs.declared.thin.ThinStep.TheVariants as step

-- statements that are formed where these operators assigned the variables
pub record FormedAfter (assigned : List ℕ) (steps : List ThinStep) : Type 0 where
  pub columns : List ℕ
  pub sized : length assigned ≡ length columns
  pub formed : FormedFrom columns steps

pub formed_first : (steps : List ThinStep) → IsFormedThin steps → FormedAfter [] steps
formed_first steps formed = record { columns = []; sized = refl; formed = formed.1 }

target_within : (columns : List ℕ) (target count : ℕ) → MayAssign columns target count → target ≤ length columns
target_within columns target count (inl new) = omega arith
target_within columns target count (inr old) = omega (arith, slice_get_within columns target count old)

length-assign : (assigned columns : List ℕ) (target at count : ℕ) → length assigned ≡ length columns
    → length (item_put assigned target at) ≡ length (columns_after columns target count)
length-assign assigned columns target at count sized = rw sized (by_test (nat_lt target (length columns)))
  where
    by_test : (test : Bool) → length (if test then slice_set assigned target at else assigned ++ at ∷ []) ≡ length (if test then columns else columns ++ count ∷ [])
    by_test true = length-set assigned target at ∙ sized
    by_test false = omega (arith, length-append assigned (at ∷ []), length-append columns (count ∷ []))

-- what the first statement names is assigned, and the later ones are formed after it
pub record FormedNext (assigned : List ℕ) (at : ℕ) (first : ThinStep) (steps : List ThinStep) : Type 0 where
  pub fits : FitsVariables (length assigned) first
  pub later : FormedAfter (assigned_after assigned at first) steps

pub formed_next : (assigned : List ℕ) (at : ℕ) (first : ThinStep) (steps : List ThinStep) → FormedAfter assigned (first ∷ steps) → FormedNext assigned at first steps
unfolding FormedFrom
formed_next assigned at (step.Read target name count) steps now = record {
  fits = omega (arith, now.sized, target_within now.columns target count now.formed.3);
  later = record {
    columns = columns_after now.columns target count;
    sized = length-assign assigned now.columns target at count now.sized;
    formed = now.formed.4;
  };
}
formed_next assigned at (step.Union target left right) steps now = record {
  fits = (
    omega (arith, now.sized, target_within now.columns target now.formed.0 now.formed.3),
    omega (arith, now.sized, slice_get_within now.columns left now.formed.0 now.formed.1),
    omega (arith, now.sized, slice_get_within now.columns right now.formed.0 now.formed.2),
  );
  later = record {
    columns = columns_after now.columns target now.formed.0;
    sized = length-assign assigned now.columns target at now.formed.0 now.sized;
    formed = now.formed.4;
  };
}
formed_next assigned at (step.Write source name) steps now = record {
  fits = omega (arith, now.sized, now.formed.1);
  later = record { columns = now.columns; sized = now.sized; formed = now.formed.2 };
}
