-- How scripts end, and the plans of scripts: and what a condition decides.
use Rattle.std.specs.Prelude.{ℕ, List, [], ◌∷◌, Bool, false}
use Rattle.mit_rows.specs.Bags.{BagOf}
use Rattle.mit_rows.specs.declared.value.Value.TheVariants.{Bool as Truth}
use Rattle.mit_files.specs.Printed.{Write}
use Rattle.mit_ops.specs.declared.faults.ScriptFault.{ScriptFault}

-- with the writes in order and the number of decisions, or with the first fault
pub data Ending : Type 0 where
  finished : List Write → ℕ → Ending
  stopped : ScriptFault → Ending

-- the truth value of a condition's one row
abbrev pub truth_in : BagOf → Bool
truth_in ((Truth truth ∷ []) ∷ []) = truth
truth_in _ = false
