-- How the ending of a thin script is one of a script.
use Rattle.mit_ops.specs.Endings.{Ending, finished, stopped}
use Rattle.mit_engine.specs.Thin as thin

-- how a thin script ends, as the interpreter of all scripts says it: no decision is taken
abbrev pub all_of_thin : thin.ThinEnding → Ending
all_of_thin (thin.Finished writes) = finished writes 0
all_of_thin (thin.Faulted statement kind) = stopped (record { statement = statement; decisions = 0; kind = kind })
