-- What an answer tells of a check.
use Rattle.std.specs.Prelude.{◌≡◌, ⊤, Result, Err}
use Rattle.mit_script.specs.Accepted.{Fault as Found}
use Rattle.mit_check.specs.declared.faults.CheckStop.{CheckStop}
use Rattle.mit_check.specs.declared.faults.CheckStop.TheVariants.{Fault, NoMemory}

-- a fault is the one that is found; out of memory says nothing
abbrev pub TellsFault : {A : Type 0} → Result A Found → CheckStop → Type 0
TellsFault due (Fault statement code) = due ≡ Err (statement, code)
TellsFault due NoMemory = ⊤
