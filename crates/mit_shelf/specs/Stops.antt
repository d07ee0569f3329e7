-- The cause of a stop.
use Rattle.std.specs.Prelude.{⊤}
use Rattle.mit_shelf.specs.declared.stop.Stop.{Stop}
use Rattle.mit_shelf.specs.declared.stop.Stop.TheVariants.{Fault, Folder, NoMemory}

-- a fact that comes with a folder that failed
abbrev pub IfFolder : {T : Type 0} → Stop T → Type 0 → Type 0
IfFolder (Fault fault) fact = ⊤
IfFolder Folder fact = fact
IfFolder NoMemory fact = ⊤
