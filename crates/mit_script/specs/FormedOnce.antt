-- Devices of the proofs: nobody has to believe them. A statement is formed in at most one way.
use Rattle.std.specs.Prelude.{ℕ}
use denote.Struct.Props.{props}
use Rattle.mit_script.specs.Trees.{Head, IsFormedHead, assigns, decides, writes}

pub formed_once : (variables : ℕ) (head : Head) → IsProp (IsFormedHead variables head)
formed_once variables (assigns target operator args) = hlevel props
formed_once variables (writes operator args) = hlevel props
formed_once variables (decides operator args) = hlevel props
