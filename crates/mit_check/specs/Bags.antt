-- Devices of the proofs: nobody has to believe them. Where the arguments of each operator are at least its bags.
use Rattle.std.specs.Prelude.{◌≤◌, length, All}
use Rattle.mit_ops.specs.Kinds.{bag_inputs_of}
use Rattle.mit_script.specs.Trees.{Head, assigns, writes, decides, heads_in}
use Rattle.mit_script.specs.declared.tree.Stmt.{Stmt}

-- as many arguments as bags, or more
abbrev pub HasBags : Head → Type 0
HasBags (assigns target operator args) = bag_inputs_of operator ≤ length args
HasBags (writes operator args) = bag_inputs_of operator ≤ length args
HasBags (decides operator args) = bag_inputs_of operator ≤ length args

-- the same of a statement and of those inside it
abbrev pub HaveBags : Stmt → Type 0
HaveBags statement = All HasBags (heads_in statement)
