use Rattle.mit_check.proofs.Bagged.{script_bags}
use Rattle.mit_check.proofs.blocks.check.Goals as goal

pub types_of-requires-clause-complete : goal.types_of-requires-clause-complete
types_of-requires-clause-complete c = rw c.as_slice-2.ensures (script_bags c.args.script c.requires)
