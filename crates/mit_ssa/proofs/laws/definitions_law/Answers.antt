use Rattle.mit_ssa.proofs.DefinitionsOfScripts.{operands_kept, places_kept, upward_kept}
use Rattle.mit_ssa.proofs.laws.definitions_law.Goals as goal

pub returns-clause-operands : goal.returns-clause-operands
returns-clause-operands c = λ script types formed accepted. operands_kept script types accepted

pub returns-clause-upward : goal.returns-clause-upward
returns-clause-upward c = λ script types formed accepted. upward_kept script types accepted

pub returns-clause-places : goal.returns-clause-places
returns-clause-places c = λ script types formed accepted. places_kept script types accepted
