use Rattle.mit_ssa.proofs.TypesOfScripts.{branches_kept, routes_kept, types_kept}
use Rattle.mit_ssa.proofs.laws.types_law.Goals as goal

pub returns-clause-branches : goal.returns-clause-branches
returns-clause-branches c = λ script types formed accepted. branches_kept script types accepted

pub returns-clause-types : goal.returns-clause-types
returns-clause-types c = λ script types formed accepted. types_kept script types accepted

pub returns-clause-routes : goal.returns-clause-routes
returns-clause-routes c = λ script types formed accepted. routes_kept script types accepted
