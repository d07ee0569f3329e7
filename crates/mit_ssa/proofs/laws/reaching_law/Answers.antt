use Rattle.mit_cfg.specs.Blocks.{blocks_of}
use Rattle.mit_ssa.specs.Woven.{woven_blocks}
use Rattle.mit_ssa.proofs.ReachingNumbered.{reaches_of}
use Rattle.mit_ssa.proofs.ReachingOfScripts.{code_good}
use Rattle.mit_ssa.proofs.laws.reaching_law.Goals as goal

pub returns : goal.returns
returns c = λ script types formed accepted.
    let found = code_good script types formed accepted in
    (found.0, reaches_of found.0 (woven_blocks script types) (blocks_of script) found.1)
