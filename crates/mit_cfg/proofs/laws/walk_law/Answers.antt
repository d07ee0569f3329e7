use Rattle.mit_script.specs.Execution.{start}
use Rattle.mit_cfg.proofs.Ends.{stays_over}
use Rattle.mit_cfg.proofs.Scripts.{walk_is_exec}
use Rattle.mit_cfg.specs.Walk.{before}
use Rattle.mit_cfg.proofs.laws.walk_law.Goals as goal

pub returns : goal.returns
returns c = record {
  exec = walk_is_exec;
  stays = λ blocks files decisions places more ending. stays_over blocks files (before 0 (start decisions)) ending places more;
}
