use Rattle.std.proofs.Common.{length}
use Rattle.mit_plan_laws.proofs.Stops.{run_stays, run_stops}
use Rattle.mit_plan_laws.proofs.Upward.{jumps_end}
use Rattle.mit_plan_laws.proofs.laws.path_stops_law.Goals as goal

pub returns : goal.returns
returns c = record { stops = λ job some ends. run_stops job (length job.plan.blocks) (jumps_end job.plan some ends); stays = run_stays }
