use Rattle.std.proofs.Common.{◌∙◌, List, arith, refl, subst, sym}
use Rattle.mit_world.specs.Outside.{Rose}
use Rattle.mit_engine.specs.Thin.{IsFormedThin, action_count}
use Rattle.mit_engine.specs.declared.thin.ThinStep.{ThinStep}
use Rattle.mit_engine.proofs.JobRuns.{agrees_first, agrees_more, complete_answers, ended_within, fault_answers, grows_more, grows_none, logged_none, run_fault, run_goes, run_starts, run_within, stopped_within}
use Rattle.mit_engine.proofs.thin.run_thin.Goals as goal

pub turns-init : goal.turns-init
turns-init g c = record {
  ran = run_starts c.steps-steps.result.now c.args.script.now c.args.shelf.now c.in-Ok.job c.steps-steps.ensures c.requires c.in-Ok.ensures;
  grows = λ files agrees. agrees;
  agrees = agrees_first (g.F.Folder.files c.args.folder.now) c.args.shelf.now;
  told = refl;
  count = omega arith;
  picked = grows_none (g.S.Schedule.log c.args.schedule.now) (g.S.Schedule.log c.args.schedule.now) refl;
}

pub turns-preserved : goal.turns-preserved
turns-preserved g c = record {
  ran = run_goes c.turns.invariant.ran (sym c.in-Running.ensures) c.in-Ok-turn.ensures.goes;
  grows = λ files agrees. c.turns.invariant.grows files (c.turn.ensures.grows files agrees);
  agrees = agrees_more (g.F.Folder.files c.args.folder.now) (g.F.Folder.files c.turns.folder) c.args.shelf.now c.turns.shelf c.turn.new.shelf
      c.turns.invariant.told c.turns.invariant.agrees c.turn.ensures.agrees;
  told = c.turn.ensures.told ∙ c.turns.invariant.told;
  count = omega (arith, c.turn.ensures.count, c.turns.invariant.count);
  picked = grows_more c.turns.actions 1 (g.S.Schedule.log c.args.schedule.now) (g.S.Schedule.log c.turns.schedule) (g.S.Schedule.log c.turn.new.schedule)
      c.turns.invariant.picked c.in-Ok-turn.ensures.picked;
}

pub overflow_add-actions : goal.overflow_add-actions
overflow_add-actions g c = omega (arith, (run_within c.turns.invariant.ran (sym c.in-Running.ensures)).1)

pub returns-in-Err-Failed-clause-agrees : goal.returns-in-Err-Failed-clause-agrees
returns-in-Err-Failed-clause-agrees g c =
    agrees_more (g.F.Folder.files c.args.folder.now) (g.F.Folder.files c.turns.folder) c.args.shelf.now c.turns.shelf c.turn.new.shelf
    c.turns.invariant.told c.turns.invariant.agrees c.turn.ensures.agrees

pub returns-in-Err-Failed-clause-bounded : goal.returns-in-Err-Failed-clause-bounded
returns-in-Err-Failed-clause-bounded g c =
    stopped_within c.args.script.now (g.S.Schedule.log c.args.schedule.now) (g.S.Schedule.log c.turns.schedule) (g.S.Schedule.log c.turn.new.schedule)
    c.steps-steps.ensures c.turns.invariant.ran (sym c.in-Running.ensures) c.turns.invariant.picked c.turn.ensures.bounded

pub returns-in-Err-NoMemory-clause-agrees : goal.returns-in-Err-NoMemory-clause-agrees
returns-in-Err-NoMemory-clause-agrees g c =
    agrees_more (g.F.Folder.files c.args.folder.now) (g.F.Folder.files c.turns.folder) c.args.shelf.now c.turns.shelf c.turn.new.shelf
    c.turns.invariant.told c.turns.invariant.agrees c.turn.ensures.agrees

pub returns-in-Err-NoMemory-clause-bounded : goal.returns-in-Err-NoMemory-clause-bounded
returns-in-Err-NoMemory-clause-bounded g c =
    stopped_within c.args.script.now (g.S.Schedule.log c.args.schedule.now) (g.S.Schedule.log c.turns.schedule) (g.S.Schedule.log c.turn.new.schedule)
    c.steps-steps.ensures c.turns.invariant.ran (sym c.in-Running.ensures) c.turns.invariant.picked c.turn.ensures.bounded

pub returns-in-Complete-clause-answer : goal.returns-in-Complete-clause-answer
returns-in-Complete-clause-answer g c =
    complete_answers c.args.script.now c.in-Ok-files.files c.steps-steps.ensures c.turns.invariant.ran (sym c.in-Complete.ensures) c.in-Ok-files.ensures

pub overflow_cast-result : goal.overflow_cast-result
overflow_cast-result g c = omega (arith, run_fault c.turns.invariant.ran (sym c.in-Fault.ensures))

pub overflow_add-result : goal.overflow_add-result
overflow_add-result g c = omega (arith, run_fault c.turns.invariant.ran (sym c.in-Fault.ensures))

pub returns-in-Fault-clause-answer : goal.returns-in-Fault-clause-answer
returns-in-Fault-clause-answer g c = fault_answers c.args.script.now c.steps-steps.ensures c.turns.invariant.ran (sym c.in-Fault.ensures)

pub of-requires : goal.of-requires
of-requires g c = let P : List ThinStep → Type 0 = IsFormedThin in subst P (sym c.steps-steps.ensures) c.requires

pub turn-requires-clause-formed : goal.turn-requires-clause-formed
turn-requires-clause-formed g c = c.turns.invariant.ran.formed

pub turn-requires-clause-stands : goal.turn-requires-clause-stands
turn-requires-clause-stands g c = c.turns.invariant.ran.stands

pub turn-requires-clause-running : goal.turn-requires-clause-running
turn-requires-clause-running g c = sym c.in-Running.ensures

pub files-requires : goal.files-requires
files-requires g c = c.turns.invariant.ran.stands.holds.sized

pub turns-smaller : goal.turns-smaller
turns-smaller g c = omega (arith, c.in-Ok-turn.ensures.goes.counted)

pub returns-in_default-clause-answer : goal.returns-in_default-clause-answer
returns-in_default-clause-answer g c = λ files agrees. tt

pub returns-in_default-clause-grows : goal.returns-in_default-clause-grows
returns-in_default-clause-grows g c = λ files agrees. agrees

pub returns-in_default-clause-agrees : goal.returns-in_default-clause-agrees
returns-in_default-clause-agrees g c = agrees_first (g.F.Folder.files c.args.folder.now) c.args.shelf.now

pub returns-in_default-clause-bounded : goal.returns-in_default-clause-bounded
returns-in_default-clause-bounded g c = logged_none (action_count c.args.script.now) (g.S.Schedule.log c.args.schedule.now)

pub returns-in_default-clause-told : goal.returns-in_default-clause-told
returns-in_default-clause-told g c = refl

pub returns-in-Err-Failed-clause-answer : goal.returns-in-Err-Failed-clause-answer
returns-in-Err-Failed-clause-answer g c = λ files agrees. tt

pub returns-in-Err-Failed-clause-grows : goal.returns-in-Err-Failed-clause-grows
returns-in-Err-Failed-clause-grows g c = λ files agrees. c.turns.invariant.grows files (c.turn.ensures.grows files agrees)

pub returns-in-Err-Failed-clause-failed : goal.returns-in-Err-Failed-clause-failed
returns-in-Err-Failed-clause-failed g c = let rose : Rose (g.F.Folder.faults c.turns.folder) (g.F.Folder.faults c.turn.new.folder) = rw c.in-Err-Failed.field-0-is at c.in-Err-Failed.ensures.failed in omega (arith, rose, c.turns.invariant.count)

pub returns-in-Err-Failed-clause-told : goal.returns-in-Err-Failed-clause-told
returns-in-Err-Failed-clause-told g c = c.turn.ensures.told ∙ c.turns.invariant.told

pub returns-in-Err-Failed-clause-count : goal.returns-in-Err-Failed-clause-count
returns-in-Err-Failed-clause-count g c = omega (arith, c.turn.ensures.count, c.turns.invariant.count)

pub returns-in-Err-NoMemory-clause-answer : goal.returns-in-Err-NoMemory-clause-answer
returns-in-Err-NoMemory-clause-answer g c = λ files agrees. tt

pub returns-in-Err-NoMemory-clause-grows : goal.returns-in-Err-NoMemory-clause-grows
returns-in-Err-NoMemory-clause-grows g c = λ files agrees. c.turns.invariant.grows files (c.turn.ensures.grows files agrees)

pub returns-in-Err-NoMemory-clause-told : goal.returns-in-Err-NoMemory-clause-told
returns-in-Err-NoMemory-clause-told g c = c.turn.ensures.told ∙ c.turns.invariant.told

pub returns-in-Err-NoMemory-clause-count : goal.returns-in-Err-NoMemory-clause-count
returns-in-Err-NoMemory-clause-count g c = omega (arith, c.turn.ensures.count, c.turns.invariant.count)

pub returns-in_default-files-clause-answer : goal.returns-in_default-files-clause-answer
returns-in_default-files-clause-answer g c = λ files agrees. tt

pub returns-in_default-files-clause-grows : goal.returns-in_default-files-clause-grows
returns-in_default-files-clause-grows g c = c.turns.invariant.grows

pub returns-in_default-files-clause-agrees : goal.returns-in_default-files-clause-agrees
returns-in_default-files-clause-agrees g c = c.turns.invariant.agrees

pub returns-in_default-files-clause-bounded : goal.returns-in_default-files-clause-bounded
returns-in_default-files-clause-bounded g c = ended_within c.args.script.now (g.S.Schedule.log c.args.schedule.now) (g.S.Schedule.log c.turns.schedule) c.steps-steps.ensures c.turns.invariant.ran c.turns.invariant.picked

pub returns-in_default-files-clause-told : goal.returns-in_default-files-clause-told
returns-in_default-files-clause-told g c = c.turns.invariant.told

pub returns-in_default-files-clause-count : goal.returns-in_default-files-clause-count
returns-in_default-files-clause-count g c = c.turns.invariant.count

pub returns-in-Complete-clause-grows : goal.returns-in-Complete-clause-grows
returns-in-Complete-clause-grows g c = c.turns.invariant.grows

pub returns-in-Complete-clause-agrees : goal.returns-in-Complete-clause-agrees
returns-in-Complete-clause-agrees g c = c.turns.invariant.agrees

pub returns-in-Complete-clause-picked : goal.returns-in-Complete-clause-picked
returns-in-Complete-clause-picked g c = c.turns.invariant.picked

pub returns-in-Complete-clause-bounded : goal.returns-in-Complete-clause-bounded
returns-in-Complete-clause-bounded g c = ended_within c.args.script.now (g.S.Schedule.log c.args.schedule.now) (g.S.Schedule.log c.turns.schedule) c.steps-steps.ensures c.turns.invariant.ran c.turns.invariant.picked

pub returns-in-Complete-clause-told : goal.returns-in-Complete-clause-told
returns-in-Complete-clause-told g c = c.turns.invariant.told

pub returns-in-Complete-clause-count : goal.returns-in-Complete-clause-count
returns-in-Complete-clause-count g c = c.turns.invariant.count

pub returns-in-Fault-clause-grows : goal.returns-in-Fault-clause-grows
returns-in-Fault-clause-grows g c = c.turns.invariant.grows

pub returns-in-Fault-clause-agrees : goal.returns-in-Fault-clause-agrees
returns-in-Fault-clause-agrees g c = c.turns.invariant.agrees

pub returns-in-Fault-clause-bounded : goal.returns-in-Fault-clause-bounded
returns-in-Fault-clause-bounded g c = ended_within c.args.script.now (g.S.Schedule.log c.args.schedule.now) (g.S.Schedule.log c.turns.schedule) c.steps-steps.ensures c.turns.invariant.ran c.turns.invariant.picked

pub returns-in-Fault-clause-told : goal.returns-in-Fault-clause-told
returns-in-Fault-clause-told g c = c.turns.invariant.told

pub returns-in-Fault-clause-count : goal.returns-in-Fault-clause-count
returns-in-Fault-clause-count g c = c.turns.invariant.count
