use Rattle.std.proofs.Common.{◌≡◌, Err, rules, sym, subst}
use Rattle.mit_script.specs.Execution.{assigned, evaluated, goes_on, put}
use Rattle.mit_step.specs.Running.{LeavesRun}
use Rattle.mit_step.proofs.Steps.{put_stands}
use Rattle.mit_step.proofs.run.assign.Goals as goal

pub returns-in_err-bag-clause-answer : goal.returns-in_err-bag-clause-answer
returns-in_err-bag-clause-answer g c = λ files state agrees stands.
    let is : c.from_residual.result ≡ Err c.in_err-bag.field-0.0 = search rules in
    subst (LeavesRun (evaluated files c.args.number c.args.op.now c.args.args.now state (assigned c.args.target state)) (λ _. goes_on) c.args.run.now) (sym is)
    (c.in_err-bag.ensures.answer files state (assigned c.args.target state) agrees stands)

pub returns-clause-answer : goal.returns-clause-answer
returns-clause-answer g c = λ files state agrees stands. (
  record state { store = put state.store c.args.target c.in_ok-bag.bag.value },
  put_stands c.args.target c.in_ok-bag.bag.value c.put.new.self stands c.requires.there c.put.ensures,
  c.in_ok-bag.ensures.answer files state (assigned c.args.target state) agrees stands,
)
