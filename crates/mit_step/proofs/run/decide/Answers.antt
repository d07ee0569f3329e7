use Rattle.std.proofs.Common.{◌≡◌, ◌∙◌, ◌+◌, Err, ap, refl, rules, sym, subst}
use Rattle.mit_ops.specs.Endings.{truth_in}
use Rattle.mit_script.specs.Execution.{by_condition, taken}
use Rattle.mit_step.specs.Running.{LeavesRun}
use Rattle.mit_step.proofs.Asking.{no_answer, stopped_as}
use Rattle.mit_step.proofs.Steps.{taken_of}
use Rattle.mit_step.proofs.run.decide.Goals as goal

pub returns-in_err-bag-clause-answer : goal.returns-in_err-bag-clause-answer
returns-in_err-bag-clause-answer g c = λ files state next agrees stands.
    let is : c.from_residual.result ≡ Err c.in_err-bag.field-0.0 = search rules in
    subst (LeavesRun (by_condition files c.args.number c.args.op.now c.args.args.now state next) next c.args.run.now) (sym is)
    (c.in_err-bag.ensures.answer files state (λ bag. taken c.args.number state state.left (next (truth_in bag))) agrees stands)

pub returns-clause-answer : goal.returns-clause-answer
returns-clause-answer g c = λ files state next agrees stands.
    let was = c.take.ensures.some c.if-not-take.false in (
      record state { used = state.used + 1; left = c.take.new.self.left },
      record { store = stands.store; files = stands.files; used = ap (λ n. n + 1) stands.used ∙ sym was.1; left = refl },
      c.in_ok-bag.ensures.answer files state (λ bag. taken c.args.number state state.left (next (truth_in bag))) agrees stands
          ∙ (taken_of c.args.number state c.take.new.self.left (next (truth_in c.in_ok-bag.bag.value)) (stands.left ∙ was.0)
          ∙ ap (λ truth. next truth (record state { used = state.used + 1; left = c.take.new.self.left })) (sym (c.truth_of.ensures ∙ ap truth_in c.deref.ensures))),
    )

pub bag_of-requires-clause-other : goal.bag_of-requires-clause-other
bag_of-requires-clause-other g c = c.requires.other

pub bag_of-requires-clause-argued : goal.bag_of-requires-clause-argued
bag_of-requires-clause-argued g c = c.requires.argued

pub returns-in_err-bag-clause-store : goal.returns-in_err-bag-clause-store
returns-in_err-bag-clause-store g c = refl

pub returns-in_err-bag-clause-taken : goal.returns-in_err-bag-clause-taken
returns-in_err-bag-clause-taken g c =
    let is : c.from_residual.result ≡ Err c.in_err-bag.field-0.0 = search rules in
    no_answer c.from_residual.result c.in_err-bag.field-0.0 _ is

pub returns-in_err-bag-clause-asks : goal.returns-in_err-bag-clause-asks
returns-in_err-bag-clause-asks g c = c.bag_of.ensures.asks

pub returns-in_err-bag-clause-failed : goal.returns-in_err-bag-clause-failed
returns-in_err-bag-clause-failed g c =
    let is : c.from_residual.result ≡ Err c.in_err-bag.field-0.0 = search rules in
    stopped_as c.from_residual.result c.in_err-bag.field-0.0 _ is c.in_err-bag.ensures.failed

pub returns-then-not-take-clause-asks : goal.returns-then-not-take-clause-asks
returns-then-not-take-clause-asks g c = c.bag_of.ensures.asks

pub returns-clause-asks : goal.returns-clause-asks
returns-clause-asks g c = c.bag_of.ensures.asks
