use Rattle.std.proofs.Common.{◌≡◌, ◌∙◌, Err, Ok, ap, length, map, rules, subst, sym}
use Rattle.mit_script.specs.Execution.{ending_of, exec, exec_of, in_turn, start}
use Rattle.mit_script.specs.Trees.{IsFormed}
use Rattle.mit_script.specs.declared.tree.Script.{Script}
use Rattle.mit_step.specs.Stepping.{EndsAs}
use Rattle.mit_step.specs.Typing.{IsReady}
use Rattle.mit_step.proofs.Endings.{ends_at_fault, starts_ready}
use Rattle.mit_step.proofs.step.step_run.Goals as goal

pub run_all-requires-clause-ready : goal.run_all-requires-clause-ready
run_all-requires-clause-ready g c =
    let is = c.script-script.ensures.value in
    let sized : length c.in_ok-run.run'.store ≡ length c.args.typed.now.script.names = c.in_ok-run.ensures.count ∙ ap length (c.as_slice.ensures ∙ ap (λ (s : Script). s.names) is) in
    subst (λ body. IsReady body c.in_ok-run.run'.store) (sym (c.as_slice-2.ensures ∙ ap (λ (s : Script). s.body) is))
    (starts_ready c.args.typed.now.script c.types-types.result.now c.in_ok-run.run'.store (subst IsFormed is c.script-script.ensures.formed) c.types-types.ensures.accepted sized)

pub returns-in_err-run_all-clause-answer : goal.returns-in_err-run_all-clause-answer
returns-in_err-run_all-clause-answer g c =
    let is : c.from_residual-in_err-run_all.result ≡ Err c.in_err-run_all.field-0.0 = search rules in
    let body = c.as_slice-2.ensures ∙ ap (λ (s : Script). s.body) c.script-script.ensures.value in
    λ files agrees.
    subst (EndsAs (exec c.args.typed.now.script files c.args.decisions)) (sym is)
    (ends_at_fault (in_turn (map (exec_of files) c.args.typed.now.script.body) 1 (start c.args.decisions)) c.in_err-run_all.field-0.0
    (rw body at (c.in_err-run_all.ensures.answer files (start c.args.decisions) agrees c.in_ok-run.ensures.stands)))

pub returns-clause-answer : goal.returns-clause-answer
returns-clause-answer g c = λ files agrees.
    let body = c.as_slice-2.ensures ∙ ap (λ (s : Script). s.body) c.script-script.ensures.value in
    let there = rw body at (c.in_ok-run_all.ensures.answer files (start c.args.decisions) agrees c.in_ok-run.ensures.stands) in
    subst (λ ended. EndsAs (ending_of ended) (Ok (record { files = c.run_all.new.run.files; decisions = c.run_all.new.run.decisions.used }))) (sym there.2)
    (there.1.files, sym there.1.used)
