use Rattle.std.proofs.Common.{◌≡◌, ◌∙◌, ◌++◌, ◌∷◌, [], ap, get_or, map, refl, subst, sym}
use Rattle.std.specs.FinMap as fin
use Rattle.mit_files.specs.Printed.{bag_text}
use Rattle.mit_ops.specs.Operators.{name_written}
use Rattle.mit_script.specs.Execution.{after_write, evaluated}
use Rattle.mit_step.specs.Running.{Faults}
use Rattle.mit_step.specs.Typing.{stored_bag}
use Rattle.mit_step.proofs.Asking.{asks_none}
use Rattle.mit_step.proofs.Steps.{stop_given, write_stands, written_given}
use Rattle.mit_step.proofs.run.write.Goals as goal

pub returns-in-Err-clause-answer : goal.returns-in-Err-clause-answer
returns-in-Err-clause-answer g c = λ files state agrees stands.
    subst (Faults (evaluated files c.args.number c.args.op.now c.args.args.now state (after_write state (name_written c.args.op.now (map state.store c.args.args.now))))) (sym c.stop.ensures)
    (stop_given files c.args.number c.args.op.now c.args.args.now (after_write state (name_written c.args.op.now (map state.store c.args.args.now))) c.in-Err.stop stands (c.in-Err.ensures.bag files))

pub returns-clause-answer : goal.returns-clause-answer
returns-clause-answer g c = λ files state agrees stands.
    let bag = stored_bag c.args.run.now.store (get_or c.args.args.now 0 0) in
    let text : c.in_ok-text.text.items ≡ bag_text bag = c.in_ok-text.ensures ∙ ap bag_text (c.in_ok-bag.ensures ∙ (c.deref.ensures ∙ c.get.ensures)) in
    let put : c.put_owned.new.self ≡ fin.insert c.args.run.now.files c.in-Ok.name c.in_ok-text.text.items =
    c.in_ok-put_owned.ensures.ok ∙ ap (λ name. fin.insert c.args.run.now.files name c.in_ok-text.text.items) c.as_str.ensures.value in (
      record state { writes = state.writes ++ record { name = c.in-Ok.name; bag = bag } ∷ [] },
      write_stands c.in-Ok.name bag c.in_ok-text.text.items c.put_owned.new.self stands text put,
      written_given files c.args.number c.args.op.now c.args.args.now bag c.in-Ok.name stands (c.in-Ok.ensures.bag files) c.in-Ok.ensures.named,
    )

pub name_of-requires-clause-argued : goal.name_of-requires-clause-argued
name_of-requires-clause-argued g c = c.requires.argued

pub returns-in-Err-clause-store : goal.returns-in-Err-clause-store
returns-in-Err-clause-store g c = refl

pub returns-in-Err-clause-kept : goal.returns-in-Err-clause-kept
returns-in-Err-clause-kept g c = refl

pub returns-in-Err-clause-asks : goal.returns-in-Err-clause-asks
returns-in-Err-clause-asks g c = asks_none _ _ _

pub returns-in_err-bag-clause-store : goal.returns-in_err-bag-clause-store
returns-in_err-bag-clause-store g c = refl

pub returns-in_err-bag-clause-kept : goal.returns-in_err-bag-clause-kept
returns-in_err-bag-clause-kept g c = refl

pub returns-in_err-bag-clause-asks : goal.returns-in_err-bag-clause-asks
returns-in_err-bag-clause-asks g c = asks_none _ _ _

pub returns-in_err-text-clause-store : goal.returns-in_err-text-clause-store
returns-in_err-text-clause-store g c = refl

pub returns-in_err-text-clause-kept : goal.returns-in_err-text-clause-kept
returns-in_err-text-clause-kept g c = refl

pub returns-in_err-text-clause-asks : goal.returns-in_err-text-clause-asks
returns-in_err-text-clause-asks g c = asks_none _ _ _

pub returns-in_err-put_owned-clause-store : goal.returns-in_err-put_owned-clause-store
returns-in_err-put_owned-clause-store g c = refl

pub returns-in_err-put_owned-clause-kept : goal.returns-in_err-put_owned-clause-kept
returns-in_err-put_owned-clause-kept g c = refl

pub returns-in_err-put_owned-clause-asks : goal.returns-in_err-put_owned-clause-asks
returns-in_err-put_owned-clause-asks g c = asks_none _ _ _

pub returns-clause-store : goal.returns-clause-store
returns-clause-store g c = refl

pub returns-clause-kept : goal.returns-clause-kept
returns-clause-kept g c = refl

pub returns-clause-asks : goal.returns-clause-asks
returns-clause-asks g c = asks_none _ _ _
