use Rattle.std.proofs.Common.{◌∙◌, List, ap, arith, map, refl, sym, ℕ}
use Rattle.std.specs.Prelude.{option_map}
use Rattle.std.specs.FinMap as fin
use Rattle.mit_shelf.specs.Staging.{stages_all}
use Rattle.mit_shelf.proofs.StagingLemmas.{afresh, all_here, all_more, goes_on, on_err, publishes_same, staged_none, stages_some, told}
use Rattle.mit_shelf.proofs.staging.stage_all.Goals as goal

pub loop-name-init : goal.loop-name-init
loop-name-init g c = record {
  all = sym (c.into_iter-name-iterator.ensures.into_iter_gives ∙ c.iter-name-items.ensures);
  staged = staged_none (g.O.Outbox.held c.args.outbox.now);
  published = refl;
  count = omega arith;
}

pub loop-name-preserved : goal.loop-name-preserved
loop-name-preserved g c = record {
  all = all_more (fin.entries c.args.files.now) c.loop-name.yielded c.in-Some.name c.in-Some.bytes c.loop-name.name-iterator c.next.new.self
      c.loop-name.invariant.all c.in-Some.ensures.steps;
  staged = goes_on c.loop-name.yielded c.in-Some.name c.in-Some.bytes (g.O.Outbox.held c.args.outbox.now) (g.O.Outbox.held c.loop-name.outbox)
      (g.O.Outbox.held c.stage.new.self) c.in_ok-stage.ensures.ok c.loop-name.invariant.staged;
  published = publishes_same c.in-Some.name.now c.in-Some.bytes.now (g.O.Outbox.held c.loop-name.outbox) (g.O.Outbox.held c.stage.new.self) c.in_ok-stage.ensures.ok
      ∙ c.loop-name.invariant.published;
  count = omega (arith, c.stage.ensures.count);
}

pub returns-clause-staged : goal.returns-clause-staged
returns-clause-staged g c =
    c.loop-name.invariant.staged
    ∙ ap (λ (those : List (List ℕ × List ℕ)). option_map (stages_all those) (g.O.Outbox.held c.args.outbox.now))
    (all_here (fin.entries c.args.files.now) (map told c.loop-name.yielded) c.loop-name.name-iterator c.loop-name.invariant.all c.in-None.ensures.steps.0)

pub returns-clause-afresh : goal.returns-clause-afresh
returns-clause-afresh g c = afresh c.args.files.now (g.O.Outbox.held c.args.outbox.now) (g.O.Outbox.held c.loop-name.outbox) (returns-clause-staged g c)

pub returns-in_err-stage-clause-stopped : goal.returns-in_err-stage-clause-stopped
returns-in_err-stage-clause-stopped g c =
    on_err c.from_residual.result
    (stages_some c.args.files.now c.loop-name.yielded c.in-Some.name c.in-Some.bytes c.loop-name.name-iterator c.next.new.self
    (g.O.Outbox.held c.args.outbox.now) (g.O.Outbox.held c.loop-name.outbox) (g.O.Outbox.held c.stage.new.self)
    c.loop-name.invariant.all c.in-Some.ensures.steps c.in_err-stage.ensures.err c.loop-name.invariant.staged)
