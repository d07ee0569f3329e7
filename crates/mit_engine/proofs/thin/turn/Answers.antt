use Rattle.std.proofs.Common.{◌≡◌, ◌∙◌, ◌<◌, Some, ap, arith, length, rules, sym, vec_len}
use Rattle.std.specs.Prelude.{slice_get}
use Rattle.std.proofs.lemmas.Option.{slice_get_read}
use Rattle.mit_engine.specs.Running.{offer_of}
use Rattle.mit_engine.proofs.OfferLemmas.{offered_enabled, something_offered}
use Rattle.mit_engine.proofs.JobRuns.{grows_one, within}
use Rattle.mit_engine.proofs.thin.turn.Goals as goal

pub pick-requires : goal.pick-requires
pick-requires g c =
    let some : 0 < length (offer_of c.args.job.now) = something_offered c.requires.formed c.requires.stands c.requires.running in
    let sized : length c.in_ok-offer.offer.items ≡ vec_len c.in_ok-offer.offer = search rules in
    omega (arith, some, sized, c.len.ensures, ap length c.in_ok-offer.ensures)

pub act-requires-clause-enabled : goal.act-requires-clause-enabled
act-requires-clause-enabled g c =
    let sized : length c.in_ok-offer.offer.items ≡ vec_len c.in_ok-offer.offer = search rules in
    let at : slice_get c.in_ok-offer.offer.items c.in_ok-chosen.chosen ≡ Some c.index.result.now =
    slice_get_read c.in_ok-offer.offer.items c.len.result c.in_ok-chosen.chosen c.index.result.now (c.len.ensures ∙ sym sized) c.in_ok-chosen.ensures.below c.index.ensures in
    offered_enabled c.args.job.now c.in_ok-chosen.chosen c.index.result.now (ap (λ offer. slice_get offer c.in_ok-chosen.chosen) (sym c.in_ok-offer.ensures) ∙ at)

pub returns-clause-bounded : goal.returns-clause-bounded
returns-clause-bounded g c =
    within 1 1 (g.S.Schedule.log c.args.schedule.now) (g.S.Schedule.log c.pick.new.self)
    (grows_one (g.S.Schedule.log c.args.schedule.now) (g.S.Schedule.log c.pick.new.self) (record { offered = c.len.result; chosen = c.in_ok-chosen.chosen })
    c.in_ok-chosen.ensures.logged c.in_ok-chosen.ensures.below) (omega arith)
