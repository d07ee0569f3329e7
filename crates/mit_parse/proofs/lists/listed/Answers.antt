use Rattle.std.proofs.Common.{◌∙◌, sym}
use Rattle.std.proofs.lemmas.Result.{err_from_is_err_and}
use Rattle.mit_script.specs.Reading.{listed}
use Rattle.mit_parse.proofs.Loops.{listed_ends, listed_goes_on, listed_runs_out, listed_stops}
use Rattle.mit_parse.proofs.lists.listed.Goals as goal

pub returns-in_err-item : goal.returns-in_err-item
returns-in_err-item g c =
    let item = g.R.ItemReader.item c.args.reader.now in
    let p = err_from_is_err_and c.from_residual.result c.from_residual.ensures.1 in
    rw (p.1, p.2) (listed_stops c.in_err-item.field-0.0 item c.loop.items.items c.args.turns c.loop.counter c.loop.rest (listed item c.args.turns c.args.tokens) c.loop-test.true c.in_err-item.ensures c.loop.invariant)

pub returns-then-not-sees_symbol : goal.returns-then-not-sees_symbol
returns-then-not-sees_symbol g c =
    let item = g.R.ItemReader.item c.args.reader.now in
    rw c.in_ok-push.ensures.items (listed_ends item c.loop.items.items c.args.turns c.loop.counter c.loop.rest c.in_ok-item.item c.in_ok-item.after (listed item c.args.turns c.args.tokens) c.loop-test.true c.in_ok-item.ensures (sym c.sees_symbol.ensures ∙ c.if-not-sees_symbol.true) c.loop.invariant)

pub loop-preserved : goal.loop-preserved
loop-preserved g c =
    let item = g.R.ItemReader.item c.args.reader.now in
    rw (c.in_ok-push.ensures.items, c.after_next-rest.ensures) (listed_goes_on item c.loop.items.items c.args.turns c.loop.counter c.loop.rest c.in_ok-item.item c.in_ok-item.after (listed item c.args.turns c.args.tokens) c.loop-test.true c.in_ok-item.ensures (sym c.sees_symbol.ensures ∙ c.if-not-sees_symbol.false) c.loop.invariant)

pub returns : goal.returns
returns g c =
    let item = g.R.ItemReader.item c.args.reader.now in
    listed_runs_out item c.loop.items.items c.args.turns c.loop.counter c.loop.rest (listed item c.args.turns c.args.tokens) c.loop-test.false c.loop.invariant
