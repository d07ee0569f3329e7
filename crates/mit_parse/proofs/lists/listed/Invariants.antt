use Rattle.std.proofs.Common.{◌≡◌, ◌-◌}
use Rattle.mit_script.specs.Reading.{listed, with_front}
use Rattle.mit_parse.proofs.lists.listed.Given as goal

abbrev pub invariant-loop : goal.invariant-loop
invariant-loop g l =
    let item = g.R.ItemReader.item l.reader in
    with_front l.items.items (listed item (l.turns - l.counter) l.rest) ≡ listed item l.turns l.fn.tokens
