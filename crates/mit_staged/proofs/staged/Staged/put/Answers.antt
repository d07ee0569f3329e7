use Rattle.mit_staged.specs.declared.staged.Put.{Put as Stored}
use Rattle.mit_staged.proofs.StagedLemmas.{rises_stored, same_put, with_stored}
use Rattle.mit_staged.proofs.staged.Staged.put.Goals as goal

pub returns-clause-ok : goal.returns-clause-ok
returns-clause-ok c =
    let item : Stored = record { place = c.args.place; index = c.args.index; name = c.in_ok-name.name; bag = c.in_ok-bag.bag } in
    with_stored c.args.self.now c.self.inside.puts.items c.deref.result.now c.insert.new.self.items c.first_above-above.result item
    ((c.args.place, c.args.index), (c.args.name.now, c.args.bag.now))
    c.self.view_is c.deref.ensures.value c.first_above-above.ensures
    (same_put (c.args.place, c.args.index) _ _ _ _ c.in_ok-name.ensures.ok c.in_ok-bag.ensures)
    c.in_ok-insert.ensures.items

pub invariant_of-self-2 : goal.invariant_of-self-2
invariant_of-self-2 c =
    let item : Stored = record { place = c.args.place; index = c.args.index; name = c.in_ok-name.name; bag = c.in_ok-bag.bag } in
    rises_stored c.args.self.now c.self.inside.puts.items c.insert.new.self.items ((c.args.place, c.args.index), (c.args.name.now, c.args.bag.now))
    c.self.invariant c.self.view_is
    (with_stored c.args.self.now c.self.inside.puts.items c.deref.result.now c.insert.new.self.items c.first_above-above.result item
    ((c.args.place, c.args.index), (c.args.name.now, c.args.bag.now))
    c.self.view_is c.deref.ensures.value c.first_above-above.ensures
    (same_put (c.args.place, c.args.index) _ _ _ _ c.in_ok-name.ensures.ok c.in_ok-bag.ensures)
    c.in_ok-insert.ensures.items)
