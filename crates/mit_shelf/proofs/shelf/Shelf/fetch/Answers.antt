use Rattle.std.proofs.Common.{None, subst, ◌≡◌, List, ℕ, Option, true, false}
use Rattle.std.specs.Prelude.{IsSome}
use Rattle.mit_shelf.specs.Shelf.{kept}
use Rattle.mit_shelf.proofs.ShelfLemmas.{absent_again, fetch_agrees, fetch_grows, found_again, kept_from}
use Rattle.mit_shelf.proofs.shelf.Shelf.fetch.Goals as goal

pub ask-requires-clause-absent : goal.ask-requires-clause-absent
ask-requires-clause-absent g c = kept_from c.args.self.now c.args.name.now c.self.inside.files.entries None c.self.view_is c.in-None.ensures.value

pub returns-in-Some-default-default-Some-clause-fetched : goal.returns-in-Some-default-default-Some-clause-fetched
returns-in-Some-default-default-Some-clause-fetched g c =
    found_again c.args.self.now c.args.name.now (g.F.Folder.files c.args.folder.now) c.self.inside.files.entries
    c.in-Some-default-default-Some.place c.in-Some-default-default-Some.field-0-1.now c.in-Some-default-default-Some.field-0-2.now
    c.in-Some-default-default-Some.field-0-2-0
    c.self.view_is c.in-Some-default-default-Some.field-0-2-is c.in-Some-default-default-Some.ensures.value c.in-Some-default-default-Some.ensures.key
    c.in-Some-default-default-Some.ensures.entry

pub returns-in-Some-default-default-None-clause-fetched : goal.returns-in-Some-default-default-None-clause-fetched
returns-in-Some-default-default-None-clause-fetched g c =
    absent_again c.args.self.now c.args.name.now (g.F.Folder.files c.args.folder.now) c.self.inside.files.entries
    c.in-Some-default-default-None.field-0-2.now
    c.self.view_is c.in-Some-default-default-None.field-0-2-is c.in-Some-default-default-None.ensures.value

pub returns-in-None-clause-asks_once : goal.returns-in-None-clause-asks_once
returns-in-None-clause-asks_once g c =
    let none : kept c.args.self.now c.args.name.now ≡ None =
    kept_from c.args.self.now c.args.name.now c.self.inside.files.entries None c.self.view_is c.in-None.ensures.value in
    λ some. let no : false ≡ true = subst (λ (o : Option (Option (List ℕ))). IsSome o) none some in cc

pub returns-in-None-clause-grows : goal.returns-in-None-clause-grows
returns-in-None-clause-grows g c =
    fetch_grows c.args.self.now c.ask.new.self c.args.name.now (g.F.Folder.files c.args.folder.now) c.ask.result c.ask.ensures.fetched

pub returns-in-None-clause-agrees : goal.returns-in-None-clause-agrees
returns-in-None-clause-agrees g c =
    fetch_agrees c.args.self.now c.ask.new.self c.args.name.now (g.F.Folder.files c.args.folder.now) c.ask.result c.ask.ensures.fetched
