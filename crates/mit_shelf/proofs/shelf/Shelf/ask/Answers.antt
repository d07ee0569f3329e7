use Rattle.mit_shelf.proofs.NameFacts.{legal_utf8}
use Rattle.mit_shelf.proofs.ShelfLemmas.{absent_first, found_first}
use Rattle.mit_shelf.proofs.shelf.Shelf.ask.Goals as goal

pub unreachable-requires : goal.unreachable-requires
unreachable-requires g c = c.in_default.ensures.cases.0 (legal_utf8 c.args.name.now c.requires.legal)

pub returns-in-Ok-true-clause-fetched : goal.returns-in-Ok-true-clause-fetched
returns-in-Ok-true-clause-fetched g c =
    found_first c.args.self.now c.keep.new.self c.args.name.now c.in-Ok.text.now (g.F.Folder.files c.args.folder.now) c.in-Ok-true.field-0 c.new-bytes.result.items
    c.read.new.into.items c.in_ok-keep-in-Ok-true.field-0
    c.requires.absent c.in-Ok.ensures.cases.0 c.in-Ok-true.field-0-test c.in-Ok-true.ensures.ok c.new-bytes.ensures.items c.in_ok-keep-in-Ok-true.ensures.ok

pub returns-in-Ok-false-clause-fetched : goal.returns-in-Ok-false-clause-fetched
returns-in-Ok-false-clause-fetched g c =
    absent_first c.args.self.now c.keep-in-Ok-false.new.self c.args.name.now c.in-Ok.text.now (g.F.Folder.files c.args.folder.now) c.in-Ok-false.field-0 c.new-bytes.result.items
    c.read.new.into.items c.in_ok-keep-in-Ok-false.field-0
    c.requires.absent c.in-Ok.ensures.cases.0 c.in-Ok-false.field-0-test c.in-Ok-false.ensures.ok c.in_ok-keep-in-Ok-false.ensures.ok
