use Rattle.std.proofs.Common.{◌≡◌, ◌∙◌, Global, None, Vec, ℕ}
use Rattle.std.specs.Map.{lookup}
use Rattle.std.specs.Str.{bytes_eq}
use Rattle.indexmap.proofs.CallerLemmas.{insert_entry-new}
use Rattle.mit_shelf.proofs.ShelfLemmas.{keeps_last, key_absent}
use Rattle.mit_shelf.proofs.shelf.Shelf.keep.Goals as goal

pub returns-clause-ok : goal.returns-clause-ok
returns-clause-ok c =
    let map = c.self.inside.files in
    let none : lookup (λ (k : Vec ℕ Global). bytes_eq c.in_ok-name.name.items k.items) c.self.inside.files.entries ≡ None =
    key_absent c.args.self.now c.args.name.now c.self.inside.files.entries c.in_ok-name.name c.self.view_is c.in_ok-name.ensures.items c.requires in
    keeps_last c.args.self.now c.args.name.now c.self.inside.files.entries c.insert.new.self.entries c.in_ok-name.name c.args.file c.len-place.result
    c.self.view_is
    (c.in_ok-insert.ensures.entries
    ∙ insert_entry-new (λ (k q : Vec ℕ Global). bytes_eq k.items q.items) c.self.inside.files c.in_ok-name.name c.args.file none)
    c.in_ok-name.ensures.items c.len-place.ensures.len
