use Rattle.std.proofs.Common.{◌∙◌, Global, None, Some, Vec, ap, sym, ℕ}
use Rattle.std.specs.Prelude.{option_map}
use Rattle.mit_shelf.proofs.ShelfLemmas.{text_from}
use Rattle.mit_shelf.proofs.shelf.Shelf.text.Goals as goal

pub returns-in-Some-Some : goal.returns-in-Some-Some
returns-in-Some-Some c =
    ap Some c.as_slice.ensures.value
    ∙ ap (option_map (λ (b : Vec ℕ Global). b.items)) (sym c.in-Some-Some.field-0-is)
    ∙ text_from c.args.self.now c.args.name.now c.self.inside.files.entries (Some c.in-Some-Some.field-0.now) c.self.view_is c.in-Some-Some.ensures.value

pub returns-in-Some-None : goal.returns-in-Some-None
returns-in-Some-None c =
    ap (option_map (λ (b : Vec ℕ Global). b.items)) (sym c.in-Some-None.field-0-is)
    ∙ text_from c.args.self.now c.args.name.now c.self.inside.files.entries (Some c.in-Some-None.field-0.now) c.self.view_is c.in-Some-None.ensures.value

pub returns-in-None : goal.returns-in-None
returns-in-None c = text_from c.args.self.now c.args.name.now c.self.inside.files.entries None c.self.view_is c.in-None.ensures.value
