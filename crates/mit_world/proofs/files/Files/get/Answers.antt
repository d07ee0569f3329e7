use Rattle.std.proofs.Common.{◌∙◌, sym, ap, Some, Option, Vec, ℕ, Global, option_map}
use Rattle.mit_world.proofs.Place.{get_of, lookup-as_pairs}
use Rattle.mit_world.proofs.files.Files.get.Goals as goal

pub returns-in-Some : goal.returns-in-Some
returns-in-Some c =
    ap Some c.as_slice.ensures.value
    ∙ ap (λ (found : Option (Vec ℕ Global)). option_map (λ bytes. bytes.items) found) c.in-Some.ensures.value
    ∙ lookup-as_pairs c.self.inside.entries.entries c.args.name.now
    ∙ sym (get_of _ _ c.self.invariant c.self.view_is c.args.name.now)

pub returns-in-None : goal.returns-in-None
returns-in-None c =
    ap (λ (found : Option (Vec ℕ Global)). option_map (λ bytes. bytes.items) found) c.in-None.ensures.value
    ∙ lookup-as_pairs c.self.inside.entries.entries c.args.name.now
    ∙ sym (get_of _ _ c.self.invariant c.self.view_is c.args.name.now)
