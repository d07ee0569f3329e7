use Rattle.std.proofs.Common.{◌≡◌, ◌<◌, ◌∙◌, ℕ, List, Bor, sym, ap, subst, slice_get, option_map}
use Rattle.std.proofs.lemmas.Iterator.Consumers.{nth_from_yields_List, YieldsList-from_first}
use Rattle.std.specs.FinMap as map
use Rattle.mit_world.proofs.Place.{shown_within}
use Rattle.mit_world.proofs.files.Files.file_at.Goals as goal

abbrev shown : Bor (List ℕ) × Bor (List ℕ) → List ℕ × List ℕ
shown file = (file.0.now, file.1.now)

pub unwrap-requires : goal.unwrap-requires
unwrap-requires c =
    let is : option_map shown c.nth.result ≡ slice_get (map.entries c.args.self.now) c.args.k = nth_from_yields_List c.nth.result c.nth.new.self c.args.k c.nth.ensures.ran (YieldsList-from_first shown (λ left. left) _ c.iter.ensures) in
    shown_within shown c.nth.result (map.entries c.args.self.now) c.args.k is (subst (λ n. c.args.k < n) (map.len-entries c.args.self.now) c.requires)

pub returns : goal.returns
returns c =
    let is : option_map shown c.nth.result ≡ slice_get (map.entries c.args.self.now) c.args.k = nth_from_yields_List c.nth.result c.nth.new.self c.args.k c.nth.ensures.ran (YieldsList-from_first shown (λ left. left) _ c.iter.ensures) in
    sym is ∙ ap (option_map shown) c.unwrap.ensures
