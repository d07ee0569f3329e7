use Rattle.std.proofs.Common.{◌∙◌, ap}
use Rattle.std.specs.FinMap as map
use Rattle.std.specs.FinMap.{is_sorted}
use Rattle.mit_files.specs.Files.{name_cmp}
use Rattle.mit_world.proofs.Place.{as_pairs-cloned}
use Rattle.mit_world.proofs.files.Files.copy.Goals as goal

pub invariant_of-result : goal.invariant_of-result
invariant_of-result c = ap (is_sorted name_cmp) (as_pairs-cloned _ _ c.in_ok-clone.ensures.cases) ∙ c.self.invariant

pub returns : goal.returns
returns c = ap (λ es. map.from_sorted {R = name_cmp} es) (as_pairs-cloned _ _ c.in_ok-clone.ensures.cases) ∙ c.self.view_is
