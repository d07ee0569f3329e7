use Rattle.std.proofs.Common.{◌∙◌, sym, ap}
use Rattle.mit_world.specs.Entries.{as_pairs}
use Rattle.mit_world.proofs.Place.{entries_of}
use Rattle.mit_world.proofs.files.Files.iter.Goals as goal

pub returns : goal.returns
returns c = ap as_pairs c.iter.ensures.rest ∙ sym (entries_of _ _ c.self.invariant c.self.view_is)
