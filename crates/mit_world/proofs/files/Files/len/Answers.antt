use Rattle.std.proofs.Common.{◌∙◌, sym}
use Rattle.mit_world.proofs.Place.{len_of}
use Rattle.mit_world.proofs.files.Files.len.Goals as goal

pub returns : goal.returns
returns c = c.len.ensures.len ∙ sym (len_of _ _ c.self.invariant c.self.view_is)
