use Rattle.std.proofs.Common.{Global, refl, []}
use Rattle.std.specs.FinMap as map
use Rattle.mit_world.proofs.Place.{len_of}
use Rattle.mit_world.proofs.files.Files.new.Goals as goal

pub returns : goal.returns
returns c = rw c.new.ensures.empty (map.empty_of_len _ (len_of {Y = Global} {Z = Global} [] _ refl refl))
