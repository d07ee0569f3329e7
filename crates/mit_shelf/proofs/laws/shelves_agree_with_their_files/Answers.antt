use Rattle.mit_shelf.proofs.ShelfLemmas.{agrees_kept, got_kept}
use Rattle.mit_shelf.proofs.laws.shelves_agree_with_their_files.Goals as goal

pub returns : goal.returns
returns c = record { bytes = got_kept; agree = agrees_kept }
