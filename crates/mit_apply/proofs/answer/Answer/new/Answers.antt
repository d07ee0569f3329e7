-- No rows are an empty bag.
use Rattle.std.proofs.Common.{Ok, ap}
use Rattle.mit_rows.specs.Bags.{bag_of}
use Rattle.mit_apply.proofs.answer.Answer.new.Goals as goal

pub returns : goal.returns
unfolding bag_of
returns c = let e = c.new.ensures.items in ap (λ rows. Ok (bag_of rows)) e
