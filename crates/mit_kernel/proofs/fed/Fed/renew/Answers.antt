use Rattle.std.proofs.Common.{map}
use Rattle.mit_kernel.proofs.Lists.{kept_among}
use Rattle.mit_kernel.proofs.fed.Fed.renew.Goals as goal

pub invariant_of-self : goal.invariant_of-self
invariant_of-self c = rw c.empty_others.ensures (c.fewer_rows_law.ensures.fewer _ _ _ c.self.invariant (kept_among c.args.keep.now (map (λ rows. rows.items) c.self.inside.lists.items)))
