use Rattle.std.proofs.Common.{map}
use Rattle.mit_tests_kernels.proofs.HeldSlots.{renewed_keeps}
use Rattle.mit_tests_kernels.proofs.slots.renew.Goals as goal

pub returns : goal.returns
returns g c = renewed_keeps _ _ c.args.slot (map (λ rows. rows.items) c.args.lists.now) _ c.renew.ensures
