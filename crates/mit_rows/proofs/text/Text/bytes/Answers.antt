use Rattle.std.proofs.Common.{arith, subst}
use Rattle.mit_rows.specs.Stored.{HeldRight}
use Rattle.mit_rows.proofs.text.Text.bytes.Goals as goal

pub shared_ref_as_front-result : goal.shared_ref_as_front-result
shared_ref_as_front-result c =
    let right = (subst HeldRight c.in-Short.is c.self.invariant.1).0 in
    omega (arith, c.from.ensures, right)
