use Rattle.std.proofs.Common.{arith, subst}
use Rattle.mit_rows.specs.Stored.{HeldRight}
use Rattle.mit_rows.proofs.text.Text.as_str.Goals as goal

pub shared_ref_as_front-from_utf8_unchecked : goal.shared_ref_as_front-from_utf8_unchecked
shared_ref_as_front-from_utf8_unchecked c =
    let right = (subst HeldRight c.in-Short.is c.self.invariant.1).0 in
    omega (arith, c.from.ensures, right)
