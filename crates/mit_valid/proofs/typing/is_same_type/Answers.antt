-- Both are scalars or none is, and their columns are the same.
use Rattle.std.proofs.Common.{◌≡◌, rules}
use Rattle.std.specs.Cmp.Lexicographic.{pointwise}
use Rattle.mit_expr.specs.Types.{same_type}
use Rattle.mit_valid.proofs.TypesDecided.{same_form, type_decided}
use Rattle.mit_valid.proofs.typing.is_same_type.Goals as goal

pub returns-then-one-other : goal.returns-then-one-other
returns-then-one-other c =
    let same : c.eq.result ≡ pointwise same_type c.args.one.now.cols c.args.other.now.cols = search rules in
    type_decided c.args.one.now c.args.other.now c.eq.result same (same_form c.args.one.now.scalar c.args.other.now.scalar c.if-one-other.true)
