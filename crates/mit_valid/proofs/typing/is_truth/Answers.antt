-- Its columns are those of a truth value.
use Rattle.std.proofs.Common.{◌≡◌, rules}
use Rattle.std.specs.Cmp.Lexicographic.{pointwise}
use Rattle.mit_rows.specs.declared.value.ColType.TheVariants.{Bool as Truth}
use Rattle.mit_expr.specs.Types.{same_type}
use Rattle.mit_ops.specs.Results.{scalar}
use Rattle.mit_ops.specs.declared.types.VarType.{VarType}
use Rattle.mit_valid.proofs.TypesDecided.{type_decided}
use Rattle.mit_valid.proofs.typing.is_truth.Goals as goal

pub returns-then-is : goal.returns-then-is
returns-then-is c =
    let truth : VarType = scalar Truth in
    let same : c.eq.result ≡ pointwise same_type c.args.is.now.cols truth.cols = search rules in
    type_decided c.args.is.now truth c.eq.result same c.if-is.true
