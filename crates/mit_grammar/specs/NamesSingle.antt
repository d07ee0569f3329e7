-- Devices of the proofs: nobody has to believe them. Which expressions are single names.
use Rattle.std.proofs.Common.{◌≡◌, ℕ, true, false, sym, ap, ◌∙◌}
use Rattle.mit_rows.specs.declared.value.Value.{Value}
use Rattle.mit_expr.specs.declared.expr.BinOp.{BinOp}
use Rattle.mit_expr.specs.declared.expr.Call.{Call}
use Rattle.mit_expr.specs.declared.expr.Expr.{Expr}
use Rattle.mit_expr.specs.declared.expr.Expr.TheOpen as layer
use Rattle.mit_expr.specs.declared.expr.Expr.TheVariants as expr
use Rattle.mit_expr.specs.declared.expr.Expr.TheViews.{out-roll-Expr}
use Rattle.mit_script.specs.Grammar.{is_name, is_name_layer}

pub is_name-Bin : (op : BinOp) (left right : Expr) → is_name (expr.Bin op left right) ≡ false
is_name-Bin op left right = ap is_name (sym (expr.rolls-Bin op left right)) ∙ ap is_name_layer (out-roll-Expr (layer.Bin op left right))

pub is_name-Not : (e : Expr) → is_name (expr.Not e) ≡ false
is_name-Not e = ap is_name (sym (expr.rolls-Not e)) ∙ ap is_name_layer (out-roll-Expr (layer.Not e))

pub is_name-Call : (function : Call) (e : Expr) → is_name (expr.Call function e) ≡ false
is_name-Call function e = ap is_name (sym (expr.rolls-Call function e)) ∙ ap is_name_layer (out-roll-Expr (layer.Call function e))

pub is_name-Lit : (value : Value) → is_name (expr.Lit value) ≡ false
is_name-Lit value = ap is_name (sym (expr.rolls-Lit value)) ∙ ap is_name_layer (out-roll-Expr (layer.Lit value))

pub is_name-Column : (column : ℕ) → is_name (expr.Column column) ≡ false
is_name-Column column = ap is_name (sym (expr.rolls-Column column)) ∙ ap is_name_layer (out-roll-Expr (layer.Column column))

pub is_name-Capture : (capture : ℕ) → is_name (expr.Capture capture) ≡ true
is_name-Capture capture = ap is_name (sym (expr.rolls-Capture capture)) ∙ ap is_name_layer (out-roll-Expr (layer.Capture capture))
