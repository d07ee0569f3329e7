use Rattle.std.proofs.Common.{◌≡◌, ◌∙◌, Some, Err, ap, is_some, refl, subst, sym}
use Rattle.mit_rows.specs.declared.value.ColType.TheVariants as is
use Rattle.mit_expr.specs.Types.{type_of_value}
use Rattle.mit_expr.specs.Values.{value_in}
use Rattle.mit_ops.specs.Operators.{captured}
use Rattle.mit_step.specs.Running.{NamedBy}
use Rattle.mit_step.specs.Typing.{inputs_in}
use Rattle.mit_step.proofs.Reading.{named_as, values_captured}
use Rattle.mit_step.proofs.evaluate.name_value.Goals as goal

pub eval-requires : goal.eval-requires
eval-requires c =
    let there = values_captured (inputs_in c.args.store.now c.args.args.now) c.in_ok-values.values.items c.in_ok-values.ensures in
    rw (c.empty-nothing.ensures, c.deref.ensures.value) (ap is_some (c.requires.typed c.in_ok-values.values.items there))

pub text_of-requires : goal.text_of-requires
text_of-requires c =
    let there = values_captured (inputs_in c.args.store.now c.args.args.now) c.in_ok-values.values.items c.in_ok-values.ensures in
    let typed = c.requires.typed c.in_ok-values.values.items there in
    let same = rw (c.empty-nothing.ensures, c.deref.ensures.value) at c.in-Ok.ensures.typed in
    let both : Some (type_of_value c.in-Ok.value) ≡ Some is.Text = sym same ∙ typed in
    cc

pub returns-in-Ok : goal.returns-in-Ok
returns-in-Ok c =
    let inputs = inputs_in c.args.store.now c.args.args.now in
    let there = values_captured inputs c.in_ok-values.values.items c.in_ok-values.ensures in
    named_as c.args.name.now (captured inputs) c.in_ok-values.values.items c.empty-nothing.result c.deref.result.now _ there
    c.empty-nothing.ensures c.deref.ensures.value (rw c.text_of.ensures at c.in-Ok.ensures.value)

pub returns : goal.returns
returns c =
    let inputs = inputs_in c.args.store.now c.args.args.now in
    let there = values_captured inputs c.in_ok-values.values.items c.in_ok-values.ensures in
    let due = value_in c.empty-nothing.result c.deref.result.now c.args.name.now in
    let named = named_as c.args.name.now (captured inputs) c.in_ok-values.values.items c.empty-nothing.result c.deref.result.now due there
    c.empty-nothing.ensures c.deref.ensures.value refl in
    subst (λ found. NamedBy found (Err c.unnamed.result)) (sym named) (c.unnamed.ensures due c.in-Err.ensures.value)
