use Rattle.mit_shelf.proofs.FieldFacts.{bool_false, bool_none, bool_true}
use Rattle.mit_shelf.proofs.fields.parse_bool.Goals as goal

pub returns-then-eq : goal.returns-then-eq
returns-then-eq c = bool_true c.args.field.now c.as_slice.result.now c.eq.result c.as_slice.ensures c.eq.ensures c.if-eq.true

pub returns-then-eq-2 : goal.returns-then-eq-2
returns-then-eq-2 c =
    bool_false c.args.field.now c.as_slice.result.now c.as_slice-else-eq.result.now c.eq.result c.eq-else-eq.result
    c.as_slice.ensures c.eq.ensures c.if-eq.false c.as_slice-else-eq.ensures c.eq-else-eq.ensures c.if-eq-2.true

pub returns-else-eq-2 : goal.returns-else-eq-2
returns-else-eq-2 c =
    bool_none c.args.field.now c.as_slice.result.now c.as_slice-else-eq.result.now c.eq.result c.eq-else-eq.result
    c.as_slice.ensures c.eq.ensures c.if-eq.false c.as_slice-else-eq.ensures c.eq-else-eq.ensures c.if-eq-2.false
