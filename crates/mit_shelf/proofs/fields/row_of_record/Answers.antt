use Rattle.std.proofs.Common.{◌∙◌, ◌≡◌, arith, length, refl, sym}
use Rattle.csv.specs.Records.{fields_of}
use Rattle.mit_shelf.proofs.RowFacts.{field_here, field_there, fills_more, row_of_all, row_of_bad, row_of_other}
use Rattle.mit_shelf.proofs.fields.row_of_record.Goals as goal

pub returns-then-len-types : goal.returns-then-len-types
returns-then-len-types c = row_of_other c.args.types.now (fields_of c.args.fields.now) (λ e. c.if-len-types.true (c.len.ensures ∙ e))

pub returns-in_default : goal.returns-in_default
returns-in_default c = absurd (field_there (fields_of c.args.fields.now) c.loop-column.column (omega arith) c.in_default.ensures.value)

pub returns-in_default-2 : goal.returns-in_default-2
returns-in_default-2 c =
    let many : length (fields_of c.args.fields.now) ≡ length c.args.types.now = omega arith in
    row_of_bad c.args.types.now (fields_of c.args.fields.now) c.loop-column.values.items c.loop-column.column _ _ c.in-Some.field.now (omega arith) many refl
    (field_here (fields_of c.args.fields.now) c.loop-column.column c.in-Some.field.now (omega arith) c.in-Some.ensures.value)
    c.loop-column.invariant (sym c.in_ok-value.ensures ∙ c.in_default-2.is)

pub loop-column-preserved : goal.loop-column-preserved
loop-column-preserved c =
    let many : length (fields_of c.args.fields.now) ≡ length c.args.types.now = omega arith in
    rw c.in_ok-push.ensures.items (
    fills_more c.args.types.now (fields_of c.args.fields.now) c.loop-column.values.items c.loop-column.column _ _ c.in-Some.field.now c.in-Some-2.value (omega arith) many refl
    (field_here (fields_of c.args.fields.now) c.loop-column.column c.in-Some.field.now (omega arith) c.in-Some.ensures.value)
    c.loop-column.invariant (sym c.in_ok-value.ensures ∙ c.in-Some-2.is))

pub returns : goal.returns
returns c =
    let many : length (fields_of c.args.fields.now) ≡ length c.args.types.now = omega arith in
    rw c.in_ok-from_values.ensures (row_of_all c.args.types.now (fields_of c.args.fields.now) c.loop-column.values.items c.loop-column.column many (omega arith) c.loop-column.invariant)
