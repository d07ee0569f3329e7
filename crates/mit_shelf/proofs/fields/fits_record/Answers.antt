use Rattle.std.proofs.Common.{◌∙◌, ◌≡◌, arith, length, refl, sym}
use Rattle.csv.specs.Records.{fields_of}
use Rattle.mit_shelf.proofs.RowFacts.{field_here, field_there, fits_all, fits_bad, fits_more, fits_other}
use Rattle.mit_shelf.proofs.fields.fits_record.Goals as goal

pub returns-then-len-types : goal.returns-then-len-types
returns-then-len-types c = fits_other c.args.types.now (fields_of c.args.fields.now) (λ e. c.if-len-types.true (c.len.ensures ∙ e))

pub returns-in_default : goal.returns-in_default
returns-in_default c = absurd (field_there (fields_of c.args.fields.now) c.loop-column.column (omega arith) c.in_default.ensures.value)

pub returns-then-not-fits_field : goal.returns-then-not-fits_field
returns-then-not-fits_field c =
    let many : length (fields_of c.args.fields.now) ≡ length c.args.types.now = omega arith in
    fits_bad c.args.types.now (fields_of c.args.fields.now) c.loop-column.column _ _ c.in-Some.field.now (omega arith) many refl
    (field_here (fields_of c.args.fields.now) c.loop-column.column c.in-Some.field.now (omega arith) c.in-Some.ensures.value)
    c.loop-column.invariant (sym c.fits_field.ensures ∙ c.if-not-fits_field.true)

pub loop-column-preserved : goal.loop-column-preserved
loop-column-preserved c =
    let many : length (fields_of c.args.fields.now) ≡ length c.args.types.now = omega arith in
    fits_more c.args.types.now (fields_of c.args.fields.now) c.loop-column.column _ _ c.in-Some.field.now (omega arith) many refl
    (field_here (fields_of c.args.fields.now) c.loop-column.column c.in-Some.field.now (omega arith) c.in-Some.ensures.value)
    c.loop-column.invariant (sym c.fits_field.ensures ∙ c.if-not-fits_field.false)

pub returns : goal.returns
returns c =
    let many : length (fields_of c.args.fields.now) ≡ length c.args.types.now = omega arith in
    fits_all c.args.types.now (fields_of c.args.fields.now) c.loop-column.column many (omega arith) c.loop-column.invariant
