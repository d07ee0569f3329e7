use Rattle.std.proofs.Common.{◌≡◌, Err, Ok, drop, rules, subst, sym}
use Rattle.std.specs.Prelude.{All, MatchResult}
use Rattle.mit_ops.specs.Kinds.{bag_inputs_of}
use Rattle.mit_ops.specs.Operators.{whole}
use Rattle.mit_ops.specs.declared.kinds.OpSpec.{OpSpec}
use Rattle.mit_ops.specs.declared.kinds.OpSpec.TheVariants as op
use Rattle.mit_step.specs.Running.{StopsAs}
use Rattle.mit_step.specs.Typing.{IsValue, inputs_in}
use Rattle.mit_step.proofs.Asking.{asks_none, stopped_as}
use Rattle.mit_step.proofs.Reading.{named_own, read_few, read_unnamed, read_whole}
use Rattle.mit_step.proofs.Wholes.{fits_as}
use Rattle.mit_step.proofs.evaluate.read.Goals as goal

pub name_value-requires-clause-values : goal.name_value-requires-clause-values
name_value-requires-clause-values g c =
    subst (λ (s : OpSpec). All IsValue (inputs_in c.args.store.now (drop (bag_inputs_of s) c.args.args.now))) c.in-Read.is c.requires.argued.values

pub name_value-requires-clause-typed : goal.name_value-requires-clause-typed
name_value-requires-clause-typed g c = λ captures there.
    let inputs = inputs_in c.args.store.now c.args.args.now in
    c.fitting_law.ensures.read c.in-Read.name c.in-Read.types inputs captures (fits_as c.args.op.now (op.Read c.in-Read.name c.in-Read.types) inputs c.in-Read.is c.requires.argued.fits) there

pub file_bag-requires : goal.file_bag-requires
file_bag-requires g c =
    let inputs = inputs_in c.args.store.now c.args.args.now in
    record { few = rw c.as_slice.ensures (read_few c.in-Read.name c.in-Read.types inputs (fits_as c.args.op.now (op.Read c.in-Read.name c.in-Read.types) inputs c.in-Read.is c.requires.argued.fits)) }

pub returns-in_err-name-in-Read-clause-bag : goal.returns-in_err-name-in-Read-clause-bag
returns-in_err-name-in-Read-clause-bag g c = λ files agrees.
    let inputs = inputs_in c.args.store.now c.args.args.now in
    let why = c.in_err-name-in-Read.field-0.0 in
    let is : c.from_residual.result ≡ Err why = search rules in
    let due = whole c.args.op.now inputs files in
    subst (λ found. MatchResult found (λ bag. due ≡ Ok bag.value) (StopsAs due)) (sym is)
    (read_unnamed c.args.op.now inputs c.in-Read.name c.in-Read.types files why c.in-Read.is c.in_err-name-in-Read.ensures)

pub returns-in_err-name-in-Read-clause-asks : goal.returns-in_err-name-in-Read-clause-asks
returns-in_err-name-in-Read-clause-asks g c = asks_none _ _ _

pub returns-in_err-name-in-Read-clause-failed : goal.returns-in_err-name-in-Read-clause-failed
returns-in_err-name-in-Read-clause-failed g c =
    let is : c.from_residual.result ≡ Err c.in_err-name-in-Read.field-0.0 = search rules in
    stopped_as c.from_residual.result c.in_err-name-in-Read.field-0.0 _ is (named_own _ c.in_err-name-in-Read.field-0.0 _ c.in_err-name-in-Read.ensures)

pub returns-in_err-bag-in-Read-clause-bag : goal.returns-in_err-bag-in-Read-clause-bag
returns-in_err-bag-in-Read-clause-bag g c = λ files agrees.
    let inputs = inputs_in c.args.store.now c.args.args.now in
    let is : c.from_residual-in_err-bag-in-Read.result ≡ Err c.in_err-bag-in-Read.field-0.0 = search rules in
    let due = whole c.args.op.now inputs files in
    subst (λ found. MatchResult found (λ bag. due ≡ Ok bag.value) (StopsAs due)) (sym is)
    (rw (read_whole c.args.op.now inputs c.in-Read.name c.in-Read.types files _ c.in-Read.is c.in_ok-name-in-Read.ensures, ← c.as_slice.ensures) (c.in_err-bag-in-Read.ensures.bag files agrees))

pub returns-in_err-bag-in-Read-clause-asks : goal.returns-in_err-bag-in-Read-clause-asks
returns-in_err-bag-in-Read-clause-asks g c = c.file_bag.ensures.asks

pub returns-in_err-bag-in-Read-clause-failed : goal.returns-in_err-bag-in-Read-clause-failed
returns-in_err-bag-in-Read-clause-failed g c =
    let is : c.from_residual-in_err-bag-in-Read.result ≡ Err c.in_err-bag-in-Read.field-0.0 = search rules in
    stopped_as c.from_residual-in_err-bag-in-Read.result c.in_err-bag-in-Read.field-0.0 _ is c.in_err-bag-in-Read.ensures.failed

pub returns-in_err-shared-in-Read-clause-asks : goal.returns-in_err-shared-in-Read-clause-asks
returns-in_err-shared-in-Read-clause-asks g c = c.file_bag.ensures.asks

pub returns-clause-asks : goal.returns-clause-asks
returns-clause-asks g c = c.file_bag.ensures.asks
