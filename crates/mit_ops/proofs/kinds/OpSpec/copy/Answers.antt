-- Each part is copied, and so is the whole.
use Rattle.std.proofs.Common.{◌∙◌, ap, sym}
use Rattle.mit_ops.specs.declared.kinds.OpSpec.TheVariants as op
use Rattle.mit_ops.proofs.kinds.OpSpec.copy.Goals as goal

pub returns-in_ok-copy-in-Scalar : goal.returns-in_ok-copy-in-Scalar
returns-in_ok-copy-in-Scalar c = ap op.Scalar c.in_ok-copy-in-Scalar.ensures ∙ sym c.in-Scalar.is

pub returns-in_ok-copy-in-Map : goal.returns-in_ok-copy-in-Map
returns-in_ok-copy-in-Map c = ap op.Map c.in_ok-copy-in-Map.ensures ∙ sym c.in-Map.is

pub returns-in_ok-copy-in-Filter : goal.returns-in_ok-copy-in-Filter
returns-in_ok-copy-in-Filter c = ap op.Filter c.in_ok-copy-in-Filter.ensures ∙ sym c.in-Filter.is

pub returns-in_ok-copy-in-FlatMap : goal.returns-in_ok-copy-in-FlatMap
returns-in_ok-copy-in-FlatMap c = ap op.FlatMap c.in_ok-copy-in-FlatMap.ensures ∙ sym c.in-FlatMap.is

pub returns-in_ok-copy-in-MakeRow : goal.returns-in_ok-copy-in-MakeRow
returns-in_ok-copy-in-MakeRow c = ap op.MakeRow c.in_ok-copy-in-MakeRow.ensures ∙ sym c.in-MakeRow.is

pub returns-in_ok-copy-in-Empty : goal.returns-in_ok-copy-in-Empty
returns-in_ok-copy-in-Empty c = ap op.Empty c.in_ok-copy-in-Empty.ensures ∙ sym c.in-Empty.is

pub returns-in_ok-copy-in-Write : goal.returns-in_ok-copy-in-Write
returns-in_ok-copy-in-Write c = ap op.Write c.in_ok-copy-in-Write.ensures ∙ sym c.in-Write.is

pub returns-in_ok-copy-in-Read-2 : goal.returns-in_ok-copy-in-Read-2
returns-in_ok-copy-in-Read-2 c = cc (c.in_ok-copy-in-Read.ensures, c.in_ok-copy-in-Read-2.ensures, c.in-Read.is)

pub returns-in_ok-copy-in-Join-2 : goal.returns-in_ok-copy-in-Join-2
returns-in_ok-copy-in-Join-2 c = cc (c.in_ok-copy-in-Join.ensures, c.in_ok-copy-in-Join-2.ensures, c.in-Join.is)

pub returns-in_ok-copy-in-Reduce : goal.returns-in_ok-copy-in-Reduce
returns-in_ok-copy-in-Reduce c = ap (λ keys. op.Reduce keys c.in-Reduce.agg) c.in_ok-copy-in-Reduce.ensures ∙ sym c.in-Reduce.is

pub returns-in-Union : goal.returns-in-Union
returns-in-Union c = sym c.in-Union.is

pub returns-in-Distinct : goal.returns-in-Distinct
returns-in-Distinct c = sym c.in-Distinct.is

pub returns-in-Only : goal.returns-in-Only
returns-in-Only c = sym c.in-Only.is

pub returns-in-Count : goal.returns-in-Count
returns-in-Count c = sym c.in-Count.is

pub returns-in-Sum : goal.returns-in-Sum
returns-in-Sum c = sym c.in-Sum.is

pub returns-in-Copy : goal.returns-in-Copy
returns-in-Copy c = sym c.in-Copy.is
