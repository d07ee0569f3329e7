-- A total with one row more.
use Rattle.mit_ops.specs.declared.kinds.Agg.TheVariants as agg
use Rattle.mit_k_group.proofs.running.Running.add.Goals as goal

pub returns-in-Count-clause-ok : goal.returns-in-Count-clause-ok
returns-in-Count-clause-ok c rows holds = c.add.ensures.ok agg.Count rows (rw c.in-Count.is at holds)

pub returns-in-Sum-clause-ok : goal.returns-in-Sum-clause-ok
returns-in-Sum-clause-ok c rows holds = c.add-in-Sum.ensures.ok (agg.Sum c.in-Sum.column) rows (rw c.in-Sum.is at holds)
