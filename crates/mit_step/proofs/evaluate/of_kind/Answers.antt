use Rattle.std.proofs.Common.{ap}
use Rattle.mit_ops.specs.Kinds.{kind_of}
use Rattle.mit_step.proofs.Asking.{asks_none, own_failed}
use Rattle.mit_step.proofs.evaluate.of_kind.Goals as goal

pub read-requires-clause-read : goal.read-requires-clause-read
read-requires-clause-read g c = ap kind_of c.in-Read.is

pub read-requires-clause-argued : goal.read-requires-clause-argued
read-requires-clause-argued g c = c.requires.argued

pub same_bag-requires-clause-copy : goal.same_bag-requires-clause-copy
same_bag-requires-clause-copy g c = ap kind_of c.in-Copy.is

pub same_bag-requires-clause-argued : goal.same_bag-requires-clause-argued
same_bag-requires-clause-argued g c = c.requires.argued

pub returns-in-Read-clause-bag : goal.returns-in-Read-clause-bag
returns-in-Read-clause-bag g c = c.read.ensures.bag

pub returns-in-Read-clause-asks : goal.returns-in-Read-clause-asks
returns-in-Read-clause-asks g c = c.read.ensures.asks

pub returns-in-Read-clause-failed : goal.returns-in-Read-clause-failed
returns-in-Read-clause-failed g c = c.read.ensures.failed

pub returns-in-Copy-clause-bag : goal.returns-in-Copy-clause-bag
returns-in-Copy-clause-bag g c = λ files agrees. c.same_bag.ensures.bag files

pub returns-in-Copy-clause-asks : goal.returns-in-Copy-clause-asks
returns-in-Copy-clause-asks g c = asks_none _ _ _

pub returns-in-Copy-clause-failed : goal.returns-in-Copy-clause-failed
returns-in-Copy-clause-failed g c = own_failed c.same_bag.result _ c.same_bag.ensures.own

pub returns-in_default : goal.returns-in_default
returns-in_default g c = record {
  bag = λ files agrees. c.over_bags.ensures.bag files;
  asks = asks_none _ _ _;
  failed = own_failed c.over_bags.result _ c.over_bags.ensures.own;
}
