use Rattle.mit_engine.proofs.polls.whole.Goals as goal

pub returns-in-Read-clause-bag : goal.returns-in-Read-clause-bag
returns-in-Read-clause-bag g c = rw c.in-Read.is c.read.ensures.bag
