use Rattle.std.proofs.lemmas.Result.{on_ok_weaker}
use Rattle.mit_engine.proofs.ActLemmas.{hears_one, learns, polls_one, ready_one, takes_one}
use Rattle.mit_engine.proofs.job.Job.act.Goals as goal

pub returns-in-Learn-clause-goes : goal.returns-in-Learn-clause-goes
returns-in-Learn-clause-goes g c = learns c.in-Learn.is c.requires.enabled c.learn.ensures c.requires.stands

pub returns-in-Hear-clause-goes : goal.returns-in-Hear-clause-goes
returns-in-Hear-clause-goes g c = hears_one c.self.view_is c.in-Hear.is c.requires.enabled c.index_mut.ensures.value c.hear.ensures c.requires.stands

pub returns-in-Take-clause-goes : goal.returns-in-Take-clause-goes
returns-in-Take-clause-goes g c = takes_one c.take.new.self c.self-in-Take.view_is c.in-Take.is c.requires.enabled c.index_mut-in-Take.ensures.value c.take.ensures c.requires.stands

pub poll-requires-clause-ready : goal.poll-requires-clause-ready
poll-requires-clause-ready g c = ready_one c.requires.formed c.in-Poll.is c.requires.enabled c.index-steps-at.is c.requires.stands

pub returns-in-Poll-clause-goes : goal.returns-in-Poll-clause-goes
returns-in-Poll-clause-goes g c =
    on_ok_weaker c.poll.result (polls_one c.requires.formed c.in-Poll.is c.requires.enabled c.index-steps-at.is c.poll.ensures.grows c.requires.stands) c.poll.ensures.polled
