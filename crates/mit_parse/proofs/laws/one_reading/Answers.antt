use Rattle.mit_parse.proofs.OneReading.{never_both, one_place, one_script}
use Rattle.mit_parse.proofs.Refusals.{read_or_refused}
use Rattle.mit_parse.proofs.laws.one_reading.Goals as goal

pub returns-clause-read : goal.returns-clause-read
returns-clause-read c = read_or_refused c.reading_law.ensures

pub returns-clause-script : goal.returns-clause-script
returns-clause-script c = one_script c.spelling_law.ensures

pub returns-clause-place : goal.returns-clause-place
returns-clause-place c = one_place

pub returns-clause-either : goal.returns-clause-either
returns-clause-either c = never_both
