use Rattle.mit_grammar.proofs.ScriptReading.{one_script}
use Rattle.mit_grammar.proofs.laws.spelling_law.Goals as goal

pub returns : goal.returns
returns c = one_script
