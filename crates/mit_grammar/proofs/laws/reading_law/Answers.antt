use Rattle.mit_grammar.proofs.ScriptReading.{read_script-gives}
use Rattle.mit_grammar.proofs.laws.reading_law.Goals as goal

pub returns : goal.returns
returns c = read_script-gives
