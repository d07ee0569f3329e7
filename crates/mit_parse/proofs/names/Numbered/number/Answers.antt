use Rattle.mit_parse.proofs.Numbering.{number-words}
use Rattle.mit_parse.proofs.names.Numbered.number.Goals as goal

pub returns : goal.returns
returns c = rw (c.unwrap_or.ensures, c.get_index_of.ensures.index, ← c.self.view_is) (number-words c.self.inside.names.keys c.args.name.now)
