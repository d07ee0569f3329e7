use Rattle.std.proofs.lemmas.Str.{is_utf8-from_IsUtf8}
use Rattle.mit_lex.proofs.Cuts.{cuts_whole}
use Rattle.mit_lex.proofs.WrittenTokens.{written_cuts}
use Rattle.mit_lex.proofs.laws.writing_law.Goals as goal

pub returns-clause-utf8 : goal.returns-clause-utf8
returns-clause-utf8 c = λ text kinds is. is_utf8-from_IsUtf8 text (written_cuts is).utf8

pub returns-clause-whole : goal.returns-clause-whole
returns-clause-whole c = λ text kinds is. (cuts_whole text kinds (written_cuts is)).1

pub returns-clause-cut : goal.returns-clause-cut
returns-clause-cut c = λ text kinds is. (cuts_whole text kinds (written_cuts is)).0
