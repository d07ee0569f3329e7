use Rattle.std.proofs.Common.{◌∙◌}
use Rattle.mit_parse.specs.Words.{texts_of}
use Rattle.mit_parse.proofs.Numbering.{numbers-joined}
use Rattle.mit_parse.proofs.names.numbers_of.Goals as goal

pub returns : goal.returns
returns c =
    c.from_vec.ensures ∙ numbers-joined c.args.names.now (texts_of c.args.words.now) (texts_of c.args.others.now) c.new-numbers.result.items c.add_numbers.new.numbers.items c.add_numbers-2.new.numbers.items c.new-numbers.ensures.items c.in_ok-add_numbers.ensures c.in_ok-add_numbers-2.ensures
