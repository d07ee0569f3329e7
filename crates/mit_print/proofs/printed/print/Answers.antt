use Rattle.std.proofs.Common.{◌≡◌, rules}
use Rattle.mit_print.specs.Printed.{printed}
use Rattle.mit_print.proofs.PrintScript.{WritingLaw, prints_back, reads_back}
use Rattle.mit_print.proofs.printed.print.Goals as goal

pub returns-clause-spelled : goal.returns-clause-spelled
returns-clause-spelled c =
    let is : c.add_all.new.text.items ≡ printed c.args.script.now = search rules in
    let said = c.writing_law.ensures in
    let law : WritingLaw = record { utf8 = said.utf8; whole = said.whole; cut = said.cut } in
    prints_back law c.args.script.now c.add_all.new.text.items is

pub returns-clause-again : goal.returns-clause-again
returns-clause-again c =
    λ can keeps. reads_back c.args.script.now c.add_all.new.text.items (returns-clause-spelled c can) keeps
