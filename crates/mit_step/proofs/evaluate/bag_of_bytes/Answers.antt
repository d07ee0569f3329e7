use Rattle.mit_step.proofs.Reading.{bad_row}
use Rattle.mit_step.proofs.evaluate.bag_of_bytes.Goals as goal

pub returns-in-Err-BadRow-clause-bag : goal.returns-in-Err-BadRow-clause-bag
returns-in-Err-BadRow-clause-bag c =
    bad_row c.args.bytes.now c.args.types.now c.in-Err-BadRow.number c.in-Err-BadRow.field-0 c.in-Err-BadRow.field-0-is c.in-Err-BadRow.ensures.refused
