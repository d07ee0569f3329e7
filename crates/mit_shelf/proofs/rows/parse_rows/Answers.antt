use Rattle.std.proofs.Common.{Global, Vec}
use Rattle.mit_rows.specs.Bags.{RowOf}
use Rattle.mit_files.specs.Rows.{rows_of}
use Rattle.mit_shelf.proofs.RowFacts.{whole_result}
use Rattle.mit_shelf.proofs.rows.parse_rows.Goals as goal

pub returns-clause-rows : goal.returns-clause-rows
returns-clause-rows c =
    whole_result (λ (rows : Vec RowOf Global). rows.items) (rows_of c.args.bytes.now c.args.types.now) c.parse_part.result c.parse_part.ensures.rows
