use Rattle.mit_k_rows.proofs.Fitting.{Laws, can_give, can_give_once}
use Rattle.mit_k_rows.proofs.each.rows_may_be_asked.Goals as goal

pub returns : goal.returns
returns c =
    let fitting = c.fitting_law.ensures in
    let laws : Laws = record {
      made = fitting.map;
      made_few = fitting.map_few;
      stays = fitting.filter;
      flat = fitting.flat;
      flat_narrow = fitting.flat_narrow;
      scalar = fitting.scalar;
      row = fitting.make_row;
      row_few = fitting.make_row_few;
    } in
    record { bags = can_give laws; once = can_give_once laws }
