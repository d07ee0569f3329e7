use Rattle.mit_op_laws.proofs.AnswerSums.{both_assoc, both_comm, over_more, over_same_bag}
use Rattle.mit_op_laws.proofs.RowLaws.{RowLaws}
use Rattle.mit_op_laws.proofs.laws.answers_add_up.Goals as goal

pub returns : goal.returns
returns g c =
    let laws : RowLaws = record {
      total = c.rows_are_ordered.ensures.total;
      same = c.rows_are_ordered.ensures.same;
      moved = c.bags_are_rows_in_order.ensures.rows;
      alike = c.bags_are_sorted_lists.ensures.order;
    } in
    record {
      order = over_same_bag laws;
      more = over_more laws;
      commutes = both_comm laws;
      groups = both_assoc laws;
    }
