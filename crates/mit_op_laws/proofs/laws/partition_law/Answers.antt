use Rattle.std.proofs.Common.{ap}
use Rattle.mit_ops.specs.Operators.{name_written, whole}
use Rattle.mit_ops.specs.declared.kinds.OpSpec.TheVariants as op
use Rattle.mit_op_laws.proofs.KindOrder.{part_same, whole_same}
use Rattle.mit_op_laws.proofs.KindParts.{apply_alone, parts_add_up, write_gathers}
use Rattle.mit_op_laws.proofs.RowLaws.{RowLaws}
use Rattle.mit_op_laws.proofs.laws.partition_law.Goals as goal

pub returns : goal.returns
returns c =
    let laws : RowLaws = record {
      total = c.rows_are_ordered.ensures.total;
      same = c.rows_are_ordered.ensures.same;
      moved = c.bags_are_rows_in_order.ensures.rows;
      alike = c.bags_are_sorted_lists.ensures.order;
    } in
    record {
      parts = λ spec columns parts cuts files some cut. parts_add_up columns parts laws cuts files some cut spec;
      alone = apply_alone;
      order = whole_same laws;
      part_order = part_same laws;
      write = λ name columns parts cuts files some cut.
          let all = write_gathers columns parts name cuts in
          (ap (λ lists. whole (op.Write name) lists files) all, ap (name_written (op.Write name)) all);
    }
