use Rattle.mit_op_laws.proofs.TypedParts.{part_columns, whole_columns}
use Rattle.mit_op_laws.proofs.TypedScalars.{one_truth, part_scalar, whole_scalar}
use Rattle.mit_op_laws.proofs.laws.typing_law.Goals as goal

pub returns-clause-given : goal.returns-clause-given
returns-clause-given c = c.bag_types_law.ensures.typed

pub returns-clause-columns : goal.returns-clause-columns
returns-clause-columns c = part_columns c.bags_are_rows_in_order.ensures.rows c.typing_law.ensures

pub returns-clause-scalar : goal.returns-clause-scalar
returns-clause-scalar c = part_scalar c.bags_are_rows_in_order.ensures.rows c.typing_law.ensures

pub returns-clause-whole_columns : goal.returns-clause-whole_columns
returns-clause-whole_columns c = whole_columns c.bags_are_rows_in_order.ensures.rows c.typing_law.ensures

pub returns-clause-whole_scalar : goal.returns-clause-whole_scalar
returns-clause-whole_scalar c = whole_scalar c.bags_are_rows_in_order.ensures.rows c.typing_law.ensures

pub returns-clause-truth : goal.returns-clause-truth
returns-clause-truth c = one_truth
