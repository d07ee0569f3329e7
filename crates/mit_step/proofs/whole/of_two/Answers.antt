use Rattle.std.proofs.Common.{[], ◌∷◌, ◌∙◌, Ok, ap, refl, sym}
use Rattle.mit_rows.specs.Bags.{all_rows}
use Rattle.mit_ops.specs.declared.kinds.OpSpec.TheVariants as op
use Rattle.mit_step.proofs.Wholes.{of_kind, rows_themselves}
use Rattle.mit_step.proofs.whole.of_two.Goals as goal

pub returns-in_ok-joined_rows-in-Join : goal.returns-in_ok-joined_rows-in-Join
returns-in_ok-joined_rows-in-Join c =
    of_kind c.args.spec.now (op.Join c.in-Join.by_left c.in-Join.by_right) (c.args.left.now ∷ c.args.right.now ∷ []) c.args.captures.now
    (Ok c.in_ok-joined_rows-in-Join.field-0) (Ok c.in_ok-joined_rows-in-Join.field-0) c.in-Join.is refl
    (rw (c.as_slice.ensures, c.as_slice-in-Join.ensures) at c.in_ok-joined_rows-in-Join.ensures) refl

pub returns-in_ok-union-in-Union : goal.returns-in_ok-union-in-Union
returns-in_ok-union-in-Union c =
    of_kind c.args.spec.now op.Union (c.args.left.now ∷ c.args.right.now ∷ []) c.args.captures.now (Ok c.in_ok-union-in-Union.field-0) (Ok c.in_ok-union-in-Union.field-0)
    c.in-Union.is refl
    (ap Ok c.in_ok-union-in-Union.ensures
    ∙ sym (rows_themselves c.bags_are_sorted_lists.ensures.sorted c.bags_are_sorted_lists.ensures.parts (all_rows (c.args.left.now ∷ c.args.right.now ∷ [])))) refl
