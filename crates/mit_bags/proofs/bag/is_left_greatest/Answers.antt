use Rattle.std.proofs.Common.{subst, sym, Bool}
use Rattle.mit_bags.specs.Merging.{IsSideOf}
use Rattle.mit_bags.proofs.MergeFacts.{side_of}
use Rattle.mit_bags.proofs.bag.is_left_greatest.Goals as goal

pub returns-in-Some-Some : goal.returns-in-Some-Some
returns-in-Some-Some c =
    subst (λ (b : Bool). IsSideOf c.args.left.now c.args.right.now b) (sym c.is_ge.ensures)
    (side_of c.args.left.now c.args.right.now c.in-Some-Some.a.now c.in-Some-Some.b.now c.cmp_rows.result c.cmp_rows.ensures
    (sym c.in-Some-Some.ensures.value) (sym c.in-Some-Some.ensures'.value))
