use Rattle.std.proofs.Common.{List, arith, subst, sym}
use Rattle.std.specs.FinMap as fin
use Rattle.mit_rows.specs.Bags.{BagOf}
use Rattle.mit_ops.specs.Operators.{whole}
use Rattle.mit_ops.specs.Parts.{Fits}
use Rattle.mit_step.specs.Stepping.{GivesWhole, with_captures}
use Rattle.mit_step.proofs.Orders.{map_none, map_one, map_two}
use Rattle.mit_step.proofs.whole.whole_loose.Goals as goal

pub of_none-requires-clause-kind : goal.of_none-requires-clause-kind
of_none-requires-clause-kind c = c.requires.kind.0

pub of_none-requires-clause-count : goal.of_none-requires-clause-count
of_none-requires-clause-count c = omega (arith, c.requires.count, c.in-empty.len_below)

pub of_none-requires-clause-fits : goal.of_none-requires-clause-fits
of_none-requires-clause-fits c =
    subst (λ (bags : List BagOf). Fits c.args.spec.now (with_captures bags c.args.captures.now)) (map_none (λ bag. bag.value) c.args.bags.now c.in-empty.len_below) c.requires.fits

pub of_loose-requires-clause-kind : goal.of_loose-requires-clause-kind
of_loose-requires-clause-kind c = c.requires.kind.1

pub of_loose-requires-clause-count : goal.of_loose-requires-clause-count
of_loose-requires-clause-count c = omega (arith, c.requires.count, c.in-len1.len_at_least, c.in-len1.len_below)

pub of_loose-requires-clause-fits : goal.of_loose-requires-clause-fits
of_loose-requires-clause-fits c =
    subst (λ (bags : List BagOf). Fits c.args.spec.now (with_captures bags c.args.captures.now))
    (map_one (λ bag. bag.value) c.args.bags.now c.bag-item.result c.deref.result.now c.in-len1.len_at_least c.in-len1.len_below c.bag-item.is c.deref.ensures) c.requires.fits

pub of_two_loose-requires-clause-count : goal.of_two_loose-requires-clause-count
of_two_loose-requires-clause-count c = omega (arith, c.requires.count, c.in-len2.len_at_least, c.in-len2.len_below)

pub of_two_loose-requires-clause-fits : goal.of_two_loose-requires-clause-fits
of_two_loose-requires-clause-fits c =
    subst (λ (bags : List BagOf). Fits c.args.spec.now (with_captures bags c.args.captures.now))
    (map_two (λ bag. bag.value) c.args.bags.now c.left-item.result c.right-item.result c.deref-in-len2.result.now c.deref-in-len2-2.result.now c.in-len2.len_at_least c.in-len2.len_below c.left-item.is c.right-item.is
    c.deref-in-len2.ensures c.deref-in-len2-2.ensures) c.requires.fits

pub returns-in-empty : goal.returns-in-empty
returns-in-empty c =
    subst (λ (bags : List BagOf). GivesWhole (whole c.args.spec.now (with_captures bags c.args.captures.now) fin.empty) c.of_none.result)
    (sym (map_none (λ bag. bag.value) c.args.bags.now c.in-empty.len_below)) c.of_none.ensures

pub returns-in-len1 : goal.returns-in-len1
returns-in-len1 c =
    subst (λ (bags : List BagOf). GivesWhole (whole c.args.spec.now (with_captures bags c.args.captures.now) fin.empty) c.of_loose.result)
    (sym (map_one (λ bag. bag.value) c.args.bags.now c.bag-item.result c.deref.result.now c.in-len1.len_at_least c.in-len1.len_below c.bag-item.is c.deref.ensures)) c.of_loose.ensures

pub returns-in-len2 : goal.returns-in-len2
returns-in-len2 c =
    subst (λ (bags : List BagOf). GivesWhole (whole c.args.spec.now (with_captures bags c.args.captures.now) fin.empty) c.of_two_loose.result)
    (sym (map_two (λ bag. bag.value) c.args.bags.now c.left-item.result c.right-item.result c.deref-in-len2.result.now c.deref-in-len2-2.result.now c.in-len2.len_at_least c.in-len2.len_below
    c.left-item.is c.right-item.is c.deref-in-len2.ensures c.deref-in-len2-2.ensures)) c.of_two_loose.ensures
