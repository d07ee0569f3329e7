-- What is given has the columns of a bag.
use Rattle.std.proofs.Common.{◌≤◌, ◌∙◌, arith, sym}
use Rattle.mit_rows.specs.declared.row.TheConstants.{MAX_COLUMNS}
use Rattle.mit_ops.specs.Results.{width}
use Rattle.mit_types.proofs.results.result_type.Goals as goal

pub returns-in-Some-clause-kept : goal.returns-in-Some-clause-kept
returns-in-Some-clause-kept c =
    let narrow : width c.args.spec.now c.args.bags.now ≤ MAX_COLUMNS = omega (arith, c.width.ensures) in
    c.bag_types_law.ensures.results c.args.spec.now c.args.bags.now c.args.captures.now c.in-Some.found c.requires.wide narrow (sym c.in_ok-found.ensures ∙ c.in-Some.is)
