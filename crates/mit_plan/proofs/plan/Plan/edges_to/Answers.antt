-- The numbers found are those of a list that the plan keeps.
use Rattle.std.proofs.Common.{◌≡◌, ◌<◌, [], arith, get_or, length, rules}
use Rattle.std.proofs.lemmas.Grind.{common_steps}
use Rattle.std.proofs.lemmas.Option.{gets}
use Rattle.mit_plan.proofs.Lists.{AreLists-below}
use Rattle.mit_plan.proofs.plan.Plan.edges_to.Goals as goal

pub returns-in-Some-clause-edges : goal.returns-in-Some-clause-edges
returns-in-Some-clause-edges c =
    let lists = c.self.inside.into.items in
    let same : c.as_slice.result.now ≡ c.in-Some.numbers.now = c.as_slice.ensures in
    let found : c.in-Some.numbers.now ≡ get_or lists c.args.op [] = first_of (search rules, grind (arith, common_steps, gets)) in
    let within : c.args.op < length lists = first_of (search rules, grind (arith, common_steps, gets)) in
    rw (same, found, ← c.self.view_is) (AreLists-below (λ edge. edge.to) _ c.self.inside.edges.items lists c.args.op c.self.invariant.lead_to within)
