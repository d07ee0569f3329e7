use Rattle.std.proofs.Common.{◌≡◌, ◌∙◌, ◌<◌, ◌++◌, ap, arith, length, refl, sym}
use Rattle.std.specs.Prelude.{option_to_list, slice_set}
use Rattle.std.proofs.lemmas.List.Edits.{map_over_more}
use Rattle.mit_rows.specs.Bags.{BagOf}
use Rattle.mit_engine.specs.Operators.{bag_received, bags_here, feeds_bag}
use Rattle.mit_engine.specs.declared.edges.Edge.{Edge}
use Rattle.mit_engine.proofs.OperatorLemmas.{bag_joins, made_all, made_more, no_bag_joins, untouched}
use Rattle.mit_engine.proofs.edges.Inputs.feed.Goals as goal
use Rattle.mit_engine.proofs.edges.Inputs.feed.Goals.{in-Some+in_ok-push, in_default}

pub loop-edge-preserved : goal.loop-edge-preserved
unfolding bags_here
loop-edge-preserved c =
    let edges = c.deref_mut-edge-items.result.now in
    let at = c.loop-edge.edge-index in
    let edge = c.edge-item.result in
    let before = c.loop-edge.bags.items in
    let after = c.match-feed.bags.items in
    let within : at < length edges = omega arith in
    let bag = c.feed.ensures.bag ∙ ap (λ (e : Edge). bag_received e.received) (sym c.edge-item.is) in
    let fed = c.feed.ensures.edge ∙ ap feeds_bag (sym c.edge-item.is) in
    let due = bag_received edge.received in
    let grown : after ≡ before ++ due =
    elim c.match-feed.branch [
      | in-Some+in_ok-push w ↦
          bag_joins (option_to_list c.feed.result) due before after w.in-Some.bag bag (ap (option_to_list {X = BagOf}) w.in-Some.is) (rw w.bags-is w.in_ok-push.ensures.items)
      | in_default w ↦ no_bag_joins (option_to_list c.feed.result) due before after bag (ap (option_to_list {X = BagOf}) w.in_default.is) (rw w.bags-is)
    ] in
    let first = untouched feeds_bag edges c.loop-edge.edge-items at edge within c.loop-edge.invariant.edges c.edge-item.is in
    record {
      fed = made_more bags_here bags_here due edges at edge before after _ refl within first c.loop-edge.invariant.fed grown;
      edges = ap (slice_set c.loop-edge.edge-items at) fed ∙ map_over_more feeds_bag edges c.loop-edge.edge-items at edge within c.loop-edge.invariant.edges c.edge-item.is;
    }

pub returns-clause-fed : goal.returns-clause-fed
unfolding bags_here
returns-clause-fed c =
    made_all bags_here c.deref_mut-edge-items.result.now c.loop-edge.edge-index c.loop-edge.bags.items _ refl (omega arith) c.loop-edge.invariant.fed
    ∙ ap bags_here (c.deref_mut-edge-items.ensures.value ∙ c.self.view_is)
