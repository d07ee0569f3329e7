use Rattle.std.proofs.Common.{◌∙◌, ◌++◌, ◌∷◌, [], List, ap, get_or, map, sym}
use Rattle.std.proofs.lemmas.List.{map_more, take_all}
use Rattle.mit_rows.specs.Bags.{BagOf}
use Rattle.mit_engine.specs.Operators.{first_edge}
use Rattle.mit_engine.specs.declared.edges.Edge.{Edge}
use Rattle.mit_engine.specs.declared.edges.Received.TheVariants.{Awaited}
use Rattle.mit_engine.proofs.edges.Inputs.of.Goals as goal

pub loop-from-init : goal.loop-from-init
loop-from-init c = c.in_ok-edges.ensures.items

pub loop-from-preserved : goal.loop-from-preserved
loop-from-preserved c = c.in_ok-push.ensures.items
    ∙ ap (λ (parts : List BagOf). c.loop-from.edges.items ++ record { from = get_or c.args.sources.now c.loop-from.from-index 0; parts = parts; received = Awaited } ∷ []) c.new.ensures
    ∙ ap (λ (edges : List Edge). edges ++ first_edge (get_or c.args.sources.now c.loop-from.from-index 0) ∷ []) c.loop-from.invariant
    ∙ sym (map_more first_edge c.args.sources.now c.loop-from.from-index 0 c.loop-from-test.true)

pub returns : goal.returns
returns c = c.loop-from.invariant ∙ ap (map first_edge) (take_all c.loop-from.from-index c.args.sources.now c.loop-from-test.false)
