use Rattle.std.proofs.Common.{◌∙◌, ◌<◌, ◌++◌, ◌-◌, List, ap, arith, drop, length, map, take}
use Rattle.std.proofs.lemmas.Result.{on_ok_weaker}
use Rattle.mit_rows.specs.Bags.{BagOf}
use Rattle.mit_engine.specs.Operators.{sends}
use Rattle.mit_engine.specs.declared.edges.Edge.{Edge}
use Rattle.mit_engine.proofs.SendLemmas.{last_changed, last_takes, written_back}
use Rattle.mit_engine.proofs.edges.Inputs.send.Goals as goal

pub returns-then-index-from : goal.returns-then-index-from
returns-then-index-from c =
    let edges = c.loop-last.self-inside.edges.items in
    let bag = c.loop-last.bag in
    let from = c.args.from in
    let at = c.loop-last.last - 1 in
    let edge = c.index_mut.result.now in
    let within : at < length edges = omega (arith, c.self.inside.edges.ok.0, ap (length {A = Edge}) c.loop-last.invariant.edges) in
    let copied = written_back c.copy_before.new.edges _ c.loop-last.self-inside.edges.len (omega arith) ∙ c.in_ok-copy_before.ensures
    ∙ ap (λ (es : List Edge). map (sends from bag) (take at es) ++ drop at es) c.deref_mut.ensures.value in
    on_ok_weaker c.put.result (λ put.
    last_changed (sends from bag) edges _ at c.loop-last.last edge _ (omega arith) within copied c.index_mut.ensures.value
    (last_takes from bag edges _ at edge c.index.result.now c.put.new.self within copied c.index_mut.ensures.value c.index.ensures c.if-index-from.true put)
    c.loop-last.invariant.left
    ∙ ap (λ (b : BagOf). map (sends from b) edges) c.loop-last.invariant.bag
    ∙ ap (map (sends from c.args.bag)) (c.loop-last.invariant.edges ∙ c.self.view_is)) c.put.ensures.ok
