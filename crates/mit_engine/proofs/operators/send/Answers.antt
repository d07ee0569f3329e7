use Rattle.std.proofs.Common.{◌∙◌, ◌<◌, ◌++◌, ◌-◌, List, ap, arith, drop, length, map, take, sym}
use Rattle.std.proofs.lemmas.Result.{on_ok_weaker}
use Rattle.mit_rows.specs.Bags.{BagOf}
use Rattle.mit_engine.specs.Operators.{sends_all}
use Rattle.mit_engine.specs.declared.edges.Edge.{Edge}
use Rattle.mit_engine.specs.declared.operators.Operator.{Operator}
use Rattle.mit_engine.proofs.SendLemmas.{edges_stay, last_changed, left_more, written_back}
use Rattle.mit_engine.proofs.operators.send.Goals as goal

pub loop-last-preserved : goal.loop-last-preserved
loop-last-preserved c =
    let operators = c.loop-last.operators.items in
    let operator = c.index.result.now in
    let within : c.loop-last.last - 1 < length operators = omega (arith, c.args.operators.now.ok.0, ap (length {A = Operator}) c.loop-last.invariant.operators) in
    record {
      bag = c.loop-last.invariant.bag;
      operators = c.loop-last.invariant.operators;
      left = left_more (sends_all c.args.from c.loop-last.bag) operators (c.loop-last.last - 1) c.loop-last.last operator (omega arith) within c.index.ensures
          (ap (λ (inputs : List Edge). record operator { inputs = inputs }) (edges_stay c.args.from c.loop-last.bag operator.inputs (sym c.lead_from.ensures ∙ c.if-lead_from.false)))
          c.loop-last.invariant.left;
    }

pub returns-then-lead_from : goal.returns-then-lead_from
returns-then-lead_from c =
    let operators = c.loop-last.operators.items in
    let bag = c.loop-last.bag in
    let from = c.args.from in
    let at = c.loop-last.last - 1 in
    let operator = c.index_mut.result.now in
    let within : at < length operators = omega (arith, c.args.operators.now.ok.0, ap (length {A = Operator}) c.loop-last.invariant.operators) in
    let copied = written_back c.copy_before.new.operators _ c.loop-last.operators.len (omega arith) ∙ c.in_ok-copy_before.ensures
    ∙ ap (λ (os : List Operator). map (sends_all from bag) (take at os) ++ drop at os) c.deref_mut.ensures.value in
    on_ok_weaker c.send.result (λ sent.
    last_changed (sends_all from bag) operators _ at c.loop-last.last operator _ (omega arith) within copied c.index_mut.ensures.value
    (ap (λ (inputs : List Edge). record operator { inputs = inputs }) sent) c.loop-last.invariant.left
    ∙ ap (λ (b : BagOf). map (sends_all from b) operators) c.loop-last.invariant.bag
    ∙ ap (map (sends_all from c.args.bag)) c.loop-last.invariant.operators) c.send.ensures
