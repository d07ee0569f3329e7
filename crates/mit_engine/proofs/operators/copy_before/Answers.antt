use Rattle.std.proofs.Common.{◌∙◌, ap, arith, sym}
use Rattle.std.specs.Prelude.{List, slice_index_or, slice_set}
use Rattle.std.proofs.lemmas.List.Edits.{map_over_more}
use Rattle.mit_engine.specs.Operators.{sends_all}
use Rattle.mit_engine.specs.declared.edges.Edge.{Edge}
use Rattle.mit_engine.specs.declared.operators.Operator.{Operator}
use Rattle.mit_engine.proofs.operators.copy_before.Goals as goal

pub loop-at-preserved : goal.loop-at-preserved
loop-at-preserved c =
    let operators = c.loop-at.operators in
    let at = c.loop-at.at in
    let operator = slice_index_or operators at c.index-operators-at.result in
    ap (λ (inputs : List Edge). slice_set operators at (record operator { inputs = inputs })) c.in_ok-send_copies.ensures
    ∙ ap (λ (o : Operator). slice_set operators at (sends_all c.args.from c.args.bag.now o)) (sym c.index-operators-at.is)
    ∙ map_over_more (sends_all c.args.from c.args.bag.now) c.args.operators.now operators at c.index-operators-at.result (omega arith) c.loop-at.invariant c.index-operators-at.is
