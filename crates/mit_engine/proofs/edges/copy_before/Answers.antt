use Rattle.std.proofs.Common.{◌∙◌, ap, arith, sym}
use Rattle.std.specs.Prelude.{slice_set}
use Rattle.std.proofs.lemmas.List.Edits.{map_over_more}
use Rattle.mit_engine.specs.Operators.{sends}
use Rattle.mit_engine.proofs.edges.copy_before.Goals as goal

pub loop-at-preserved : goal.loop-at-preserved
loop-at-preserved c =
    let sent = c.in_ok-send_copy.ensures ∙ ap (sends c.args.from c.args.bag.now) (sym c.index-edges-at.is) in
    ap (slice_set c.loop-at.edges c.loop-at.at) sent
    ∙ map_over_more (sends c.args.from c.args.bag.now) c.args.edges.now c.loop-at.edges c.loop-at.at c.index-edges-at.result (omega arith) c.loop-at.invariant c.index-edges-at.is
