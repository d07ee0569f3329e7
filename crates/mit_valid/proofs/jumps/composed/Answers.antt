-- One block more.
use Rattle.std.proofs.Common.{◌++◌, ◌∷◌, ◌∙◌, [], ℕ, List, ap, get_or, sym}
use Rattle.std.specs.Prelude.{slice_index}
use Rattle.std.proofs.lemmas.List.{map_more}
use Rattle.mit_valid.proofs.jumps.composed.Goals as goal

pub loop-block-preserved : goal.loop-block-preserved
loop-block-preserved c =
    let first = c.args.first.now in
    let at = c.loop-block.block-index in
    let leads : ℕ → ℕ = λ block. slice_index c.args.second.now block in
    c.in_ok-push.ensures.items
    ∙ ap (λ (table : List ℕ). table ++ leads (get_or first at 0) ∷ []) c.loop-block.invariant
    ∙ sym (map_more leads first at 0 c.loop-block-test.true)
