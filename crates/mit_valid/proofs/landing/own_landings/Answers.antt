-- One block more.
use Rattle.std.proofs.Common.{◌≡◌, ◌∙◌, ◌++◌, ◌∷◌, [], ℕ, List, arith, below_more, get_or, length}
use Rattle.std.proofs.Math.ListN.{get_or-append, length-append}
use Rattle.std.proofs.lemmas.List.{get_or_push}
use Rattle.mit_valid.proofs.landing.own_landings.Goals as goal

pub loop-block-preserved : goal.loop-block-preserved
loop-block-preserved c =
    let landings = c.loop-block.landings.items in
    let block = c.loop-block.block in
    let many : length landings ≡ block = c.loop-block.invariant.many in
    let own : List ℕ = landings ++ block ∷ [] in
    rw c.in_ok-push.ensures.items (record {
      many = omega (arith, length-append landings (block ∷ []));
      each =
          below_more (λ one. get_or own one 0 ≡ one) block
          (λ one below. get_or-append landings (block ∷ []) 0 one (omega (arith, below)) ∙ c.loop-block.invariant.each one below) (get_or_push landings block 0 block many);
    })
