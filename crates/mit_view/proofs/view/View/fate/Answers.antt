use Rattle.std.proofs.Common.{◌≡◌, ◌<◌, ◌∷◌, length, get_or, take, drop, suc, arith, eqb, false}
use Rattle.std.specs.Prelude.{not, ◌&&◌}
use Rattle.std.proofs.lemmas.Bool.{and_left, and_right, ne_eqb, not_from_true}
use Rattle.std.proofs.lemmas.List.{take_all, take_more}
use Rattle.mit_path.specs.Fate.{first_decides}
use Rattle.mit_view.proofs.Walked.{next_among_push, whichever_first}
use Rattle.mit_view.proofs.view.View.fate.Goals as goal
use Rattle.mit_view.proofs.view.View.fate.Goals.{else-not-phi-via-then-not-phi+else-source-target, else-not-phi-via-else-not-phi}

pub loop-sibling-preserved : goal.loop-sibling-preserved
loop-sibling-preserved c =
    let siblings = c.args.siblings.now in
    let number = c.loop-sibling.sibling-index in
    let within : number < length siblings = omega arith in
    let longer = take_more siblings number 0 within in
    let more = next_among_push c.args.self.now.path (c.args.source ∷ take number siblings) (get_or siblings number 0) (suc c.args.place) in
    cc

-- the edge is none that sends at once
pub returns : goal.returns
returns c =
    let path = c.args.self.now.path in
    let siblings = c.args.siblings.now in
    let outside : (not c.args.phi && eqb c.args.source c.args.target) ≡ false = elim c.else-not-phi.branch [
      | else-not-phi-via-then-not-phi+else-source-target w ↦ and_right _ _ (ne_eqb _ _ w.if-source-target.false)
      | else-not-phi-via-else-not-phi w ↦ and_left _ _ (not_from_true _ w.if-not-phi.false)
    ] in
    let all = take_all c.loop-sibling.sibling-index siblings (omega arith) in
    let walk = whichever_first path c.args.target (c.args.source ∷ siblings) c.args.complete (suc c.args.place) in
    let is : c.decided.result ≡ first_decides c.args.target (c.args.source ∷ siblings) c.args.complete (drop (suc c.args.place) path) = cc in
    rw outside is
