-- The edges decide, and then the phis.
use Rattle.std.proofs.lemmas.Bool.{MatchBool-at_false, MatchBool-at_true}
use Rattle.mit_plan.specs.Plans.{EachBlock}
use Rattle.mit_valid.specs.Passed.{BlockPasses}
use Rattle.mit_valid.proofs.Passes.{blocks_pass, phis_decide}
use Rattle.mit_valid.proofs.passing.places_stand.Goals as goal
use Rattle.mit_valid.proofs.passing.places_stand.Goals.{then-branch+in_ok-phis_pass, else-branch}

pub returns : goal.returns
returns c =
    let plan = c.args.plan.now in
    let Pass : Type 0 = EachBlock plan (BlockPasses plan) in
    elim c.if-branch.branch [
      | then-branch+in_ok-phis_pass w ↦
          rw w.result-is (phis_decide plan c.requires.lists (MatchBool-at_true Pass (¬ Pass) w.if-branch.true c.in_ok-blocks_pass.ensures.pass) w.in_ok-phis_pass.field-0 w.in_ok-phis_pass.ensures)
      | else-branch w ↦ rw (w.result-is, w.if-branch.false) (λ places. MatchBool-at_false Pass (¬ Pass) w.if-branch.false c.in_ok-blocks_pass.ensures.pass (blocks_pass plan c.requires.lists places))
    ]
