use Rattle.std.proofs.Common.{◌≡◌, ◌∙◌, ◌++◌, ℕ, List, Bool, ap, arith, drop, false, length, replicate, take}
use Rattle.std.proofs.lemmas.List.{take_at}
use Rattle.mit_plan.specs.declared.plan.PlanBlock.{PlanBlock}
use Rattle.mit_valid.specs.Searched.{is_marked}
use Rattle.mit_valid.proofs.Avoiding.{none_marked, reached_decides}
use Rattle.mit_valid.proofs.Landings.{stays_skip}
use Rattle.mit_valid.proofs.passing.reached.Goals as goal

pub returns : goal.returns
returns c =
    let plan = c.args.plan.now in
    let avoided = c.deref_mut.result.now in
    let landings = c.args.landings.now in
    let marks = c.mark_reached.new.marks in
    let items = c.in_ok-marks.marks.items in
    let many : length marks ≡ c.in_ok-marks.marks.len = omega arith in
    let written : take c.in_ok-marks.marks.len (marks ++ drop (length marks) items) ≡ marks = take_at marks (drop (length marks) items) c.in_ok-marks.marks.len many in
    let empty : avoided ≡ replicate (length c.blocks-2.result.now) false = c.deref_mut.ensures.value ∙ c.in_ok-marks.ensures.items_if_clones_equal (λ y is. is) in
    let none : (block : ℕ) → is_marked avoided block ≡ false = λ block. ap (λ (all : List Bool). is_marked all block) empty ∙ none_marked (length c.blocks-2.result.now) block in
    let all = ap (λ (blocks : List PlanBlock). length blocks) c.blocks-2.ensures.value in
    rw written (record { many = omega (arith, c.in_ok-marks.ensures.len); marks = λ block below. reached_decides plan landings avoided marks none (stays_skip plan landings c.requires.lists c.requires.stays) c.in_ok-mark_reached.ensures.searched block (c.requires.stays.each block below) })
