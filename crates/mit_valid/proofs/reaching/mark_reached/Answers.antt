-- The landing of the first block is visited, and then those of the blocks after each block that waits.
use Rattle.std.proofs.Common.{◌≡◌, ◌<◌, List, [], ap, arith, length}
use Rattle.std.proofs.lemmas.List.{nil_from_length}
use Rattle.mit_plan.specs.Plans.{no_block}
use Rattle.mit_plan.specs.declared.plan.PlanBlock.{PlanBlock}
use Rattle.mit_valid.specs.Searched.{landing_of}
use Rattle.mit_valid.proofs.Searches.{IsUnderWay, Lands, first_landing, next_keeps, searched, turn_falls, turn_goes, turn_names, turn_within, under_way_first, visit_marks, visited}
use Rattle.mit_valid.proofs.reaching.mark_reached.Goals as goal

pub loop-block-init : goal.loop-block-init
loop-block-init c =
    let plan = c.args.plan.now in
    let landings = c.args.landings.now in
    let avoided = c.args.marks.now in
    let none : c.args.waiting.now.items ≡ [] = c.requires.none in
    let lands : Lands plan landings avoided = record { skips = c.requires.skips; leaves = c.requires.leaves; jumps = c.requires.jumps; own = c.requires.avoided } in
    let first : landing_of landings 0 < length avoided = let within = c.requires.skips.within 0 c.requires.some in omega arith in
    rw (c.in_ok-visit.ensures.marks, c.in_ok-visit.ensures.waiting, none) (record {
      start = visit_marks (record { marks = avoided; waiting = [] }) (landing_of landings 0) first;
      under_way =
          visited plan landings avoided [] (record { marks = avoided; waiting = [] }) (landing_of landings 0) first (under_way_first plan landings avoided)
          (first_landing plan landings avoided lands c.requires.some);
    })

pub bounds-blocks-block : goal.bounds-blocks-block
bounds-blocks-block c =
    let same = ap (λ (all : List PlanBlock). length all) c.blocks-blocks.ensures.value in
    let all : length c.loop-block.marks ≡ length c.blocks-blocks.result.now = omega arith in
    let lands : Lands c.args.plan.now c.args.landings.now c.args.marks.now =
    record { skips = c.requires.skips; leaves = c.requires.leaves; jumps = c.requires.jumps; own = c.requires.avoided } in
    turn_within c.args.plan.now c.args.landings.now c.args.marks.now c.loop-block.marks c.loop-block.waiting.items c.pop.new.self.items c.in-Some.block c.blocks-blocks.result.now no_block
    lands c.blocks-blocks.ensures.value all c.in-Some.ensures.items c.loop-block.invariant.under_way

pub visit_next-requires-clause-names : goal.visit_next-requires-clause-names
visit_next-requires-clause-names c =
    let same = ap (λ (all : List PlanBlock). length all) c.blocks-blocks.ensures.value in
    let all : length c.loop-block.marks ≡ length c.blocks-blocks.result.now = omega arith in
    let lands : Lands c.args.plan.now c.args.landings.now c.args.marks.now =
    record { skips = c.requires.skips; leaves = c.requires.leaves; jumps = c.requires.jumps; own = c.requires.avoided } in
    turn_names c.args.plan.now c.args.landings.now c.args.marks.now c.loop-block.marks c.loop-block.waiting.items c.pop.new.self.items c.in-Some.block c.blocks-blocks.result.now _
    lands c.blocks-blocks.ensures.value all c.in-Some.ensures.items c.loop-block.invariant.under_way

pub loop-block-smaller : goal.loop-block-smaller
loop-block-smaller c =
    let same = ap (λ (all : List PlanBlock). length all) c.blocks-blocks.ensures.value in
    let all : length c.loop-block.marks ≡ length c.blocks-blocks.result.now = omega arith in
    let lands : Lands c.args.plan.now c.args.landings.now c.args.marks.now =
    record { skips = c.requires.skips; leaves = c.requires.leaves; jumps = c.requires.jumps; own = c.requires.avoided } in
    turn_falls c.args.plan.now c.args.landings.now c.args.marks.now c.loop-block.marks c.loop-block.waiting.items c.pop.new.self.items c.in-Some.block c.blocks-blocks.result.now _
    lands c.blocks-blocks.ensures.value all c.in-Some.ensures.items c.loop-block.invariant.under_way
    c.visit_next.new.marks c.visit_next.new.waiting.items c.in_ok-visit_next.ensures.marks c.in_ok-visit_next.ensures.waiting

pub loop-block-preserved : goal.loop-block-preserved
loop-block-preserved c =
    let same = ap (λ (all : List PlanBlock). length all) c.blocks-blocks.ensures.value in
    let all : length c.loop-block.marks ≡ length c.blocks-blocks.result.now = omega arith in
    let lands : Lands c.args.plan.now c.args.landings.now c.args.marks.now =
    record { skips = c.requires.skips; leaves = c.requires.leaves; jumps = c.requires.jumps; own = c.requires.avoided } in
    record {
      start = rw c.in_ok-visit_next.ensures.marks (next_keeps c.args.landings.now (record { marks = c.loop-block.marks; waiting = c.pop.new.self.items }) (landing_of c.args.landings.now 0) _ c.loop-block.invariant.start);
      under_way =
          turn_goes c.args.plan.now c.args.landings.now c.args.marks.now c.loop-block.marks c.loop-block.waiting.items c.pop.new.self.items c.in-Some.block c.blocks-blocks.result.now _
          lands c.blocks-blocks.ensures.value all c.in-Some.ensures.items c.loop-block.invariant.under_way
          c.visit_next.new.marks c.visit_next.new.waiting.items c.in_ok-visit_next.ensures.marks c.in_ok-visit_next.ensures.waiting;
    }

pub returns-clause-searched : goal.returns-clause-searched
returns-clause-searched c =
    let empty : length c.loop-block.waiting.items ≡ 0 = omega (arith, c.in_default.ensures.cases) in
    let none : c.loop-block.waiting.items ≡ [] = nil_from_length c.loop-block.waiting.items empty in
    let over : IsUnderWay c.args.plan.now c.args.landings.now c.args.marks.now [] (record { marks = c.loop-block.marks; waiting = [] }) = rw none at c.loop-block.invariant.under_way in
    searched c.args.plan.now c.args.landings.now c.args.marks.now c.loop-block.marks over c.loop-block.invariant.start
