use Rattle.std.proofs.Common.{◌≡◌, ◌∙◌, ◌<◌, ℕ, List, ap, arith, get_or, length, true}
use Rattle.std.proofs.lemmas.Bool.{lt-ltb}
use Rattle.std.proofs.lemmas.List.{get_or_default}
use Rattle.mit_plan.specs.Plans.{PlanOf, is_phi, no_op, op_at}
use Rattle.mit_plan.specs.Valid.{source_blocks}
use Rattle.mit_plan.specs.declared.plan.PlanOp.{PlanOp}
use Rattle.mit_valid.proofs.Avoiding.{LastPlaces}
use Rattle.mit_valid.proofs.Passes.{avoided_land, avoids_sources, phi_decides, sources_land}
use Rattle.mit_valid.proofs.passing.phi_passes.Goals as goal

op_is : (plan : PlanOf) (ops : List PlanOp) (op : ℕ) (other : PlanOp) → ops ≡ plan.ops → op < length plan.ops → get_or ops op other ≡ op_at plan op
op_is plan ops op other value below = ap (λ (all : List PlanOp). get_or all op other) value ∙ get_or_default plan.ops op other no_op below

pub mark_reached-requires-clause-avoided : goal.mark_reached-requires-clause-avoided
mark_reached-requires-clause-avoided c =
    let plan = c.args.plan.now in
    let many : length c.clear.new.marks ≡ length plan.blocks = omega arith in
    avoided_land c.args.landings.now c.mark_sources.new.marks (source_blocks plan c.args.op)
    (avoids_sources plan c.clear.new.marks c.mark_sources.new.marks c.args.op c.requires.lists c.clear.ensures many c.mark_sources.ensures)
    (sources_land plan c.args.landings.now c.args.op c.requires.lists c.requires.skips)

pub returns-clause-pass : goal.returns-clause-pass
returns-clause-pass c =
    let laws : LastPlaces = record { input = c.last_place_law.ensures.input; phi = c.last_place_law.ensures.phi } in
    let plan = c.args.plan.now in
    let op = c.args.op in
    let read : get_or c.ops.result.now op c.index-ops-op.result ≡ op_at plan op = op_is plan c.ops.result.now op _ c.ops.ensures.value c.requires.op in
    let same : get_or c.ops-2.result.now op c.index-ops-op-2.result ≡ op_at plan op = op_is plan c.ops-2.result.now op _ c.ops-2.ensures.value c.requires.op in
    let phi = ap (λ (one : PlanOp). one.phi) read in
    let some : is_phi (op_at plan op) ≡ true = lt-ltb 0 (op_at plan op).phi (omega arith) in
    let many : length c.clear.new.marks ≡ length plan.blocks = omega arith in
    rw same (phi_decides plan c.args.landings.now c.mark_sources.new.marks c.mark_reached.new.marks op laws c.requires.skips c.requires.op
    (avoids_sources plan c.clear.new.marks c.mark_sources.new.marks op c.requires.lists c.clear.ensures many c.mark_sources.ensures) c.in_ok-mark_reached.ensures.searched
    some (c.requires.lists.operands op c.requires.op some))
