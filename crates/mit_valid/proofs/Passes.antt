-- Whether edges and phis pass, by marks, and that they all pass exactly where there are places to choose.
use Rattle.std.proofs.Common.{◌≡◌, ◌∙◌, ◌<◌, ◌-◌, ℕ, List, [], ◌∷◌, fold, length, get_or, map, not, set, ap, sym, subst, refl, inl, inr, ⊎_elim, arith, eqb, Bool, true, false, All, Contains, Err, IfOk, MatchBool, Ok, Result}
use Rattle.std.specs.Bool.{beq}
use Rattle.std.specs.declared.alloc.AllocError.{AllocError}
use Rattle.std.specs.Prelude.{◌⊎◌, ◌&&◌, IsSome}
use Rattle.std.proofs.lemmas.Bool.{and_from, and_parts, both_ways, cases_Bool, cases_eq, ne_eqb, eqb-false, not-true, not_from_false}
use Rattle.std.proofs.lemmas.List.{get_or-map, get_or_default, length-map}
use Rattle.std.proofs.lemmas.List.Elements.{All-contains, All-map}
use Rattle.std.proofs.lemmas.List.Folds.{fold-map}
use Rattle.mit_path.specs.Choice.{chosen_operand}
use Rattle.mit_plan.specs.Paths.{IsPath}
use Rattle.mit_plan.specs.Plans.{EachBlock, EachOp, PlanOf, edge_at, edges_to, inputs_of, is_phi, op_at, source_block, target_block}
use Rattle.mit_plan.specs.Valid.{AreApart, Chooses, IsReached, PlacesToChoose, source_blocks}
use Rattle.mit_plan.specs.declared.plan.Edge.{Edge}
use Rattle.mit_valid.specs.Deciding.{ListsStand, PathsStand, Tells}
use Rattle.mit_valid.specs.Passed.{BlockFeeds, BlockPasses, EdgePasses, PhiPasses, feeds, sources_marked}
use Rattle.mit_valid.specs.Searched.{IsSearched, Skips, is_marked, landing_of}
use Rattle.mit_valid.proofs.Avoiding.{Avoids, LastPlaces, avoids, last_below, marked_lacks, own_chooses, unmarked_chooses}
use Rattle.mit_valid.proofs.Feeding.{is_input, leads_to}
use Rattle.mit_valid.proofs.Searches.{next_is}

-- ---- edges

-- the blocks at both ends of an edge are there
source_within : (plan : PlanOf) (edge : ℕ) → ListsStand plan → edge < length plan.edges → source_block plan (edge_at plan edge) < length plan.blocks
source_within plan edge lists below = (lists.ranges.each (edge_at plan edge).from (lists.inputs.name edge below).from).block

target_within : (plan : PlanOf) (edge : ℕ) → ListsStand plan → edge < length plan.edges → target_block plan (edge_at plan edge) < length plan.blocks
target_within plan edge lists below = (lists.ranges.each (edge_at plan edge).to (lists.inputs.name edge below).to).block

-- an edge passes that stays in its block
passes_inside : LastPlaces → (plan : PlanOf) (edge : ℕ) → target_block plan (edge_at plan edge) ≡ source_block plan (edge_at plan edge) → EdgePasses plan edge
passes_inside laws plan edge inside = record {
  chooses = λ plain path is place below at. own_chooses laws path (source_block plan (edge_at plan edge)) place (sym at ∙ inside);
}

-- how an edge feeds a marked block
record Leads (plan : PlanOf) (marks : List Bool) (block edge : ℕ) : Type 0 where
  plain : is_phi (op_at plan (edge_at plan edge).to) ≡ false
  outside : target_block plan (edge_at plan edge) ≡ block → ⊥
  marked : is_marked marks (target_block plan (edge_at plan edge)) ≡ true

-- in the test's words
leads_out : (plan : PlanOf) (marks : List Bool) (block edge : ℕ) → feeds plan marks block edge ≡ true → Leads plan marks block edge
leads_out plan marks block edge leads =
    let plain = not (is_phi (op_at plan (edge_at plan edge).to)) in
    let outside = not (eqb (target_block plan (edge_at plan edge)) block) in
    let marked = is_marked marks (target_block plan (edge_at plan edge)) in
    let both = and_parts (plain && outside) marked leads in
    let two = and_parts plain outside both.0 in
    record {
      plain = not-true (is_phi (op_at plan (edge_at plan edge).to)) two.0;
      outside = eqb-false (target_block plan (edge_at plan edge)) block (not-true (eqb (target_block plan (edge_at plan edge)) block) two.1);
      marked = both.1;
    }

leads_in : (plan : PlanOf) (marks : List Bool) (block edge : ℕ) → Leads plan marks block edge → feeds plan marks block edge ≡ true
leads_in plan marks block edge out =
    let plain = not_from_false (is_phi (op_at plan (edge_at plan edge).to)) out.plain in
    let outside = not_from_false (eqb (target_block plan (edge_at plan edge)) block) (ne_eqb (target_block plan (edge_at plan edge)) block out.outside) in
    and_from (not (is_phi (op_at plan (edge_at plan edge).to)) && not (eqb (target_block plan (edge_at plan edge)) block))
    (is_marked marks (target_block plan (edge_at plan edge)))
    (and_from (not (is_phi (op_at plan (edge_at plan edge).to))) (not (eqb (target_block plan (edge_at plan edge)) block)) plain outside) out.marked

-- where no edge of a block feeds a marked one, each passes that passes where its target is not marked
block_passes : (plan : PlanOf) (marks : List Bool) (block : ℕ) → LastPlaces → (BlockFeeds plan marks block → ⊥)
    → ((edge : ℕ) → edge < length plan.edges → source_block plan (edge_at plan edge) ≡ block → is_marked marks (target_block plan (edge_at plan edge)) ≡ false → EdgePasses plan edge)
    → BlockPasses plan block
block_passes plan marks block laws none unmarked = record { each = λ edge below from_block. by_block edge below from_block (cases_eq (target_block plan (edge_at plan edge)) block) }
  where
    by_plain : (edge : ℕ) → edge < length plan.edges → source_block plan (edge_at plan edge) ≡ block → (target_block plan (edge_at plan edge) ≡ block → ⊥)
        → (is_phi (op_at plan (edge_at plan edge).to) ≡ true) ⊎ (is_phi (op_at plan (edge_at plan edge).to) ≡ false)
        → (is_marked marks (target_block plan (edge_at plan edge)) ≡ true) ⊎ (is_marked marks (target_block plan (edge_at plan edge)) ≡ false) → EdgePasses plan edge
    by_plain edge below from_block outside (inl phi) mark = record { chooses = λ plain. absurd (both_ways (is_phi (op_at plan (edge_at plan edge).to)) plain phi) }
    by_plain edge below from_block outside (inr plain) (inl marked) =
        absurd (none (record { edge = edge; below = below; from_block = from_block; leads = leads_in plan marks block edge (record { plain = plain; outside = outside; marked = marked }) }))
    by_plain edge below from_block outside (inr plain) (inr free) = unmarked edge below from_block free

    by_block : (edge : ℕ) → edge < length plan.edges → source_block plan (edge_at plan edge) ≡ block
        → (target_block plan (edge_at plan edge) ≡ block) ⊎ (target_block plan (edge_at plan edge) ≡ block → ⊥) → EdgePasses plan edge
    by_block edge below from_block (inl inside) = passes_inside laws plan edge (inside ∙ sym from_block)
    by_block edge below from_block (inr outside) =
        by_plain edge below from_block outside (cases_Bool (is_phi (op_at plan (edge_at plan edge).to))) (cases_Bool (is_marked marks (target_block plan (edge_at plan edge))))

-- where every block is marked, none leaves its block but for phis
pub block_passes_alone : (plan : PlanOf) (all : List Bool) (block : ℕ) → LastPlaces → ListsStand plan → EachBlock plan (λ one. is_marked all one ≡ true)
    → (BlockFeeds plan all block → ⊥) → BlockPasses plan block
block_passes_alone plan all block laws lists everywhere none =
    block_passes plan all block laws none (λ edge below from_block free.
    absurd (both_ways (is_marked all (target_block plan (edge_at plan edge))) free (everywhere (target_block plan (edge_at plan edge)) (target_within plan edge lists below))))

-- a block from which an edge leads lands at itself
pub fed_lands : (plan : PlanOf) (landings : List ℕ) (marks : List Bool) (block : ℕ) → ListsStand plan → Skips plan landings → BlockFeeds plan marks block
    → landing_of landings block ≡ block
fed_lands plan landings marks block lists skips some =
    subst (λ (one : ℕ). landing_of landings one ≡ one) some.from_block (skips.own (edge_at plan some.edge).from (lists.inputs.name some.edge some.below).from)

-- and so do all avoided ones where the operands' blocks do
pub avoided_land : (landings : List ℕ) (avoided : List Bool) (operands : List ℕ) → Avoids avoided operands → All (λ block. landing_of landings block ≡ block) operands
    → (block : ℕ) → is_marked avoided block ≡ true → landing_of landings block ≡ block
avoided_land landings avoided operands avoid land block marked = All-contains (λ (one : ℕ). landing_of landings one ≡ one) operands block land (avoid.only block marked)

-- where those are marked that are reached without this block, a feeding edge has a path without a choice
module _ (plan : PlanOf) (landings : List ℕ) (avoided marks : List Bool) (block : ℕ) (laws : LastPlaces) (lists : ListsStand plan) (skips : Skips plan landings)
    (avoid : Avoids avoided (block ∷ [])) (over : IsSearched plan landings avoided marks) where
  block_passes_apart : (BlockFeeds plan marks block → ⊥) → BlockPasses plan block
  block_passes_apart none =
      block_passes plan marks block laws none (λ edge below from_block free. record {
        chooses = λ plain path is place within at.
            let unmarked : is_marked marks (get_or path place 0) ≡ false = ap (λ (one : ℕ). is_marked marks one) (sym at) ∙ free in
            let lands = skips.own (edge_at plan edge).to (lists.inputs.name edge below).to in
            rw from_block (unmarked_chooses plan landings avoided marks (block ∷ []) path place skips avoid over is within (rw at at lands) unmarked laws false);
      })

  block_fails : BlockFeeds plan marks block → BlockPasses plan block → ⊥
  block_fails some passes =
      let target = target_block plan (edge_at plan some.edge) in
      let out = leads_out plan marks block some.edge some.leads in
      let clear : is_marked avoided target ≡ false =
      ⊎_elim (λ (marked : is_marked avoided target ≡ true). absurd (out.outside (sym (next_is block target (avoid.only target marked))))) (λ (free : is_marked avoided target ≡ false). free)
      (cases_Bool (is_marked avoided target)) in
      let to = over.found target out.marked clear in
      let chosen_there = (passes.each some.edge some.below some.from_block).chooses out.plain to.path to.is_path (length to.path - 1)
      (last_below plan avoided (block ∷ []) target avoid to) (sym to.ends) in
      marked_lacks plan avoided (block ∷ []) target avoid to laws false (rw some.from_block at chosen_there)

  pub block_decides : (fed : Bool) → Tells fed (BlockFeeds plan marks block) → Tells (not fed) (BlockPasses plan block)
  block_decides true some = block_fails some
  block_decides false none = block_passes_apart none

-- ---- phis

-- where those are marked that are reached without a block of an operand

module _ (plan : PlanOf) (landings : List ℕ) (avoided marks : List Bool) (op : ℕ) (laws : LastPlaces) (skips : Skips plan landings) (below : op < length plan.ops)
    (avoid : Avoids avoided (source_blocks plan op)) (over : IsSearched plan landings avoided marks) where
  phi_passes : is_marked marks (op_at plan op).block ≡ false → PhiPasses plan op
  phi_passes free = record {
    chooses = λ phi path is place within at.
        unmarked_chooses plan landings avoided marks (source_blocks plan op) path place skips avoid over is within (rw at at (skips.own op below))
        (ap (λ (one : ℕ). is_marked marks one) (sym at) ∙ free) laws true;
  }

  phi_fails : is_phi (op_at plan op) ≡ true → AreApart (source_blocks plan op) (op_at plan op).block → is_marked marks (op_at plan op).block ≡ true → PhiPasses plan op → ⊥
  phi_fails phi apart marked passes =
      let own = (op_at plan op).block in
      let clear : is_marked avoided own ≡ false =
      ⊎_elim (λ (is : is_marked avoided own ≡ true). absurd (not_among (avoid.only own is))) (λ (free : is_marked avoided own ≡ false). free) (cases_Bool (is_marked avoided own)) in
      let to = over.found own marked clear in
      marked_lacks plan avoided (source_blocks plan op) own avoid to laws true
      (passes.chooses phi to.path to.is_path (length to.path - 1) (last_below plan avoided (source_blocks plan op) own avoid to) (sym to.ends))
    where
      not_among : Contains (source_blocks plan op) (op_at plan op).block → ⊥
      not_among (k, below, is) = apart.others k below (get_or_default (source_blocks plan op) k 0 (op_at plan op).block below ∙ is)

  phi_by : is_phi (op_at plan op) ≡ true → AreApart (source_blocks plan op) (op_at plan op).block → (marked : Bool) → is_marked marks (op_at plan op).block ≡ marked
      → Tells (not marked) (PhiPasses plan op)
  phi_by phi apart true marked = phi_fails phi apart marked
  phi_by phi apart false free = phi_passes free

  pub phi_decides : is_phi (op_at plan op) ≡ true → AreApart (source_blocks plan op) (op_at plan op).block → Tells (not (is_marked marks (op_at plan op).block)) (PhiPasses plan op)
  phi_decides phi apart = phi_by phi apart (is_marked marks (op_at plan op).block) refl

-- what holds of each operator's block holds of the blocks of operands: they are there, and land at themselves
each_source : (P : ℕ → Type 0) (plan : PlanOf) (op : ℕ) → ListsStand plan → EachOp plan (λ one. P (op_at plan one).block) → All P (source_blocks plan op)
each_source P plan op lists each =
    All-map P (source_block plan) (inputs_of plan op)
    (All-map (λ (edge : Edge). P (source_block plan edge)) (edge_at plan) (edges_to plan op)
    (λ k d below.
    let edge = get_or (edges_to plan op) k d in
    each (edge_at plan edge).from (lists.inputs.name edge (leads_to plan op k d below).0).from))

pub sources_land : (plan : PlanOf) (landings : List ℕ) (op : ℕ) → ListsStand plan → Skips plan landings → All (λ block. landing_of landings block ≡ block) (source_blocks plan op)
sources_land plan landings op lists skips = each_source (λ block. landing_of landings block ≡ block) plan op lists skips.own

-- and they are marked alone
pub avoids_sources : (plan : PlanOf) (marks later : List Bool) (op : ℕ) → ListsStand plan → ((block : ℕ) → is_marked marks block ≡ false) → length marks ≡ length plan.blocks
    → later ≡ sources_marked plan marks (edges_to plan op) → Avoids later (source_blocks plan op)
avoids_sources plan marks later op lists clear many is =
    let same : sources_marked plan marks (edges_to plan op) ≡ fold (λ marks block. set marks block true) marks (source_blocks plan op) =
    sym (fold-map (λ (marks : List Bool) (edge : Edge). set marks (source_block plan edge) true) (edge_at plan) marks (edges_to plan op))
    ∙ sym (fold-map (λ (marks : List Bool) (block : ℕ). set marks block true) (source_block plan) marks (inputs_of plan op)) in
    rw (is, same)
    (avoids marks (source_blocks plan op) clear (rw many (each_source (λ block. block < length plan.blocks) plan op lists (λ one below. (lists.ranges.each one below).block))))

-- ---- all of them

-- what holds of each of these
All-unmapped : {X Y : Type 0} (P : Y → Type 0) (f : X → Y) (xs : List X) → All P (map f xs) → All (λ x. P (f x)) xs
All-unmapped P f xs all = λ k d below. let e = length-map xs f in subst P (get_or-map f xs k d (f d) below) (all k (f d) (omega arith))

-- edges and phis that pass give each operator a place to choose
places_from : (plan : PlanOf) → ListsStand plan → EachBlock plan (BlockPasses plan) → EachOp plan (PhiPasses plan) → PlacesToChoose plan
places_from plan lists blocks phis path is place below op within at = by_phi (is_phi (op_at plan op)) refl
  where
    edge_chooses : (edge : ℕ) → is_phi (op_at plan op) ≡ false → (edge < length plan.edges) × ((edge_at plan edge).to ≡ op)
        → IsSome (chosen_operand path (source_block plan (edge_at plan edge) ∷ []) place false)
    edge_chooses edge plain (less, to) =
        let source = source_block plan (edge_at plan edge) in
        let there : source < length plan.blocks = source_within plan edge lists less in
        let no_phi : is_phi (op_at plan (edge_at plan edge).to) ≡ false = ap (λ (one : ℕ). is_phi (op_at plan one)) to ∙ plain in
        let target : target_block plan (edge_at plan edge) ≡ get_or path place 0 = ap (λ (one : ℕ). (op_at plan one).block) to ∙ at in
        ((blocks source there).each edge less refl).chooses no_phi path is place below target

    by_phi : (phi : Bool) → is_phi (op_at plan op) ≡ phi
        → MatchBool phi (IsSome (chosen_operand path (source_blocks plan op) place true)) (All (λ block. IsSome (chosen_operand path (block ∷ []) place false)) (source_blocks plan op))
    by_phi true phi = (phis op within).chooses phi path is place below at
    by_phi false plain =
        let P : ℕ → Type 0 = λ block. IsSome (chosen_operand path (block ∷ []) place false) in
        All-map P (source_block plan) (inputs_of plan op)
        (All-map (λ (edge : Edge). P (source_block plan edge)) (edge_at plan) (edges_to plan op)
        (λ k d less. edge_chooses (get_or (edges_to plan op) k d) plain (leads_to plan op k d less)))

-- and pass where each has one
pub blocks_pass : (plan : PlanOf) → ListsStand plan → PlacesToChoose plan → EachBlock plan (BlockPasses plan)
blocks_pass plan lists places block there = record { each = λ edge less from_block. record { chooses = λ plain path is place below at. chooses_at edge less plain path is place below at } }
  where
    chooses_at : (edge : ℕ) → edge < length plan.edges → is_phi (op_at plan (edge_at plan edge).to) ≡ false → (path : List ℕ) → IsPath plan path → (place : ℕ) → place < length path
        → target_block plan (edge_at plan edge) ≡ get_or path place 0 → IsSome (chosen_operand path (source_block plan (edge_at plan edge) ∷ []) place false)
    chooses_at edge less plain path is place below at =
        let op = (edge_at plan edge).to in
        let P : ℕ → Type 0 = λ block. IsSome (chosen_operand path (block ∷ []) place false) in
        let chooses : Chooses plan path place op = places path is place below op (lists.inputs.name edge less).to at in
        let each : All P (source_blocks plan op) = rw plain at chooses in
        All-contains (λ (one : ℕ). P (source_block plan (edge_at plan one))) (edges_to plan op) edge
        (All-unmapped (λ (one : Edge). P (source_block plan one)) (edge_at plan) (edges_to plan op) (All-unmapped P (source_block plan) (inputs_of plan op) each)) (is_input plan edge less)

phis_pass : (plan : PlanOf) → PlacesToChoose plan → EachOp plan (PhiPasses plan)
phis_pass plan places op within = record { chooses = λ phi path is place below at. let chooses : Chooses plan path place op = places path is place below op within at in rw phi at chooses }

-- the phis decide where the edges pass
pub phis_decide : (plan : PlanOf) → ListsStand plan → EachBlock plan (BlockPasses plan) → (pass : Bool) → Tells pass (EachOp plan (PhiPasses plan)) → Tells pass (PlacesToChoose plan)
phis_decide plan lists blocks true phis = places_from plan lists blocks phis
phis_decide plan lists blocks false fails = λ places. fails (phis_pass plan places)

-- and the places where each block is reached
pub places_decide : (plan : PlanOf) → EachBlock plan (IsReached plan) → (stand : Result Bool AllocError) → IfOk stand (λ stand. Tells stand (PlacesToChoose plan))
    → IfOk stand (λ stand. Tells stand (PathsStand plan))
places_decide plan reached (Ok true) places = record { reached = reached; places = places }
places_decide plan reached (Ok false) none = λ paths. none paths.places
places_decide plan reached (Err error) nothing = tt

-- a mark compared with false
pub is_false : (mark : Bool) → beq mark false ≡ true → mark ≡ false
is_false true same = sym same
is_false false same = refl

pub is_true : (mark : Bool) → beq mark false ≡ false → mark ≡ true
is_true true other = refl
is_true false other = sym other
