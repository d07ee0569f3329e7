-- Tables of the blocks to which jumps alone lead: of none, of one more, and of as many as two others together.
use Rattle.std.proofs.Common.{◌≡◌, ◌∙◌, ◌<◌, ◌+◌, ◌-◌, ℕ, suc, List, length, map, get_or, ap, sym, subst, refl, arith, Bool}
use Rattle.std.specs.List.{All, range_with_len}
use Rattle.std.specs.Prelude.{IsTrue}
use Rattle.std.proofs.lemmas.List.{get_or-map, get_or_default, length-map}
use Rattle.std.proofs.lemmas.List.FromFn.{get_or-range_with_len, length-range_with_len}
use Rattle.mit_ops.specs.declared.leave.Leave.{Leave}
use Rattle.mit_ops.specs.declared.leave.Leave.TheVariants.{Jump, Branch, End}
use Rattle.mit_plan.specs.Plans.{PlanOf, block_at}
use Rattle.mit_plan.specs.Valid.{JumpsEnd, LeavesNameBlocks, NamesBlocks, by_leave, settles}
use Rattle.mit_valid.specs.Deciding.{Tells}
use Rattle.mit_valid.specs.Jumping.{AreLed, JumpsTo, is_no_jump, jumped, next_after}
use Rattle.mit_valid.proofs.Told.{Tells-like}

-- no jump leads from each block to itself
pub led_none : (plan : PlanOf) (table : List ℕ) → table ≡ range_with_len 0 (length plan.blocks) → AreLed plan 0 table
led_none plan table is =
    let size : length table ≡ length plan.blocks = ap length is ∙ length-range_with_len 0 (length plan.blocks) in
    record {
      many = size;
      within = λ at d below. let e = at_itself at d (omega (arith, below, size)) in omega (arith, below, size, e);
      leads = λ block below more. let e : 0 + suc more ≡ suc more = omega arith in
          ap (λ (steps : ℕ). settles plan steps block) e ∙ ap (settles plan (suc more)) (sym (at_itself block 0 below));
    }
  where
    at_itself : (at d : ℕ) → at < length plan.blocks → get_or table at d ≡ at
    at_itself at d below =
        let e : 0 + at ≡ at = omega arith in
        ap (λ (list : List ℕ). get_or list at d) is ∙ get_or-range_with_len 0 (length plan.blocks) at d below ∙ e

-- two ways on end
joins : (plan : PlanOf) (few more from over to : ℕ) → JumpsTo plan few from over → JumpsTo plan more over to → JumpsTo plan (few + more) from to
joins plan few more from over to first second rest =
    let e : few + more + suc rest ≡ few + suc (more + rest) = omega arith in
    let g : suc (more + rest) ≡ more + suc rest = omega arith in
    ap (λ (steps : ℕ). settles plan steps from) e ∙ first (more + rest) ∙ ap (λ (steps : ℕ). settles plan steps over) g ∙ second rest

led_joined : (plan : PlanOf) (few more : ℕ) (first second table : List ℕ) → AreLed plan few first → AreLed plan more second
    → table ≡ map (λ block. get_or second block 0) first → AreLed plan (few + more) table
led_joined plan few more first second table one other is = record {
  many = size;
  within = λ at d below.
      let e = there at d (omega (arith, below, size, one.many)) in
      let inside = one.within at 0 (omega (arith, below, size, one.many)) in
      subst (λ (block : ℕ). block < length plan.blocks) (sym e) (other.within (get_or first at 0) 0 (omega (arith, inside, other.many)));
  leads = λ block below.
      let e = there block 0 (omega (arith, below, one.many)) in
      let inside = one.within block 0 (omega (arith, below, one.many)) in
      subst (JumpsTo plan (few + more) block) (sym e) (joins plan few more block (get_or first block 0) _ (one.leads block below) (other.leads (get_or first block 0) inside));
}
  where
    size : length table ≡ length plan.blocks
    size = ap length is ∙ length-map first (λ block. get_or second block 0) ∙ one.many

    there : (at d : ℕ) → at < length first → get_or table at d ≡ get_or second (get_or first at 0) 0
    there at d below = ap (λ (list : List ℕ). get_or list at d) is ∙ get_or-map (λ block. get_or second block 0) first at 0 d below

-- the same table twice
pub led_twice : (plan : PlanOf) (half : ℕ) (table first second doubled : List ℕ) → AreLed plan half table → first ≡ table → second ≡ table
    → doubled ≡ map (λ block. get_or second block 0) first → AreLed plan (half + half) doubled
led_twice plan half table first second doubled led one other is =
    led_joined plan half half first second doubled (subst (AreLed plan half) (sym one) led) (subst (AreLed plan half) (sym other) led) is

-- a block is left, where one step more is allowed
left_by : (plan : PlanOf) (more block : ℕ) (leave : Leave) → (block_at plan block).leave ≡ leave
    → by_leave (settles plan (suc more)) leave ≡ settles plan (suc more) (jumped block leave)
unfolding settles
left_by plan more block (Jump next) is = refl
left_by plan more block (Branch on_true on_false) is = sym (ap (by_leave (settles plan more)) is)
left_by plan more block End is = sym (ap (by_leave (settles plan more)) is)

leads_once : (plan : PlanOf) (block : ℕ) → JumpsTo plan 1 block (next_after plan block)
unfolding settles
leads_once plan block more =
    let e : 1 + suc more ≡ suc (suc more) = omega arith in
    ap (λ (steps : ℕ). settles plan steps block) e ∙ left_by plan more block (block_at plan block).leave refl

jumps_within : (blocks block : ℕ) (leave : Leave) → NamesBlocks blocks leave → block < blocks → jumped block leave < blocks
jumps_within blocks block (Jump next) names below = names
jumps_within blocks block (Branch on_true on_false) names below = below
jumps_within blocks block End names below = below

pub led_once_more : (plan : PlanOf) (steps : ℕ) (table longer : List ℕ) → LeavesNameBlocks plan → AreLed plan steps table
    → longer ≡ map (next_after plan) table → AreLed plan (steps + 1) longer
led_once_more plan steps table longer names led is = record {
  many = size;
  within = λ at d below.
      let e = there at d (omega (arith, below, size, led.many)) in
      let inside = led.within at 0 (omega (arith, below, size, led.many)) in
      subst (λ (block : ℕ). block < length plan.blocks) (sym e)
      (jumps_within (length plan.blocks) (get_or table at 0) (block_at plan (get_or table at 0)).leave (names (get_or table at 0) inside) inside);
  leads = λ block below.
      let e = there block 0 (omega (arith, below, led.many)) in
      subst (JumpsTo plan (steps + 1) block) (sym e)
      (joins plan steps 1 block (get_or table block 0) _ (led.leads block below) (leads_once plan (get_or table block 0)));
}
  where
    size : length longer ≡ length plan.blocks
    size = ap length is ∙ length-map table (next_after plan) ∙ led.many

    there : (at d : ℕ) → at < length table → get_or longer at d ≡ next_after plan (get_or table at 0)
    there at d below = ap (λ (list : List ℕ). get_or list at d) is ∙ get_or-map (next_after plan) table at 0 d below

-- a block settles where the block is not left by a jump to which one jump fewer than there are blocks lead
last_settles : (plan : PlanOf) (most block : ℕ) (table : List ℕ) → most ≡ length plan.blocks - 1 → AreLed plan most table → block < length plan.blocks
    → settles plan (length plan.blocks) block ≡ is_no_jump (block_at plan (get_or table block 0)).leave
unfolding settles
last_settles plan most block table is led below =
    let e : length plan.blocks ≡ most + suc 0 = omega (arith, is, below) in
    ap (λ (steps : ℕ). settles plan steps block) e ∙ led.leads block below 0

ends_by_last : (plan : PlanOf) (most : ℕ) (table : List ℕ) → most ≡ length plan.blocks - 1 → AreLed plan most table
    → All (λ block. IsTrue (is_no_jump (block_at plan block).leave)) table → JumpsEnd plan
ends_by_last plan most table is led all block below =
    last_settles plan most block table is led below ∙ all block 0 (omega (arith, below, led.many))

last_by_ends : (plan : PlanOf) (most : ℕ) (table : List ℕ) → most ≡ length plan.blocks - 1 → AreLed plan most table
    → JumpsEnd plan → All (λ block. IsTrue (is_no_jump (block_at plan block).leave)) table
last_by_ends plan most table is led ends block d below =
    let inside : block < length plan.blocks = omega (arith, below, led.many) in
    let e : get_or table block d ≡ get_or table block 0 = get_or_default table block d 0 below in
    ap (λ (to : ℕ). is_no_jump (block_at plan to).leave) e ∙ sym (last_settles plan most block table is led inside) ∙ ends block inside

-- what is told of the blocks to which they lead
pub ends_told : (plan : PlanOf) (most : ℕ) (table read : List ℕ) (told : Bool) → most ≡ length plan.blocks - 1 → AreLed plan most table → read ≡ table
    → Tells told (All (λ block. IsTrue (is_no_jump (block_at plan block).leave)) read) → Tells told (JumpsEnd plan)
ends_told plan most table read told is led same tells = Tells-like told (ends_by_last plan most read is here) (last_by_ends plan most read is here) tells
  where
    here : AreLed plan most read
    here = subst (AreLed plan most) (sym same) led
