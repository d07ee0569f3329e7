-- A search of a plan's blocks: what holds of it at each visit.
use Rattle.std.proofs.Common.{◌≡◌, ◌<◌, ◌≤◌, ◌+◌, ◌-◌, ℕ, zero, suc, List, [], ◌∷◌, ◌++◌, length, get_or, set, not, cond, ap, sym, ◌∙◌, subst, refl, inl, inr, ⊎_elim, arith, append_assoc, Bool, true, false, Contains, count_by}
use Rattle.std.specs.Prelude.{◌⊎◌}
use Rattle.std.proofs.Math.ListN.{length-set}
use Rattle.std.proofs.lemmas.Bool.{both_ways, cases_Bool, cases_eq, cases_lt}
use Rattle.std.proofs.lemmas.List.{get_or-set_other, get_or-set_same, get_or_append_left, get_or_at, get_or_default, get_or_past, length_push}
use Rattle.std.proofs.lemmas.List.Elements.{Contains-append_cases, Contains-append_left, Contains-append_right, Contains-push, Contains-push_cases}
use Rattle.std.proofs.lemmas.List.Sums.{sum_by-set}
use Rattle.mit_ops.specs.declared.leave.Leave.{Leave}
use Rattle.mit_ops.specs.declared.leave.Leave.TheVariants.{Jump, Branch, End}
use Rattle.mit_plan.specs.Paths.{IsPath, next_of}
use Rattle.mit_plan.specs.Plans.{PlanOf, block_at, no_block}
use Rattle.mit_plan.specs.Valid.{JumpsEnd, LeavesNameBlocks, NamesBlocks, by_leave, settles}
use Rattle.mit_plan.specs.declared.plan.PlanBlock.{PlanBlock}
use Rattle.mit_valid.specs.Searched.{Hops, IsSearched, LeadsTo, Search, Skips, is_marked, landing_of, visits, visits_next}

-- ---- paths with a block more

-- a block may come next after another one
abbrev ComesNext : PlanOf → ℕ → ℕ → Type 0
ComesNext plan block next = Contains (next_of (block_at plan block).leave) next

IsPath-push : (plan : PlanOf) (path : List ℕ) (block next : ℕ) → IsPath plan path → get_or path (length path - 1) 0 ≡ block → ComesNext plan block next
    → IsPath plan (path ++ next ∷ [])
IsPath-push plan path block next is ends may =
    let some = is.starts in
    let longer = length_push path next in record {
      starts = omega arith;
      first = get_or_append_left path (next ∷ []) 0 0 some ∙ is.first;
      leads = λ place below. by_order place (omega arith) (cases_lt (suc place) (length path));
    }
  where
    by_order : (place : ℕ) → suc place < length path + 1 → (suc place < length path) ⊎ (length path ≤ suc place)
        → Contains (next_of (block_at plan (get_or (path ++ next ∷ []) place 0)).leave) (get_or (path ++ next ∷ []) (suc place) 0)
    by_order place within (inl below) =
        let here : get_or (path ++ next ∷ []) place 0 ≡ get_or path place 0 = get_or_append_left path (next ∷ []) 0 place (omega arith) in
        let there : get_or (path ++ next ∷ []) (suc place) 0 ≡ get_or path (suc place) 0 = get_or_append_left path (next ∷ []) 0 (suc place) below in
        rw (here, there) (is.leads place below)
    by_order place within (inr last) =
        let some = is.starts in
        let at : place ≡ length path - 1 = omega arith in
        let e : length path ≡ suc place = omega arith in
        let here : get_or (path ++ next ∷ []) place 0 ≡ block =
        get_or_append_left path (next ∷ []) 0 place (omega arith) ∙ ap (λ (k : ℕ). get_or path k 0) at ∙ ends in
        let there : get_or (path ++ next ∷ []) (suc place) 0 ≡ next = get_or_at path next [] 0 (suc place) e in
        rw (here, there) may

-- its last block, and that it meets no avoided one
last_of_push : (path : List ℕ) (next : ℕ) → get_or (path ++ next ∷ []) (length (path ++ next ∷ []) - 1) 0 ≡ next
last_of_push path next =
    let longer = length_push path next in
    let e : length path ≡ length (path ++ next ∷ []) - 1 = omega arith in
    get_or_at path next [] 0 (length (path ++ next ∷ []) - 1) e

clear_push : (avoided : List Bool) (path : List ℕ) (next : ℕ) → ((place : ℕ) → place < length path → is_marked avoided (get_or path place 0) ≡ false)
    → is_marked avoided next ≡ false → (place : ℕ) → place < length (path ++ next ∷ []) → is_marked avoided (get_or (path ++ next ∷ []) place 0) ≡ false
clear_push avoided path next clear own place below = by_order (cases_lt place (length path))
  where
    by_order : (place < length path) ⊎ (length path ≤ place) → is_marked avoided (get_or (path ++ next ∷ []) place 0) ≡ false
    by_order (inl before) = ap (λ (block : ℕ). is_marked avoided block) (get_or_append_left path (next ∷ []) 0 place before) ∙ clear place before
    by_order (inr last) =
        let longer = length_push path next in
        let e : length path ≡ place = omega arith in
        ap (λ (block : ℕ). is_marked avoided block) (get_or_at path next [] 0 place e) ∙ own

-- paths lead to the next blocks and to the first one
LeadsTo-next : (plan : PlanOf) (avoided : List Bool) (block next : ℕ) → LeadsTo plan avoided block → ComesNext plan block next → is_marked avoided next ≡ false
    → LeadsTo plan avoided next
LeadsTo-next plan avoided block next to may own = record {
  path = to.path ++ next ∷ [];
  is_path = IsPath-push plan to.path block next to.is_path to.ends may;
  ends = last_of_push to.path next;
  clear = clear_push avoided to.path next to.clear own;
}

LeadsTo-first : (plan : PlanOf) (avoided : List Bool) → is_marked avoided 0 ≡ false → LeadsTo plan avoided 0
LeadsTo-first plan avoided own = record {
  path = 0 ∷ [];
  is_path = record { starts = omega arith; first = refl; leads = λ place below. absurd (omega arith) };
  ends = refl;
  clear = λ place below. let e : 0 ≡ place = omega arith in subst (λ (k : ℕ). is_marked avoided (get_or (0 ∷ []) k 0) ≡ false) e own;
}

-- where avoided blocks land at themselves, a path to a block leads on to its landing
leads_by : (plan : PlanOf) (landings : List ℕ) (avoided : List Bool) → Skips plan landings → LeavesNameBlocks plan
    → ((block : ℕ) → is_marked avoided block ≡ true → landing_of landings block ≡ block) → (steps block : ℕ) → settles plan steps block ≡ true → block < length plan.blocks
    → LeadsTo plan avoided block → is_marked avoided (landing_of landings block) ≡ false → LeadsTo plan avoided (landing_of landings block)
unfolding settles
leads_by plan landings avoided skips leaves own zero block settled below to clear = absurd cc
leads_by plan landings avoided skips leaves own (suc steps) block settled below to clear =
    by_hop (λ next later there. leads_by plan landings avoided skips leaves own steps next later there) (skips.hops block below)
  where
    by_hop : ((next : ℕ) → settles plan steps next ≡ true → next < length plan.blocks → LeadsTo plan avoided next → is_marked avoided (landing_of landings next) ≡ false
        → LeadsTo plan avoided (landing_of landings next)) → (landing_of landings block ≡ block) ⊎ Hops plan landings block → LeadsTo plan avoided (landing_of landings block)
    by_hop on (inl stays) = subst (λ (one : ℕ). LeadsTo plan avoided one) (sym stays) to
    by_hop on (inr hop) =
        let may : ComesNext plan block hop.next = rw hop.jumps (0, omega arith, refl) in
        let there : hop.next < length plan.blocks = subst (λ (leave : Leave). NamesBlocks (length plan.blocks) leave) hop.jumps (leaves block below) in
        let later : settles plan steps hop.next ≡ true = ap (λ (leave : Leave). by_leave (settles plan steps) leave) (sym hop.jumps) ∙ settled in
        let free : is_marked avoided (landing_of landings hop.next) ≡ false = rw hop.same at clear in
        let next_free : is_marked avoided hop.next ≡ false =
        ⊎_elim
        (λ (marked : is_marked avoided hop.next ≡ true).
        absurd (both_ways (is_marked avoided hop.next) (ap (λ (one : ℕ). is_marked avoided one) (sym (own hop.next marked)) ∙ free) marked))
        (λ (clear : is_marked avoided hop.next ≡ false). clear) (cases_Bool (is_marked avoided hop.next)) in
        rw hop.same (on hop.next later there (LeadsTo-next plan avoided block hop.next to may next_free) free)

-- what a search asks of landings
pub record Lands (plan : PlanOf) (landings : List ℕ) (avoided : List Bool) : Type 0 where
  pub skips : Skips plan landings
  pub leaves : LeavesNameBlocks plan
  pub jumps : JumpsEnd plan
  pub own : (block : ℕ) → is_marked avoided block ≡ true → landing_of landings block ≡ block

-- paths lead to the landings of next blocks and of the first one
LeadsTo-landing : (plan : PlanOf) (landings : List ℕ) (avoided : List Bool) (block : ℕ) → Lands plan landings avoided → block < length plan.blocks
    → (is_marked avoided block ≡ false → LeadsTo plan avoided block) → is_marked avoided (landing_of landings block) ≡ false → LeadsTo plan avoided (landing_of landings block)
LeadsTo-landing plan landings avoided block lands below to clear =
    ⊎_elim
    (λ (marked : is_marked avoided block ≡ true).
    absurd (both_ways (is_marked avoided block) (ap (λ (one : ℕ). is_marked avoided one) (sym (lands.own block marked)) ∙ clear) marked))
    (λ (free : is_marked avoided block ≡ false).
    leads_by plan landings avoided lands.skips lands.leaves lands.own (length plan.blocks) block (lands.jumps block below) below (to free) clear)
    (cases_Bool (is_marked avoided block))

pub first_landing : (plan : PlanOf) (landings : List ℕ) (avoided : List Bool) → Lands plan landings avoided → 0 < length plan.blocks
    → is_marked avoided (landing_of landings 0) ≡ false → LeadsTo plan avoided (landing_of landings 0)
first_landing plan landings avoided lands some = LeadsTo-landing plan landings avoided 0 lands some (LeadsTo-first plan avoided)

-- ---- marks with one more

-- a marked block is there, stays marked, and was marked before or is the one
pub marked_within : (marks : List Bool) (block : ℕ) → is_marked marks block ≡ true → block < length marks
marked_within marks block marked = ⊎_elim (λ (below : block < length marks). below)
    (λ (past : length marks ≤ block). absurd (both_ways (is_marked marks block) (get_or_past marks block false past) marked)) (cases_lt block (length marks))

pub marked_stays : (marks : List Bool) (block next : ℕ) → is_marked marks block ≡ true → is_marked (set marks next true) block ≡ true
marked_stays marks block next marked = by_same (cases_eq block next)
  where
    by_same : (block ≡ next) ⊎ (block ≡ next → ⊥) → is_marked (set marks next true) block ≡ true
    by_same (inl same) = let within = marked_within marks block marked in rw same (get_or-set_same marks next true false (rw same at within))
    by_same (inr other) = get_or-set_other marks next block true false other ∙ marked

pub marked_from : (marks : List Bool) (block next : ℕ) → is_marked (set marks next true) block ≡ true → (block ≡ next) ⊎ (is_marked marks block ≡ true)
marked_from marks block next marked =
    ⊎_elim (λ (same : block ≡ next). inl same) (λ other. inr (sym (get_or-set_other marks next block true false other) ∙ marked)) (cases_eq block next)

-- ---- a search under way

-- the landing of each next block is marked
abbrev IsDone : PlanOf → List ℕ → List Bool → ℕ → Type 0
IsDone plan landings marks block = (next : ℕ) → ComesNext plan block next → is_marked marks (landing_of landings next) ≡ true

-- what holds of a search while the blocks after the open ones are visited
pub record IsUnderWay (plan : PlanOf) (landings : List ℕ) (avoided : List Bool) (opened : List ℕ) (state : Search) : Type 0 where
  pub keeps : (block : ℕ) → is_marked avoided block ≡ true → is_marked state.marks block ≡ true
  pub found : (block : ℕ) → is_marked state.marks block ≡ true → is_marked avoided block ≡ false → LeadsTo plan avoided block
  pub waits : (block : ℕ) → Contains state.waiting block → (is_marked state.marks block ≡ true) × (is_marked avoided block ≡ false)
  pub closed : (block : ℕ) → is_marked state.marks block ≡ true → is_marked avoided block ≡ false
      → Contains (opened ++ state.waiting) block ⊎ IsDone plan landings state.marks block

-- no block waits at first
pub under_way_first : (plan : PlanOf) (landings : List ℕ) (avoided : List Bool) → IsUnderWay plan landings avoided [] (record { marks = avoided; waiting = [] })
under_way_first plan landings avoided = record {
  keeps = λ block marked. marked;
  found = λ block marked clear. absurd (both_ways (is_marked avoided block) clear marked);
  waits = λ block (k, below, is). absurd (omega (arith, below));
  closed = λ block marked clear. absurd (both_ways (is_marked avoided block) clear marked);
}

-- a block that was not marked waits
module _ (plan : PlanOf) (landings : List ℕ) (avoided : List Bool) (opened : List ℕ) (state : Search) (next : ℕ) (below : next < length state.marks)
    (before : IsUnderWay plan landings avoided opened state) (to : is_marked avoided next ≡ false → LeadsTo plan avoided next) (free : is_marked state.marks next ≡ false) where
  next_clear : is_marked avoided next ≡ false
  next_clear = ⊎_elim (λ (marked : is_marked avoided next ≡ true). absurd (both_ways (is_marked state.marks next) free (before.keeps next marked)))
      (λ (clear : is_marked avoided next ≡ false). clear) (cases_Bool (is_marked avoided next))

  next_marked : is_marked (set state.marks next true) next ≡ true
  next_marked = get_or-set_same state.marks next true false below

  found_more : (block : ℕ) → is_marked (set state.marks next true) block ≡ true → is_marked avoided block ≡ false → LeadsTo plan avoided block
  found_more block marked clear =
      ⊎_elim (λ (same : block ≡ next). subst (λ (one : ℕ). LeadsTo plan avoided one) (sym same) (to next_clear))
      (λ (old : is_marked state.marks block ≡ true). before.found block old clear) (marked_from state.marks block next marked)

  waits_more : (block : ℕ) → Contains (state.waiting ++ next ∷ []) block → (is_marked (set state.marks next true) block ≡ true) × (is_marked avoided block ≡ false)
  waits_more block waiting =
      ⊎_elim (λ (old : Contains state.waiting block). let (marked, clear) = before.waits block old in (marked_stays state.marks block next marked, clear))
      (λ (same : next ≡ block). rw (← same) (next_marked, next_clear)) (Contains-push_cases state.waiting next block waiting)

  still_open : (block : ℕ) → Contains (opened ++ state.waiting) block → Contains (opened ++ (state.waiting ++ next ∷ [])) block
  still_open block is =
      subst (λ (blocks : List ℕ). Contains blocks block) (append_assoc opened state.waiting (next ∷ []))
      (Contains-append_left (opened ++ state.waiting) (next ∷ []) block is)

  closed_more : (block : ℕ) → is_marked (set state.marks next true) block ≡ true → is_marked avoided block ≡ false
      → Contains (opened ++ (state.waiting ++ next ∷ [])) block ⊎ IsDone plan landings (set state.marks next true) block
  closed_more block marked clear =
      ⊎_elim
      (λ (same : block ≡ next). inl (rw same (Contains-append_right opened (state.waiting ++ next ∷ []) next (Contains-push state.waiting next))))
      (λ (old : is_marked state.marks block ≡ true).
      ⊎_elim (λ (waiting : Contains (opened ++ state.waiting) block). inl (still_open block waiting))
      (λ (done : IsDone plan landings state.marks block). inr (λ later may. marked_stays state.marks (landing_of landings later) next (done later may)))
      (before.closed block old clear))
      (marked_from state.marks block next marked)

  visited_free : IsUnderWay plan landings avoided opened (record { marks = set state.marks next true; waiting = state.waiting ++ next ∷ [] })
  visited_free = record {
    keeps = λ block marked. marked_stays state.marks block next (before.keeps block marked);
    found = found_more;
    waits = waits_more;
    closed = closed_more;
  }

-- a visit changes nothing, or adds a block
at_visit : (P : Search → Type 0) (state : Search) (next : ℕ) → (is_marked state.marks next ≡ true → P state)
    → (is_marked state.marks next ≡ false → P (record { marks = set state.marks next true; waiting = state.waiting ++ next ∷ [] })) → P (visits state next)
at_visit P state next old new = by_mark (is_marked state.marks next) refl
  where
    by_mark : (marked : Bool) → is_marked state.marks next ≡ marked
        → P (cond marked state (record { marks = set state.marks next true; waiting = state.waiting ++ next ∷ [] }))
    by_mark true is = old is
    by_mark false is = new is

-- what holds of a search holds after it
pub visited : (plan : PlanOf) (landings : List ℕ) (avoided : List Bool) (opened : List ℕ) (state : Search) (next : ℕ) → next < length state.marks → IsUnderWay plan landings avoided opened state
    → (is_marked avoided next ≡ false → LeadsTo plan avoided next) → IsUnderWay plan landings avoided opened (visits state next)
visited plan landings avoided opened state next below before to =
    at_visit (λ (state : Search). IsUnderWay plan landings avoided opened state) state next (λ marked. before)
    (λ free. visited_free plan landings avoided opened state next below before to free)

-- the block is marked then, and each that was
pub visit_marks : (state : Search) (next : ℕ) → next < length state.marks → is_marked (visits state next).marks next ≡ true
visit_marks state next below =
    at_visit (λ (state : Search). is_marked state.marks next ≡ true) state next (λ marked. marked) (λ free. get_or-set_same state.marks next true false below)

visit_keeps : (state : Search) (block next : ℕ) → is_marked state.marks block ≡ true → is_marked (visits state next).marks block ≡ true
visit_keeps state block next marked =
    at_visit (λ (after : Search). is_marked after.marks block ≡ true) state next (λ old. marked) (λ free. marked_stays state.marks block next marked)

visit_many : (state : Search) (next : ℕ) → length (visits state next).marks ≡ length state.marks
visit_many state next = at_visit (λ (after : Search). length after.marks ≡ length state.marks) state next (λ old. refl) (λ free. length-set state.marks next true)

-- ---- the blocks after one of them

-- what a list of one and of two contains
pub next_is : (next other : ℕ) → Contains (next ∷ []) other → next ≡ other
next_is next other (k, below, is) = let e : k ≡ 0 = omega (arith, below) in subst (λ (n : ℕ). get_or (next ∷ []) n other ≡ other) e is

one_of_two : (one other block : ℕ) → Contains (one ∷ other ∷ []) block → (one ≡ block) ⊎ (other ≡ block)
one_of_two one other block is =
    ⊎_elim (λ (first : Contains (one ∷ []) block). inl (next_is one block first)) (λ (second : Contains (other ∷ []) block). inr (next_is other block second))
    (Contains-append_cases (one ∷ []) (other ∷ []) block is)

-- a block that waits is opened
under_way_opened : (plan : PlanOf) (landings : List ℕ) (avoided marks : List Bool) (waiting : List ℕ) (block : ℕ)
    → IsUnderWay plan landings avoided [] (record { marks = marks; waiting = waiting ++ block ∷ [] }) → IsUnderWay plan landings avoided (block ∷ []) (record { marks = marks; waiting = waiting })
under_way_opened plan landings avoided marks waiting block before = record {
  keeps = before.keeps;
  found = before.found;
  waits = λ one is. before.waits one (Contains-append_left waiting (block ∷ []) one is);
  closed = λ one marked clear.
      ⊎_elim
      (λ (is : Contains (waiting ++ block ∷ []) one).
      ⊎_elim (λ (old : Contains waiting one). inl (Contains-append_right (block ∷ []) waiting one old)) (λ (same : block ≡ one). inl (0, omega arith, same))
      (Contains-push_cases waiting block one is))
      (λ (done : IsDone plan landings marks one). inr done)
      (before.closed one marked clear);
}

-- and closed again, when each next one is marked
under_way_closed : (plan : PlanOf) (landings : List ℕ) (avoided : List Bool) (block : ℕ) (state : Search) → IsUnderWay plan landings avoided (block ∷ []) state → IsDone plan landings state.marks block
    → IsUnderWay plan landings avoided [] state
under_way_closed plan landings avoided block state before done = record {
  keeps = before.keeps;
  found = before.found;
  waits = before.waits;
  closed = λ one marked clear.
      ⊎_elim
      (λ (is : Contains (block ∷ state.waiting) one).
      ⊎_elim (λ (own : Contains (block ∷ []) one). inr (subst (λ (b : ℕ). IsDone plan landings state.marks b) (next_is block one own) done)) (λ (old : Contains state.waiting one). inl old)
      (Contains-append_cases (block ∷ []) state.waiting one is))
      (λ (other : IsDone plan landings state.marks one). inr other)
      (before.closed one marked clear);
}

-- the last block that waits: the landings of its next ones are visited
module _ (plan : PlanOf) (landings : List ℕ) (avoided marks : List Bool) (waiting : List ℕ) (block : ℕ) (lands : Lands plan landings avoided) (many : length marks ≡ length plan.blocks)
    (before : IsUnderWay plan landings avoided [] (record { marks = marks; waiting = waiting ++ block ∷ [] })) where
  abbrev popped : Search
  popped = record { marks = marks; waiting = waiting }

  waits_last : (is_marked marks block ≡ true) × (is_marked avoided block ≡ false)
  waits_last = before.waits block (Contains-push waiting block)

  to_next : (next : ℕ) → ComesNext plan block next → next < length plan.blocks → is_marked avoided (landing_of landings next) ≡ false → LeadsTo plan avoided (landing_of landings next)
  to_next next may there =
      LeadsTo-landing plan landings avoided next lands there (LeadsTo-next plan avoided block next (before.found block waits_last.0 waits_last.1) may)

  landing_within : (next : ℕ) → next < length plan.blocks → landing_of landings next < length marks
  landing_within next there = let within = lands.skips.within next there in omega arith

  gone_on : (leave : Leave) → (block_at plan block).leave ≡ leave → NamesBlocks (length plan.blocks) leave
      → IsUnderWay plan landings avoided [] (visits_next landings popped leave)
  gone_on (Jump next) is below =
      let may : ComesNext plan block next = rw is (0, omega arith, refl) in
      let there = landing_within next below in
      under_way_closed plan landings avoided block (visits popped (landing_of landings next))
      (visited plan landings avoided (block ∷ []) popped (landing_of landings next) there (under_way_opened plan landings avoided marks waiting block before) (to_next next may below))
      (λ one may. rw (← next_is next one (rw is at may)) (visit_marks popped (landing_of landings next) there))
  gone_on (Branch on_true on_false) is below =
      let land_true = landing_of landings on_true in
      let land_false = landing_of landings on_false in
      let after = visits popped land_true in
      let same = visit_many popped land_true in
      let first : land_true < length marks = landing_within on_true below.0 in
      let second : land_false < length after.marks = omega (arith, landing_within on_false below.1) in
      let may_true : ComesNext plan block on_true = rw is (0, omega arith, refl) in
      let may_false : ComesNext plan block on_false = rw is (1, omega arith, refl) in
      under_way_closed plan landings avoided block (visits after land_false)
      (visited plan landings avoided (block ∷ []) after land_false second
      (visited plan landings avoided (block ∷ []) popped land_true first (under_way_opened plan landings avoided marks waiting block before) (to_next on_true may_true below.0))
      (to_next on_false may_false below.1))
      (λ one may.
      ⊎_elim (λ (same : on_true ≡ one). rw (← same) (visit_keeps after land_true land_false (visit_marks popped land_true first)))
      (λ (same : on_false ≡ one). rw (← same) (visit_marks after land_false second))
      (one_of_two on_true on_false one (rw is at may)))
  gone_on End is below =
      under_way_closed plan landings avoided block popped (under_way_opened plan landings avoided marks waiting block before)
      (λ one may. let (k, less, same) = rw is at may in absurd (omega (arith, less)))

-- blocks stay marked
pub next_keeps : (landings : List ℕ) (state : Search) (block : ℕ) (leave : Leave) → is_marked state.marks block ≡ true
    → is_marked (visits_next landings state leave).marks block ≡ true
next_keeps landings state block (Jump next) marked = visit_keeps state block (landing_of landings next) marked
next_keeps landings state block (Branch on_true on_false) marked =
    visit_keeps (visits state (landing_of landings on_true)) block (landing_of landings on_false) (visit_keeps state block (landing_of landings on_true) marked)
next_keeps landings state block End marked = marked

-- ---- the end of a search

-- how many blocks have still to be marked or to go on
abbrev left_of : Search → ℕ
left_of state = count_by not state.marks + length state.waiting

-- a visit leaves as many
left-visit : (state : Search) (next : ℕ) → next < length state.marks → left_of (visits state next) ≡ left_of state
left-visit state next below =
    at_visit (λ (after : Search). left_of after ≡ left_of state) state next (λ marked. refl)
    (λ free.
    let count : Bool → ℕ = λ mark. cond (not mark) 1 0 in
    let one : count (get_or state.marks next false) ≡ 1 = ap count free in
    let longer = length_push state.waiting next in
    omega (arith, sum_by-set count state.marks next true false below))

left-next : (landings : List ℕ) (state : Search) (leave : Leave) (blocks : ℕ) → NamesBlocks blocks leave → ((next : ℕ) → next < blocks → landing_of landings next < length state.marks)
    → left_of (visits_next landings state leave) ≡ left_of state
left-next landings state (Jump next) blocks below there = left-visit state (landing_of landings next) (there next below)
left-next landings state (Branch on_true on_false) blocks below there =
    let many = visit_many state (landing_of landings on_true) in
    left-visit (visits state (landing_of landings on_true)) (landing_of landings on_false) (omega (arith, there on_false below.1))
    ∙ left-visit state (landing_of landings on_true) (there on_true below.0)
left-next landings state End blocks below there = refl

-- no block waits
pub searched : (plan : PlanOf) (landings : List ℕ) (avoided marks : List Bool) → IsUnderWay plan landings avoided [] (record { marks = marks; waiting = [] }) → is_marked marks (landing_of landings 0) ≡ true
    → IsSearched plan landings avoided marks
searched plan landings avoided marks before start = record {
  found = before.found;
  start = start;
  closed = λ block next marked clear may.
      ⊎_elim (λ (is : Contains [] block). let (k, below, same) = is in absurd (omega (arith, below))) (λ (done : IsDone plan landings marks block). done next may) (before.closed block marked clear);
}

-- ---- a turn of the loop

-- the leave that is read of a block
leave_is : (plan : PlanOf) (blocks : List PlanBlock) (block : ℕ) (other : PlanBlock) → blocks ≡ plan.blocks → block < length blocks
    → (block_at plan block).leave ≡ (get_or blocks block other).leave
leave_is plan blocks block other same below =
    ap (λ (all : List PlanBlock). (get_or all block no_block).leave) (sym same) ∙ ap (λ (one : PlanBlock). one.leave) (get_or_default blocks block no_block other below)

leave_names : (plan : PlanOf) (blocks : List PlanBlock) (many block : ℕ) (other : PlanBlock) → LeavesNameBlocks plan → blocks ≡ plan.blocks → many ≡ length blocks
    → block < length blocks → NamesBlocks many (get_or blocks block other).leave
leave_names plan blocks many block other leaves same all below =
    let within : block < length plan.blocks = rw (← same) below in
    let e : length plan.blocks ≡ many = ap (λ (one : List PlanBlock). length one) (sym same) ∙ sym all in
    rw (← leave_is plan blocks block other same below, ← e) (leaves block within)

-- one block less waits
module _ (plan : PlanOf) (landings : List ℕ) (avoided marks : List Bool) (waiting rest : List ℕ) (block : ℕ) (blocks : List PlanBlock) (other : PlanBlock)
    (lands : Lands plan landings avoided) (same : blocks ≡ plan.blocks) (all : length marks ≡ length blocks) (popped : waiting ≡ rest ++ block ∷ [])
    (before : IsUnderWay plan landings avoided [] (record { marks = marks; waiting = waiting })) where
  abbrev read_leave : Leave
  read_leave = (get_or blocks block other).leave

  abbrev less : Search
  less = record { marks = marks; waiting = rest }

  -- it is there, and so are its next ones
  pub turn_within : block < length blocks
  turn_within = let below = marked_within marks block (before.waits block (rw popped (Contains-push rest block))).0 in omega arith

  blocks_many : length marks ≡ length plan.blocks
  blocks_many = all ∙ ap (λ (one : List PlanBlock). length one) same

  turn_names_blocks : NamesBlocks (length plan.blocks) read_leave
  turn_names_blocks = rw (← blocks_many) (leave_names plan blocks (length marks) block other lands.leaves same all turn_within)

  pub turn_names : NamesBlocks (length landings) read_leave
  turn_names = rw lands.skips.many turn_names_blocks

  -- the landings of these are visited
  pub turn_goes : (later_marks : List Bool) (later : List ℕ) → later_marks ≡ (visits_next landings less read_leave).marks → later ≡ (visits_next landings less read_leave).waiting
      → IsUnderWay plan landings avoided [] (record { marks = later_marks; waiting = later })
  turn_goes later_marks later marks_are waiting_is =
      let opened : IsUnderWay plan landings avoided [] (record { marks = marks; waiting = rest ++ block ∷ [] }) = rw popped at before in
      rw (marks_are, waiting_is)
      (gone_on plan landings avoided marks rest block lands blocks_many opened read_leave (leave_is plan blocks block other same turn_within) turn_names_blocks)

  -- and there is less left
  pub turn_falls : (later_marks : List Bool) (later : List ℕ) → later_marks ≡ (visits_next landings less read_leave).marks → later ≡ (visits_next landings less read_leave).waiting
      → count_by not later_marks + length later < count_by not marks + length waiting
  turn_falls later_marks later marks_are waiting_is =
      let longer = ap (λ (one : List ℕ). length one) popped in
      let more = length_push rest block in
      let there : (next : ℕ) → next < length plan.blocks → landing_of landings next < length marks = λ next below. rw blocks_many (lands.skips.within next below) in
      let left : count_by not (visits_next landings less read_leave).marks + length (visits_next landings less read_leave).waiting ≡ count_by not marks + length rest =
      left-next landings less read_leave (length plan.blocks) turn_names_blocks there in
      rw (marks_are, waiting_is) (omega arith)
