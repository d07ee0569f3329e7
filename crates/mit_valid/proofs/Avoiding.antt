-- What a search decides whose avoided blocks are those of some operands: whether every path to a block has met one of them.
use Rattle.std.proofs.Common.{◌≡◌, ◌∙◌, ◌<◌, ◌≤◌, ◌+◌, ◌-◌, ℕ, zero, suc, List, [], ◌∷◌, length, get_or, set, fold, replicate, cond, eqb, eqb-true, ap, sym, subst, refl, inl, inr, ⊎_elim, arith, Bool, true, false, Option, Some, None, All, Contains}
use Rattle.std.specs.Prelude.{◌⊎◌, IsSome}
use Rattle.std.specs.List.{position_from}
use Rattle.std.specs.Option.{MatchOption}
use Rattle.std.proofs.Math.ListN.{length-set}
use Rattle.std.proofs.lemmas.Bool.{both_ways, cases_Bool, cases_lt, eq-eqb}
use Rattle.std.proofs.lemmas.List.{get_or-replicate, get_or-set_same, get_or_past, length-replicate}
use Rattle.std.proofs.lemmas.List.Elements.{All-cons, All-head, All-nil, All-tail, Contains-append_cases, Contains-append_right}
use Rattle.mit_path.specs.Choice.{chosen_operand}
use Rattle.mit_path.specs.Last.{HasNone, IsLast}
use Rattle.mit_plan.specs.Paths.{IsPath, next_of}
use Rattle.mit_plan.specs.Plans.{PlanOf, block_at, no_block}
use Rattle.mit_plan.specs.Valid.{IsReached}
use Rattle.mit_valid.specs.Deciding.{Tells}
use Rattle.mit_valid.specs.Searched.{Hops, IsSearched, LeadsTo, Skips, is_marked, landing_of}
use Rattle.mit_valid.proofs.Searches.{marked_from, marked_stays, next_is}

-- the law of what is chosen
pub record LastPlaces : Type 0 where
  pub input : (path operands : List ℕ) (at : ℕ) → MatchOption (chosen_operand path operands at false) (HasNone path operands (suc at)) (IsLast path operands (suc at))
  pub phi : (path operands : List ℕ) (at : ℕ) → MatchOption (chosen_operand path operands at true) (HasNone path operands at) (IsLast path operands at)

-- ---- the blocks of operands are marked, and no others

pub record Avoids (avoided : List Bool) (operands : List ℕ) : Type 0 where
  pub all : (block : ℕ) → Contains operands block → is_marked avoided block ≡ true
  pub only : (block : ℕ) → is_marked avoided block ≡ true → Contains operands block

-- with these marked too: what was marked stays, these are marked, and no others
abbrev marked_too : List Bool → List ℕ → List Bool
marked_too marks operands = fold (λ marks block. set marks block true) marks operands

too_stays : (marks : List Bool) (operands : List ℕ) (block : ℕ) → is_marked marks block ≡ true → is_marked (marked_too marks operands) block ≡ true
too_stays marks [] block marked = marked
too_stays marks (operand ∷ operands) block marked = too_stays (set marks operand true) operands block (marked_stays marks block operand marked)

-- a list contains its first one, or what its rest contains
cases_first : (operand : ℕ) (operands : List ℕ) (block : ℕ) → Contains (operand ∷ operands) block → (operand ≡ block) ⊎ Contains operands block
cases_first operand operands block is =
    ⊎_elim (λ (first : Contains (operand ∷ []) block). inl (next_is operand block first)) (λ (later : Contains operands block). inr later)
    (Contains-append_cases (operand ∷ []) operands block is)

too_all : (marks : List Bool) (operands : List ℕ) (block : ℕ) → All (λ operand. operand < length marks) operands → Contains operands block
    → is_marked (marked_too marks operands) block ≡ true
too_all marks [] block within (k, below, is) = absurd (omega (arith, below))
too_all marks (operand ∷ operands) block within is =
    let Within : ℕ → Type 0 = λ one. one < length marks in
    let after = set marks operand true in
    let many : length marks ≡ length after = sym (length-set marks operand true) in
    ⊎_elim
    (λ (same : operand ≡ block).
    subst (λ (one : ℕ). is_marked (marked_too after operands) one ≡ true) same
    (too_stays after operands operand (get_or-set_same marks operand true false (All-head Within operand operands within))))
    (λ (later : Contains operands block).
    too_all after operands block (subst (λ (n : ℕ). All (λ one. one < n) operands) many (All-tail Within operand operands within)) later)
    (cases_first operand operands block is)

too_only : (marks : List Bool) (operands : List ℕ) (block : ℕ) → is_marked (marked_too marks operands) block ≡ true → Contains operands block ⊎ (is_marked marks block ≡ true)
too_only marks [] block marked = inr marked
too_only marks (operand ∷ operands) block marked =
    ⊎_elim (λ (later : Contains operands block). inl (Contains-append_right (operand ∷ []) operands block later))
    (λ (here : is_marked (set marks operand true) block ≡ true).
    ⊎_elim (λ (same : block ≡ operand). inl (0, omega arith, sym same)) (λ (before : is_marked marks block ≡ true). inr before) (marked_from marks block operand here))
    (too_only (set marks operand true) operands block marked)

pub avoids : (marks : List Bool) (operands : List ℕ) → ((block : ℕ) → is_marked marks block ≡ false) → All (λ operand. operand < length marks) operands
    → Avoids (marked_too marks operands) operands
avoids marks operands clear within = record {
  all = λ block is. too_all marks operands block within is;
  only = λ block marked.
      ⊎_elim (λ (is : Contains operands block). is) (λ (before : is_marked marks block ≡ true). absurd (both_ways (is_marked marks block) (clear block) before))
      (too_only marks operands block marked);
}

pub avoids_one : (marks : List Bool) (block : ℕ) → ((one : ℕ) → is_marked marks one ≡ false) → block < length marks → Avoids (set marks block true) (block ∷ [])
avoids_one marks block clear below =
    let Within : ℕ → Type 0 = λ one. one < length marks in avoids marks (block ∷ []) clear (All-cons Within block [] below (All-nil Within))

-- ---- the operand of a block

-- the operand that is found for a block is its block
first_by : (operands : List ℕ) (operand block at found : ℕ) (same : Bool) → eqb block operand ≡ same → (position_from (λ one. eqb block one) (at + 1) operands ≡ Some found → Contains operands block)
    → cond same (Some at) (position_from (λ one. eqb block one) (at + 1) operands) ≡ Some found → Contains (operand ∷ operands) block
first_by operands operand block at found true same later is = (0, omega arith, sym (eqb-true block operand same))
first_by operands operand block at found false other later is = Contains-append_right (operand ∷ []) operands block (later is)

is_operand : (operands : List ℕ) (block at found : ℕ) → position_from (λ one. eqb block one) at operands ≡ Some found → Contains operands block
is_operand [] block at found is = absurd cc
is_operand (operand ∷ operands) block at found is =
    first_by operands operand block at found (eqb block operand) refl (is_operand operands block (at + 1) found) is

-- and where none is found there is none
none_by : (operands : List ℕ) (operand block at : ℕ) (same : Bool) → eqb block operand ≡ same → (position_from (λ one. eqb block one) (at + 1) operands ≡ None → Contains operands block → ⊥)
    → cond same (Some at) (position_from (λ one. eqb block one) (at + 1) operands) ≡ None → Contains (operand ∷ operands) block → ⊥
none_by operands operand block at true same later none is = absurd cc
none_by operands operand block at false other later none is =
    ⊎_elim (λ (same : operand ≡ block). both_ways (eqb block operand) other (eq-eqb block operand (sym same))) (later none) (cases_first operand operands block is)

no_operand : (operands : List ℕ) (block at : ℕ) → position_from (λ one. eqb block one) at operands ≡ None → Contains operands block → ⊥
no_operand [] block at none (k, below, is) = absurd (omega (arith, below))
no_operand (operand ∷ operands) block at none is = none_by operands operand block at (eqb block operand) refl (no_operand operands block (at + 1)) none is

-- ---- each path that meets no avoided block leads to one whose landing is marked

reached_next : (plan : PlanOf) (landings : List ℕ) (avoided marks : List Bool) (block next : ℕ) → Skips plan landings → IsSearched plan landings avoided marks
    → is_marked marks (landing_of landings block) ≡ true → is_marked avoided block ≡ false → Contains (next_of (block_at plan block).leave) next
    → is_marked marks (landing_of landings next) ≡ true
reached_next plan landings avoided marks block next skips over marked free may = by_order (cases_lt block (length plan.blocks))
  where
    by_hop : (landing_of landings block ≡ block) ⊎ Hops plan landings block → is_marked marks (landing_of landings next) ≡ true
    by_hop (inl stays) = over.closed block next (rw stays at marked) free may
    by_hop (inr hop) = let same : hop.next ≡ next = next_is hop.next next (rw hop.jumps at may) in rw (← same, ← hop.same) marked

    by_order : (block < length plan.blocks) ⊎ (length plan.blocks ≤ block) → is_marked marks (landing_of landings next) ≡ true
    by_order (inl below) = by_hop (skips.hops block below)
    by_order (inr past) = let (k, less, same) = rw (get_or_past plan.blocks block no_block past) at may in absurd (omega (arith, less))

pub is_reached : (plan : PlanOf) (landings : List ℕ) (avoided marks : List Bool) (path : List ℕ) → Skips plan landings → IsSearched plan landings avoided marks → IsPath plan path
    → (place : ℕ) → place < length path → ((before : ℕ) → before < place → is_marked avoided (get_or path before 0) ≡ false)
    → is_marked marks (landing_of landings (get_or path place 0)) ≡ true
is_reached plan landings avoided marks path skips over is zero below free = ap (λ (block : ℕ). is_marked marks (landing_of landings block)) is.first ∙ over.start
is_reached plan landings avoided marks path skips over is (suc place) below free =
    reached_next plan landings avoided marks (get_or path place 0) (get_or path (suc place) 0) skips over
    (is_reached plan landings avoided marks path skips over is place (omega arith) (λ before less. free before (omega (arith, less)))) (free place (omega arith)) (is.leads place below)

-- ---- what is chosen

-- an unmarked block that lands at itself stands on no path without a choice
module _ (plan : PlanOf) (landings : List ℕ) (avoided marks : List Bool) (operands path : List ℕ) (place : ℕ) (skips : Skips plan landings) (avoid : Avoids avoided operands)
    (over : IsSearched plan landings avoided marks) (is : IsPath plan path) (below : place < length path) (lands : landing_of landings (get_or path place 0) ≡ get_or path place 0)
    (unmarked : is_marked marks (get_or path place 0) ≡ false) where
  some_before : (bound : ℕ) (choice : Option (ℕ × ℕ)) → place ≤ bound → MatchOption choice (HasNone path operands bound) (IsLast path operands bound) → IsSome choice
  some_before bound (Some found) after last = refl
  some_before bound None after none =
      let reached = is_reached plan landings avoided marks path skips over is place below (λ before less. free before (omega (arith, less, after))) in
      absurd (both_ways (is_marked marks (get_or path place 0)) unmarked (rw lands at reached))
    where
      free : (before : ℕ) → before < bound → is_marked avoided (get_or path before 0) ≡ false
      free before less =
          ⊎_elim (λ (marked : is_marked avoided (get_or path before 0) ≡ true). absurd (no_operand operands (get_or path before 0) 0 (none before less) (avoid.only (get_or path before 0) marked)))
          (λ (clear : is_marked avoided (get_or path before 0) ≡ false). clear) (cases_Bool (is_marked avoided (get_or path before 0)))

  pub unmarked_chooses : LastPlaces → (phi : Bool) → IsSome (chosen_operand path operands place phi)
  unmarked_chooses laws true = some_before place (chosen_operand path operands place true) (omega arith) (laws.phi path operands place)
  unmarked_chooses laws false = some_before (suc place) (chosen_operand path operands place false) (omega arith) (laws.input path operands place)

-- a block has itself, where an input may
own_by : (path : List ℕ) (block place : ℕ) (choice : Option (ℕ × ℕ)) → get_or path place 0 ≡ block
    → MatchOption choice (HasNone path (block ∷ []) (suc place)) (IsLast path (block ∷ []) (suc place)) → IsSome choice
own_by path block place (Some found) here last = refl
own_by path block place None here none = absurd (no_operand (block ∷ []) (get_or path place 0) 0 (none place (omega arith)) (0, omega arith, sym here))

pub own_chooses : LastPlaces → (path : List ℕ) (block place : ℕ) → get_or path place 0 ≡ block → IsSome (chosen_operand path (block ∷ []) place false)
own_chooses laws path block place here = own_by path block place (chosen_operand path (block ∷ []) place false) here (laws.input path (block ∷ []) place)

-- to a marked block a path leads without a choice at its end
module _ (plan : PlanOf) (avoided : List Bool) (operands : List ℕ) (block : ℕ) (avoid : Avoids avoided operands) (to : LeadsTo plan avoided block) where
  none_before : (bound : ℕ) (choice : Option (ℕ × ℕ)) → bound ≤ length to.path → MatchOption choice (HasNone to.path operands bound) (IsLast to.path operands bound) → IsSome choice → ⊥
  none_before bound None within none some = absurd cc
  none_before bound (Some found) within last some =
      let entered = get_or to.path found.1 0 in
      both_ways (is_marked avoided entered) (to.clear found.1 (omega (arith, last.below))) (avoid.all entered (is_operand operands entered 0 found.0 last.is))

  pub last_below : length to.path - 1 < length to.path
  last_below = let some = to.is_path.starts in omega arith

  pub marked_lacks : LastPlaces → (phi : Bool) → IsSome (chosen_operand to.path operands (length to.path - 1) phi) → ⊥
  marked_lacks laws true =
      let place = length to.path - 1 in none_before place (chosen_operand to.path operands place true) (omega arith) (laws.phi to.path operands place)
  marked_lacks laws false =
      let place = length to.path - 1 in
      let below = last_below in
      none_before (suc place) (chosen_operand to.path operands place false) (omega arith) (laws.input to.path operands place)

-- ---- nothing is avoided

-- no block is marked of so many that are not
pub none_marked : (many block : ℕ) → is_marked (replicate many false) block ≡ false
none_marked many block =
    ⊎_elim (λ (below : block < many). get_or-replicate many block false false below)
    (λ (past : many ≤ block). get_or_past (replicate many false) block false (let e = length-replicate many false in omega arith)) (cases_lt block many)

module _ (plan : PlanOf) (landings : List ℕ) (avoided marks : List Bool) (none : (block : ℕ) → is_marked avoided block ≡ false) (skips : Skips plan landings)
    (over : IsSearched plan landings avoided marks) (block : ℕ) (lands : landing_of landings block ≡ block) where
  reached_by : (marked : Bool) → is_marked marks block ≡ marked → Tells marked (IsReached plan block)
  reached_by true marked = let to = over.found block marked (none block) in record { path = to.path; is_path = to.is_path; ends = to.ends }
  reached_by false free = λ to.
      let some = to.is_path.starts in
      let last = is_reached plan landings avoided marks to.path skips over to.is_path (length to.path - 1) (omega arith) (λ before less. none (get_or to.path before 0)) in
      both_ways (is_marked marks block) free (rw (to.ends, lands) at last)

  -- a block that lands at itself is marked exactly where it is reached
  pub reached_decides : Tells (is_marked marks block) (IsReached plan block)
  reached_decides = reached_by (is_marked marks block) refl
