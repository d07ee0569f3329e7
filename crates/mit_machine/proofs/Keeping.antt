-- What is kept in a longer view, or after more polls, was kept before.
use Rattle.std.proofs.Common.{◌≡◌, ◌≢◌, ◌∙◌, ◌==◌, ◌<◌, ◌≤◌, ◌+◌, ℕ, zero, suc, List, [], ◌∷◌, ◌++◌, length, take, drop, get_or, ap, sym, subst, refl, arith, All, eqb, eqb-true, eq-eqb, inl, inr, Bool, true, false, Option, Some, None}
use Rattle.std.specs.Prelude.{◌⊎◌, ◌||◌, not}
use Rattle.std.specs.List.{list_any}
use Rattle.std.proofs.lemmas.Bool.{and_parts, both_ways, cases_lt, or_cases, or_right}
use Rattle.std.proofs.lemmas.List.{append-nil, drop-drop, drop_all, get_or-map, length-map, length-take, take-append-drop, take-take}
use Rattle.std.proofs.lemmas.List.Elements.{All-drop}
use Rattle.std.proofs.lemmas.List.Folds.{Any-from_list_any, list_any-append, list_any_at}
use Rattle.mit_path.specs.Choice.{chosen_operand}
use Rattle.mit_path.specs.Fate.{is_among, is_superseded}
use Rattle.mit_plan.specs.Chosen.{Choice, chosen, input_edges, input_numbers}
use Rattle.mit_plan.specs.Plans.{PlanOf, edge_at, is_phi, op_at, source_block}
use Rattle.mit_machine.specs.Channels.{is_complete, siblings_of}
use Rattle.mit_machine.specs.Kept.{chooses, is_part_kept, takes}
use Rattle.mit_machine.specs.Places.{own_places}
use Rattle.mit_machine.specs.Runs.{Runs}
use Rattle.mit_machine.specs.State.{Machine}
use Rattle.mit_machine.proofs.Choosing.{ChoiceLaws, blocks_of, chosen_edges, siblings_within}
use Rattle.mit_machine.proofs.Places.{later_above, later_places, places_append, places_below}
use Rattle.mit_machine.proofs.WholePaths.{part_incomplete}

-- the laws of longer paths
pub record LongerLaws : Type 0 where
  pub choices : ChoiceLaws
  pub unchosen : (path more operands siblings : List ℕ) (source place at operand : ℕ) (phi : Bool) → length path ≤ at
      → ((block : ℕ) → is_among (source ∷ siblings) block ≡ true → is_among operands block ≡ true)
      → is_superseded path source place siblings false ≡ true
      → chosen_operand (path ++ more) operands at phi ≢ Some (operand, place)
  pub chosen : (plan : PlanOf) (path more : List ℕ) (op input place : ℕ) → place < length path → chosen plan (path ++ more) op input place ≡ chosen plan path op input place
  pub superseded : (path more : List ℕ) (source place : ℕ) (siblings : List ℕ) (complete : Bool) → is_superseded path source place siblings false ≡ true
      → is_superseded (path ++ more) source place siblings complete ≡ true

-- ---- no choice behind the path

abbrev source_of : PlanOf → ℕ → ℕ
source_of plan edge = source_block plan (edge_at plan edge)

source_among : (plan : PlanOf) (edges : List ℕ) (operand : ℕ) → operand < length edges → is_among (blocks_of plan edges) (source_of plan (get_or edges operand 0)) ≡ true
source_among plan edges operand below =
    let blocks = blocks_of plan edges in
    let source = source_of plan (get_or edges operand 0) in
    list_any_at (λ other. eqb source other) blocks operand 0 (omega (arith, below, length-map edges (source_of plan)))
    (eq-eqb source (get_or blocks operand 0) (sym (get_or-map (source_of plan) edges operand 0 0 below)))

-- the sources of a chosen edge are its input's operands
sources_among : (plan : PlanOf) (edge input operand : ℕ) → let edges = get_or (input_edges plan (edge_at plan edge).to) input [] in operand < length edges
    → get_or edges operand 0 ≡ edge → (block : ℕ) → is_among (source_of plan edge ∷ siblings_of plan edge) block ≡ true → is_among (blocks_of plan edges) block ≡ true
sources_among plan edge input operand below is block any =
    let edges = get_or (input_edges plan (edge_at plan edge).to) input [] in
    elim (or_cases (block == source_of plan edge) (is_among (siblings_of plan edge) block) any) [
      | inl own ↦
          ap (is_among (blocks_of plan edges)) (eqb-true block (source_of plan edge) own)
          ∙ ap (λ (one : ℕ). is_among (blocks_of plan edges) (source_of plan one)) (sym is) ∙ source_among plan edges operand below
      | inr sibling ↦ siblings_within plan (edge_at plan edge).to input edge refl (omega (arith, below)) block sibling
    ]

-- no place behind a path chooses a bag that is superseded on it
chooses_before : LongerLaws → (plan : PlanOf) (path more : List ℕ) (edge place at : ℕ) → length path ≤ at
    → is_superseded path (source_of plan edge) place (siblings_of plan edge) false ≡ true → chooses plan (path ++ more) edge place at ≡ true → ⊥
chooses_before laws plan path more edge place at beyond superseded any =
    let op = (edge_at plan edge).to in
    let some = Any-from_list_any (λ input. takes edge place (chosen plan (path ++ more) op input at)) (input_numbers plan op) any in
    by_choice some.1 (chosen plan (path ++ more) op some.1 at) refl some.4
  where
    by_choice : (input : ℕ) (found : Option Choice) → chosen plan (path ++ more) (edge_at plan edge).to input at ≡ found → takes edge place found ≡ true → ⊥
    by_choice input None is took = absurd cc
    by_choice input (Some choice) is took =
        let op = (edge_at plan edge).to in
        let both = and_parts (choice.edge == edge) (choice.place == place) took in
        let one = chosen_edges laws.choices plan (path ++ more) op input at choice is in
        laws.unchosen path more (blocks_of plan (get_or (input_edges plan op) input [])) (siblings_of plan edge) (source_of plan edge) place at one.operand (is_phi (op_at plan op)) beyond
        (sources_among plan edge input one.operand one.inside (sym one.edge ∙ eqb-true choice.edge edge both.0)) superseded
        (one.found ∙ ap (λ (n : ℕ). Some (one.operand, n)) (eqb-true choice.place place both.1))

-- ---- some element of what is left of a list

any_of_drop : (test : ℕ → Bool) (many : ℕ) (xs : List ℕ) → list_any test (drop many xs) ≡ true → list_any test xs ≡ true
any_of_drop test zero xs any = any
any_of_drop test (suc many) [] any = any
any_of_drop test (suc many) (x ∷ xs) any = or_right (test x) (list_any test xs) (any_of_drop test many xs any)

any_of_more : (test : ℕ → Bool) (further few : ℕ) (xs : List ℕ) → list_any test (drop (further + few) xs) ≡ true → list_any test (drop few xs) ≡ true
any_of_more test further few xs any =
    let e : few + further ≡ further + few = omega arith in
    any_of_drop test further (drop few xs) (ap (list_any test) (drop-drop further few xs) ∙ ap (λ (n : ℕ). list_any test (drop n xs)) e ∙ any)

any_in_either : (test : ℕ → Bool) (many : ℕ) (xs ys : List ℕ) → list_any test (drop many (xs ++ ys)) ≡ true → (list_any test (drop many xs) ≡ true) ⊎ (list_any test ys ≡ true)
any_in_either test zero xs ys any = or_cases (list_any test xs) (list_any test ys) (sym (list_any-append test xs ys) ∙ any)
any_in_either test (suc many) [] ys any = inr (any_of_drop test (suc many) ys any)
any_in_either test (suc many) (x ∷ xs) ys any = any_in_either test many xs ys any

-- a place that passes, of places of which P holds
any_holds : (test : ℕ → Bool) (P : ℕ → Type 0) (xs : List ℕ) → All P xs → list_any test xs ≡ true → (x : ℕ) × P x × (test x ≡ true)
any_holds test P xs all any =
    let some = Any-from_list_any test xs any in
    (some.1, subst P some.3 (all some.0 some.1 some.2), some.4)

any_same : (test other : ℕ → Bool) (P : ℕ → Type 0) (xs : List ℕ) → ((x : ℕ) → P x → test x ≡ other x) → All P xs → list_any test xs ≡ true → list_any other xs ≡ true
any_same test other P xs same all any =
    let some = Any-from_list_any test xs any in
    let holds : P some.1 = subst P some.3 (all some.0 some.1 some.2) in
    list_any_at other xs some.0 some.1 some.2 (ap other some.3 ∙ sym (same some.1 holds) ∙ some.4)

-- ---- from a longer view to a shorter one

-- a place of the shorter view chooses alike in both
chooses_alike : LongerLaws → (plan : PlanOf) (path more : List ℕ) (edge place at : ℕ) → at < length path → chooses plan (path ++ more) edge place at ≡ chooses plan path edge place at
chooses_alike laws plan path more edge place at below = over (input_numbers plan (edge_at plan edge).to)
  where
    over : (inputs : List ℕ) → list_any (λ input. takes edge place (chosen plan (path ++ more) (edge_at plan edge).to input at)) inputs
        ≡ list_any (λ input. takes edge place (chosen plan path (edge_at plan edge).to input at)) inputs
    over [] = refl
    over (input ∷ inputs) =
        let here = laws.chosen plan path more (edge_at plan edge).to input at below in
        let rest = over inputs in
        cc

-- an unpolled place chooses the bag
abbrev Wanted : PlanOf → List ℕ → ℕ → ℕ → ℕ → Bool
Wanted plan view polls edge place = list_any (chooses plan view edge place) (drop polls (own_places plan view (edge_at plan edge).to))

-- what a place of the longer view chooses, one of the shorter view chooses too, where it is superseded there
wanted_before : LongerLaws → (plan : PlanOf) (path more : List ℕ) (further polls edge place : ℕ)
    → is_superseded path (source_of plan edge) place (siblings_of plan edge) false ≡ true
    → Wanted plan (path ++ more) (further + polls) edge place ≡ true → Wanted plan path polls edge place ≡ true
wanted_before laws plan path more further polls edge place superseded any =
    let block = (op_at plan (edge_at plan edge).to).block in
    let test : ℕ → Bool = chooses plan (path ++ more) edge place in
    by_side (any_in_either test (further + polls) (own_places plan path (edge_at plan edge).to) (later_places path more block)
    (ap (λ (places : List ℕ). list_any test (drop (further + polls) places)) (sym (places_append path more block)) ∙ any))
  where
    by_side : (list_any (chooses plan (path ++ more) edge place) (drop (further + polls) (own_places plan path (edge_at plan edge).to)) ≡ true)
        ⊎ (list_any (chooses plan (path ++ more) edge place) (later_places path more (op_at plan (edge_at plan edge).to).block) ≡ true)
        → Wanted plan path polls edge place ≡ true
    by_side (inl here) =
        let own = own_places plan path (edge_at plan edge).to in
        let below : All (λ at. at < length path) (drop polls own) =
        All-drop (λ at. at < length path) polls own (places_below path (op_at plan (edge_at plan edge).to).block) in
        any_same (chooses plan (path ++ more) edge place) (chooses plan path edge place) (λ at. at < length path) (drop polls own) (chooses_alike laws plan path more edge place) below
        (any_of_more (chooses plan (path ++ more) edge place) further polls own here)
    by_side (inr later) =
        let some = any_holds (chooses plan (path ++ more) edge place) (λ at. length path ≤ at) (later_places path more (op_at plan (edge_at plan edge).to).block)
        (later_above path more (op_at plan (edge_at plan edge).to).block) later in
        absurd (chooses_before laws plan path more edge place some.0 some.1 superseded some.2)

kept_by : (wanted superseded : Bool) → (superseded ≡ true → wanted ≡ true) → (wanted || not superseded) ≡ true
kept_by true superseded on = refl
kept_by false true on = on refl
kept_by false false on = refl

wanted_of : (wanted superseded : Bool) → superseded ≡ true → (wanted || not superseded) ≡ true → wanted ≡ true
wanted_of true superseded is kept = refl
wanted_of false superseded is kept = cc

-- a view that isn't complete
kept_open : LongerLaws → (plan : PlanOf) (path more : List ℕ) (further polls edge place : ℕ) → is_part_kept plan (path ++ more) (further + polls) edge place ≡ true
    → (Wanted plan path polls edge place || not (is_superseded path (source_of plan edge) place (siblings_of plan edge) false)) ≡ true
kept_open laws plan path more further polls edge place kept =
    let complete = is_complete plan (path ++ more) in
    kept_by (Wanted plan path polls edge place) (is_superseded path (source_of plan edge) place (siblings_of plan edge) false)
    (λ superseded. wanted_before laws plan path more further polls edge place superseded
    (wanted_of (Wanted plan (path ++ more) (further + polls) edge place) (is_superseded (path ++ more) (source_of plan edge) place (siblings_of plan edge) complete)
    (laws.superseded path more (source_of plan edge) place (siblings_of plan edge) complete superseded) kept))

-- the same view after fewer polls
kept_fewer : (plan : PlanOf) (path : List ℕ) (further polls edge place : ℕ) → is_part_kept plan path (further + polls) edge place ≡ true → is_part_kept plan path polls edge place ≡ true
kept_fewer plan path further polls edge place kept =
    let own = own_places plan path (edge_at plan edge).to in
    let superseded = is_superseded path (source_of plan edge) place (siblings_of plan edge) (is_complete plan path) in
    kept_by (Wanted plan path polls edge place) superseded
    (λ is. any_of_more (chooses plan path edge place) further polls own (wanted_of (Wanted plan path (further + polls) edge place) superseded is kept))

kept_before : LongerLaws → (plan : PlanOf) (path more : List ℕ) (further polls edge place : ℕ) → (is_complete plan path ≡ true → more ≡ [])
    → is_part_kept plan (path ++ more) (further + polls) edge place ≡ true → is_part_kept plan path polls edge place ≡ true
kept_before laws plan path more further polls edge place ends kept = by_complete (is_complete plan path) refl
  where
    by_complete : (complete : Bool) → is_complete plan path ≡ complete → is_part_kept plan path polls edge place ≡ true
    by_complete true is =
        kept_fewer plan path further polls edge place
        (ap (λ (view : List ℕ). is_part_kept plan view (further + polls) edge place) (sym (append-nil path) ∙ ap (λ (rest : List ℕ). path ++ rest) (sym (ends is))) ∙ kept)
    by_complete false is =
        ap (λ (complete : Bool). Wanted plan path polls edge place || not (is_superseded path (source_of plan edge) place (siblings_of plan edge) complete)) is
        ∙ kept_open laws plan path more further polls edge place kept

-- ---- a complete view is the whole path

complete_whole : (machine : Machine) (seen : ℕ) → Runs machine → is_complete machine.job.plan (take seen machine.history.path) ≡ true → length machine.history.path ≤ seen
complete_whole machine seen runs complete =
    elim (cases_lt seen (length machine.history.path)) [
      | inl below ↦ absurd (both_ways (is_complete machine.job.plan (take seen machine.history.path)) (part_incomplete machine runs seen below) complete)
      | inr past ↦ past
    ]

pub kept_is : LongerLaws → (machine : Machine) (seen polls more further edge place : ℕ) → Runs machine
    → is_part_kept machine.job.plan (take (more + seen) machine.history.path) (further + polls) edge place ≡ true
    → is_part_kept machine.job.plan (take seen machine.history.path) polls edge place ≡ true
kept_is laws machine seen polls more further edge place runs kept =
    let path = machine.history.path in
    let rest = drop seen (take (more + seen) path) in
    let parts : take seen path ++ rest ≡ take (more + seen) path =
    ap (λ (front : List ℕ). front ++ rest) (sym (take-take seen (more + seen) path (omega arith))) ∙ take-append-drop seen (take (more + seen) path) in
    kept_before laws machine.job.plan (take seen path) rest further polls edge place
    (λ complete. drop_all seen (take (more + seen) path) (omega (arith, complete_whole machine seen runs complete, length-take (more + seen) path)))
    (ap (λ (view : List ℕ). is_part_kept machine.job.plan view (further + polls) edge place) parts ∙ kept)
