-- A longer view, and a further poll, send first what was sent before.
use Rattle.std.proofs.Common.{◌≡◌, ◌≢◌, ◌<◌, ◌≤◌, ◌+◌, ℕ, suc, List, [], ◌∷◌, ◌++◌, length, take, get_or, sym, subst, refl, arith, cond, inl, inr, Bool, true, false}
use Rattle.std.specs.Prelude.{⊤, ◌⊎◌}
use Rattle.std.specs.List.{All, filter}
use Rattle.std.proofs.lemmas.List.{take_more}
use Rattle.std.proofs.lemmas.List.Elements.{All-head, All-tail}
use Rattle.std.proofs.lemmas.List.Kept.{AllPairs-filter}
use Rattle.mit_path.specs.Fate.{fate}
use Rattle.mit_path.specs.declared.fate.Fate.{Fate}
use Rattle.mit_path.specs.declared.fate.Fate.TheVariants.{Send, Drop, Undecided}
use Rattle.mit_plan.specs.Plans.{PlanOf, edge_at, is_phi, op_at, source_block, target_block}
use Rattle.mit_machine.specs.Channels.{fate_of, is_complete, is_send, is_target, made_places, sent_places, siblings_of}
use Rattle.mit_machine.specs.Places.{makes, own_places}
use Rattle.mit_machine.specs.Runs.{Runs}
use Rattle.mit_machine.specs.State.{Machine}
use Rattle.mit_machine.proofs.Lengthens.{Lengthens, lengthens_cons, lengthens_filter, lengthens_none, lengthens_take}
use Rattle.mit_machine.proofs.Lists.{Rising, rising_take}
use Rattle.mit_machine.proofs.Places.{places_rise}
use Rattle.mit_machine.proofs.WholePaths.{part_incomplete}

-- what the laws of choice and fate say of fates
pub record FateLaws : Type 0 where
  pub stays : (path more : List ℕ) (source place target : ℕ) (siblings : List ℕ) (phi complete : Bool) → fate path source place target siblings phi false ≢ Undecided
      → fate (path ++ more) source place target siblings phi complete ≡ fate path source place target siblings phi false
  pub waits : (path : List ℕ) (source place later target : ℕ) (siblings : List ℕ) (phi : Bool) → place ≤ later → fate path source place target siblings phi false ≡ Undecided
      → fate path source later target siblings phi false ≡ Undecided

-- ---- settled lists

-- each of these waits
abbrev AllWait : (ℕ → Fate) → List ℕ → Type 0
AllWait of places = All (λ place. of place ≡ Undecided) places

-- behind one that waits all wait
abbrev WaitLast : (ℕ → Fate) → List ℕ → Type 0
WaitLast of [] = ⊤
WaitLast of (place ∷ places) = (of place ≡ Undecided → AllWait of places) × WaitLast of places

-- a fate that is decided stays
abbrev StaysDecided : (ℕ → Fate) → (ℕ → Fate) → Type 0
StaysDecided before after = (place : ℕ) → (before place ≡ Undecided) ⊎ (after place ≡ before place)

none_sent : (of : ℕ → Fate) (places : List ℕ) → AllWait of places → filter (λ place. is_send (of place)) places ≡ []
none_sent of [] all = refl
none_sent of (place ∷ places) all =
    let here = All-head (λ place. of place ≡ Undecided) place places all in
    rw here (none_sent of places (All-tail (λ place. of place ≡ Undecided) place places all))

-- one place more at the front, by what came of it before
sends_first_one : (before after : ℕ → Fate) (place : ℕ) (places : List ℕ) (was : Fate) → before place ≡ was → (was ≡ Undecided) ⊎ (after place ≡ was) → (was ≡ Undecided → AllWait before places)
    → Lengthens (filter (λ one. is_send (before one)) places) (filter (λ one. is_send (after one)) places)
    → Lengthens (filter (λ one. is_send (before one)) (place ∷ places)) (filter (λ one. is_send (after one)) (place ∷ places))
sends_first_one before after place places Undecided is same last later =
    let none = none_sent before places (last refl) in
    (filter (λ one. is_send (after one)) (place ∷ places), rw (is, none) refl)
sends_first_one before after place places Send is (inl same) last later = absurd cc
sends_first_one before after place places Send is (inr same) last later =
    rw (is, same) (lengthens_cons place (filter (λ one. is_send (before one)) places) (filter (λ one. is_send (after one)) places) later)
sends_first_one before after place places Drop is (inl same) last later = absurd cc
sends_first_one before after place places Drop is (inr same) last later = rw (is, same) later

sends_first : (before after : ℕ → Fate) (places : List ℕ) → StaysDecided before after → WaitLast before places
    → Lengthens (filter (λ one. is_send (before one)) places) (filter (λ one. is_send (after one)) places)
sends_first before after [] stays last = lengthens_none []
sends_first before after (place ∷ places) stays last =
    sends_first_one before after place places (before place) refl (stays place) last.0 (sends_first before after places stays last.1)

wait_last : (of : ℕ → Fate) (places : List ℕ) → ((place later : ℕ) → place ≤ later → of place ≡ Undecided → of later ≡ Undecided) → Rising places → WaitLast of places
wait_last of [] waits rises = tt
wait_last of (place ∷ places) waits rises =
    let above : (k d : ℕ) → k < length places → place < get_or places k d = λ k d below. rises 0 (suc k) d (omega arith) (omega (arith, below)) in
    let later : Rising places = λ i j d less below. rises (suc i) (suc j) d (omega (arith, less)) (omega (arith, below)) in
    ((λ undecided k d below. waits place (get_or places k d) (omega (arith, above k d below)) undecided), wait_last of places waits later)

-- ---- fates of a view

decided_or : (one : Fate) → (one ≡ Undecided) ⊎ (one ≢ Undecided)
decided_or Undecided = inl refl
decided_or Send = inr (λ same. cc)
decided_or Drop = inr (λ same. cc)

view_stays : FateLaws → (plan : PlanOf) (view more : List ℕ) (edge : ℕ) → is_complete plan view ≡ false → StaysDecided (fate_of plan view edge) (fate_of plan (view ++ more) edge)
view_stays laws plan view more edge part place =
    let source = source_block plan (edge_at plan edge) in
    let target = target_block plan (edge_at plan edge) in
    let phi = is_phi (op_at plan (edge_at plan edge).to) in
    let before = fate view source place target (siblings_of plan edge) phi in
    subst (λ (complete : Bool). (before complete ≡ Undecided) ⊎ (fate_of plan (view ++ more) edge place ≡ before complete)) (sym part)
    (by_fate (before false) (fate_of plan (view ++ more) edge place) (decided_or (before false)) (laws.stays view more source place target (siblings_of plan edge) phi (is_complete plan (view ++ more))))
  where
    by_fate : (was now : Fate) → (was ≡ Undecided) ⊎ (was ≢ Undecided) → (was ≢ Undecided → now ≡ was) → (was ≡ Undecided) ⊎ (now ≡ was)
    by_fate was now (inl undecided) same = inl undecided
    by_fate was now (inr decided) same = inr (same decided)

view_waits : FateLaws → (plan : PlanOf) (view : List ℕ) (edge : ℕ) → is_complete plan view ≡ false → (place later : ℕ) → place ≤ later → fate_of plan view edge place ≡ Undecided
    → fate_of plan view edge later ≡ Undecided
view_waits laws plan view edge part place later after =
    let source = source_block plan (edge_at plan edge) in
    let target = target_block plan (edge_at plan edge) in
    let phi = is_phi (op_at plan (edge_at plan edge).to) in
    let of = λ (complete : Bool) (one : ℕ). fate view source one target (siblings_of plan edge) phi complete in
    subst (λ (complete : Bool). of complete place ≡ Undecided → of complete later ≡ Undecided) (sym part) (laws.waits view source place later target (siblings_of plan edge) phi after)

-- ---- what was sent

made_rise : (machine : Machine) (op part polls : ℕ) → Rising (made_places machine op part polls)
made_rise machine op part polls =
    AllPairs-filter (λ (one other : ℕ). one < other) (λ place. makes machine op place part) (take polls (own_places machine.job.plan machine.history.path op))
    (rising_take polls (own_places machine.job.plan machine.history.path op) (places_rise machine.history.path (op_at machine.job.plan op).block))

if_lengthens : (test : Bool) (before after : List ℕ) → Lengthens before after → Lengthens (cond test before []) (cond test after [])
if_lengthens true before after longer = longer
if_lengthens false before after longer = lengthens_none []

-- what was sent stays, in its order, as the sender learns a block
pub sent_seen : FateLaws → (machine : Machine) → Runs machine → (edge from to seen polls : ℕ) → seen < length machine.history.path
    → Lengthens (sent_places machine edge from to seen polls) (sent_places machine edge from to (seen + 1) polls)
sent_seen laws machine runs edge from to seen polls below =
    let plan = machine.job.plan in
    let path = machine.history.path in
    let view = take seen path in
    let made = made_places machine (edge_at plan edge).from from polls in
    let part = part_incomplete machine runs seen below in
    let longer : view ++ get_or path seen 0 ∷ [] ≡ take (seen + 1) path = sym (take_more path seen 0 below) in
    if_lengthens (is_target machine edge from to) (filter (λ place. is_send (fate_of plan view edge place)) made) (filter (λ place. is_send (fate_of plan (take (seen + 1) path) edge place)) made)
    (sends_first (fate_of plan view edge) (fate_of plan (take (seen + 1) path) edge) made
    (subst (λ (whole : List ℕ). StaysDecided (fate_of plan view edge) (fate_of plan whole edge)) longer (view_stays laws plan view (get_or path seen 0 ∷ []) edge part))
    (wait_last (fate_of plan view edge) made (view_waits laws plan view edge part) (made_rise machine (edge_at plan edge).from from polls)))

-- and as its operator is polled
pub sent_polled : (machine : Machine) (edge from to seen polls more : ℕ) → polls ≤ more
    → Lengthens (sent_places machine edge from to seen polls) (sent_places machine edge from to seen more)
sent_polled machine edge from to seen polls more below =
    let plan = machine.job.plan in
    let op = (edge_at plan edge).from in
    let of = fate_of plan (take seen machine.history.path) edge in
    let own = own_places plan machine.history.path op in
    if_lengthens (is_target machine edge from to) (filter (λ place. is_send (of place)) (made_places machine op from polls)) (filter (λ place. is_send (of place)) (made_places machine op from more))
    (lengthens_filter (λ place. is_send (of place)) (made_places machine op from polls) (made_places machine op from more)
    (lengthens_filter (λ place. makes machine op place from) (take polls own) (take more own) (lengthens_take polls more own below)))
