-- The front: what is done before it, and the operator there that isn't.
use Rattle.std.proofs.Common.{◌≡◌, ◌∙◌, ◌<◌, ◌≤◌, ◌+◌, ◌-◌, ℕ, zero, suc, List, [], ◌∷◌, length, take, get_or, ap, sym, refl, arith, cond, Bool, true, false, inl, inr}
use Rattle.std.specs.Prelude.{◌⊎◌, ◌&&◌}
use Rattle.std.specs.List.{list_all, range_with_len}
use Rattle.std.proofs.lemmas.Bool.{and_parts, both_ways, cases_lt}
use Rattle.std.proofs.lemmas.List.{get_or-take, length-take-le}
use Rattle.std.proofs.lemmas.List.FromFn.{get_or-range_with_len, length-range_with_len}
use Rattle.mit_plan.specs.Held.{op_of}
use Rattle.mit_plan.specs.Plans.{block_at, op_at}
use Rattle.mit_plan.specs.Valid.{RangesFollow}
use Rattle.mit_machine.specs.Places.{Reports, all_done, front, front_from, front_index, is_done, known, known_from, leads_on, makes, open_from}
use Rattle.mit_machine.specs.State.{Machine}
use Rattle.mit_machine.proofs.Lists.{range_each, range_found}
use Rattle.mit_machine.proofs.Standing.{stands_in}

-- what is done was heard from each partition, and is ok there
pub done_in : (machine : Machine) (reports : Reports) (op place part : ℕ) → part < machine.job.partitions → is_done machine reports op place ≡ true → (reports op place part ≡ true) × (makes machine op place part ≡ true)
done_in machine reports op place part some done =
    and_parts (reports op place part) (makes machine op place part)
    (range_each (λ part. reports op place part && makes machine op place part) 0 machine.job.partitions part done (omega arith) (omega (arith, some)))

-- ---- the first that fails

-- the first of these, counted from a number, at which a test fails; their number where it fails at none
record FirstFails (test : ℕ → ℕ → Bool) (from : ℕ) (xs : List ℕ) (found : ℕ) : Type 0 where
  before : (k : ℕ) → from + k < found → test (from + k) (get_or xs k 0) ≡ true
  here : found < from + length xs → (k : ℕ) × (k < length xs) × (found ≡ from + k) × (test (from + k) (get_or xs k 0) ≡ false)

fails_none : (test : ℕ → ℕ → Bool) (from : ℕ) → FirstFails test from [] from
fails_none test from = record {
  before = λ k less. absurd (omega (arith, less));
  here = λ less. absurd (omega (arith, less));
}

fails_more : (test : ℕ → ℕ → Bool) (from x : ℕ) (xs : List ℕ) (found : ℕ) (passes : Bool) → test from x ≡ passes → FirstFails test (from + 1) xs found → FirstFails test from (x ∷ xs) (cond passes found from)
fails_more test from x xs found true is rest = record {
  before = before;
  here = λ less.
      let one = rest.here (omega (arith, less)) in
      let e : from + 1 + one.0 ≡ from + suc one.0 = omega arith in
      (suc one.0, omega (arith, one.1), omega (arith, one.2), ap (λ (n : ℕ). test n (get_or xs one.0 0)) (sym e) ∙ one.3);
}
  where
    before : (k : ℕ) → from + k < found → test (from + k) (get_or (x ∷ xs) k 0) ≡ true
    before zero less = let e : from + 0 ≡ from = omega arith in ap (λ (n : ℕ). test n x) e ∙ is
    before (suc k) less = let e : from + suc k ≡ from + 1 + k = omega arith in ap (λ (n : ℕ). test n (get_or xs k 0)) e ∙ rest.before k (omega (arith, less))
fails_more test from x xs found false is rest = record {
  before = λ k less. absurd (omega (arith, less));
  here = λ less. let e : from + 0 ≡ from = omega arith in (0, omega arith, omega arith, ap (λ (n : ℕ). test n x) e ∙ is);
}

front_fails : (machine : Machine) (reports : Reports) (place : ℕ) (xs : List ℕ) → FirstFails (all_done machine reports) place xs (front_from machine reports place xs)
unfolding front_from
front_fails machine reports place [] = fails_none (all_done machine reports) place
front_fails machine reports place (block ∷ later) =
    fails_more (all_done machine reports) place block later (front_from machine reports (place + 1) later) (all_done machine reports place block) refl (front_fails machine reports (place + 1) later)

open_fails : (machine : Machine) (reports : Reports) (place index : ℕ) (xs : List ℕ) → FirstFails (λ index op. is_done machine reports op place) index xs (open_from machine reports place index xs)
unfolding open_from
open_fails machine reports place index [] = fails_none (λ index op. is_done machine reports op place) index
open_fails machine reports place index (op ∷ later) =
    fails_more (λ index op. is_done machine reports op place) index op later (open_from machine reports place (index + 1) later) (is_done machine reports op place) refl
    (open_fails machine reports place (index + 1) later)

-- ---- the known path

-- the known path ends where the path does, or behind a place that does not lead on
abbrev Ends : Machine → Reports → ℕ → List ℕ → ℕ → Type 0
Ends machine reports place xs known =
    (known ≡ place + length xs) ⊎ ((k : ℕ) × (k < length xs) × (known ≡ place + k + 1) × (leads_on machine reports (place + k) (get_or xs k 0) ≡ false))

ends_more : (machine : Machine) (reports : Reports) (place block : ℕ) (xs : List ℕ) (found : ℕ) (leads : Bool) → leads_on machine reports place block ≡ leads
    → Ends machine reports (place + 1) xs found → Ends machine reports place (block ∷ xs) (cond leads found (place + 1))
ends_more machine reports place block xs found true is (inl all) = inl (omega (arith, all))
ends_more machine reports place block xs found true is (inr one) =
    let e : place + 1 + one.0 ≡ place + suc one.0 = omega arith in
    inr (suc one.0, omega (arith, one.1), omega (arith, one.2), ap (λ (n : ℕ). leads_on machine reports n (get_or xs one.0 0)) (sym e) ∙ one.3)
ends_more machine reports place block xs found false is rest =
    let e : place + 0 ≡ place = omega arith in
    inr (0, omega arith, omega arith, ap (λ (n : ℕ). leads_on machine reports n block) e ∙ is)

ends : (machine : Machine) (reports : Reports) (place : ℕ) (xs : List ℕ) → Ends machine reports place xs (known_from machine reports place xs)
unfolding known_from
ends machine reports place [] = inl (omega arith)
ends machine reports place (block ∷ later) =
    ends_more machine reports place block later (known_from machine reports (place + 1) later) (leads_on machine reports place block) refl (ends machine reports (place + 1) later)

-- the known path is the whole path, or ends behind a place whose condition isn't heard
pub known_ends : (machine : Machine) (reports : Reports) → (known machine reports ≡ length machine.history.path)
    ⊎ ((k : ℕ) × (k < length machine.history.path) × (known machine reports ≡ k + 1) × (leads_on machine reports k (get_or machine.history.path k 0) ≡ false))
known_ends machine reports =
    elim (ends machine reports 0 machine.history.path) [
      | inl all ↦ inl (omega (arith, all))
      | inr one ↦
          let e : 0 + one.0 ≡ one.0 = omega arith in
          inr (one.0, one.1, omega (arith, one.2), ap (λ (n : ℕ). leads_on machine reports n (get_or machine.history.path one.0 0)) (sym e) ∙ one.3)
    ]

pub known_most : (machine : Machine) (reports : Reports) → known machine reports ≤ length machine.history.path
known_most machine reports =
    elim (known_ends machine reports) [
      | inl all ↦ omega (arith, all)
      | inr one ↦ omega (arith, one.1, one.2)
    ]

-- ---- the front

-- what stands at a place of the known path
known_block : (machine : Machine) (reports : Reports) (place : ℕ) → place < known machine reports → get_or (take (known machine reports) machine.history.path) place 0 ≡ get_or machine.history.path place 0
known_block machine reports place below = get_or-take (known machine reports) machine.history.path place 0 below

-- everything before the front is done
pub done_before : (machine : Machine) (reports : Reports) (place op : ℕ) → RangesFollow machine.job.plan → place < front machine reports → place < known machine reports
    → op < length machine.job.plan.ops → (op_at machine.job.plan op).block ≡ get_or machine.history.path place 0 → is_done machine reports op place ≡ true
done_before machine reports place op ranges less below some is =
    let plan = machine.job.plan in
    let block = get_or machine.history.path place 0 in
    let z : 0 + place ≡ place = omega arith in
    let first = front_fails machine reports 0 (take (known machine reports) machine.history.path) in
    let all : all_done machine reports place block ≡ true =
    ap (λ (one : ℕ). all_done machine reports place one) (sym (known_block machine reports place below))
    ∙ ap (λ (n : ℕ). all_done machine reports n (get_or (take (known machine reports) machine.history.path) place 0)) (sym z)
    ∙ first.before place (omega (arith, less)) in
    let own = stands_in plan block op ranges some is in
    range_each (λ one. is_done machine reports one place) (block_at plan block).first (block_at plan block).count op all (omega (arith, own.number)) (omega (arith, own.number, own.below))

-- not everything is done at the front
front_open : (machine : Machine) (reports : Reports) → front machine reports < known machine reports
    → all_done machine reports (front machine reports) (get_or machine.history.path (front machine reports) 0) ≡ false
front_open machine reports less =
    let path = take (known machine reports) machine.history.path in
    let first = front_fails machine reports 0 path in
    let size = length-take-le (known machine reports) machine.history.path (known_most machine reports) in
    let one = first.here (omega (arith, less, size)) in
    let e : front machine reports ≡ one.0 = omega (arith, one.2) in
    let z : 0 + one.0 ≡ front machine reports = omega (arith, one.2) in
    ap (all_done machine reports (front machine reports)) (sym (known_block machine reports (front machine reports) less) ∙ ap (λ (n : ℕ). get_or path n 0) e)
    ∙ ap (λ (n : ℕ). all_done machine reports n (get_or path one.0 0)) (sym z) ∙ one.3

-- the first operator of a block that isn't done, where one isn't
record IsOpen (machine : Machine) (reports : Reports) (place first count index : ℕ) : Type 0 where
  stands : index < count
  undone : is_done machine reports (first + index) place ≡ false
  lower : (other : ℕ) → other < index → is_done machine reports (first + other) place ≡ true

open_is : (machine : Machine) (reports : Reports) (place first count : ℕ) → list_all (λ op. is_done machine reports op place) (range_with_len first count) ≡ false
    → IsOpen machine reports place first count (open_from machine reports place 0 (range_with_len first count))
open_is machine reports place first count some =
    record { stands = stands; undone = ap (λ (op : ℕ). is_done machine reports op place) (sym number) ∙ one.3; lower = λ other less. passes other less (omega (arith, less, stands)) }
  where
    index : ℕ
    index = open_from machine reports place 0 (range_with_len first count)

    is : FirstFails (λ index op. is_done machine reports op place) 0 (range_with_len first count) index
    is = open_fails machine reports place 0 (range_with_len first count)

    passes : (other : ℕ) → other < index → other < count → is_done machine reports (first + other) place ≡ true
    passes other less below =
        ap (λ (op : ℕ). is_done machine reports op place) (sym (get_or-range_with_len first count other 0 below)) ∙ is.before other (omega (arith, less))

    stands : index < count
    stands = elim (cases_lt index count) [
      | inl below ↦ below
      | inr all ↦
          let one = range_found (λ op. is_done machine reports op place) first count some in
          let e : first + (one.0 - first) ≡ one.0 = omega (arith, one.1) in
          absurd (both_ways (is_done machine reports one.0 place) one.3
          (ap (λ (op : ℕ). is_done machine reports op place) (sym e) ∙ passes (one.0 - first) (omega (arith, one.1, one.2, all)) (omega (arith, one.1, one.2))))
    ]

    one : (k : ℕ) × (k < length (range_with_len first count)) × (index ≡ 0 + k) × (is_done machine reports (get_or (range_with_len first count) k 0) place ≡ false)
    one = is.here (let size = length-range_with_len first count in omega (arith, size, stands))

    number : get_or (range_with_len first count) one.0 0 ≡ first + index
    number =
        let size = length-range_with_len first count in
        let e : first + one.0 ≡ first + index = omega (arith, one.2) in
        get_or-range_with_len first count one.0 0 (omega (arith, one.1, size)) ∙ e

-- an operator at a place of the path isn't done, and everything before it is
pub record IsFront (machine : Machine) (reports : Reports) (place index : ℕ) : Type 0 where
  pub entered : place < length machine.history.path
  pub stands : index < (block_at machine.job.plan (get_or machine.history.path place 0)).count
  pub undone : is_done machine reports (op_of machine.job.plan machine.history.path place index) place ≡ false
  pub earlier : (other op : ℕ) → other < place → op < length machine.job.plan.ops → (op_at machine.job.plan op).block ≡ get_or machine.history.path other 0
      → is_done machine reports op other ≡ true
  pub lower : (other : ℕ) → other < index → is_done machine reports (op_of machine.job.plan machine.history.path place other) place ≡ true

pub front_is : (machine : Machine) (reports : Reports) → RangesFollow machine.job.plan → front machine reports < known machine reports
    → IsFront machine reports (front machine reports) (front_index machine reports)
front_is machine reports ranges less =
    let block = get_or machine.history.path (front machine reports) 0 in
    let is = open_is machine reports (front machine reports) (block_at machine.job.plan block).first (block_at machine.job.plan block).count (front_open machine reports less) in
    record {
      entered = omega (arith, less, known_most machine reports);
      stands = is.stands;
      undone = is.undone;
      earlier = λ other op before some own. done_before machine reports other op ranges before (omega (arith, before, less)) some own;
      lower = is.lower;
    }
