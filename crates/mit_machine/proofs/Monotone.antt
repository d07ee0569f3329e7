-- With more reports no less is known, the front is no lower and no less is released; what is released lies within the window.
use Rattle.std.proofs.Common.{◌≡◌, ◌≤◌, ◌+◌, ℕ, zero, suc, List, [], ◌∷◌, take, min, refl, arith, cond, Bool, true, false}
use Rattle.std.specs.Prelude.{◌==◌, ◌&&◌}
use Rattle.std.specs.List.{range_with_len}
use Rattle.mit_plan.specs.Plans.{block_at}
use Rattle.mit_plan.specs.Valid.{is_branch, last_of}
use Rattle.mit_machine.specs.Offers.{released_in}
use Rattle.mit_machine.specs.Places.{Reports, all_done, front, front_from, heard_by, is_done, known, known_from, leads_on, makes, block_ops, own_places, released}
use Rattle.mit_machine.specs.State.{Action, Machine, State, after, hear, learn, poll, raised_in, take_bag}
use Rattle.mit_machine.proofs.Lists.{all_more, any_take}
use Rattle.mit_machine.proofs.Raised.{raised_in_least}

both_more : (few many other : Bool) → (few ≡ true → many ≡ true) → (few && other) ≡ true → (many && other) ≡ true
both_more true many other more all = rw (more refl) all
both_more false many other more all = absurd cc

if_more : (few many : Bool) (low one other : ℕ) → (few ≡ true → many ≡ true) → one ≤ other → low ≤ other → cond few one low ≤ cond many other low
if_more true many low one other more below least = rw (more refl) below
if_more false true low one other more below least = least
if_more false false low one other more below least = omega arith

if_least : (test : Bool) (low one other : ℕ) → low + 1 ≤ one → low ≤ other → low ≤ cond test one other
if_least true low one other above least = omega (arith, above)
if_least false low one other above least = least

-- ---- reports

-- each report of the one came to the other
abbrev pub AreMore : Reports → Reports → Type 0
AreMore few many = (op place part : ℕ) → few op place part ≡ true → many op place part ≡ true

heard_more : (machine : Machine) (few many : ℕ → ℕ → ℕ) → ((op part : ℕ) → few op part ≤ many op part) → AreMore (heard_by machine few) (heard_by machine many)
heard_more machine few many more op place part =
    any_take (λ other. other == place) (few op part) (many op part) (own_places machine.job.plan machine.history.path op) (more op part)

done_more : (machine : Machine) (few many : Reports) → AreMore few many → (op place : ℕ) → is_done machine few op place ≡ true → is_done machine many op place ≡ true
done_more machine few many more op place =
    all_more (λ part. few op place part && makes machine op place part) (λ part. many op place part && makes machine op place part) (range_with_len 0 machine.job.partitions)
    (λ part. both_more (few op place part) (many op place part) (makes machine op place part) (more op place part))

-- ---- the known path

leads_more : (machine : Machine) (few many : Reports) → AreMore few many → (place block : ℕ) → leads_on machine few place block ≡ true → leads_on machine many place block ≡ true
leads_more machine few many more place block = by_kind (is_branch (block_at machine.job.plan block).leave)
  where
    by_kind : (branch : Bool) → cond branch (few (last_of (block_at machine.job.plan block)) place 0) true ≡ true → cond branch (many (last_of (block_at machine.job.plan block)) place 0) true ≡ true
    by_kind true led = more (last_of (block_at machine.job.plan block)) place 0 led
    by_kind false led = refl

known_least : (machine : Machine) (reports : Reports) (place : ℕ) (path : List ℕ) → place ≤ known_from machine reports place path
unfolding known_from
known_least machine reports place [] = omega arith
known_least machine reports place (block ∷ path) =
    if_least (leads_on machine reports place block) place (known_from machine reports (place + 1) path) (place + 1) (known_least machine reports (place + 1) path) (omega arith)

known_more : (machine : Machine) (few many : Reports) → AreMore few many → (place : ℕ) (path : List ℕ) → known_from machine few place path ≤ known_from machine many place path
unfolding known_from
known_more machine few many more place [] = omega arith
known_more machine few many more place (block ∷ path) =
    if_more (leads_on machine few place block) (leads_on machine many place block) (place + 1) (known_from machine few (place + 1) path) (known_from machine many (place + 1) path)
    (leads_more machine few many more place block) (known_more machine few many more (place + 1) path) (known_least machine many (place + 1) path)

-- ---- the front

front_least : (machine : Machine) (reports : Reports) (place : ℕ) (path : List ℕ) → place ≤ front_from machine reports place path
unfolding front_from
front_least machine reports place [] = omega arith
front_least machine reports place (block ∷ path) =
    if_least (all_done machine reports place block) place (front_from machine reports (place + 1) path) place (front_least machine reports (place + 1) path) (omega arith)

front_more : (machine : Machine) (few many : Reports) → AreMore few many → (place less length : ℕ) (path : List ℕ) → less ≤ length
    → front_from machine few place (take less path) ≤ front_from machine many place (take length path)
unfolding front_from
front_more machine few many more place zero length path below = front_least machine many place (take length path)
front_more machine few many more place (suc less) zero path below = absurd (omega (arith, below))
front_more machine few many more place (suc less) (suc length) [] below = omega arith
front_more machine few many more place (suc less) (suc length) (block ∷ path) below =
    let least = front_least machine many (place + 1) (take length path) in
    if_more (all_done machine few place block) (all_done machine many place block) place
    (front_from machine few (place + 1) (take less path)) (front_from machine many (place + 1) (take length path))
    (all_more (λ op. is_done machine few op place) (λ op. is_done machine many op place) (block_ops machine.job.plan block) (λ op. done_more machine few many more op place))
    (front_more machine few many more (place + 1) less length path (omega (arith, below))) (omega (arith, least))

-- ---- what is released

-- with more reports no less is released
released_more : (machine : Machine) (few many : Reports) → AreMore few many → released machine few ≤ released machine many
released_more machine few many more =
    let path_more = known_more machine few many more 0 machine.history.path in
    let place_more = front_more machine few many more 0 (known machine few) (known machine many) machine.history.path path_more in
    least_more (known machine few) (known machine many) (front machine few) (front machine many) machine.window path_more place_more
  where
    least_more : (known_few known_many front_few front_many window : ℕ) → known_few ≤ known_many → front_few ≤ front_many → min known_few (front_few + window) ≤ min known_many (front_many + window)
    least_more known_few known_many front_few front_many window path_more place_more = omega arith

-- no action releases less
pub released_later : (machine : Machine) (state : State) (action : Action) → released_in machine state ≤ released_in machine (after action state)
released_later machine state (learn part) = omega arith
released_later machine state (hear op part) =
    released_more machine (heard_by machine state.heard) (heard_by machine (raised_in op part state.heard))
    (heard_more machine state.heard (raised_in op part state.heard) (λ other from. raised_in_least op part other from state.heard))
released_later machine state (take_bag edge from to) = omega arith
released_later machine state (poll op part) = omega arith

-- no more is released than is known, or lies in the window
pub within_window : (machine : Machine) (reports : Reports) → (released machine reports ≤ known machine reports) × (released machine reports ≤ front machine reports + machine.window)
within_window machine reports = (omega arith, omega arith)
