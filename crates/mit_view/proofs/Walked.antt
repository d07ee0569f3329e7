-- Choice and fate, one operand after another.
use Rattle.std.proofs.Common.{◌≡◌, ◌≤◌, ◌<◌, ◌∙◌, ◌+◌, ℕ, zero, suc, List, [], ◌∷◌, ◌++◌, length, get_or, drop, sym, ap, refl, arith, cond, eqb, Bool, true, false, Option, Some, None}
use Rattle.std.specs.Prelude.{⊤, ◌||◌}
use Rattle.std.specs.List.{position_from}
use Rattle.std.proofs.lemmas.Bool.{le-ltb, lt-ltb}
use Rattle.std.proofs.lemmas.List.Folds.{list_any-append}
use Rattle.mit_path.specs.declared.fate.Fate.TheVariants.{Send, Drop}
use Rattle.mit_path.specs.Choice.{found_or, last_below, operand_of}
use Rattle.mit_path.specs.Fate.{first_decides, is_among}
use Rattle.mit_path.specs.Views.{first_place_from}
use Rattle.mit_view.specs.Walks.{earlier, last_place, later, next_among, whichever}

-- what holds of a value that is there
abbrev IfThere : {X : Type 0} → (X → Type 0) → Option X → Type 0
IfThere P None = ⊤
IfThere P (Some x) = P x

-- ---- choice

or_last : Option ℕ → Bool → ℕ → Option ℕ
or_last None last number = cond last (Some number) None
or_last (Some found) last number = Some found

position_from_push : (test : ℕ → Bool) (at : ℕ) (xs : List ℕ) (y : ℕ) → position_from test at (xs ++ y ∷ []) ≡ or_last (position_from test at xs) (test y) (at + length xs)
unfolding or_last
position_from_push test at [] y = ap (λ (number : ℕ). cond (test y) (Some number) None) (omega arith)
position_from_push test at (x ∷ xs) y =
    elim (test x) as (λ here. cond here (Some at) (position_from test (at + 1) (xs ++ y ∷ [])) ≡ or_last (cond here (Some at) (position_from test (at + 1) xs)) (test y) (at + suc (length xs))) [
      | true ↦ refl
      | false ↦ position_from_push test (at + 1) xs y ∙ ap (or_last (position_from test (at + 1) xs) (test y)) (omega arith)
    ]

last_place_below : (path : List ℕ) (block bound : ℕ) → IfThere (λ place. place < bound) (last_place path block bound)
unfolding last_place
last_place_below path block zero = tt
last_place_below path block (suc bound) =
    elim (eqb (get_or path bound 0) block) as (λ here. IfThere (λ place. place < suc bound) (cond here (Some bound) (last_place path block bound))) [
      | true ↦ omega arith
      | false ↦ wider (last_place path block bound) (last_place_below path block bound)
    ]
  where
    wider : (found : Option ℕ) → IfThere (λ place. place < bound) found → IfThere (λ place. place < suc bound) found
    wider None below = tt
    wider (Some place) below = omega arith

last_below_below : (path operands : List ℕ) (bound : ℕ) → IfThere (λ choice. choice.1 < bound) (last_below path operands bound)
unfolding last_below
last_below_below path operands zero = tt
last_below_below path operands (suc bound) =
    elim (operand_of operands (get_or path bound 0)) as (λ here. IfThere (λ choice. choice.1 < suc bound) (found_or here bound (last_below path operands bound))) [
      | None ↦ wider (last_below path operands bound) (last_below_below path operands bound)
      | Some operand ↦ omega arith
    ]
  where
    wider : (found : Option (ℕ × ℕ)) → IfThere (λ choice. choice.1 < bound) found → IfThere (λ choice. choice.1 < suc bound) found
    wider None below = tt
    wider (Some choice) below = omega arith

-- a choice at a place stands against what is found up to there, and gives way to a place after it
later_stays : (operand place number : ℕ) (found : Option ℕ) → IfThere (λ other. other ≤ place) found → later (Some (operand, place)) number found ≡ Some (operand, place)
later_stays operand place number None within = refl
later_stays operand place number (Some other) within = rw (le-ltb place other within) refl

later_moves : (best : Option (ℕ × ℕ)) (number place : ℕ) → IfThere (λ choice. choice.1 < place) best → later best number (Some place) ≡ Some (number, place)
later_moves None number place below = refl
later_moves (Some choice) number place below = rw (lt-ltb choice.1 place below) refl

at_most : (here : Bool) (bound : ℕ) (found : Option ℕ) → IfThere (λ place. place < bound) found → IfThere (λ place. place ≤ bound) (cond here (Some bound) found)
at_most true bound found below = omega arith
at_most false bound None below = tt
at_most false bound (Some place) below = omega arith

pub last_below_none : (path : List ℕ) (bound : ℕ) → last_below path [] bound ≡ None
unfolding last_below
last_below_none path zero = refl
last_below_none path (suc bound) = last_below_none path bound

pub last_below_push : (path operands : List ℕ) (operand bound : ℕ)
    → last_below path (operands ++ operand ∷ []) bound ≡ later (last_below path operands bound) (length operands) (last_place path operand bound)
unfolding last_below last_place or_last
last_below_push path operands operand zero = refl
last_below_push path operands operand (suc bound) =
    let block = get_or path bound 0 in
    let before = last_below path operands bound in
    rw (position_from_push (λ other. eqb block other) 0 operands operand)
    (elim (operand_of operands block) as (λ found. found_or (or_last found (eqb block operand) (0 + length operands)) bound (last_below path (operands ++ operand ∷ []) bound)
    ≡ later (found_or found bound before) (length operands) (cond (eqb block operand) (Some bound) (last_place path operand bound))) [
      | Some number ↦ sym (later_stays number bound (length operands) _ (at_most (eqb block operand) bound _ (last_place_below path operand bound)))
      | None ↦ elim (eqb block operand) as (λ here. found_or (cond here (Some (0 + length operands)) None) bound (last_below path (operands ++ operand ∷ []) bound)
          ≡ later before (length operands) (cond here (Some bound) (last_place path operand bound))) [
            | true ↦ ap (λ (number : ℕ). Some (number, bound)) (omega arith) ∙ sym (later_moves before (length operands) bound (last_below_below path operands bound))
            | false ↦ last_below_push path operands operand bound
          ]
    ])

-- ---- fate

position_from_from : (test : ℕ → Bool) (at : ℕ) (xs : List ℕ) → IfThere (λ place. at ≤ place) (position_from test at xs)
position_from_from test at [] = tt
position_from_from test at (x ∷ xs) =
    elim (test x) as (λ here. IfThere (λ place. at ≤ place) (cond here (Some at) (position_from test (at + 1) xs))) [
      | true ↦ omega arith
      | false ↦ wider (position_from test (at + 1) xs) (position_from_from test (at + 1) xs)
    ]
  where
    wider : (found : Option ℕ) → IfThere (λ place. at + 1 ≤ place) found → IfThere (λ place. at ≤ place) found
    wider None from = tt
    wider (Some place) from = omega arith

earlier_stays : (place : ℕ) (other : Option ℕ) → IfThere (λ found. place ≤ found) other → earlier (Some place) other ≡ Some place
earlier_stays place None from = refl
earlier_stays place (Some other) from = rw (le-ltb other place from) refl

earlier_moves : (place : Option ℕ) (other : ℕ) → IfThere (λ found. other < found) place → earlier place (Some other) ≡ Some other
earlier_moves None other after = refl
earlier_moves (Some place) other after = rw (lt-ltb other place after) refl

here_or_after : (here : Bool) (at : ℕ) (found : Option ℕ) → IfThere (λ place. at + 1 ≤ place) found → IfThere (λ place. at ≤ place) (cond here (Some at) found)
here_or_after true at found after = omega arith
here_or_after false at None after = tt
here_or_after false at (Some place) after = omega arith

strictly_after : (at : ℕ) (found : Option ℕ) → IfThere (λ place. at + 1 ≤ place) found → IfThere (λ place. at < place) found
strictly_after at None after = tt
strictly_after at (Some place) after = omega arith

-- the first place of several blocks, and one block more
earlier_of_two : (some one both : ℕ → Bool) → ((x : ℕ) → both x ≡ (some x || one x)) → (at : ℕ) (xs : List ℕ)
    → position_from both at xs ≡ earlier (position_from some at xs) (position_from one at xs)
earlier_of_two some one both each at [] = refl
earlier_of_two some one both each at (x ∷ xs) =
    rw (each x)
    (elim (some x) as (λ first. cond (first || one x) (Some at) (position_from both (at + 1) xs) ≡ earlier (cond first (Some at) (position_from some (at + 1) xs)) (cond (one x) (Some at) (position_from one (at + 1) xs))) [
      | true ↦ sym (earlier_stays at _ (here_or_after (one x) at _ (position_from_from one (at + 1) xs)))
      | false ↦ elim (one x) as (λ second. cond second (Some at) (position_from both (at + 1) xs) ≡ earlier (position_from some (at + 1) xs) (cond second (Some at) (position_from one (at + 1) xs))) [
        | true ↦ sym (earlier_moves (position_from some (at + 1) xs) at (strictly_after at _ (position_from_from some (at + 1) xs)))
        | false ↦ earlier_of_two some one both each (at + 1) xs
      ]
    ])

pub next_among_push : (path blocks : List ℕ) (block from : ℕ) → next_among path (blocks ++ block ∷ []) from ≡ earlier (next_among path blocks from) (first_place_from path block from)
next_among_push path blocks block from =
    earlier_of_two (is_among blocks) (λ entered. eqb entered block) (is_among (blocks ++ block ∷ []))
    (λ entered. list_any-append (λ other. eqb entered other) blocks (block ∷ []) ∙ ap (λ (last : Bool). is_among blocks entered || last) (or_none (eqb entered block))) from (drop from path)
  where
    or_none : (b : Bool) → (b || false) ≡ b
    or_none true = refl
    or_none false = refl

pub next_among_one : (path : List ℕ) (block from : ℕ) → next_among path (block ∷ []) from ≡ first_place_from path block from
next_among_one path block from = next_among_push path [] block from ∙ ap (λ (none : Option ℕ). earlier none (first_place_from path block from)) (nowhere from (drop from path))
  where
    nowhere : (at : ℕ) (xs : List ℕ) → position_from (is_among []) at xs ≡ None
    nowhere at [] = refl
    nowhere at (x ∷ xs) = nowhere (at + 1) xs

send_first : (place : ℕ) (dropped : Option ℕ) (complete : Bool) → IfThere (λ found. place ≤ found) dropped → whichever (Some place) dropped complete ≡ Send
send_first place None complete from = refl
send_first place (Some dropped) complete from = rw (le-ltb dropped place from) refl

drop_first : (sent : Option ℕ) (place : ℕ) (complete : Bool) → IfThere (λ found. place < found) sent → whichever sent (Some place) complete ≡ Drop
drop_first None place complete after = refl
drop_first (Some sent) place complete after = rw (lt-ltb place sent after) refl

walked : (target : ℕ) (sources : List ℕ) (complete : Bool) (at : ℕ) (xs : List ℕ)
    → whichever (position_from (λ entered. eqb entered target) at xs) (position_from (is_among sources) at xs) complete ≡ first_decides target sources complete xs
unfolding first_decides
walked target sources complete at [] = refl
walked target sources complete at (x ∷ xs) =
    let dropped = position_from (is_among sources) (at + 1) xs in
    let sent = position_from (λ entered. eqb entered target) (at + 1) xs in
    elim (eqb x target) as (λ first. whichever (cond first (Some at) sent) (cond (is_among sources x) (Some at) dropped) complete
    ≡ cond first Send (cond (is_among sources x) Drop (first_decides target sources complete xs))) [
      | true ↦ send_first at _ complete (here_or_after (is_among sources x) at dropped (position_from_from (is_among sources) (at + 1) xs))
      | false ↦ elim (is_among sources x) as (λ second. whichever sent (cond second (Some at) dropped) complete ≡ cond second Drop (first_decides target sources complete xs)) [
        | true ↦ drop_first sent at complete (strictly_after at sent (position_from_from (λ entered. eqb entered target) (at + 1) xs))
        | false ↦ walked target sources complete (at + 1) xs
      ]
    ]

pub whichever_first : (path : List ℕ) (target : ℕ) (sources : List ℕ) (complete : Bool) (from : ℕ)
    → whichever (first_place_from path target from) (next_among path sources from) complete ≡ first_decides target sources complete (drop from path)
whichever_first path target sources complete from = walked target sources complete from (drop from path)
