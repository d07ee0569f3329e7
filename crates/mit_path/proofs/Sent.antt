-- What a place of the target chooses is sent to it.
use Rattle.std.proofs.Common.{◌≡◌, ◌<◌, ◌≤◌, ◌+◌, ◌-◌, ◌∙◌, ℕ, zero, suc, List, [], ◌∷◌, length, get_or, drop, ap, refl, arith, inl, inr, cond, eqb, Bool, true, false, Some}
use Rattle.std.specs.Option.{is_some}
use Rattle.std.proofs.lemmas.Bool.{both_ways, cases_lt, eq-eqb, eqb-true, false_from_ne_true, or_cases}
use Rattle.std.proofs.lemmas.List.{get_or-drop, length-drop}
use Rattle.std.proofs.lemmas.Option.{MatchOption-at_some}
use Rattle.mit_path.specs.declared.fate.Fate.TheVariants.{Send}
use Rattle.mit_path.specs.Choice.{chosen_operand}
use Rattle.mit_path.specs.Fate.{fate, first_decides, is_among}
use Rattle.mit_path.specs.Last.{HasNone, IsLast}
use Rattle.mit_path.proofs.Chosen.{last_below_is}
use Rattle.mit_path.proofs.Superseded.{is_among_operands}

walk_sends : (target : ℕ) (sources : List ℕ) (complete : Bool) (xs : List ℕ) (n : ℕ) → n < length xs → get_or xs n 0 ≡ target
    → ((k : ℕ) → k < n → is_among sources (get_or xs k 0) ≡ false) → first_decides target sources complete xs ≡ Send
unfolding first_decides
walk_sends target sources complete [] n lt is clear = absurd (omega arith)
walk_sends target sources complete (x ∷ xs) zero lt is clear = let here : eqb x target ≡ true = eq-eqb _ _ is in rw here refl
walk_sends target sources complete (x ∷ xs) (suc n) lt is clear =
    let passed : is_among sources x ≡ false = clear 0 (omega arith) in
    rw passed (elim (eqb x target) as (λ here. cond here Send (first_decides target sources complete xs) ≡ Send) [
      | true ↦ refl
      | false ↦ walk_sends target sources complete xs n (omega arith) is (λ k lt. clear (suc k) (omega arith))
    ])

-- no operand's block is none of the sources
not_source : (operands siblings : List ℕ) (source block : ℕ) → ((sibling : ℕ) → is_among siblings sibling ≡ true → is_among operands sibling ≡ true)
    → is_among operands source ≡ true → is_among operands block ≡ false → is_among (source ∷ siblings) block ≡ false
not_source operands siblings source block each is none = false_from_ne_true _ (λ among. elim (or_cases (eqb block source) (is_among siblings block) among) [
  | inl same ↦ both_ways (is_among operands block) none (ap (is_among operands) (eqb-true block source same) ∙ is)
  | inr sibling ↦ both_ways (is_among operands block) none (each block sibling)
])

-- the blocks after the place up to the one that chose it
sent_later : (path operands siblings : List ℕ) (at bound operand place : ℕ) (complete : Bool) → at < length path → at ≤ bound → place < at
    → ((sibling : ℕ) → is_among siblings sibling ≡ true → is_among operands sibling ≡ true) → IsLast path operands bound (operand, place)
    → first_decides (get_or path at 0) (get_or path place 0 ∷ siblings) complete (drop (suc place) path) ≡ Send
sent_later path operands siblings at bound operand place complete within up before each last =
    let split : suc place + (at - suc place) ≡ at = omega arith in
    let source : is_among operands (get_or path place 0) ≡ true = is_among_operands operands (get_or path place 0) ∙ ap (is_some {T = ℕ}) last.is in
    walk_sends (get_or path at 0) (get_or path place 0 ∷ siblings) complete (drop (suc place) path) (at - suc place) (omega (arith, length-drop (suc place) path))
    (get_or-drop (suc place) path (at - suc place) 0 ∙ ap (λ (n : ℕ). get_or path n 0) split)
    (λ k lt. ap (is_among (get_or path place 0 ∷ siblings)) (get_or-drop (suc place) path k 0)
    ∙ not_source operands siblings (get_or path place 0) (get_or path (suc place + k) 0) each source
    (is_among_operands operands (get_or path (suc place + k) 0) ∙ ap (is_some {T = ℕ}) (last.last (suc place + k) (omega arith) (omega arith))))

pub chosen_sent : (path operands siblings : List ℕ) (at operand place : ℕ) (phi complete : Bool) → at < length path
    → ((sibling : ℕ) → is_among siblings sibling ≡ true → is_among operands sibling ≡ true) → chosen_operand path operands at phi ≡ Some (operand, place)
    → fate path (get_or path place 0) place (get_or path at 0) siblings phi complete ≡ Send
chosen_sent path operands siblings at operand place true complete within each is =
    let last = MatchOption-at_some (HasNone path operands at) (IsLast path operands at) (operand, place) is (last_below_is path operands at) in
    sent_later path operands siblings at at operand place complete within (omega arith) last.below each last
chosen_sent path operands siblings at operand place false complete within each is =
    let last = MatchOption-at_some (HasNone path operands (suc at)) (IsLast path operands (suc at)) (operand, place) is (last_below_is path operands (suc at)) in
    elim (cases_lt place at) [
      | inl before ↦ elim (eqb (get_or path place 0) (get_or path at 0)) as (λ inside. cond inside Send (first_decides (get_or path at 0) (get_or path place 0 ∷ siblings) complete (drop (suc place) path)) ≡ Send) [
        | true ↦ refl
        | false ↦ sent_later path operands siblings at (suc at) operand place complete within (omega arith) before each last
      ]
      | inr here ↦
          let same : place ≡ at = omega (arith, last.below) in
          let inside : eqb (get_or path place 0) (get_or path at 0) ≡ true = eq-eqb _ _ (ap (λ (n : ℕ). get_or path n 0) same) in
          rw inside refl
    ]
