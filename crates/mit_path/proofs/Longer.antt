-- Choice and fate over a longer path.
use Rattle.std.proofs.Common.{◌≡◌, ◌≢◌, ◌≤◌, ◌<◌, ℕ, zero, suc, List, [], ◌∷◌, ◌++◌, length, get_or, drop, refl, arith, cond, eqb, Bool, true, false}
use Rattle.std.specs.Prelude.{◌&&◌, not}
use Rattle.std.proofs.lemmas.List.{get_or_append_left}
use Rattle.mit_path.specs.declared.fate.Fate.TheVariants.{Send, Drop, Undecided}
use Rattle.mit_path.specs.Choice.{chosen_operand, last_below}
use Rattle.mit_path.specs.Fate.{fate, first_decides, is_among}

last_below-append : (path more operands : List ℕ) (bound : ℕ) → bound ≤ length path → last_below (path ++ more) operands bound ≡ last_below path operands bound
unfolding last_below
last_below-append path more operands zero within = refl
last_below-append path more operands (suc bound) within =
    let here : get_or (path ++ more) bound 0 ≡ get_or path bound 0 = get_or_append_left path more 0 bound (omega arith) in
    let before = last_below-append path more operands bound (omega arith) in
    cc

pub chosen-append : (path more operands : List ℕ) (at : ℕ) (phi : Bool) → at < length path → chosen_operand (path ++ more) operands at phi ≡ chosen_operand path operands at phi
chosen-append path more operands at true within = last_below-append path more operands at (omega arith)
chosen-append path more operands at false within = last_below-append path more operands (suc at) (omega arith)

first_decides-append : (target : ℕ) (sources : List ℕ) (complete : Bool) (later more : List ℕ) → first_decides target sources false later ≢ Undecided
    → first_decides target sources complete (later ++ more) ≡ first_decides target sources false later
unfolding first_decides
first_decides-append target sources complete [] more decided = absurd (decided refl)
first_decides-append target sources complete (block ∷ later) more decided =
    elim (eqb block target) as (λ sent. cond sent Send (cond (is_among sources block) Drop (first_decides target sources false later)) ≢ Undecided
    → cond sent Send (cond (is_among sources block) Drop (first_decides target sources complete (later ++ more))) ≡ cond sent Send (cond (is_among sources block) Drop (first_decides target sources false later))) [
      | true ↦ λ _. refl
      | false ↦ elim (is_among sources block) as (λ dropped. cond dropped Drop (first_decides target sources false later) ≢ Undecided
          → cond dropped Drop (first_decides target sources complete (later ++ more)) ≡ cond dropped Drop (first_decides target sources false later)) [
            | true ↦ λ _. refl
            | false ↦ first_decides-append target sources complete later more
          ]
    ] decided

-- what is left of a longer list goes on as the list
drop_longer : (n : ℕ) (xs ys : List ℕ) → (zs : List ℕ) × (drop n (xs ++ ys) ≡ drop n xs ++ zs)
drop_longer zero xs ys = (ys, refl)
drop_longer (suc n) [] ys = (drop (suc n) ys, refl)
drop_longer (suc n) (x ∷ xs) ys = drop_longer n xs ys

pub fate-append : (path more : List ℕ) (source place target : ℕ) (siblings : List ℕ) (phi complete : Bool) → fate path source place target siblings phi false ≢ Undecided
    → fate (path ++ more) source place target siblings phi complete ≡ fate path source place target siblings phi false
fate-append path more source place target siblings phi complete = by_kind (not phi && eqb source target)
  where
    by_kind : (inside : Bool) → cond inside Send (first_decides target (source ∷ siblings) false (drop (suc place) path)) ≢ Undecided
        → cond inside Send (first_decides target (source ∷ siblings) complete (drop (suc place) (path ++ more))) ≡ cond inside Send (first_decides target (source ∷ siblings) false (drop (suc place) path))
    by_kind true decided = refl
    by_kind false decided =
        let longer = drop_longer (suc place) path more in
        rw longer.1 (first_decides-append target (source ∷ siblings) complete (drop (suc place) path) longer.0 decided)
