-- Undecided fates: over a longer path, and at later places.
use Rattle.std.proofs.Common.{◌≡◌, ◌≤◌, ◌<◌, ◌∙◌, ◌+◌, ◌-◌, ℕ, zero, suc, List, [], ◌∷◌, ◌++◌, length, drop, ap, refl, arith, cond, eqb, Bool, true, false}
use Rattle.std.specs.Prelude.{◌&&◌, not}
use Rattle.std.proofs.lemmas.List.{drop-append-le, drop-drop}
use Rattle.mit_path.specs.declared.fate.Fate.{Fate}
use Rattle.mit_path.specs.declared.fate.Fate.TheVariants.{Send, Drop, Undecided}
use Rattle.mit_path.specs.Fate.{fate, first_decides, is_among}

-- what a block does that decides nothing
passes : (sent dropped : Bool) (rest : Fate) → cond sent Send (cond dropped Drop rest) ≡ Undecided → (sent ≡ false) × (dropped ≡ false) × (rest ≡ Undecided)
passes true dropped rest is = absurd cc
passes false true rest is = absurd cc
passes false false rest is = (refl, refl, is)

walk_goes_on : (target : ℕ) (sources : List ℕ) (complete : Bool) (later more : List ℕ) → first_decides target sources false later ≡ Undecided
    → first_decides target sources complete (later ++ more) ≡ first_decides target sources complete more
unfolding first_decides
walk_goes_on target sources complete [] more waits = refl
walk_goes_on target sources complete (block ∷ later) more waits =
    let step = passes (eqb block target) (is_among sources block) (first_decides target sources false later) waits in
    rw (step.0, step.1) (walk_goes_on target sources complete later more step.2)

walk_waits : (target : ℕ) (sources : List ℕ) (n : ℕ) (later : List ℕ) → first_decides target sources false later ≡ Undecided → first_decides target sources false (drop n later) ≡ Undecided
unfolding first_decides
walk_waits target sources zero later waits = waits
walk_waits target sources (suc n) [] waits = refl
walk_waits target sources (suc n) (block ∷ later) waits =
    walk_waits target sources n later (passes (eqb block target) (is_among sources block) (first_decides target sources false later) waits).2

pub fate_goes_on : (path more : List ℕ) (source place target : ℕ) (siblings : List ℕ) (phi complete : Bool) → place < length path → fate path source place target siblings phi false ≡ Undecided
    → fate (path ++ more) source place target siblings phi complete ≡ first_decides target (source ∷ siblings) complete more
fate_goes_on path more source place target siblings phi complete within = by_kind (not phi && eqb source target)
  where
    by_kind : (inside : Bool) → cond inside Send (first_decides target (source ∷ siblings) false (drop (suc place) path)) ≡ Undecided
        → cond inside Send (first_decides target (source ∷ siblings) complete (drop (suc place) (path ++ more))) ≡ first_decides target (source ∷ siblings) complete more
    by_kind true waits = absurd cc
    by_kind false waits = rw (drop-append-le (suc place) path more within) (walk_goes_on target (source ∷ siblings) complete (drop (suc place) path) more waits)

pub fate_waits : (path : List ℕ) (source place later target : ℕ) (siblings : List ℕ) (phi : Bool) → place ≤ later → fate path source place target siblings phi false ≡ Undecided
    → fate path source later target siblings phi false ≡ Undecided
fate_waits path source place later target siblings phi below = by_kind (not phi && eqb source target)
  where
    by_kind : (inside : Bool) → cond inside Send (first_decides target (source ∷ siblings) false (drop (suc place) path)) ≡ Undecided
        → cond inside Send (first_decides target (source ∷ siblings) false (drop (suc later) path)) ≡ Undecided
    by_kind true waits = absurd cc
    by_kind false waits =
        let split : suc place + (later - place) ≡ suc later = omega arith in
        let rest : drop (later - place) (drop (suc place) path) ≡ drop (suc later) path = drop-drop (later - place) (suc place) path ∙ ap (λ (n : ℕ). drop n path) split in
        rw (← rest) (walk_waits target (source ∷ siblings) (later - place) (drop (suc place) path) waits)
