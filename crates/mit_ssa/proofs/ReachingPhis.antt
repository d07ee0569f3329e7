-- The phis of a block take what their variables have where it is entered, and after them it has them.
use Rattle.std.proofs.Common.{◌≡◌, ◌∙◌, ◌<◌, ◌≤◌, ◌+◌, ℕ, zero, suc, List, [], ◌∷◌, length, ap, sym, subst, refl, arith, cond, eqb, eqb-true, eq-eqb, Bool, true, false, ◌||◌, Some, None, option_to_list, ◌⊎◌, inl, inr}
use Rattle.std.specs.List.{range_with_len, filter}
use Rattle.std.proofs.lemmas.Bool.{cases_lt, or_parts}
use Rattle.std.proofs.lemmas.Bool.Decides.{nat_tests}
use Rattle.mit_ssa.specs.Reaching.{Reaching, reach}
use Rattle.mit_ssa.specs.Woven.{Defined, defining, definition_of, phis_of, with_phis}
use Rattle.mit_ssa.proofs.DefinitionsGood.{only_of}
use Rattle.mit_ssa.proofs.DefinitionsPhis.{among, one_some}
use Rattle.mit_ssa.proofs.ReachingGood.{GoodPhi}
use Rattle.mit_ssa.proofs.ReachingParts.{AreTargets, IsNamed, for_phis}
use Rattle.mit_ssa.proofs.StructureEach.{Each as EachFrom}

-- ---- one operator

eqb_other : (one other : ℕ) → (same : Bool) → eqb one other ≡ same → eqb other one ≡ same
eqb_other one other true is = eq-eqb other one (sym (eqb-true one other is))
eqb_other one other false is = by_test (eqb other one) refl
  where
    by_test : (same : Bool) → eqb other one ≡ same → eqb other one ≡ false
    by_test true yes_is = absurd (let e = eq-eqb one other (sym (eqb-true other one yes_is)) in cc)
    by_test false not = not

-- behind an operator that defines a variable
pub reach_defining : (known : Reaching) (block first index target variable : ℕ) (defined : Defined) → known.defines (first + index) ≡ Some target
    → (eqb variable target ≡ false → reach known block first index variable ≡ only_of defined variable)
    → reach known block first (suc index) variable ≡ only_of (defining defined target (first + index)) variable
unfolding reach
reach_defining known block first index target variable defined is before =
    rw is (by_test (eqb target variable) (eqb variable target) refl refl)
  where
    by_test : (one other : Bool) → eqb target variable ≡ one → eqb variable target ≡ other
        → cond one ((first + index) ∷ []) (reach known block first index variable) ≡ option_to_list (cond other (Some (first + index)) (defined variable))
    by_test true true here there = refl
    by_test true false here there = absurd (let e = eqb_other target variable true here in cc)
    by_test false true here there = absurd (let e = eqb_other target variable false here in cc)
    by_test false false here there = before there

-- behind one that defines none
pub reach_passing : (known : Reaching) (block first index variable : ℕ) → known.defines (first + index) ≡ None
    → reach known block first (suc index) variable ≡ reach known block first index variable
unfolding reach
reach_passing known block first index variable is = rw is refl

-- behind one that defines another variable
reach_other : (known : Reaching) (block first index target variable : ℕ) → known.defines (first + index) ≡ Some target → eqb variable target ≡ false
    → reach known block first (suc index) variable ≡ reach known block first index variable
unfolding reach
reach_other known block first index target variable is not = rw (is, eqb_other variable target false not) refl

pub named_defining : (variables : ℕ) (known : Reaching) (defined : Defined) (target number : ℕ) → known.defines number ≡ Some target
    → IsNamed variables known defined → IsNamed variables known (defining defined target number)
named_defining variables known defined target number is named = λ variable operator below found. by_test variable operator below (eqb variable target) refl found
  where
    by_test : (variable operator : ℕ) → variable < variables → (same : Bool) → eqb variable target ≡ same
        → cond same (Some number) (defined variable) ≡ Some operator → known.defines operator ≡ Some variable
    by_test variable operator below true same found =
        let e = one_some number operator found in
        ap known.defines (sym e) ∙ (is ∙ ap (λ (n : ℕ). Some n) (sym (eqb-true variable target same)))
    by_test variable operator below false same found = named variable operator below found

-- ---- phis

neither : (a b : Bool) → a ≡ false → b ≡ false → (a || b) ≡ false
neither a b one other = rw (one, other) refl

-- no variable stands twice
unfoldable pub IsDistinct : List ℕ → Type 0
IsDistinct [] = Unit {0}
IsDistinct (phi ∷ phis) = (among phis phi ≡ false) × IsDistinct phis

pub phis_named : (variables : ℕ) (known : Reaching) (defined : Defined) (number : ℕ) (phis : List ℕ)
    → AreTargets known number (for_phis phis) → IsNamed variables known defined → IsNamed variables known (with_phis defined number phis)
unfolding with_phis
phis_named variables known defined number [] targets named = named
phis_named variables known defined number (phi ∷ phis) targets named =
    phis_named variables known (defining defined phi number) (suc number) phis targets.1 (named_defining variables known defined phi number targets.0 named)

-- behind phis they are what reaches, and what reached before
pub phis_reached : (known : Reaching) (block first index : ℕ) (phis : List ℕ) (defined : Defined) (variable : ℕ)
    → AreTargets known (first + index) (for_phis phis)
    → (among phis variable ≡ false → reach known block first index variable ≡ only_of defined variable)
    → reach known block first (index + length phis) variable ≡ only_of (with_phis defined (first + index) phis) variable
unfolding with_phis among
phis_reached known block first index [] defined variable targets before =
    let e : index ≡ index + 0 = omega arith in
    subst (λ (i : ℕ). reach known block first i variable ≡ only_of defined variable) e (before refl)
phis_reached known block first index (phi ∷ phis) defined variable targets before =
    let e : suc index + length phis ≡ index + length (phi ∷ phis) = omega arith in
    let f : first + suc index ≡ suc (first + index) = omega arith in
    subst (λ (i : ℕ). reach known block first i variable ≡ only_of (with_phis (defining defined phi (first + index)) (suc (first + index)) phis) variable) e
    (subst (λ (n : ℕ). reach known block first (suc index + length phis) variable ≡ only_of (with_phis (defining defined phi (first + index)) n phis) variable) f
    (phis_reached known block first (suc index) phis (defining defined phi (first + index)) variable
    (subst (λ (n : ℕ). AreTargets known n (for_phis phis)) (sym f) targets.1)
    (λ later. reach_defining known block first index phi variable defined targets.0 (λ not. before (neither (eqb variable phi) (among phis variable) not later)))))

-- each takes what its variable has where the block is entered
pub phis_take : (known : Reaching) (block first index : ℕ) (phis : List ℕ) (one other : Defined)
    → AreTargets known (first + index) (for_phis phis) → IsDistinct phis
    → ((variable : ℕ) → among phis variable ≡ true → reach known block first index variable ≡ definition_of one variable ∷ definition_of other variable ∷ [])
    → EachFrom (GoodPhi known block first) index (phis_of one other phis)
unfolding among IsDistinct
phis_take known block first index [] one other targets distinct takes = tt
phis_take known block first index (phi ∷ phis) one other targets distinct takes =
    let f : suc (first + index) ≡ first + suc index = omega arith in (
      record {
        variable = phi;
        phi = refl;
        spec = refl;
        defines = targets.0;
        takes = sym (takes phi (here (eqb phi phi) (among phis phi) (eq-eqb phi phi refl)));
      },
      phis_take known block first (suc index) phis one other (subst (λ (n : ℕ). AreTargets known n (for_phis phis)) f targets.1) distinct.1
          (λ variable later. reach_other known block first index phi variable targets.0 (apart variable later (eqb variable phi) refl)
          ∙ takes variable (behind (eqb variable phi) (among phis variable) later)),
    )
  where
    here : (a b : Bool) → a ≡ true → (a || b) ≡ true
    here a b is = rw is refl

    behind : (a b : Bool) → b ≡ true → (a || b) ≡ true
    behind true b is = refl
    behind false b is = is

    apart : (variable : ℕ) → among phis variable ≡ true → (same : Bool) → eqb variable phi ≡ same → eqb variable phi ≡ false
    apart variable later true is = absurd (let e = ap (among phis) (eqb-true variable phi is) in let f = distinct.0 in cc)
    apart variable later false is = is

-- ---- which variables are chosen

among_from : (from count variable : ℕ) → variable < from → among (range_with_len from count) variable ≡ false
unfolding among
among_from from zero variable low = refl
among_from from (suc count) variable low = neither (eqb variable from) (among (range_with_len (from + 1) count) variable) (grind (arith, nat_tests)) (among_from (from + 1) count variable (omega arith))

filter_outside : (p : ℕ → Bool) (vs : List ℕ) (variable : ℕ) → among vs variable ≡ false → among (filter p vs) variable ≡ false
unfolding among
filter_outside p [] variable never = refl
filter_outside p (v ∷ vs) variable never = by_test (p v) (filter_outside p vs variable parts.1)
  where
    parts : (eqb variable v ≡ false) × (among vs variable ≡ false)
    parts = or_parts (eqb variable v) (among vs variable) never

    by_test : (kept : Bool) → among (filter p vs) variable ≡ false → among (cond kept (v ∷ filter p vs) (filter p vs)) variable ≡ false
    by_test true later = rw parts.0 later
    by_test false later = later

pub chosen_distinct : (p : ℕ → Bool) (from count : ℕ) → IsDistinct (filter p (range_with_len from count))
unfolding IsDistinct
chosen_distinct p from zero = tt
chosen_distinct p from (suc count) = by_test (p from) (chosen_distinct p (from + 1) count)
  where
    by_test : (kept : Bool) → IsDistinct (filter p (range_with_len (from + 1) count))
        → IsDistinct (cond kept (from ∷ filter p (range_with_len (from + 1) count)) (filter p (range_with_len (from + 1) count)))
    by_test true later = (filter_outside p (range_with_len (from + 1) count) from (among_from (from + 1) count from (omega arith)), later)
    by_test false later = later

among_past : (from count variable : ℕ) → from + count ≤ variable → among (range_with_len from count) variable ≡ false
unfolding among
among_past from zero variable high = refl
among_past from (suc count) variable high =
    neither (eqb variable from) (among (range_with_len (from + 1) count) variable) (grind (arith, nat_tests)) (among_past (from + 1) count variable (omega arith))

pub chosen_below : (p : ℕ → Bool) (variables variable : ℕ) → among (filter p (range_with_len 0 variables)) variable ≡ true → variable < variables
chosen_below p variables variable some = by_order (cases_lt variable variables)
  where
    by_order : (variable < variables) ⊎ (variables ≤ variable) → variable < variables
    by_order (inl below) = below
    by_order (inr past) =
        absurd (let e = filter_outside p (range_with_len 0 variables) variable (among_past 0 variables variable (omega arith)) in cc)
