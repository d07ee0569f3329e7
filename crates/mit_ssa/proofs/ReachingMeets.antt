-- What is brought to a block: what reaches the end of the one before it is listed where it is entered.
use Rattle.std.proofs.Common.{◌≡◌, ◌∙◌, ◌<◌, ◌+◌, ℕ, zero, suc, List, [], ◌∷◌, length, get_or, ap, sym, subst, refl, arith, cond, All, Bool, true, false, Option, Some, None, is_some, option_to_list, ◌⊎◌, inl, inr}
use Rattle.std.specs.Prelude.{Contains}
use Rattle.std.proofs.lemmas.List.Elements.{All-cons, All-nil}
use Rattle.mit_ssa.specs.Reaching.{AreListed, Reaching, reach}
use Rattle.mit_ssa.specs.Woven.{Defined, definition_of, phis_of, with_phis}
use Rattle.mit_ssa.proofs.DefinitionsGood.{definition_is, listed_only, only_of}
use Rattle.mit_ssa.proofs.DefinitionsJoin.{either_of}
use Rattle.mit_ssa.proofs.DefinitionsPhis.{among}
use Rattle.mit_ssa.proofs.ReachingGood.{GoodPhi}
use Rattle.mit_ssa.proofs.ReachingParts.{AreTargets, Brings, IsEntry, IsNamed, IsNamedEntry, IsReachOf, for_phis}
use Rattle.mit_ssa.proofs.ReachingPhis.{IsDistinct, phis_reached, phis_take}
use Rattle.mit_ssa.proofs.StructureEach.{Each as EachFrom}

-- ---- lists of one and of two

listed_by : (operator : ℕ) (others : List ℕ) → Contains others operator → AreListed (operator ∷ []) others
listed_by operator others listed = record { some = omega arith; all = λ k d below. at k d below }
  where
    at : (k d : ℕ) → k < length (operator ∷ []) → Contains others (get_or (operator ∷ []) k d)
    at zero d below = listed
    at (suc k) d below = absurd (omega arith)

listed_first : (operator : ℕ) (others : List ℕ) → AreListed (operator ∷ []) (operator ∷ others)
listed_first operator others = listed_by operator (operator ∷ others) (0, omega arith, refl)

listed_second : (one operator : ℕ) → AreListed (operator ∷ []) (one ∷ operator ∷ [])
listed_second one operator = listed_by operator (one ∷ operator ∷ []) (1, omega arith, refl)

-- ---- a block that is entered with all definitions

brings_by : (variables : ℕ) (known : Reaching) (block first index next variable operator : ℕ) (defined : Defined) (wanted : List ℕ) → variable < variables
    → IsReachOf variables known block first index defined → known.entry next variable ≡ wanted → defined variable ≡ Some operator
    → AreListed (operator ∷ []) wanted
    → (known.entry next variable ≡ []) ⊎ AreListed (reach known block first index variable) (known.entry next variable)
brings_by variables known block first index next variable operator defined wanted below reached entry is listed =
    inr (subst (λ (xs : List ℕ). AreListed xs (known.entry next variable)) (sym (reached variable below ∙ listed_only (defined variable) operator is))
    (subst (λ (xs : List ℕ). AreListed (operator ∷ []) xs) (sym entry) listed))

pub brings_only : (variables : ℕ) (known : Reaching) (block first index next : ℕ) (defined : Defined) → IsEntry variables known next (only_of defined)
    → IsReachOf variables known block first index defined → Brings variables known block first index next
brings_only variables known block first index next defined entry reached = λ variable below. by_defined variable below (defined variable) refl
  where
    by_defined : (variable : ℕ) → variable < variables → (was : Option ℕ) → defined variable ≡ was
        → (known.entry next variable ≡ []) ⊎ AreListed (reach known block first index variable) (known.entry next variable)
    by_defined variable below None is = inl (entry variable below ∙ ap (λ (d : Option ℕ). option_to_list d) is)
    by_defined variable below (Some operator) is =
        brings_by variables known block first index next variable operator defined (operator ∷ []) below reached
        (entry variable below ∙ listed_only (defined variable) operator is) is (listed_first operator [])

pub named_only : (variables : ℕ) (known : Reaching) (block : ℕ) (defined : Defined) → IsEntry variables known block (only_of defined) → IsNamed variables known defined
    → IsNamedEntry variables known block
named_only variables known block defined entry named = λ variable below. by_defined variable below (defined variable) refl
  where
    by_defined : (variable : ℕ) → variable < variables → (was : Option ℕ) → defined variable ≡ was
        → All (λ operator. known.defines operator ≡ Some variable) (known.entry block variable)
    by_defined variable below None is =
        subst (λ (xs : List ℕ). All (λ operator. known.defines operator ≡ Some variable) xs)
        (sym (entry variable below ∙ ap (λ (d : Option ℕ). option_to_list d) is)) (All-nil (λ operator. known.defines operator ≡ Some variable))
    by_defined variable below (Some operator) is =
        subst (λ (xs : List ℕ). All (λ operator. known.defines operator ≡ Some variable) xs)
        (sym (entry variable below ∙ listed_only (defined variable) operator is))
        (All-cons (λ operator. known.defines operator ≡ Some variable) operator [] (named variable operator below is) (All-nil (λ operator. known.defines operator ≡ Some variable)))

-- at its first operator it is reached by them
pub enter_reached : (variables : ℕ) (known : Reaching) (block first : ℕ) (defined : Defined) → IsEntry variables known block (only_of defined)
    → IsReachOf variables known block first 0 defined
unfolding reach
enter_reached variables known block first defined entry = entry

-- ---- a block where two ways meet

-- the phis of a block, which is entered with one of two definitions for each of their variables
pub record IsMeet (variables : ℕ) (known : Reaching) (block first : ℕ) (phis : List ℕ) (one other same : Defined) : Type 0 where
  pub entry : IsEntry variables known block (either_of phis one other same)
  pub targets : AreTargets known first (for_phis phis)
  pub distinct : IsDistinct phis
  pub below : (variable : ℕ) → among phis variable ≡ true → variable < variables
  pub one_defined : (variable : ℕ) → among phis variable ≡ true → is_some (one variable) ≡ true
  pub other_defined : (variable : ℕ) → among phis variable ≡ true → is_some (other variable) ≡ true

either_is : (phis : List ℕ) (one other same : Defined) (variable : ℕ) (phi : Bool) → among phis variable ≡ phi
    → either_of phis one other same variable ≡ cond phi (definition_of one variable ∷ definition_of other variable ∷ []) (only_of same variable)
either_is phis one other same variable phi is =
    ap (λ (p : Bool). cond p (definition_of one variable ∷ definition_of other variable ∷ []) (only_of same variable)) is

-- a way leads there, if it has what the phis take from it, and what else is wanted
pub brings_either : (variables : ℕ) (known : Reaching) (block first index next : ℕ) (phis : List ℕ) (one other same defined : Defined)
    → IsEntry variables known next (either_of phis one other same) → IsReachOf variables known block first index defined
    → ((variable : ℕ) → variable < variables → among phis variable ≡ true
    → (is_some (defined variable) ≡ true) × ((definition_of one variable ≡ definition_of defined variable) ⊎ (definition_of other variable ≡ definition_of defined variable)))
    → ((variable operator : ℕ) → variable < variables → among phis variable ≡ false → same variable ≡ Some operator → defined variable ≡ Some operator)
    → Brings variables known block first index next
brings_either variables known block first index next phis one other same defined entry reached phi_has other_has =
    λ variable below. by_phi variable below (among phis variable) refl
  where
    listed : (variable : ℕ) → (definition_of one variable ≡ definition_of defined variable) ⊎ (definition_of other variable ≡ definition_of defined variable)
        → AreListed (definition_of defined variable ∷ []) (definition_of one variable ∷ definition_of other variable ∷ [])
    listed variable (inl is) = rw is (listed_first (definition_of defined variable) (definition_of other variable ∷ []))
    listed variable (inr is) = rw is (listed_second (definition_of one variable) (definition_of defined variable))

    by_same : (variable : ℕ) → variable < variables → among phis variable ≡ false → (was : Option ℕ) → same variable ≡ was
        → (known.entry next variable ≡ []) ⊎ AreListed (reach known block first index variable) (known.entry next variable)
    by_same variable below none None is =
        inl (entry variable below ∙ (either_is phis one other same variable false none ∙ ap (λ (d : Option ℕ). option_to_list d) is))
    by_same variable below none (Some operator) is =
        brings_by variables known block first index next variable operator defined (operator ∷ []) below reached
        (entry variable below ∙ (either_is phis one other same variable false none ∙ listed_only (same variable) operator is))
        (other_has variable operator below none is) (listed_first operator [])

    by_phi : (variable : ℕ) → variable < variables → (phi : Bool) → among phis variable ≡ phi
        → (known.entry next variable ≡ []) ⊎ AreListed (reach known block first index variable) (known.entry next variable)
    by_phi variable below true is =
        let has = phi_has variable below is in
        brings_by variables known block first index next variable (definition_of defined variable) defined (definition_of one variable ∷ definition_of other variable ∷ [])
        below reached (entry variable below ∙ either_is phis one other same variable true is) (definition_is defined variable has.0) (listed variable has.1)
    by_phi variable below false is = by_same variable below is (same variable) refl

pub meet_named : (variables : ℕ) (known : Reaching) (block first : ℕ) (phis : List ℕ) (one other same : Defined)
    → IsMeet variables known block first phis one other same → IsNamed variables known one → IsNamed variables known other → IsNamed variables known same
    → IsNamedEntry variables known block
meet_named variables known block first phis one other same meet one_named other_named same_named =
    λ variable below. by_phi variable below (among phis variable) refl
  where
    Named : ℕ → List ℕ → Type 0
    Named variable operators = All (λ operator. known.defines operator ≡ Some variable) operators

    by_same : (variable : ℕ) → variable < variables → among phis variable ≡ false → (was : Option ℕ) → same variable ≡ was → Named variable (known.entry block variable)
    by_same variable below none None is =
        subst (Named variable)
        (sym (meet.entry variable below ∙ (either_is phis one other same variable false none ∙ ap (λ (d : Option ℕ). option_to_list d) is)))
        (All-nil (λ operator. known.defines operator ≡ Some variable))
    by_same variable below none (Some operator) is =
        subst (Named variable)
        (sym (meet.entry variable below ∙ (either_is phis one other same variable false none ∙ listed_only (same variable) operator is)))
        (All-cons (λ operator. known.defines operator ≡ Some variable) operator [] (same_named variable operator below is) (All-nil (λ operator. known.defines operator ≡ Some variable)))

    by_phi : (variable : ℕ) → variable < variables → (phi : Bool) → among phis variable ≡ phi → Named variable (known.entry block variable)
    by_phi variable below true is =
        subst (Named variable) (sym (meet.entry variable below ∙ either_is phis one other same variable true is))
        (All-cons (λ operator. known.defines operator ≡ Some variable) (definition_of one variable) (definition_of other variable ∷ [])
        (one_named variable (definition_of one variable) below (definition_is one variable (meet.one_defined variable is)))
        (All-cons (λ operator. known.defines operator ≡ Some variable) (definition_of other variable) []
        (other_named variable (definition_of other variable) below (definition_is other variable (meet.other_defined variable is)))
        (All-nil (λ operator. known.defines operator ≡ Some variable))))
    by_phi variable below false is = by_same variable below is (same variable) refl

-- behind the phis
pub meet_reached : (variables : ℕ) (known : Reaching) (block first : ℕ) (phis : List ℕ) (one other same : Defined)
    → IsMeet variables known block first phis one other same → IsReachOf variables known block first (length phis) (with_phis same first phis)
unfolding reach
meet_reached variables known block first phis one other same meet = λ variable below.
    let e : first ≡ first + 0 = omega arith in
    let f : 0 + length phis ≡ length phis = omega arith in
    subst (λ (n : ℕ). reach known block first (length phis) variable ≡ only_of (with_phis same n phis) variable) (sym e)
    (subst (λ (i : ℕ). reach known block first i variable ≡ only_of (with_phis same (first + 0) phis) variable) f
    (phis_reached known block first 0 phis same variable (subst (λ (n : ℕ). AreTargets known n (for_phis phis)) e meet.targets)
    (λ none. meet.entry variable below ∙ either_is phis one other same variable false none)))

pub meet_phis : (variables : ℕ) (known : Reaching) (block first : ℕ) (phis : List ℕ) (one other same : Defined)
    → IsMeet variables known block first phis one other same → EachFrom (GoodPhi known block first) 0 (phis_of one other phis)
unfolding reach
meet_phis variables known block first phis one other same meet =
    let e : first ≡ first + 0 = omega arith in
    phis_take known block first 0 phis one other (subst (λ (n : ℕ). AreTargets known n (for_phis phis)) e meet.targets) meet.distinct
    (λ variable phi. meet.entry variable (meet.below variable phi) ∙ either_is phis one other same variable true phi)
