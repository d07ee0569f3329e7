-- Superseded bags: by the next places of their sources, and never chosen later.
use Rattle.std.proofs.Common.{◌≢◌, ◌<◌, ◌≤◌, ◌++◌, length, get_or, arith, ◌≡◌, ◌∙◌, ◌+◌, ℕ, suc, List, [], ◌∷◌, drop, ap, sym, refl, cond, eqb, Bool, true, false, Some}
use Rattle.std.specs.Prelude.{◌||◌}
use Rattle.std.specs.List.{list_any, position_from}
use Rattle.std.specs.Option.{is_some}
use Rattle.std.proofs.lemmas.Bool.{both_ways}
use Rattle.std.proofs.lemmas.List.{get_or-drop, get_or_append_left, get_or_default, length-drop}
use Rattle.std.proofs.lemmas.List.Folds.{Any-from_list_any}
use Rattle.std.proofs.lemmas.Option.{MatchOption-at_some}
use Rattle.mit_path.specs.Choice.{chosen_operand, last_below, operand_of}
use Rattle.mit_path.specs.Fate.{is_among, is_superseded}
use Rattle.mit_path.specs.Last.{HasNone, IsLast}
use Rattle.mit_path.specs.Views.{first_place_from}
use Rattle.mit_path.proofs.Chosen.{last_below_is}

-- some element passes where a first one is found
is_some_position : (test : ℕ → Bool) (at : ℕ) (xs : List ℕ) → is_some (position_from test at xs) ≡ list_any test xs
is_some_position test at [] = refl
is_some_position test at (x ∷ xs) =
    elim (test x) as (λ here. is_some (cond here (Some at) (position_from test (at + 1) xs)) ≡ (here || list_any test xs)) [
      | true ↦ refl
      | false ↦ is_some_position test (at + 1) xs
    ]

pub is_among_operands : (operands : List ℕ) (block : ℕ) → is_among operands block ≡ is_some (operand_of operands block)
is_among_operands operands block = sym (is_some_position (λ operand. eqb block operand) 0 operands)

any_same : (test other : ℕ → Bool) → ((x : ℕ) → test x ≡ other x) → (xs : List ℕ) → list_any test xs ≡ list_any other xs
any_same test other same [] = refl
any_same test other same (x ∷ xs) = rw (same x, any_same test other same xs) refl

any_of_none : (xs : List ℕ) → list_any (is_among []) xs ≡ false
any_of_none [] = refl
any_of_none (x ∷ xs) = any_of_none xs

or_swapped : (a b c d : Bool) → ((a || b) || (c || d)) ≡ ((a || c) || (b || d))
or_swapped true b c d = refl
or_swapped false true true d = refl
or_swapped false true false d = refl
or_swapped false false c d = refl

any_either : (one more : ℕ → Bool) (xs : List ℕ) → list_any (λ x. one x || more x) xs ≡ (list_any one xs || list_any more xs)
any_either one more [] = refl
any_either one more (x ∷ xs) = rw (any_either one more xs) (or_swapped (one x) (more x) (list_any one xs) (list_any more xs))

-- some of the blocks stands among the entered ones, or some entered one among the blocks
any_swapped : (blocks xs : List ℕ) → list_any (λ block. list_any (λ entered. eqb entered block) xs) blocks ≡ list_any (is_among blocks) xs
any_swapped [] xs = sym (any_of_none xs)
any_swapped (block ∷ blocks) xs =
    ap (λ (rest : Bool). list_any (λ entered. eqb entered block) xs || rest) (any_swapped blocks xs) ∙ sym (any_either (λ entered. eqb entered block) (is_among blocks) xs)

pub is_superseded_by_next : (path : List ℕ) (source place : ℕ) (siblings : List ℕ) (complete : Bool)
    → is_superseded path source place siblings complete ≡ (complete || list_any (λ block. is_some (first_place_from path block (suc place))) (source ∷ siblings))
is_superseded_by_next path source place siblings complete =
    ap (λ (later : Bool). complete || later) (sym (any_same (λ block. is_some (first_place_from path block (suc place))) (λ block. list_any (λ entered. eqb entered block) (drop (suc place) path))
    (λ block. is_some_position (λ entered. eqb entered block) (suc place) (drop (suc place) path)) (source ∷ siblings)
    ∙ any_swapped (source ∷ siblings) (drop (suc place) path)))

-- no place after the path chooses what is superseded on it
pub superseded_unchosen : (path more operands siblings : List ℕ) (source place at operand : ℕ) (phi : Bool) → length path ≤ at
    → ((block : ℕ) → is_among (source ∷ siblings) block ≡ true → is_among operands block ≡ true) → is_superseded path source place siblings false ≡ true
    → chosen_operand (path ++ more) operands at phi ≢ Some (operand, place)
superseded_unchosen path more operands siblings source place at operand phi beyond each superseded is = passed phi is
  where
    by_bound : (bound : ℕ) → length path ≤ bound → last_below (path ++ more) operands bound ≡ Some (operand, place) → ⊥
    by_bound bound beyond is =
        let last = MatchOption-at_some (HasNone (path ++ more) operands bound) (IsLast (path ++ more) operands bound) (operand, place) is (last_below_is (path ++ more) operands bound) in
        let some = Any-from_list_any (is_among (source ∷ siblings)) (drop (suc place) path) superseded in
        let later : suc place + some.0 < length path = omega (arith, some.2, length-drop (suc place) path) in
        let block : get_or (path ++ more) (suc place + some.0) 0 ≡ some.1 =
        get_or_append_left path more 0 (suc place + some.0) later ∙ (sym (get_or-drop (suc place) path some.0 0) ∙ (get_or_default (drop (suc place) path) some.0 0 some.1 some.2 ∙ some.3)) in
        let none : is_among operands some.1 ≡ false =
        is_among_operands operands some.1 ∙ (ap (λ (entered : ℕ). is_some (operand_of operands entered)) (sym block) ∙ ap (is_some {T = ℕ}) (last.last (suc place + some.0) (omega arith) (omega arith))) in
        both_ways (is_among operands some.1) none (each some.1 some.4)

    passed : (kind : Bool) → chosen_operand (path ++ more) operands at kind ≡ Some (operand, place) → ⊥
    passed true is = by_bound at beyond is
    passed false is = by_bound (suc at) (omega arith) is
