-- Which operators define variables at the end of a part of a script: those before it, or new ones. And what the check knows there.
use Rattle.std.proofs.Common.{◌≡◌, ◌∙◌, ◌<◌, ◌≤◌, ◌+◌, ℕ, List, length, sym, refl, arith, cond, eqb, Bool, true, false, ◌&&◌, ◌||◌, Option, Some, None, is_some, ◌⊎◌, inl, inr}
use Rattle.std.specs.List.{range_with_len}
use Rattle.std.proofs.lemmas.Bool.{or_parts}
use Rattle.mit_ssa.specs.Woven.{Defined, Weave, assigned_in, defining, join_phis, loop_phis, on_both, with_phis}
use Rattle.mit_ssa.proofs.DefinitionsPhis.{among, by_either, filter_among, one_some, phi_among, phi_is, phis_keep, some_true}

-- made in this part
pub record IsNew (first last operator : ℕ) : Type 0 where
  pub from : first ≤ operator
  pub below : operator < last

pub record Ends (variables first last : ℕ) (env end : Defined) (assigned : ℕ → Bool) : Type 0 where
  pub grows : first ≤ last
  pub old_or_new : (variable operator : ℕ) → end variable ≡ Some operator → (env variable ≡ Some operator) ⊎ IsNew first last operator
  pub stays : (variable : ℕ) → is_some (env variable) ≡ true → is_some (end variable) ≡ true
  pub new : (variable operator : ℕ) → assigned variable ≡ true → variable < variables → end variable ≡ Some operator → IsNew first last operator
  pub keeps : (variable : ℕ) → assigned variable ≡ false → end variable ≡ env variable

wider : (first last from to operator : ℕ) → first ≤ from → to ≤ last → IsNew from to operator → IsNew first last operator
wider first last from to operator low high new = record { from = omega (arith, low, new.from); below = omega (arith, high, new.below) }

pub map_new : {A B C : Type 0} → (B → C) → A ⊎ B → A ⊎ C
map_new f (inl a) = inl a
map_new f (inr b) = inr (f b)

-- ---- one part after another

pub compose : (variables first middle last : ℕ) (env mid end : Defined) (early late : ℕ → Bool) → Ends variables first middle env mid early
    → Ends variables middle last mid end late → Ends variables first last env end (λ variable. early variable || late variable)
compose variables first middle last env mid end early late one two = record {
  grows = omega (arith, one.grows, two.grows);
  old_or_new = λ variable operator is. by_mid variable operator (two.old_or_new variable operator is);
  stays = λ variable some. two.stays variable (one.stays variable some);
  new = λ variable operator assigned below is. by_assigned variable operator (by_either (early variable) (late variable) assigned) below is;
  keeps = λ variable never. let parts = or_parts (early variable) (late variable) never in two.keeps variable parts.1 ∙ one.keeps variable parts.0;
}
  where
    early_new : (operator : ℕ) → IsNew first middle operator → IsNew first last operator
    early_new operator new = wider first last first middle operator (omega arith) two.grows new

    late_new : (operator : ℕ) → IsNew middle last operator → IsNew first last operator
    late_new operator new = wider first last middle last operator one.grows (omega arith) new

    by_mid : (variable operator : ℕ) → (mid variable ≡ Some operator) ⊎ IsNew middle last operator
        → (env variable ≡ Some operator) ⊎ IsNew first last operator
    by_mid variable operator (inl old) = map_new (early_new operator) (one.old_or_new variable operator old)
    by_mid variable operator (inr made) = inr (late_new operator made)

    by_assigned : (variable operator : ℕ) → (early variable ≡ true) ⊎ (late variable ≡ true) → variable < variables → end variable ≡ Some operator
        → IsNew first last operator
    by_assigned variable operator (inl is_early) below is = by_old (two.old_or_new variable operator is)
      where
        by_old : (mid variable ≡ Some operator) ⊎ IsNew middle last operator → IsNew first last operator
        by_old (inl old) = early_new operator (one.new variable operator is_early below old)
        by_old (inr made) = late_new operator made
    by_assigned variable operator (inr is_late) below is = late_new operator (two.new variable operator is_late below is)

-- ---- the kinds of statements

pub write_ends : (variables number : ℕ) (env : Defined) → Ends variables number (number + 1) env env (λ variable. false)
write_ends variables number env = record {
  grows = omega arith;
  old_or_new = λ variable operator is. inl is;
  stays = λ variable some. some;
  new = λ variable operator never below is. absurd cc;
  keeps = λ variable never. refl;
}

pub assign_ends : (variables number : ℕ) (env : Defined) (target : ℕ)
    → Ends variables number (number + 1) env (defining env target number) (λ variable. eqb variable target)
assign_ends variables number env target = record {
  grows = omega arith;
  old_or_new = λ variable operator is. by_test operator (env variable) (eqb variable target) is;
  stays = λ variable some. still (env variable) (eqb variable target) some;
  new = λ variable operator same below is. made operator (env variable) (eqb variable target) same is;
  keeps = λ variable never. rw never refl;
}
  where
    here : (operator : ℕ) → Some number ≡ Some operator → IsNew number (number + 1) operator
    here operator is = let e = one_some number operator is in record { from = omega (arith, e); below = omega (arith, e) }

    by_test : (operator : ℕ) (old : Option ℕ) (same : Bool) → cond same (Some number) old ≡ Some operator
        → (old ≡ Some operator) ⊎ IsNew number (number + 1) operator
    by_test operator old true is = inr (here operator is)
    by_test operator old false is = inl is

    still : (old : Option ℕ) (same : Bool) → is_some old ≡ true → is_some (cond same (Some number) old) ≡ true
    still old true some = refl
    still old false some = some

    made : (operator : ℕ) (old : Option ℕ) (same : Bool) → same ≡ true → cond same (Some number) old ≡ Some operator → IsNew number (number + 1) operator
    made operator old true same is = here operator is
    made operator old false same is = absurd cc

-- phis over what is defined, old or new; each variable that was assigned has a phi
phis_end : (variables first last number : ℕ) (env mid : Defined) (phis : List ℕ) (assigned : ℕ → Bool) → first ≤ number → number + length phis ≤ last
    → ((variable operator : ℕ) → mid variable ≡ Some operator → (env variable ≡ Some operator) ⊎ IsNew first last operator)
    → ((variable : ℕ) → is_some (env variable) ≡ true → is_some (mid variable) ≡ true)
    → ((variable : ℕ) → assigned variable ≡ true → variable < variables → is_some (mid variable) ≡ true → among phis variable ≡ true)
    → ((variable : ℕ) → assigned variable ≡ false → (among phis variable ≡ false) × (mid variable ≡ env variable))
    → Ends variables first last env (with_phis mid number phis) assigned
phis_end variables first last number env mid phis assigned low high old_or_new stays covers keeps = record {
  grows = omega arith;
  old_or_new = λ variable operator is. by_phi variable operator (among phis variable) refl is;
  stays = λ variable some. still variable (among phis variable) refl (stays variable some);
  new = λ variable operator is_assigned below is. by_cover variable operator (among phis variable) refl is_assigned below is;
  keeps = λ variable never. let k = keeps variable never in phis_keep mid number phis variable k.0 ∙ k.1;
}
  where
    made : (variable operator : ℕ) → among phis variable ≡ true → with_phis mid number phis variable ≡ Some operator → IsNew first last operator
    made variable operator phi is =
        let found = phi_is mid number phis variable phi in
        let e = one_some found.operator operator (sym found.is ∙ is) in
        record { from = omega (arith, e, found.from); below = omega (arith, e, found.below) }

    by_phi : (variable operator : ℕ) (phi : Bool) → among phis variable ≡ phi → with_phis mid number phis variable ≡ Some operator
        → (env variable ≡ Some operator) ⊎ IsNew first last operator
    by_phi variable operator true phi is = inr (made variable operator phi is)
    by_phi variable operator false phi is = old_or_new variable operator (sym (phis_keep mid number phis variable phi) ∙ is)

    still : (variable : ℕ) (phi : Bool) → among phis variable ≡ phi → is_some (mid variable) ≡ true → is_some (with_phis mid number phis variable) ≡ true
    still variable true phi some = let found = phi_is mid number phis variable phi in some_true (with_phis mid number phis variable) found.operator found.is
    still variable false phi some = rw (phis_keep mid number phis variable phi) some

    by_cover : (variable operator : ℕ) (phi : Bool) → among phis variable ≡ phi → assigned variable ≡ true → variable < variables
        → with_phis mid number phis variable ≡ Some operator → IsNew first last operator
    by_cover variable operator true phi is_assigned below is = made variable operator phi is
    by_cover variable operator false phi is_assigned below is =
        let some : is_some (mid variable) ≡ true = some_true (mid variable) operator (sym (phis_keep mid number phis variable phi) ∙ is) in
        absurd (let phi_too = covers variable is_assigned below some in cc)

-- ---- what is defined on both ways

pub record OnBoth (one two : Option ℕ) (operator : ℕ) : Type 0 where
  pub first : one ≡ Some operator
  pub second : is_some two ≡ true

pub both_parts : (one two : Option ℕ) (operator : ℕ) → cond (is_some one && is_some two) one None ≡ Some operator → OnBoth one two operator
both_parts None two operator is = absurd cc
both_parts (Some first) None operator is = absurd cc
both_parts (Some first) (Some second) operator is = record { first = is; second = refl }

pub both_some : (one two : Option ℕ) → is_some one ≡ true → is_some two ≡ true → is_some (cond (is_some one && is_some two) one None) ≡ true
both_some None two first second = absurd cc
both_some (Some a) None first second = absurd cc
both_some (Some a) (Some b) first second = refl

both_of : (one two : Option ℕ) → is_some (cond (is_some one && is_some two) one None) ≡ true → (is_some one ≡ true) × (is_some two ≡ true)
both_of None two is = absurd cc
both_of (Some a) None is = absurd cc
both_of (Some a) (Some b) is = (refl, refl)

pub both_same : (one two was : Option ℕ) → one ≡ was → two ≡ was → cond (is_some one && is_some two) one None ≡ was
both_same one two None first second = rw first refl
both_same one two (Some operator) first second = rw (first, second) refl

pub if_ends : (variables number middle last : ℕ) (on_true on_false : List Weave) (env one two : Defined)
    → Ends variables (number + 1) middle env one (assigned_in on_true) → Ends variables middle last env two (assigned_in on_false)
    → Ends variables number (last + length (join_phis variables on_true on_false one two)) env
    (with_phis (on_both one two) last (join_phis variables on_true on_false one two))
    (λ variable. assigned_in on_true variable || assigned_in on_false variable)
if_ends variables number middle last on_true on_false env one two first second =
    phis_end variables number (last + length phis) last env (on_both one two) phis (λ variable. assigned_in on_true variable || assigned_in on_false variable)
    (omega (arith, first.grows, second.grows)) (omega arith)
    (λ variable operator is.
    map_new (wider number (last + length phis) (number + 1) middle operator (omega arith) (omega (arith, second.grows)))
    (first.old_or_new variable operator (both_parts (one variable) (two variable) operator is).first))
    (λ variable some. both_some (one variable) (two variable) (first.stays variable some) (second.stays variable some))
    covers keeps
  where
    phis : List ℕ
    phis = join_phis variables on_true on_false one two

    covers : (variable : ℕ) → (assigned_in on_true variable || assigned_in on_false variable) ≡ true → variable < variables
        → is_some (on_both one two variable) ≡ true → among phis variable ≡ true
    covers variable assigned below some =
        let both = both_of (one variable) (two variable) some in
        phi_among (λ v. (assigned_in on_true v || assigned_in on_false v) && is_some (one v) && is_some (two v)) variables variable
        (rw (assigned, both.0, both.1) refl) below

    keeps : (variable : ℕ) → (assigned_in on_true variable || assigned_in on_false variable) ≡ false
        → (among phis variable ≡ false) × (on_both one two variable ≡ env variable)
    keeps variable never =
        let both = or_parts (assigned_in on_true variable) (assigned_in on_false variable) never in (
          filter_among (λ v. (assigned_in on_true v || assigned_in on_false v) && is_some (one v) && is_some (two v)) (range_with_len 0 variables) variable
              (rw never refl),
          both_same (one variable) (two variable) (env variable) (first.keeps variable both.0) (second.keeps variable both.1),
        )

pub while_inside : (variables number : ℕ) (body : List Weave) (env : Defined)
    → Ends variables number (number + length (loop_phis variables body env)) env (with_phis env number (loop_phis variables body env)) (assigned_in body)
while_inside variables number body env =
    phis_end variables number (number + length phis) number env env phis (assigned_in body) (omega arith) (omega arith)
    (λ variable operator is. inl is) (λ variable some. some) covers keeps
  where
    phis : List ℕ
    phis = loop_phis variables body env

    covers : (variable : ℕ) → assigned_in body variable ≡ true → variable < variables → is_some (env variable) ≡ true → among phis variable ≡ true
    covers variable assigned below some =
        phi_among (λ v. assigned_in body v && is_some (env v)) variables variable (rw (assigned, some) refl) below

    keeps : (variable : ℕ) → assigned_in body variable ≡ false → (among phis variable ≡ false) × (env variable ≡ env variable)
    keeps variable never =
        (filter_among (λ v. assigned_in body v && is_some (env v)) (range_with_len 0 variables) variable (rw never refl), refl)

pub further : (variables first middle last : ℕ) (env end : Defined) (assigned : ℕ → Bool) → middle ≤ last → Ends variables first middle env end assigned
    → Ends variables first last env end assigned
further variables first middle last env end assigned more ends = record {
  grows = omega (arith, ends.grows);
  old_or_new = λ variable operator is. map_new (wider first last first middle operator (omega arith) more) (ends.old_or_new variable operator is);
  stays = ends.stays;
  new = λ variable operator is_assigned below is. wider first last first middle operator (omega arith) more (ends.new variable operator is_assigned below is);
  keeps = ends.keeps;
}
