-- What holds before an operator, where it made its bag, holds before the next one.
use Rattle.std.proofs.Common.{◌≡◌, ◌∙◌, ◌<◌, ◌≤◌, ◌+◌, ℕ, suc, List, [], ◌∷◌, length, get_or, ap, ap₂, sym, subst, refl, arith, Contains, Bool, true, false, cond, eqb, eqb-true, eq-eqb, ne_eqb, Option, Some, None, inl, inr}
use Rattle.std.specs.Prelude.{◌⊎◌, IsSome}
use Rattle.std.specs.Option.{is_some}
use Rattle.std.proofs.lemmas.Bool.{cases_lt, eqb-false}
use Rattle.mit_rows.specs.Bags.{BagOf}
use Rattle.mit_plan.specs.Held.{History, Job, op_of}
use Rattle.mit_plan.specs.Plans.{PlanOf, block_at}
use Rattle.mit_plan.specs.Sums.{bag_at}
use Rattle.mit_script.specs.Execution.{Store}
use Rattle.mit_ssa.specs.Reaching.{IsPhi, Reaching, is_for, reach, reaching}
use Rattle.mit_meaning.proofs.Good.{Good, Holds, IsBefore, IsPair, Last, stored}
use Rattle.mit_meaning.proofs.LastDefinition.{is_for_true}

-- ---- the order of pairs

-- what stands before the next index stands before this one, or is it
before_next : (other at place index : ℕ) → IsBefore other at place (suc index) → IsBefore other at place index ⊎ ((other ≡ place) × (at ≡ index))
before_next other at place index (inl less) = inl (inl less)
before_next other at place index (inr here) = by_order (cases_lt at index)
  where
    by_order : (at < index) ⊎ (index ≤ at) → IsBefore other at place index ⊎ ((other ≡ place) × (at ≡ index))
    by_order (inl less) = inl (inr (here.0, less))
    by_order (inr more) = let last = here.1 in inr (here.0, omega (arith, more, last))

before_more : (other at place index : ℕ) → IsBefore other at place index → IsBefore other at place (suc index)
before_more other at place index (inl less) = inl less
before_more other at place index (inr here) = let last = here.1 in inr (here.0, omega (arith, last))

-- nothing stands between a pair and the next index
none_between : (other at place index : ℕ) → IsBefore place index other at → IsBefore other at place (suc index) → ⊥
none_between other at place index (inl one) (inl two) = omega (arith, one, two)
none_between other at place index (inl one) (inr two) = let same = two.0 in omega (arith, one, same)
none_between other at place index (inr one) (inl two) = let same = one.0 in omega (arith, two, same)
none_between other at place index (inr one) (inr two) = let first = one.1 in let last = two.1 in omega (arith, first, last)

-- ---- the last definition

-- an operator's own definition is the last one behind it
own_last : (plan : PlanOf) (known : Reaching) (path : List ℕ) (place index variable : ℕ) → IsPair plan path place index
    → known.defines (op_of plan path place index) ≡ Some variable → Last plan known path place (suc index) variable
own_last plan known path place index variable pair defines = record {
  at = place;
  under = index;
  pair = pair;
  before = inr (refl, omega arith);
  defines = defines;
  none = λ other within there after before. absurd (none_between other within place index after before);
}

-- an operator that doesn't define a variable leaves its last definition as it is
last_stays : (plan : PlanOf) (known : Reaching) (path : List ℕ) (place index variable : ℕ) → is_for (known.defines (op_of plan path place index)) variable ≡ false
    → Last plan known path place index variable → Last plan known path place (suc index) variable
last_stays plan known path place index variable other last = record {
  at = last.at;
  under = last.under;
  pair = last.pair;
  before = before_more last.at last.under place index last.before;
  defines = last.defines;
  none = λ one within there after before. by_pair one within there after (before_next one within place index before);
}
  where
    by_pair : (one within : ℕ) → IsPair plan path one within → IsBefore last.at last.under one within
        → IsBefore one within place index ⊎ ((one ≡ place) × (within ≡ index)) → is_for (known.defines (op_of plan path one within)) variable ≡ false
    by_pair one within there after (inl before) = last.none one within there after before
    by_pair one within there after (inr same) =
        ap (λ (at : ℕ). is_for (known.defines (op_of plan path at within)) variable) same.0
        ∙ ap (λ (at : ℕ). is_for (known.defines (op_of plan path place at)) variable) same.1 ∙ other

-- ---- what reaches the next index

reach_own : (known : Reaching) (block first index variable : ℕ) → is_for (known.defines (first + index)) variable ≡ true → reach known block first (suc index) variable ≡ (first + index) ∷ []
unfolding reach
reach_own known block first index variable own = ap (λ (one : Bool). cond one ((first + index) ∷ []) (reach known block first index variable)) own

reach_other : (known : Reaching) (block first index variable : ℕ) → is_for (known.defines (first + index)) variable ≡ false → reach known block first (suc index) variable ≡ reach known block first index variable
unfolding reach
reach_other known block first index variable other = ap (λ (one : Bool). cond one ((first + index) ∷ []) (reach known block first index variable)) other

-- ---- the store

stored_own : (defined : Option ℕ) (bag : BagOf) (store : Store) (variable : ℕ) → is_for defined variable ≡ true → stored defined bag store variable ≡ bag
stored_own None bag store variable is = absurd cc
stored_own (Some target) bag store variable is = ap (λ (one : Bool). cond one bag (store variable)) (eq-eqb variable target (sym (eqb-true target variable is)))

stored_other : (defined : Option ℕ) (bag : BagOf) (store : Store) (variable : ℕ) → is_for defined variable ≡ false → stored defined bag store variable ≡ store variable
stored_other None bag store variable is = refl
stored_other (Some target) bag store variable is = ap (λ (one : Bool). cond one bag (store variable)) (ne_eqb variable target (λ same. eqb-false target variable is (sym same)))

-- ---- one operator more

-- where the store has the bag for what the operator defines, and is as before for the rest
module _ (job : Job) (known : Reaching) (history : History) (place index : ℕ) (store after : Store) (bag : BagOf) where
  holds_own : (variable : ℕ) → IsPair job.plan history.path place index → bag_at job history place index ≡ Some bag
      → is_for (known.defines (op_of job.plan history.path place index)) variable ≡ true → after variable ≡ bag → Holds job known history place (suc index) after variable
  unfolding own_last
  holds_own variable pair made own value =
      let block = get_or history.path place 0 in
      let op = op_of job.plan history.path place index in
      record {
        last = own_last job.plan known history.path place index variable pair (is_for_true (known.defines op) variable own);
        listed = subst (λ (ops : List ℕ). Contains ops op) (sym (reach_own known block (block_at job.plan block).first index variable own)) (0, omega arith, refl);
        bag = made ∙ ap (λ (one : BagOf). Some one) (sym value);
      }

  holds_other : (variable : ℕ) → is_for (known.defines (op_of job.plan history.path place index)) variable ≡ false → after variable ≡ store variable
      → Holds job known history place index store variable → Holds job known history place (suc index) after variable
  unfolding last_stays
  holds_other variable other value holds =
      let block = get_or history.path place 0 in
      record {
        last = last_stays job.plan known history.path place index variable other holds.last;
        listed = subst (λ (ops : List ℕ). Contains ops (op_of job.plan history.path holds.last.at holds.last.under))
            (sym (reach_other known block (block_at job.plan block).first index variable other)) holds.listed;
        bag = holds.bag ∙ ap (λ (one : BagOf). Some one) (sym value);
      }

  goes_on : IsPair job.plan history.path place index → bag_at job history place index ≡ Some bag
      → ((variable : ℕ) → is_for (known.defines (op_of job.plan history.path place index)) variable ≡ true → after variable ≡ bag)
      → ((variable : ℕ) → is_for (known.defines (op_of job.plan history.path place index)) variable ≡ false → after variable ≡ store variable)
      → Good job known history place index store → Good job known history place (suc index) after
  goes_on pair made own others good = record {
    stood = λ other at there before. by_pair other at there (before_next other at place index before);
    holds = λ variable some. by_test variable (is_for (known.defines (op_of job.plan history.path place index)) variable) refl some;
  }
    where
      by_pair : (other at : ℕ) → IsPair job.plan history.path other at → IsBefore other at place index ⊎ ((other ≡ place) × (at ≡ index)) → IsSome (bag_at job history other at)
      by_pair other at there (inl before) = good.stood other at there before
      by_pair other at there (inr same) = ap is_some (ap₂ (bag_at job history) same.0 same.1 ∙ made)

      by_test : (variable : ℕ) (is : Bool) → is_for (known.defines (op_of job.plan history.path place index)) variable ≡ is
          → 0 < length (reaching job.plan known (get_or history.path place 0) (suc index) variable) → Holds job known history place (suc index) after variable
      by_test variable true is some = holds_own variable pair made is (own variable is)
      by_test variable false is some =
          let block = get_or history.path place 0 in
          let before : 0 < length (reaching job.plan known block index variable) =
          subst (λ (ops : List ℕ). 0 < length ops) (reach_other known block (block_at job.plan block).first index variable is) some in
          holds_other variable is (others variable is) (good.holds variable before)

-- where an operator made its bag
pub one_more : (job : Job) (known : Reaching) (history : History) (place index : ℕ) (store : Store) (bag : BagOf) → IsPair job.plan history.path place index
    → bag_at job history place index ≡ Some bag → Good job known history place index store
    → Good job known history place (suc index) (stored (known.defines (op_of job.plan history.path place index)) bag store)
one_more job known history place index store bag pair made good =
    let defined = known.defines (op_of job.plan history.path place index) in
    goes_on job known history place index store (stored defined bag store) bag pair made (stored_own defined bag store) (stored_other defined bag store) good

-- a phi leaves the store as it is
pub one_kept : (job : Job) (known : Reaching) (history : History) (place index : ℕ) (store : Store) → IsPair job.plan history.path place index
    → (phi : IsPhi job.plan known (get_or history.path place 0) index) → bag_at job history place index ≡ Some (store phi.variable)
    → Good job known history place index store → Good job known history place (suc index) store
one_kept job known history place index store pair phi made good =
    goes_on job known history place index store store (store phi.variable) pair made own (λ variable is. refl) good
  where
    own : (variable : ℕ) → is_for (known.defines (op_of job.plan history.path place index)) variable ≡ true → store variable ≡ store phi.variable
    own variable is =
        let same : eqb phi.variable variable ≡ true = ap (λ (one : Option ℕ). is_for one variable) (sym phi.defines) ∙ is in
        ap store (sym (eqb-true phi.variable variable same))
