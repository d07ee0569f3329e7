-- What the verdict says of the operators, and what was heard of an operator says of its part.
use Rattle.std.proofs.Common.{◌≡◌, ◌∙◌, ◌<◌, ◌+◌, ◌⊎◌, ℕ, zero, suc, List, [], ◌∷◌, inl, inr, ap, sym, refl, arith}
use Rattle.std.specs.Prelude.{Bool, true, Option, Some, None, slice_get}
use Rattle.std.proofs.lemmas.Option.{same_Some}
use Rattle.mit_rows.specs.Bags.{BagOf}
use Rattle.mit_engine.specs.Running.{AtFault, Made, MadePart, ReportsPart, Unmade, verdict_at, verdict_from}
use Rattle.mit_ops.specs.declared.faults.FaultKind.{FaultKind}
use Rattle.mit_engine.specs.declared.job.Verdict.{Verdict}
use Rattle.mit_engine.specs.declared.job.Verdict.TheVariants as verdict
use Rattle.mit_engine.specs.declared.operators.Operator.{Operator}
use Rattle.mit_engine.specs.declared.operators.Outcome.{Outcome}
use Rattle.mit_engine.specs.declared.operators.Outcome.TheVariants as outcome

-- ---- what was heard of an operator

-- the bag of a part, where it is made
abbrev pub bag_of : MadePart → BagOf
bag_of Unmade = []
bag_of (Made bag) = bag
bag_of (AtFault kind) = []

-- one that was heard Done has made its bag, and one that was heard to be at fault has failed
pub done_made : (part : MadePart) (polled : Bool) (reports : List Outcome) (heard : Option Outcome) → ReportsPart part polled reports heard
    → heard ≡ Some outcome.Done → (part ≡ Made (bag_of part)) × (polled ≡ true)
done_made Unmade polled reports heard told done = cc
done_made (Made bag) polled reports heard told done = (refl, told.0)
done_made (AtFault kind) polled reports heard (is, inl waits) done = cc
done_made (AtFault kind) polled reports heard (is, inr came) done = cc

pub fault_failed : (part : MadePart) (polled : Bool) (reports : List Outcome) (heard : Option Outcome) (kind : FaultKind) → ReportsPart part polled reports heard
    → heard ≡ Some (outcome.Fault kind) → part ≡ AtFault kind
fault_failed Unmade polled reports heard kind told fault = cc
fault_failed (Made bag) polled reports heard kind (is, inl waits) fault = cc
fault_failed (Made bag) polled reports heard kind (is, inr came) fault = cc
fault_failed (AtFault other) polled reports heard kind (is, inl waits) fault = cc
fault_failed (AtFault other) polled reports heard kind (is, inr came) fault = cc

-- ---- the verdict, by the first operator and the later ones

pub complete_first : (at : ℕ) (heard : Option Outcome) (later : Verdict) → verdict_at at heard later ≡ verdict.Complete
    → (heard ≡ Some outcome.Done) × (later ≡ verdict.Complete)
complete_first at None later is = cc
complete_first at (Some outcome.Done) later is = (refl, is)
complete_first at (Some (outcome.Fault kind)) later is = cc

pub fault_first : (at : ℕ) (heard : Option Outcome) (later : Verdict) (place : ℕ) (kind : FaultKind) → verdict_at at heard later ≡ verdict.Fault place kind
    → ((heard ≡ Some outcome.Done) × (later ≡ verdict.Fault place kind)) ⊎ ((heard ≡ Some (outcome.Fault kind)) × (at ≡ place))
fault_first at None later place kind is = cc
fault_first at (Some outcome.Done) later place kind is = inl (refl, is)
fault_first at (Some (outcome.Fault other)) later place kind is = inr (cc, cc)

-- ---- a job that is complete, and one that runs

-- each operator is heard Done
pub all_done : (at : ℕ) (operators : List Operator) → verdict_from at operators ≡ verdict.Complete
    → (k : ℕ) (operator : Operator) → slice_get operators k ≡ Some operator → operator.heard ≡ Some outcome.Done
unfolding verdict_from
all_done at [] is k operator there = cc
all_done at (first ∷ operators) is zero operator there =
    ap (λ (o : Operator). o.heard) (sym (same_Some first operator there)) ∙ (complete_first at first.heard (verdict_from (at + 1) operators) is).0
all_done at (first ∷ operators) is (suc k) operator there =
    all_done (at + 1) operators (complete_first at first.heard (verdict_from (at + 1) operators) is).1 k operator there

-- the first operator that is not heard: each earlier one is heard Done
pub record FirstUnheard (operators : List Operator) : Type 0 where
  pub place : ℕ
  pub operator : Operator
  pub there : slice_get operators place ≡ Some operator
  pub unheard : operator.heard ≡ None
  pub earlier : (k : ℕ) (other : Operator) → k < place → slice_get operators k ≡ Some other → other.heard ≡ Some outcome.Done

first_later : (first : Operator) (operators : List Operator) → first.heard ≡ Some outcome.Done → FirstUnheard operators → FirstUnheard (first ∷ operators)
first_later first operators done later = record {
  place = suc later.place;
  operator = later.operator;
  there = later.there;
  unheard = later.unheard;
  earlier = earlier;
}
  where
    earlier : (k : ℕ) (other : Operator) → k < suc later.place → slice_get (first ∷ operators) k ≡ Some other → other.heard ≡ Some outcome.Done
    earlier zero other before there = ap (λ (o : Operator). o.heard) (sym (same_Some first other there)) ∙ done
    earlier (suc k) other before there = later.earlier k other (omega arith) there

pub first_unheard : (at : ℕ) (operators : List Operator) → verdict_from at operators ≡ verdict.Running → FirstUnheard operators
unfolding verdict_from
first_unheard at [] runs = cc
first_unheard at (first ∷ operators) runs = by_heard first.heard refl (first_unheard (at + 1) operators) runs
  where
    by_heard : (heard : Option Outcome) → first.heard ≡ heard → (verdict_from (at + 1) operators ≡ verdict.Running → FirstUnheard operators)
        → verdict_at at heard (verdict_from (at + 1) operators) ≡ verdict.Running → FirstUnheard (first ∷ operators)
    by_heard None is later runs = record {
      place = 0;
      operator = first;
      there = refl;
      unheard = is;
      earlier = λ k other before there. absurd (omega arith);
    }
    by_heard (Some outcome.Done) is later runs = first_later first operators is (later runs)
    by_heard (Some (outcome.Fault kind)) is later runs = cc
