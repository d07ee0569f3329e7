-- An operator with its statement and its sources, what holds of it, and what still holds of all where one of them changes.
use Rattle.std.proofs.Common.{◌≡◌, ◌∙◌, ◌+◌, ◌⊎◌, ℕ, List, length, Some, ap, sym, subst, refl, inl, inr, arith}
use Rattle.std.specs.Prelude.{map, option_map, slice_get, slice_set}
use Rattle.std.specs.List.{All}
use Rattle.std.proofs.lemmas.List.{length-set}
use Rattle.std.proofs.lemmas.Option.{slice_get-map}
use Rattle.mit_engine.specs.Operators.{JobState, actions_left, operator_left, sources, with_operators}
use Rattle.mit_engine.specs.Running.{JobHolds, MadePart, OperatorHolds, PathHolds}
use Rattle.mit_engine.specs.declared.edges.Edge.{Edge}
use Rattle.mit_engine.specs.declared.operators.Operator.{Operator}
use Rattle.mit_engine.specs.declared.thin.ThinStep.{ThinStep}
use Rattle.mit_engine.proofs.Places.{All-got, got_beside, got_set, sum_by-set_less}
use Rattle.mit_engine.proofs.SourceLemmas.{sources_at}

-- ---- the statement and the sources of an operator

pub record HeldAt (steps : List ThinStep) (parts : ℕ → MadePart) (at : ℕ) (operator : Operator) : Type 0 where
  pub statement : ThinStep
  pub from : List ℕ
  pub stated : slice_get steps at ≡ Some statement
  pub sourced : slice_get (sources steps) at ≡ Some from
  pub held : OperatorHolds statement from parts at operator

pub held_at : {steps : List ThinStep} {parts : ℕ → MadePart} {job : JobState} → JobHolds steps parts job
    → (at : ℕ) (operator : Operator) → slice_get job.operators at ≡ Some operator → HeldAt steps parts at operator
held_at {steps} {job = job} holds at operator is =
    let does = got_beside job.operators steps at operator holds.sized is in
    let leads = sources_at steps at does.0 does.1 in
    record { statement = does.0; from = leads.0; stated = does.1; sourced = leads.1; held = holds.each at operator does.0 leads.0 is does.1 leads.1 }

-- the operators from which these edges lead
abbrev pub sources_in : List Edge → List ℕ
sources_in inputs = map (λ edge. edge.from) inputs

-- what holds of all sources holds of the one from which an edge leads
pub edge_source : (P : ℕ → Type 0) (inputs : List Edge) (from : List ℕ) → sources_in inputs ≡ from → All P from
    → (input : ℕ) (edge : Edge) → slice_get inputs input ≡ Some edge → P edge.from
edge_source P inputs from wired all input edge is =
    let source_is : slice_get from input ≡ Some edge.from =
    ap (λ (items : List ℕ). slice_get items input) (sym wired) ∙ slice_get-map (λ (e : Edge). e.from) inputs input ∙ ap (option_map (λ (e : Edge). e.from)) is in
    All-got P from input edge.from all source_is

-- ---- one operator changes

-- its own operator, and what became of each other one
pub record After (operators after : List Operator) (at : ℕ) (own : Operator) (other : Operator → Operator) : Type 0 where
  pub sized : length after ≡ length operators
  pub places : (k : ℕ) (operator : Operator) → slice_get after k ≡ Some operator
      → ((k ≡ at) × (operator ≡ own)) ⊎ ((old : Operator) × (slice_get operators k ≡ Some old) × (operator ≡ other old) × ¬ (k ≡ at))

pub After-set : (operators : List Operator) (at : ℕ) (own : Operator) → After operators (slice_set operators at own) at own (λ operator. operator)
After-set operators at own = record {
  sized = length-set operators at own;
  places = λ k operator is. elim (got_set operators at own k operator is) [ inl e ↦ inl e | inr e ↦ inr (operator, e.0, refl, e.1) ];
}

-- the operators hold what new parts say, where the path, the changed operator and each other one do
pub Holds_after : {steps : List ThinStep} {parts : ℕ → MadePart} {job : JobState} {after : List Operator} {at : ℕ} {own operator : Operator}
    {other : Operator → Operator} (statement : ThinStep) (new : ℕ → MadePart) → PathHolds new job.path job.learned → slice_get job.operators at ≡ Some operator
    → slice_get steps at ≡ Some statement → After job.operators after at own other → JobHolds steps parts job
    → ((from : List ℕ) → OperatorHolds statement from parts at operator → OperatorHolds statement from new at own)
    → ((k : ℕ) (old : Operator) (again : ThinStep) (from : List ℕ) → ¬ (k ≡ at) → slice_get (sources steps) k ≡ Some from
    → OperatorHolds again from parts k old → OperatorHolds again from new k (other old))
    → JobHolds steps new (with_operators job after)
Holds_after {steps} {at = at} {own} {operator} statement new begun is does changes holds own_keeps other_keeps = record {
  sized = changes.sized ∙ holds.sized;
  begun = begun;
  each = λ k found again from is' does' leads. elim (changes.places k found is') [
    | inl e ↦
        let same : statement ≡ again = cc in
        let before = holds.each at operator statement from is does (ap (slice_get (sources steps)) (sym e.0) ∙ leads) in
        let P : ℕ → Type 0 = λ n. OperatorHolds again from new n found in
        let Q : Operator → Type 0 = λ o. OperatorHolds again from new at o in
        let R : ThinStep → Type 0 = λ s. OperatorHolds s from new at own in
        subst P (sym e.0) (subst Q (sym e.1) (subst R same (own_keeps from before)))
    | inr e ↦
        let P : Operator → Type 0 = λ o. OperatorHolds again from new k o in
        subst P (sym e.2) (other_keeps k e.0 again from e.3 leads (holds.each k e.0 again from e.1 does' leads))
  ];
}

-- one action fewer is left of the operator at a place
pub left-set : (job : JobState) (at : ℕ) (operator operator' : Operator) → slice_get job.operators at ≡ Some operator
    → operator_left operator' + 1 ≡ operator_left operator → actions_left (with_operators job (slice_set job.operators at operator')) + 1 ≡ actions_left job
left-set job at operator operator' is less =
    omega (arith, sum_by-set_less operator_left job.operators at operator operator' is less)
