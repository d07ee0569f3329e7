use Rattle.std.proofs.Common.{◌∙◌, ◌+◌, ◌++◌, ◌∷◌, [], ℕ, List, ap, arith, length, map, refl, subst, sym}
use Rattle.mit_engine.specs.Operators.{FitsVariables, assigned_after, first_operator, sources_from, sources_of}
use Rattle.mit_engine.specs.declared.operators.Operator.{Operator}
use Rattle.mit_engine.specs.declared.thin.ThinStep.{ThinStep}
use Rattle.mit_engine.proofs.FormedLemmas.{formed_first}
use Rattle.mit_engine.proofs.OperatorLemmas.{formed_at_hand, made_all, made_more}
use Rattle.mit_engine.proofs.operators.operators_of.Goals as goal

pub loop-at-init : goal.loop-at-init
loop-at-init c = record {
  operators = rw (c.in_ok-operators.ensures.items, c.new-assigned.ensures.items) refl;
  formed = rw c.new-assigned.ensures.items (formed_first c.args.steps.now c.requires);
}

pub operator_of-requires : goal.operator_of-requires
operator_of-requires c =
    subst (λ (assigned : List ℕ). FitsVariables (length assigned) c.index-steps-at.result) (sym c.deref.ensures.value)
    (formed_at_hand c.loop-at.assigned.items c.args.steps.now c.loop-at.at c.index-steps-at.result (omega arith) c.index-steps-at.is c.loop-at.invariant.formed).fits

pub note-requires : goal.note-requires
note-requires c =
    subst (λ (n : ℕ). FitsVariables n c.index-steps-at.result) (sym c.loop-at.assigned.ok.0)
    (formed_at_hand c.loop-at.assigned.items c.args.steps.now c.loop-at.at c.index-steps-at.result (omega arith) c.index-steps-at.is c.loop-at.invariant.formed).fits

pub loop-at-preserved : goal.loop-at-preserved
unfolding sources_from
loop-at-preserved c =
    let at = c.loop-at.at in
    let first = c.index-steps-at.result in
    let assigned = c.loop-at.assigned.items in
    let before = c.loop-at.operators.items in
    let made = c.in_ok-operator_of.ensures ∙ ap (λ (a : List ℕ). first_operator (sources_of a first)) c.deref.ensures.value in
    let now = λ (rest : List ThinStep). map first_operator (sources_from assigned at rest) in
    let later = λ (rest : List ThinStep). map first_operator (sources_from (assigned_after assigned at first) (at + 1) rest) in
    record {
      operators = rw c.in_ok-note.ensures (
          made_more now later (first_operator (sources_of assigned first) ∷ []) c.args.steps.now at first before c.push.new.self.items _ refl
          (omega arith) c.index-steps-at.is c.loop-at.invariant.operators (◌∙◌ {A = List Operator} c.in_ok-push.ensures.items (ap (λ (o : Operator). before ++ o ∷ []) made)));
      formed = rw c.in_ok-note.ensures (formed_at_hand assigned c.args.steps.now at first (omega arith) c.index-steps-at.is c.loop-at.invariant.formed).later;
    }

pub returns : goal.returns
unfolding sources_from
returns c =
    made_all (λ rest. map first_operator (sources_from c.loop-at.assigned.items c.loop-at.at rest)) c.args.steps.now c.loop-at.at c.loop-at.operators.items _ refl
    (omega arith) c.loop-at.invariant.operators
