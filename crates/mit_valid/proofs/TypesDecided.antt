-- What is asked of the only types that may fit decides what holds of types.
use Rattle.std.proofs.Common.{◌≡◌, ◌∙◌, ◌<◌, ◌≤◌, ℕ, List, [], length, map, get_or, ap, sym, subst, refl, arith, Bool, true, false, IsTrue, MatchBool, All, IfOk, Ok, Err, Result}
use Rattle.std.specs.Bool.{Decides}
use Rattle.std.specs.Cmp.Lexicographic.{pointwise}
use Rattle.std.proofs.Math.Bool.{beq}
use Rattle.std.proofs.lemmas.Slice.Eq.{slice_eq-Decides}
use Rattle.std.proofs.lemmas.List.{get_or_default}
use Rattle.std.proofs.lemmas.List.Elements.{All-from_get_or, All-map}
use Rattle.mit_rows.specs.declared.value.ColType.{ColType}
use Rattle.mit_rows.specs.declared.value.ColType.TheVariants.{Int, Text, Bool as Truth}
use Rattle.mit_expr.specs.Types.{same_type}
use Rattle.mit_ops.specs.Results.{bag, scalar}
use Rattle.mit_ops.specs.declared.types.VarType.{VarType}
use Rattle.mit_plan.specs.Plans.{PlanOf, block_at, edge_at, edges_to, is_phi, no_edge, op_at}
use Rattle.mit_plan.specs.Types.{AreTypes, HasOperands, IsTypedOperator, TypeFits, type_at}
use Rattle.mit_plan.specs.Valid.{HasTypes, last_of}
use Rattle.mit_plan.specs.declared.plan.Edge.{Edge}
use Rattle.mit_valid.specs.Deciding.{Tells, TypesStand}
use Rattle.mit_valid.specs.Inferred.{AreForced, PhisFit, RoutesGiven, TruthsGiven}

-- ---- the same type

column_decided : (one other : ColType) → Decides (same_type one other) (one ≡ other)
column_decided Int Int = (λ same. refl, λ same. refl)
column_decided Int Text = (λ same. absurd cc, λ same. absurd cc)
column_decided Int Truth = (λ same. absurd cc, λ same. absurd cc)
column_decided Text Int = (λ same. absurd cc, λ same. absurd cc)
column_decided Text Text = (λ same. refl, λ same. refl)
column_decided Text Truth = (λ same. absurd cc, λ same. absurd cc)
column_decided Truth Int = (λ same. absurd cc, λ same. absurd cc)
column_decided Truth Text = (λ same. absurd cc, λ same. absurd cc)
column_decided Truth Truth = (λ same. refl, λ same. refl)

abbrev of_columns : Bool → List ColType → VarType
of_columns is columns = record { scalar = is; cols = columns }

same_by : (one other : VarType) (same : Bool) → Decides same (one.cols ≡ other.cols) → one.scalar ≡ other.scalar → Tells same (one ≡ other)
same_by one other true columns scalars =
    ap (λ (is : Bool). of_columns is one.cols) scalars ∙ ap (of_columns other.scalar) (columns.0 refl)
same_by one other false columns scalars = λ same. absurd (let no = columns.1 (ap (λ (type : VarType). type.cols) same) in cc)

-- two types of one form are the same where their columns are
pub type_decided : (one other : VarType) (same : Bool) → same ≡ pointwise same_type one.cols other.cols → one.scalar ≡ other.scalar → Tells same (one ≡ other)
type_decided one other same columns scalars = same_by one other same (slice_eq-Decides column_decided one.cols other.cols same columns) scalars

pub same_form : (one other : Bool) → beq one other ≡ true → one ≡ other
same_form true true same = refl
same_form true false same = absurd cc
same_form false true same = absurd cc
same_form false false same = refl

-- ---- operands

pub operands_all : (plan : PlanOf) (types : List VarType) (op k : ℕ) (numbers : List ℕ) → numbers ≡ edges_to plan op → length numbers ≤ k
    → ((n : ℕ) → n < k → type_at types (edge_at plan (get_or numbers n 0)).from ≡ type_at types op) → HasOperands plan types op
operands_all plan types op k numbers same all each =
    let f : Edge → VarType = λ edge. type_at types edge.from in
    let P : VarType → Type 0 = λ type. type ≡ type_at types op in
    let inferred_by : All (λ (number : ℕ). P (f (edge_at plan number))) numbers = All-from_get_or (λ (number : ℕ). P (f (edge_at plan number))) numbers 0 (λ n below. each n (omega (arith, below, all))) in
    let by_edge : All (λ (edge : Edge). P (f edge)) (map (edge_at plan) numbers) = All-map (λ (edge : Edge). P (f edge)) (edge_at plan) numbers inferred_by in
    subst (λ (list : List ℕ). All P (map f (map (edge_at plan) list))) same (All-map P f (map (edge_at plan) numbers) by_edge)

-- what is read of an edge, and of an operator's type
pub edge_read : (plan : PlanOf) (edges : List Edge) (number : ℕ) (read : Edge) → edges ≡ plan.edges → number < length plan.edges → get_or edges number read ≡ edge_at plan number
edge_read plan edges number read same below = ap (λ (list : List Edge). get_or list number read) same ∙ get_or_default plan.edges number read no_edge below

pub type_read : (types : List VarType) (op at : ℕ) (read : VarType) → read ≡ get_or types at read → at ≡ op → op < length types → read ≡ type_at types op
type_read types op at read is same below = is ∙ ap (λ (n : ℕ). get_or types n read) same ∙ get_or_default types op read (bag []) below

-- ---- all

-- types that fit have operands of their phis
phis_of : (plan : PlanOf) (types : List VarType) → AreTypes plan types → PhisFit plan types
phis_of plan types fit op below phi = subst (λ (is : Bool). MatchBool is (HasOperands plan types op) (IsTypedOperator plan types op)) phi (fit.each op below)

fits_by : (plan : PlanOf) (types : List VarType) (op : ℕ) (phi : Bool) → is_phi (op_at plan op) ≡ phi → (IsTrue (is_phi (op_at plan op)) → HasOperands plan types op) → (is_phi (op_at plan op) ≡ false → IsTypedOperator plan types op)
    → TypeFits plan types op
fits_by plan types op true is phis typed = subst (λ (b : Bool). MatchBool b (HasOperands plan types op) (IsTypedOperator plan types op)) (sym is) (phis is)
fits_by plan types op false is phis typed = subst (λ (b : Bool). MatchBool b (HasOperands plan types op) (IsTypedOperator plan types op)) (sym is) (typed is)

these_fit : (plan : PlanOf) (types : List VarType) → AreForced plan types → PhisFit plan types → AreTypes plan types
these_fit plan types forced phis = record {
  many = forced.many;
  each = λ op below. fits_by plan types op (is_phi (op_at plan op)) refl (phis op below) (forced.typed op below);
}

-- no others do
only_these : (plan : PlanOf) (types : List VarType) → AreForced plan types → HasTypes plan → AreTypes plan types
only_these plan types forced has = subst (λ (list : List VarType). AreTypes plan list) (forced.only has.0 has.1) has.1

pub no_phis : (plan : PlanOf) (types : List VarType) → AreForced plan types → ¬ PhisFit plan types → ¬ TypesStand plan
no_phis plan types forced none = λ stand. none (phis_of plan types (only_these plan types forced stand.types))

pub no_truths : (plan : PlanOf) (types : List VarType) → AreForced plan types → ¬ TruthsGiven plan types → ¬ TypesStand plan
no_truths plan types forced none = λ stand. none (λ block below branch. stand.truths block below branch types (only_these plan types forced stand.types))

no_routes : (plan : PlanOf) (types : List VarType) → AreForced plan types → ¬ RoutesGiven plan types → ¬ TypesStand plan
no_routes plan types forced none = λ stand. none (stand.routes types (only_these plan types forced stand.types))

they_stand : (plan : PlanOf) (types : List VarType) → AreForced plan types → PhisFit plan types → TruthsGiven plan types → RoutesGiven plan types → TypesStand plan
they_stand plan types forced phis truths routes = record {
  types = (types, these_fit plan types forced phis);
  truths = λ block below branch others fit. subst (λ (list : List VarType). type_at list (last_of (block_at plan block)) ≡ scalar Truth) (sym (forced.only others fit)) (truths block below branch);
  routes = λ others fit. subst (λ (list : List VarType). RoutesGiven plan list) (sym (forced.only others fit)) routes;
}

by_routes : (plan : PlanOf) (types : List VarType) (routes : Bool) → AreForced plan types → PhisFit plan types → TruthsGiven plan types → Tells routes (RoutesGiven plan types) → Tells routes (TypesStand plan)
by_routes plan types true forced phis truths routes = they_stand plan types forced phis truths routes
by_routes plan types false forced phis truths routes = no_routes plan types forced routes

pub result_by_routes : {E : Type 0} (plan : PlanOf) (types : List VarType) (result : Result Bool E) → AreForced plan types → PhisFit plan types → TruthsGiven plan types
    → IfOk result (λ fit. Tells fit (RoutesGiven plan types)) → IfOk result (λ stand. Tells stand (TypesStand plan))
result_by_routes plan types (Ok routes) forced phis truths fit = by_routes plan types routes forced phis truths fit
result_by_routes plan types (Err error) forced phis truths fit = tt
