-- Devices of the proofs: nobody has to believe them. Types of a plan's operators, inferred one after another.
use Rattle.std.specs.Prelude.{◌≡◌, ◌<◌, ◌⊎◌, ℕ, List, length, map, take, drop, All, false, Option, Some, None, Ok, IsSome, IsTrue, Contains, MatchBool, count_by, is_none, slice_index_or}
use Rattle.mit_rows.specs.declared.value.ColType.{ColType}
use Rattle.mit_rows.specs.declared.value.ColType.TheVariants.{Bool as Truth}
use Rattle.mit_ops.specs.Kinds.{bag_inputs_of}
use Rattle.mit_ops.specs.Results.{AreBags, IsBagType, scalar, typed_as}
use Rattle.mit_ops.specs.declared.kinds.OpSpec.{OpSpec}
use Rattle.mit_ops.specs.declared.types.VarType.{VarType}
use Rattle.mit_plan.specs.Plans.{EachBlock, EachEdge, EachOp, PlanOf, block_at, edge_at, inputs_of, is_phi, op_at}
use Rattle.mit_plan.specs.Types.{AreTypes, HasOperands, IsTypedOperator, type_at}
use Rattle.mit_plan.specs.Valid.{HasTypes, is_branch, last_of, route_wanted}
use Rattle.mit_valid.specs.declared.inference.Inference.{Inference}
use Rattle.mit_valid.specs.declared.inference.Inference.TheVariants.{Waits, Refused, Is}
use Rattle.mit_valid.specs.declared.inferring.Headway.{Headway}
use Rattle.mit_valid.specs.declared.inferring.Headway.TheVariants as headway

-- the type of an operator, where it is inferred
abbrev pub inferred_at : List (Option VarType) → ℕ → Option VarType
inferred_at inferred op = slice_index_or inferred op None

-- the types of what an operator takes, where they are inferred
abbrev pub inferred_inputs : PlanOf → List (Option VarType) → ℕ → List (Option VarType)
inferred_inputs plan inferred op = map (λ edge. inferred_at inferred edge.from) (inputs_of plan op)

-- those that are inferred are among these types
pub record Agree (inferred : List (Option VarType)) (types : List VarType) : Type 0 where
  pub each : (op : ℕ) (type : VarType) → inferred_at inferred op ≡ Some type → type_at types op ≡ type

-- an operator has this type wherever types fit, and it fits unless the operator is a phi
pub record IsForced (plan : PlanOf) (inferred : List (Option VarType)) (op : ℕ) (type : VarType) : Type 0 where
  pub only : (types : List VarType) → AreTypes plan types → type_at types op ≡ type
  pub fits : is_phi (op_at plan op) ≡ false → (types : List VarType) → Agree inferred types → type_at types op ≡ type → IsTypedOperator plan types op
  pub wide : IsBagType type

-- each type that is inferred is forced
pub record AreInferred (plan : PlanOf) (inferred : List (Option VarType)) : Type 0 where
  pub many : length inferred ≡ length plan.ops
  pub each : (op : ℕ) (type : VarType) → inferred_at inferred op ≡ Some type → IsForced plan inferred op type

-- too little is inferred of what an operator takes: of a phi no operand, of another one not each input
abbrev pub LacksInputs : PlanOf → List (Option VarType) → ℕ → Type 0
LacksInputs plan inferred op =
    MatchBool (is_phi (op_at plan op)) (All (λ type. type ≡ None) (inferred_inputs plan inferred op)) (Contains (inferred_inputs plan inferred op) None)

-- an operator gives this type for the types of its inputs
pub record GivesType (spec : OpSpec) (sources : List VarType) (type : VarType) : Type 0 where
  pub captures : List ColType
  pub scalars : drop (bag_inputs_of spec) sources ≡ map scalar captures
  pub gives : typed_as spec (take (bag_inputs_of spec) sources) captures ≡ Ok type

-- what is inferred of an operator's type
abbrev pub IsInference : PlanOf → List (Option VarType) → ℕ → Inference → Type 0
IsInference plan inferred op Waits = LacksInputs plan inferred op
IsInference plan inferred op Refused = ¬ HasTypes plan
IsInference plan inferred op (Is type) = IsForced plan inferred op type

-- nothing more can be inferred of an operator's type
abbrev pub IsTried : PlanOf → List (Option VarType) → ℕ → Type 0
IsTried plan inferred op = IsSome (inferred_at inferred op) ⊎ LacksInputs plan inferred op

-- how many types are not inferred
abbrev pub not_inferred : List (Option VarType) → ℕ
not_inferred = count_by is_none

-- from these types to those: no types fit; or nothing changes, and this holds; or fewer are left
abbrev pub IsHeadway : PlanOf → List (Option VarType) → List (Option VarType) → Type 0 → Headway → Type 0
IsHeadway plan before after tried headway.Refused = ¬ HasTypes plan
IsHeadway plan before after tried headway.Ended = (after ≡ before) × tried
IsHeadway plan before after tried headway.Goes = AreInferred plan after × (not_inferred after < not_inferred before)

-- no other types fit, and these fit at each operator that is no phi
pub record AreForced (plan : PlanOf) (types : List VarType) : Type 0 where
  pub many : length types ≡ length plan.ops
  pub only : (others : List VarType) → AreTypes plan others → others ≡ types
  pub typed : EachOp plan (λ op. is_phi (op_at plan op) ≡ false → IsTypedOperator plan types op)
  pub wide : AreBags types

-- what is left to ask of such types: operands of phis, truth values for branches, and routes
abbrev pub PhisFit : PlanOf → List VarType → Type 0
PhisFit plan types = EachOp plan (λ op. IsTrue (is_phi (op_at plan op)) → HasOperands plan types op)

abbrev pub TruthsGiven : PlanOf → List VarType → Type 0
TruthsGiven plan types = EachBlock plan (λ block. IsTrue (is_branch (block_at plan block).leave) → type_at types (last_of (block_at plan block)) ≡ scalar Truth)

abbrev pub RoutesGiven : PlanOf → List VarType → Type 0
RoutesGiven plan types = EachEdge plan (λ edge. (edge_at plan edge).route ≡ route_wanted plan types (edge_at plan edge))
