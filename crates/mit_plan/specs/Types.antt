-- Types of a plan's operators: those that fit the operators and the edges between them.
use Rattle.std.specs.Prelude.{◌≡◌, ℕ, List, [], length, map, take, drop, All, Ok, slice_index_or, MatchBool}
use Rattle.mit_rows.specs.declared.value.ColType.{ColType}
use Rattle.mit_ops.specs.Kinds.{bag_inputs_of}
use Rattle.mit_ops.specs.Results.{bag, scalar, typed_as}
use Rattle.mit_ops.specs.declared.types.VarType.{VarType}
use Rattle.mit_plan.specs.Plans.{EachOp, PlanOf, inputs_of, is_phi, op_at}
use Rattle.mit_plan.specs.declared.plan.Edge.{Edge}

-- the type of an operator
abbrev pub type_at : List VarType → ℕ → VarType
type_at types op = slice_index_or types op (bag [])

-- the types of what comes by these edges
abbrev pub source_types : List VarType → List Edge → List VarType
source_types types = map (λ edge. type_at types edge.from)

-- the types of the bags that an operator takes
abbrev pub input_bag_types : PlanOf → List VarType → ℕ → List VarType
input_bag_types plan types op = take (bag_inputs_of (op_at plan op).spec) (source_types types (inputs_of plan op))

-- the types of what it captures
abbrev pub captured_types : PlanOf → List VarType → ℕ → List VarType
captured_types plan types op = drop (bag_inputs_of (op_at plan op).spec) (source_types types (inputs_of plan op))

-- what it captures is a scalar each, and it gives its type for them and its bags; that of a write has no columns
pub record IsTypedOperator (plan : PlanOf) (types : List VarType) (op : ℕ) : Type 0 where
  pub captures : List ColType
  pub scalars : captured_types plan types op ≡ map scalar captures
  pub gives : typed_as (op_at plan op).spec (input_bag_types plan types op) captures ≡ Ok (type_at types op)

-- a phi has the type of each of its operands
abbrev pub HasOperands : PlanOf → List VarType → ℕ → Type 0
HasOperands plan types op = All (λ type. type ≡ type_at types op) (source_types types (inputs_of plan op))

-- the type of an operator fits
abbrev pub TypeFits : PlanOf → List VarType → ℕ → Type 0
TypeFits plan types op = MatchBool (is_phi (op_at plan op)) (HasOperands plan types op) (IsTypedOperator plan types op)

-- one type for each operator, each of which fits
pub record AreTypes (plan : PlanOf) (types : List VarType) : Type 0 where
  pub many : length types ≡ length plan.ops
  pub each : EachOp plan (TypeFits plan types)
