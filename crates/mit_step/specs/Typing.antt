-- Devices of the proofs: nobody has to believe them. What the check tells of the bags of variables while a script runs.
use Rattle.std.specs.Prelude.{◌≡◌, ◌≢◌, ◌<◌, ◌≤◌, ℕ, List, [], ◌∷◌, drop, flat_map, get_or, length, map, true, IfSome, IsTrue, Some, Ok}
use Rattle.std.specs.List.{All, AllZip}
use Rattle.mit_rows.specs.Bags.{BagOf}
use Rattle.mit_rows.specs.declared.value.ColType.{ColType}
use Rattle.mit_rows.specs.declared.value.Value.{Value}
use Rattle.mit_ops.specs.Kinds.{bag_inputs_of, kind_of}
use Rattle.mit_ops.specs.Operators.{bags_in}
use Rattle.mit_ops.specs.Parts.{Fits, FitsAs, HaveColumns, StandsIn}
use Rattle.mit_ops.specs.Results.{AreBags, IsBagType, typed_as}
use Rattle.mit_ops.specs.declared.kinds.OpSpec.{OpSpec}
use Rattle.mit_ops.specs.declared.types.VarType.{VarType}
use Rattle.mit_script.specs.Accepted.{Known, check_of, first_type, in_order, is_assigned, unset}
use Rattle.mit_script.specs.Trees.{IsFormedHead, heads_in}
use Rattle.mit_script.specs.declared.tree.Stmt.{Stmt}

-- the bag of a variable
abbrev pub stored_bag : List BagOf → ℕ → BagOf
stored_bag store variable = get_or store variable []

-- the bags of an operator's arguments
abbrev pub inputs_in : List BagOf → List ℕ → List BagOf
inputs_in store args = map (stored_bag store) args

-- one row of one value
abbrev pub IsValue : BagOf → Type 0
IsValue rows = (value : Value) × (rows ≡ (value ∷ []) ∷ [])

-- the arguments of an operator are there and fit it, and a captured one is a value
pub record Argued (operator : OpSpec) (args : List ℕ) (store : List BagOf) : Type 0 where
  pub known : All (λ variable. variable < length store) args
  pub complete : bag_inputs_of operator ≤ length args
  pub fits : Fits operator (inputs_in store args)
  pub values : All IsValue (inputs_in store (drop (bag_inputs_of operator) args))

-- what an operator gave has the type that is found for it, whatever its inputs' types are
pub record IsMade (operator : OpSpec) (inputs : List BagOf) (bag : BagOf) : Type 0 where
  pub wide : (bags : List VarType) (captures : List ColType) (result : VarType) → AreBags bags → typed_as operator bags captures ≡ Ok result → IsBagType result
  pub columns : (bags : List VarType) (captures : List ColType) (result : VarType) → FitsAs operator bags captures inputs result → kind_of operator ≢ 14 → HaveColumns result.cols bag
  pub one : (bags : List VarType) (captures : List ColType) (result : VarType) → FitsAs operator bags captures inputs result → IsTrue result.scalar
      → AllZip (StandsIn 0) bags (bags_in operator inputs) → All (λ rows. length rows ≡ 1) (drop (bag_inputs_of operator) inputs) → length bag ≡ 1

-- a bag of this type
pub record HasType (type : VarType) (bag : BagOf) : Type 0 where
  pub wide : IsBagType type
  pub columns : HaveColumns type.cols bag
  pub one : IsTrue type.scalar → length bag ≡ 1

abbrev pub variable_type : List VarType → ℕ → VarType
variable_type types variable = get_or types variable unset

-- each variable that is assigned has its type already, and a bag of it
pub record StoreHolds (types : List VarType) (known : Known) (store : List BagOf) : Type 0 where
  pub typed : (variable : ℕ) → is_assigned known.assigned variable ≡ true → first_type known variable ≡ Some (variable_type types variable)
  pub held : (variable : ℕ) → is_assigned known.assigned variable ≡ true → HasType (variable_type types variable) (stored_bag store variable)

-- a type that is known is the variable's
abbrev pub Settles : List VarType → Known → Type 0
Settles types known = (variable : ℕ) → IfSome (first_type known variable) (λ type. variable_type types variable ≡ type)

-- a block is accepted from here on, where the bags have their types
pub record Ready (types : List VarType) (known after : Known) (block : List Stmt) (store : List BagOf) : Type 0 where
  pub checked : in_order (map check_of block) known ≡ Ok after
  pub settles : Settles types after
  pub formed : All (IsFormedHead (length store)) (flat_map heads_in block)
  pub assigned : length known.assigned ≡ length store
  pub typed : length known.types ≡ length store
  pub holds : StoreHolds types known store

abbrev pub IsReady : List Stmt → List BagOf → Type 0
IsReady block store = (types : List VarType) × (known : Known) × (after : Known) × Ready types known after block store
