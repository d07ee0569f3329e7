-- An operator cut into partitions, and lists of rows that fit it.
use Rattle.std.specs.Prelude.{◌≡◌, ◌≤◌, ℕ, zero, suc, List, [], ◌∷◌, ◌++◌, map, length, IsTrue, ◌==◌, Ok, if◌then◌else◌}
use Rattle.std.specs.List.{All, AllZip}
use Rattle.mit_rows.specs.Bags.{RowOf, bag_of}
use Rattle.mit_rows.specs.declared.value.ColType.{ColType}
use Rattle.mit_files.specs.Files.{FileMap}
use Rattle.mit_expr.specs.Types.{type_of_value}
use Rattle.mit_ops.specs.Answers.{BagOrFault, both}
use Rattle.mit_ops.specs.Kinds.{bag_inputs_of}
use Rattle.mit_ops.specs.Operators.{part_apply}
use Rattle.mit_ops.specs.Results.{AreBags, typed_as}
use Rattle.mit_ops.specs.Routes.{lists_at, route_to}
use Rattle.mit_ops.specs.declared.kinds.OpSpec.{OpSpec}
use Rattle.mit_ops.specs.declared.types.VarType.{VarType}

-- the sum of the answers of the partitions below this number
unfoldable pub sum_parts : (ℕ → BagOrFault) → ℕ → BagOrFault
sum_parts answer zero = Ok []
sum_parts answer (suc part) = both (answer part) (sum_parts answer part)

-- what comes to a partition, where each input is cut into parts and has so many columns
abbrev pub routed_lists : OpSpec → (ℕ → ℕ) → ℕ → ℕ → List (List (List RowOf)) → List (List RowOf)
routed_lists spec columns parts part cuts = lists_at (λ input. route_to spec input (columns input)) parts part 0 cuts

-- the sum of all partitions' answers, each over what comes to it
abbrev pub sum_of_parts : OpSpec → (ℕ → ℕ) → ℕ → List (List (List RowOf)) → FileMap → BagOrFault
sum_of_parts spec columns parts cuts files =
    sum_parts (λ part. part_apply spec part parts (routed_lists spec columns parts part cuts) files) parts

-- each input is cut into no more parts than there are partitions
abbrev pub CutInto : ℕ → List (List (List RowOf)) → Type 0
CutInto parts = All (λ cut. length cut ≤ parts)

-- lists of rows that are the same bags
abbrev pub SameBags : List (List RowOf) → List (List RowOf) → Type 0
SameBags inputs others = map bag_of inputs ≡ map bag_of others

-- ---- types

-- rows of these columns
abbrev pub HaveColumns : List ColType → List RowOf → Type 0
HaveColumns columns rows = All (λ row. map type_of_value row ≡ columns) rows

-- the columns of each input: those of the bags, and the one of each captured scalar
abbrev pub input_columns : List VarType → List ColType → List (List ColType)
input_columns bags captures = map (λ bag. bag.cols) bags ++ map (λ capture. capture ∷ []) captures

-- an operator gives this type over inputs of these types, and each row has its input's columns
pub record FitsAs (spec : OpSpec) (bags : List VarType) (captures : List ColType) (inputs : List (List RowOf)) (result : VarType) : Type 0 where
  pub count : length bags ≡ bag_inputs_of spec
  pub wide : AreBags bags
  pub typed : typed_as spec bags captures ≡ Ok result
  pub rows : AllZip HaveColumns (input_columns bags captures) inputs

-- lists of rows fit an operator where there are types of its inputs that it takes, and each row has its input's columns
abbrev pub Fits : OpSpec → List (List RowOf) → Type 0
Fits spec inputs = (bags : List VarType) × (captures : List ColType) × (result : VarType) × FitsAs spec bags captures inputs result

-- where a scalar is given, its one row stands in partition 0
abbrev pub StandsIn : ℕ → VarType → List RowOf → Type 0
StandsIn part type rows = IsTrue type.scalar → length rows ≡ (if part == 0 then 1 else 0)
