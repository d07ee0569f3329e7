-- The type of what an operator gives, by the types of its bags and of the captured scalars.
use Rattle.std.specs.Prelude.{◌≡◌, ◌≤◌, ⊤, ℕ, ◌+◌, List, [], ◌∷◌, ◌++◌, length, All, Bool, true, false, IsTrue, Option, Some, None, option_map, Result, Err, slice_get, nat_lt, if◌then◌else◌}
use Rattle.std.specs.Cmp.Lexicographic.{pointwise}
use Rattle.std.specs.Option.{ok_or}
use Rattle.mit_rows.specs.declared.row.TheConstants.{MAX_COLUMNS}
use Rattle.mit_rows.specs.declared.value.ColType.{ColType}
use Rattle.mit_rows.specs.declared.value.ColType.TheVariants.{Int, Text, Bool as Truth}
use Rattle.mit_expr.specs.Types.{same_type, type_in, where_are, where_is}
use Rattle.mit_ops.specs.declared.kinds.Agg.{Agg}
use Rattle.mit_ops.specs.declared.kinds.Agg.TheVariants as agg
use Rattle.mit_ops.specs.declared.kinds.Flat.{Flat}
use Rattle.mit_ops.specs.declared.kinds.Flat.TheVariants.{Words, Range}
use Rattle.mit_ops.specs.declared.kinds.OpSpec.{OpSpec}
use Rattle.mit_ops.specs.declared.kinds.OpSpec.TheVariants as op
use Rattle.mit_ops.specs.declared.types.TheConstants.{MAX_CAPTURES}
use Rattle.mit_ops.specs.declared.types.VarType.{VarType}
use Rattle.mit_ops.specs.declared.types.OpRefused.{OpRefused}
use Rattle.mit_ops.specs.declared.types.OpRefused.TheVariants.{TooLarge, TooManyColumns, WrongType, NoMemory}

-- at most `MAX_COLUMNS` columns, and exactly one where it is a scalar
abbrev pub IsBagType : VarType → Type 0
IsBagType type = (length type.cols ≤ MAX_COLUMNS) × (IsTrue type.scalar → length type.cols ≡ 1)

abbrev pub AreBags : List VarType → Type 0
AreBags = All IsBagType

-- a bag of these columns, and a scalar of this type
abbrev pub bag : List ColType → VarType
bag columns = record { scalar = false; cols = columns }

abbrev pub scalar : ColType → VarType
scalar is = record { scalar = true; cols = is ∷ [] }

-- the columns of the first and of the second bag
abbrev pub first : List VarType → List ColType
first [] = []
first (input ∷ inputs) = input.cols

abbrev pub second : List VarType → List ColType
second [] = []
second (input ∷ inputs) = first inputs

-- whether a type is there and is this one
abbrev pub is_a : ColType → Option ColType → Bool
is_a wanted None = false
is_a wanted (Some found) = same_type wanted found

-- the types of all of these, where each has one
abbrev pub and_types : Option ColType → Option (List ColType) → Option (List ColType)
and_types None more = None
and_types (Some is) None = None
and_types (Some is) (Some more) = Some (is ∷ more)

abbrev pub types_of : {A : Type 0} → (A → Option ColType) → List A → Option (List ColType)
types_of type_of [] = Some []
types_of type_of (one ∷ more) = and_types (type_of one) (types_of type_of more)

-- whether columns are as many and of the same types
abbrev pub same_types : List ColType → List ColType → Bool
same_types = pointwise same_type

-- whether the types of keys are there on both sides, and are the same
abbrev pub keys_fit : Option (List ColType) → Option (List ColType) → Bool
keys_fit None right = false
keys_fit (Some left) None = false
keys_fit (Some left) (Some right) = same_types left right

-- one byte of ASCII
abbrev pub is_separator : List ℕ → Bool
is_separator [] = false
is_separator (byte ∷ []) = nat_lt byte 128
is_separator (byte ∷ _ ∷ _) = false

-- the type of the column that a flat map adds
abbrev pub flat_type : Flat → List ColType → List ColType → Option ColType
flat_type (Words expr separator) columns captures =
    if is_separator separator then where_is Text Text (type_in columns captures expr) else None
flat_type (Range from to) columns captures =
    where_are Int Int (type_in columns captures from) (type_in columns captures to)

-- the type of the column that a reduction adds to its keys
abbrev pub agg_type : Agg → List ColType → Option ColType
agg_type agg.Count columns = Some Int
agg_type (agg.Sum column) columns = where_is Int Int (slice_get columns column)
agg_type (agg.Min column) columns = slice_get columns column
agg_type (agg.Max column) columns = slice_get columns column

-- a bag of these columns and one more
abbrev pub with_column : Option (List ColType) → Option ColType → Option VarType
with_column None more = None
with_column (Some columns) None = None
with_column (Some columns) (Some more) = Some (bag (columns ++ more ∷ []))

-- the one column of a bag
abbrev pub only_column : List ColType → Option ColType
only_column [] = None
only_column (is ∷ []) = Some is
only_column (is ∷ _ ∷ _) = None

-- the type of what each kind gives, or none
abbrev pub result : OpSpec → List VarType → List ColType → Option VarType
result (op.Scalar expr) bags captures = option_map scalar (type_in [] captures expr)
result (op.Read name types) bags captures = if is_a Text (type_in [] captures name) then Some (bag types) else None
result (op.Map exprs) bags captures = option_map bag (types_of (type_in (first bags) captures) exprs)
result (op.Filter expr) bags captures = if is_a Truth (type_in (first bags) captures expr) then Some (bag (first bags)) else None
result (op.FlatMap flat) bags captures = with_column (Some (first bags)) (flat_type flat (first bags) captures)
result (op.Join left right) bags captures =
    if keys_fit (types_of (slice_get (first bags)) left) (types_of (slice_get (second bags)) right)
    then Some (bag (first bags ++ second bags)) else None
result (op.Reduce keys agg) bags captures = with_column (types_of (slice_get (first bags)) keys) (agg_type agg (first bags))
result op.Union bags captures = if same_types (first bags) (second bags) then Some (bag (first bags)) else None
result op.Distinct bags captures = Some (bag (first bags))
result op.Only bags captures = option_map scalar (only_column (first bags))
result op.Count bags captures = Some (scalar Int)
result (op.Sum column) bags captures = option_map scalar (where_is Int Int (slice_get (first bags) column))
result (op.MakeRow exprs) bags captures = option_map bag (types_of (type_in [] captures) exprs)
result (op.Empty types) bags captures = Some (bag types)
result (op.Write name) bags captures = if is_a Text (type_in [] captures name) then Some (bag []) else None
result op.Copy bags captures = slice_get bags 0

-- how many columns an operator names or makes
abbrev pub width : OpSpec → List VarType → ℕ
width (op.Read name types) bags = length types
width (op.Map exprs) bags = length exprs
width (op.FlatMap flat) bags = length (first bags) + 1
width (op.Join left right) bags = length (first bags) + length (second bags)
width (op.Reduce keys agg) bags = length keys + 1
width (op.MakeRow exprs) bags = length exprs
width (op.Empty types) bags = length types
width _ bags = 0

abbrev pub is_wide : OpSpec → List VarType → Bool
is_wide spec bags = nat_lt MAX_COLUMNS (width spec bags)

-- why an operator has no result
pub data Refusal : Type 0 where
  -- it captures more than `MAX_CAPTURES` scalars
  too_large : Refusal
  -- it names or makes more than `MAX_COLUMNS` columns
  too_many_columns : Refusal
  -- no kind gives a type
  wrong_type : Refusal

-- the type of what an operator gives, or why it is refused
abbrev pub typed_as : OpSpec → List VarType → List ColType → Result VarType Refusal
typed_as spec bags captures =
    if nat_lt MAX_CAPTURES (length captures) then Err too_large
    else if is_wide spec bags then Err too_many_columns
    else ok_or (result spec bags captures) wrong_type

-- a refusal is the one that is due; out of memory says nothing
abbrev pub Refuses : Result VarType Refusal → OpRefused → Type 0
Refuses due TooLarge = due ≡ Err too_large
Refuses due TooManyColumns = due ≡ Err too_many_columns
Refuses due WrongType = due ≡ Err wrong_type
Refuses due NoMemory = ⊤
