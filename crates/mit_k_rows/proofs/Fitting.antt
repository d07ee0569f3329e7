-- What an operator that takes no bags gives; and over lists that fit an operator of these kinds each row may be asked.
use Rattle.std.proofs.Common.{◌≡◌, ◌<◌, ◌≤◌, ◌+◌, ℕ, zero, suc, List, [], length, map, IsSome, Option, Some, None, refl, arith}
use Rattle.std.specs.List.{All}
use Rattle.mit_rows.specs.Bags.{RowOf}
use Rattle.mit_rows.specs.declared.row.TheConstants.{MAX_COLUMNS}
use Rattle.mit_rows.specs.declared.value.ColType.{ColType}
use Rattle.mit_rows.specs.declared.value.ColType.TheVariants as is
use Rattle.mit_rows.specs.declared.value.Value.{Value}
use Rattle.mit_files.specs.Files.{FileMap}
use Rattle.mit_expr.specs.Types.{type_in, type_of_value}
use Rattle.mit_expr.specs.declared.expr.Expr.{Expr}
use Rattle.mit_ops.specs.Answers.{at_row, settled}
use Rattle.mit_ops.specs.EachRow.{given_all}
use Rattle.mit_ops.specs.Forms.{part_answer, rows_at}
use Rattle.mit_ops.specs.Kinds.{bag_inputs_of, kind_of}
use Rattle.mit_ops.specs.Operators.{bags_in, captures_among, form_of}
use Rattle.mit_ops.specs.Parts.{Fits}
use Rattle.mit_ops.specs.Results.{and_types, flat_type, types_of}
use Rattle.mit_ops.specs.declared.kinds.Flat.{Flat}
use Rattle.mit_ops.specs.declared.kinds.OpSpec.{OpSpec}
use Rattle.mit_ops.specs.declared.kinds.OpSpec.TheVariants as op
use Rattle.mit_k_rows.specs.Gives.{CanGive, rows_given}
use Rattle.mit_k_rows.specs.RowKinds.{IsRowKind}

-- an operator that takes no bags gives something once
pub once_first : (spec : OpSpec) (files : FileMap) (captures : List Value) (parts : ℕ) (inputs : List (List RowOf)) → IsRowKind (kind_of spec) → bag_inputs_of spec ≡ 0
    → settled (at_row [] (rows_given spec captures [])) ≡ part_answer (form_of spec files captures) parts 0 (bags_in spec inputs)
unfolding given_all
once_first (op.Scalar expr) files captures parts inputs of_rows none = refl
once_first (op.Read name types) files captures parts inputs of_rows none = cc of_rows
once_first (op.Map exprs) files captures parts inputs of_rows none = absurd (omega arith)
once_first (op.Filter expr) files captures parts inputs of_rows none = absurd (omega arith)
once_first (op.FlatMap flat) files captures parts inputs of_rows none = absurd (omega arith)
once_first (op.Join left right) files captures parts inputs of_rows none = absurd (omega arith)
once_first (op.Reduce keys agg) files captures parts inputs of_rows none = absurd (omega arith)
once_first op.Union files captures parts inputs of_rows none = absurd (omega arith)
once_first op.Distinct files captures parts inputs of_rows none = absurd (omega arith)
once_first op.Only files captures parts inputs of_rows none = absurd (omega arith)
once_first op.Count files captures parts inputs of_rows none = absurd (omega arith)
once_first (op.Sum column) files captures parts inputs of_rows none = absurd (omega arith)
once_first (op.MakeRow exprs) files captures parts inputs of_rows none = refl
once_first (op.Empty types) files captures parts inputs of_rows none = refl
once_first (op.Write name) files captures parts inputs of_rows none = absurd (omega arith)
once_first op.Copy files captures parts inputs of_rows none = absurd (omega arith)

-- ---- each row may be asked, by the laws of lists that fit
pub record Laws : Type 0 where
  pub made : (exprs : List Expr) (inputs : List (List RowOf)) (captures : List Value) → Fits (op.Map exprs) inputs → captures_among (op.Map exprs) inputs ≡ Some captures
      → All (λ row. IsSome (types_of (type_in (map type_of_value row) (map type_of_value captures)) exprs)) (rows_at inputs 0)
  pub made_few : (exprs : List Expr) (inputs : List (List RowOf)) → Fits (op.Map exprs) inputs → length exprs ≤ MAX_COLUMNS
  pub stays : (expr : Expr) (inputs : List (List RowOf)) (captures : List Value) → Fits (op.Filter expr) inputs → captures_among (op.Filter expr) inputs ≡ Some captures
      → All (λ row. type_in (map type_of_value row) (map type_of_value captures) expr ≡ Some is.Bool) (rows_at inputs 0)
  pub flat : (flat : Flat) (inputs : List (List RowOf)) (captures : List Value) → Fits (op.FlatMap flat) inputs → captures_among (op.FlatMap flat) inputs ≡ Some captures
      → All (λ row. IsSome (flat_type flat (map type_of_value row) (map type_of_value captures))) (rows_at inputs 0)
  pub flat_narrow : (flat : Flat) (inputs : List (List RowOf)) → Fits (op.FlatMap flat) inputs → All (λ row. length row + 1 ≤ MAX_COLUMNS) (rows_at inputs 0)
  pub scalar : (expr : Expr) (inputs : List (List RowOf)) (captures : List Value) → Fits (op.Scalar expr) inputs → captures_among (op.Scalar expr) inputs ≡ Some captures
      → IsSome (type_in [] (map type_of_value captures) expr)
  pub row : (exprs : List Expr) (inputs : List (List RowOf)) (captures : List Value) → Fits (op.MakeRow exprs) inputs → captures_among (op.MakeRow exprs) inputs ≡ Some captures
      → IsSome (types_of (type_in [] (map type_of_value captures)) exprs)
  pub row_few : (exprs : List Expr) (inputs : List (List RowOf)) → Fits (op.MakeRow exprs) inputs → length exprs ≤ MAX_COLUMNS

module _ (laws : Laws) where
  pub can_give : (spec : OpSpec) (inputs : List (List RowOf)) (captures : List Value) (input : ℕ) → Fits spec inputs → captures_among spec inputs ≡ Some captures → IsRowKind (kind_of spec)
      → input < bag_inputs_of spec → All (CanGive spec captures) (rows_at inputs input)
  can_give (op.Scalar expr) inputs captures input fits captured of_rows below = absurd (omega arith)
  can_give (op.Read name types) inputs captures input fits captured of_rows below = absurd (omega arith)
  can_give (op.Map exprs) inputs captures zero fits captured of_rows below = λ k d within. (laws.made_few exprs inputs fits, laws.made exprs inputs captures fits captured k d within)
  can_give (op.Map exprs) inputs captures (suc input) fits captured of_rows below = absurd (omega arith)
  can_give (op.Filter expr) inputs captures zero fits captured of_rows below = laws.stays expr inputs captures fits captured
  can_give (op.Filter expr) inputs captures (suc input) fits captured of_rows below = absurd (omega arith)
  can_give (op.FlatMap flat) inputs captures zero fits captured of_rows below = λ k d within. (laws.flat flat inputs captures fits captured k d within, laws.flat_narrow flat inputs fits k d within)
  can_give (op.FlatMap flat) inputs captures (suc input) fits captured of_rows below = absurd (omega arith)
  can_give (op.Join left right) inputs captures input fits captured of_rows below = cc of_rows
  can_give (op.Reduce keys agg) inputs captures input fits captured of_rows below = cc of_rows
  can_give op.Union inputs captures input fits captured of_rows below = λ k d within. tt
  can_give op.Distinct inputs captures input fits captured of_rows below = cc of_rows
  can_give op.Only inputs captures input fits captured of_rows below = cc of_rows
  can_give op.Count inputs captures input fits captured of_rows below = cc of_rows
  can_give (op.Sum column) inputs captures input fits captured of_rows below = cc of_rows
  can_give (op.MakeRow exprs) inputs captures input fits captured of_rows below = absurd (omega arith)
  can_give (op.Empty types) inputs captures input fits captured of_rows below = absurd (omega arith)
  can_give (op.Write name) inputs captures input fits captured of_rows below = cc of_rows
  can_give op.Copy inputs captures input fits captured of_rows below = λ k d within. tt

  one_type : (found : Option ColType) → IsSome found → IsSome (and_types found (Some []))
  one_type None some = some
  one_type (Some found) some = refl

  pub can_give_once : (spec : OpSpec) (inputs : List (List RowOf)) (captures : List Value) → Fits spec inputs → captures_among spec inputs ≡ Some captures → IsRowKind (kind_of spec)
      → bag_inputs_of spec ≡ 0 → CanGive spec captures []
  can_give_once (op.Scalar expr) inputs captures fits captured of_rows none = (omega arith, one_type _ (laws.scalar expr inputs captures fits captured))
  can_give_once (op.Read name types) inputs captures fits captured of_rows none = cc of_rows
  can_give_once (op.Map exprs) inputs captures fits captured of_rows none = absurd (omega arith)
  can_give_once (op.Filter expr) inputs captures fits captured of_rows none = absurd (omega arith)
  can_give_once (op.FlatMap flat) inputs captures fits captured of_rows none = absurd (omega arith)
  can_give_once (op.Join left right) inputs captures fits captured of_rows none = absurd (omega arith)
  can_give_once (op.Reduce keys agg) inputs captures fits captured of_rows none = absurd (omega arith)
  can_give_once op.Union inputs captures fits captured of_rows none = absurd (omega arith)
  can_give_once op.Distinct inputs captures fits captured of_rows none = absurd (omega arith)
  can_give_once op.Only inputs captures fits captured of_rows none = absurd (omega arith)
  can_give_once op.Count inputs captures fits captured of_rows none = absurd (omega arith)
  can_give_once (op.Sum column) inputs captures fits captured of_rows none = absurd (omega arith)
  can_give_once (op.MakeRow exprs) inputs captures fits captured of_rows none = (laws.row_few exprs inputs fits, laws.row exprs inputs captures fits captured)
  can_give_once (op.Empty types) inputs captures fits captured of_rows none = tt
  can_give_once (op.Write name) inputs captures fits captured of_rows none = absurd (omega arith)
  can_give_once op.Copy inputs captures fits captured of_rows none = absurd (omega arith)
