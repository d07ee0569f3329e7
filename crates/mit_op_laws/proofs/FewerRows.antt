-- Lists that fit an operator still fit it with fewer rows.
use Rattle.std.proofs.Common.{List, [], ◌∷◌, length, replicate}
use Rattle.std.proofs.lemmas.List.Elements.{All-contains, All-nil, All-weaker}
use Rattle.std.specs.List.{All, AllZip, Contains}
use Rattle.mit_rows.specs.Bags.{RowOf}
use Rattle.mit_rows.specs.declared.value.ColType.{ColType}
use Rattle.mit_ops.specs.Parts.{Fits, FitsAs, HaveColumns, input_columns}
use Rattle.mit_ops.specs.declared.kinds.OpSpec.{OpSpec}
use Rattle.mit_ops.specs.declared.types.VarType.{VarType}
use Rattle.mit_op_laws.proofs.TypedRows.{Of}

-- each row of the fewer lists is in the list at its place
abbrev pub Among : List (List RowOf) → List (List RowOf) → Type 0
Among others inputs = AllZip (λ fewer all. All (Contains all) fewer) others inputs

among_have : (columns : List (List ColType)) (inputs others : List (List RowOf)) → AllZip HaveColumns columns inputs → Among others inputs → AllZip HaveColumns columns others
among_have [] [] [] have among = tt
among_have [] [] (fewer ∷ others) have among = absurd among
among_have [] (all ∷ inputs) others have among = absurd have
among_have (types ∷ columns) [] others have among = absurd have
among_have (types ∷ columns) (all ∷ inputs) [] have among = absurd among
among_have (types ∷ columns) (all ∷ inputs) (fewer ∷ others) have among =
    (All-weaker (Contains all) (Of types) (λ row at. All-contains (Of types) all row have.0 at) fewer among.0, among_have columns inputs others have.1 among.1)

-- other rows of the same columns
pub with_rows : (spec : OpSpec) (bags : List VarType) (captures : List ColType) (result : VarType) (inputs others : List (List RowOf)) → FitsAs spec bags captures inputs result
    → AllZip HaveColumns (input_columns bags captures) others → FitsAs spec bags captures others result
with_rows spec bags captures result inputs others fits have = record { count = fits.count; wide = fits.wide; typed = fits.typed; rows = have }

pub fewer_as : (spec : OpSpec) (bags : List VarType) (captures : List ColType) (result : VarType) (inputs others : List (List RowOf)) → FitsAs spec bags captures inputs result
    → Among others inputs → FitsAs spec bags captures others result
fewer_as spec bags captures result inputs others fits among =
    with_rows spec bags captures result inputs others fits (among_have (input_columns bags captures) inputs others fits.rows among)

pub fewer_fit : (spec : OpSpec) (inputs others : List (List RowOf)) → Fits spec inputs → Among others inputs → Fits spec others
fewer_fit spec inputs others (bags, captures, result, fits) among = (bags, captures, result, fewer_as spec bags captures result inputs others fits among)

none_among : (inputs : List (List RowOf)) → Among (replicate (length inputs) []) inputs
none_among [] = tt
none_among (all ∷ inputs) = (All-nil (Contains all), none_among inputs)

pub emptied_fit : (spec : OpSpec) (inputs : List (List RowOf)) → Fits spec inputs → Fits spec (replicate (length inputs) [])
emptied_fit spec inputs fits = fewer_fit spec inputs (replicate (length inputs) []) fits (none_among inputs)
