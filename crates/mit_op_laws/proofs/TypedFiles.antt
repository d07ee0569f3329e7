-- The rows of a file have the columns that were asked for.
use Rattle.std.proofs.Common.{◌≡◌, ℕ, ◌+◌, true, false, List, [], ◌∷◌, Option, Some, None, Result, Ok, Err, option_map, if◌then◌else◌, refl, subst}
use Rattle.std.specs.Prelude.{option_and_then}
use Rattle.std.specs.FinMap as fin
use Rattle.std.proofs.lemmas.List.Elements.{All-cons, All-nil}
use Rattle.std.specs.List.{All}
use Rattle.mit_rows.specs.Bags.{RowOf}
use Rattle.mit_rows.specs.Integers.{int_of}
use Rattle.mit_rows.specs.declared.value.ColType.{ColType}
use Rattle.mit_rows.specs.declared.value.ColType.TheVariants as is
use Rattle.mit_rows.specs.declared.value.Value.{Value}
use Rattle.mit_rows.specs.declared.value.Value.TheVariants as value
use Rattle.mit_files.specs.Names.{is_legal}
use Rattle.mit_files.specs.Files.{FileMap}
use Rattle.mit_files.specs.Rows.{bool_of, field_of, first_row, row_of, rows_from, rows_of, text_of}
use Rattle.mit_expr.specs.Types.{type_of_value}
use Rattle.mit_expr.specs.Values.{ValueOrFault, faults, gives, untyped}
use Rattle.mit_ops.specs.Operators.{file_rows, read_rows}
use Rattle.mit_ops.specs.declared.faults.FaultKind.TheVariants.{BadName}
use Rattle.mit_op_laws.proofs.TypedAnswers.{Gives}
use Rattle.mit_op_laws.proofs.TypedRows.{Of}

made_typed : {A : Type 0} (make : A → Value) (type : ColType) (o : Option A) (value : Value) → ((x : A) → type_of_value (make x) ≡ type) → option_map make o ≡ Some value → type_of_value value ≡ type
made_typed make type None value all e = cc
made_typed make type (Some x) value all e = let same : make x ≡ value = cc in subst (λ (v : Value). type_of_value v ≡ type) same (all x)

field_typed : (type : ColType) (field : List ℕ) (found : Value) → field_of type field ≡ Some found → type_of_value found ≡ type
field_typed is.Int field found e = made_typed value.Int is.Int (int_of field) found (λ x. refl) e
field_typed is.Text field found e = made_typed value.Text is.Text (text_of field) found (λ x. refl) e
field_typed is.Bool field found e = made_typed value.Bool is.Bool (bool_of field) found (λ x. refl) e

-- a value before more values, where both are there
pub cons_some : (o : Option Value) (rest : Option RowOf) (row : RowOf) → option_and_then (λ value. option_map (λ values. value ∷ values) rest) o ≡ Some row
    → (value : Value) × (values : RowOf) × (o ≡ Some value) × (rest ≡ Some values) × (value ∷ values ≡ row)
cons_some None rest row e = cc
cons_some (Some value) None row e = cc
cons_some (Some value) (Some values) row e = (value, values, refl, refl, (cc))

row_typed : (types : List ColType) (fields : List (List ℕ)) (row : RowOf) → row_of types fields ≡ Some row → Of types row
unfolding row_of
row_typed [] [] row e = let none : [] ≡ row = cc in subst (Of []) none refl
row_typed [] (field ∷ fields) row e = cc
row_typed (type ∷ types) [] row e = cc
row_typed (type ∷ types) (field ∷ fields) row e =
    let some = cons_some (field_of type field) (row_of types fields) row e in
    subst (Of (type ∷ types)) some.4 (λ i. field_typed type field some.0 some.2 i ∷ row_typed types fields some.1 some.3 i)

first_some : (number : ℕ) (o : Option RowOf) (later : Result (List RowOf) ℕ) (rows : List RowOf) → first_row number o later ≡ Ok rows
    → (row : RowOf) × (rest : List RowOf) × (o ≡ Some row) × (later ≡ Ok rest) × (row ∷ rest ≡ rows)
first_some number None later rows e = cc
first_some number (Some row) (Ok rest) rows e = (row, rest, refl, refl, (cc))
first_some number (Some row) (Err bad) rows e = cc

rows_typed : (types : List ColType) (number : ℕ) (records : List (List (List ℕ))) (rows : List RowOf) → rows_from types number records ≡ Ok rows → All (Of types) rows
unfolding rows_from
rows_typed types number [] rows e = let none : [] ≡ rows = cc in subst (All (Of types)) none (All-nil (Of types))
rows_typed types number (fields ∷ later) rows e =
    let some = first_some number (row_of types fields) (rows_from types (number + 1) later) rows e in
    subst (All (Of types)) some.4 (All-cons (Of types) some.0 some.1 (row_typed types fields some.0 some.2) (rows_typed types (number + 1) later some.1 some.3))

records_give : (types : List ColType) (bytes : List ℕ) (rows : Result (List RowOf) ℕ) → rows_of bytes types ≡ rows → Gives (Of types) (file_rows types (Some bytes))
records_give types bytes (Ok rows) e = rw e (rows_typed types 0 _ rows e)
records_give types bytes (Err number) e = rw e tt

file_gives : (types : List ColType) (found : Option (List ℕ)) → Gives (Of types) (file_rows types found)
file_gives types None = tt
file_gives types (Some bytes) = records_give types bytes (rows_of bytes types) refl

pub read_gives : (files : FileMap) (types : List ColType) (name : ValueOrFault) → Gives (Of types) (read_rows files types name)
read_gives files types (gives (value.Text name)) =
    elim (is_legal name) as (λ b. Gives (Of types) (if b then file_rows types (fin.get files name) else Err (record { at = []; kind = BadName }))) [
      | true ↦ file_gives types (fin.get files name)
      | false ↦ tt
    ]
read_gives files types (gives (value.Int number)) = All-nil _
read_gives files types (gives (value.Bool truth)) = All-nil _
read_gives files types (faults fault) = tt
read_gives files types untyped = All-nil _
