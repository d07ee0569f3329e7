-- The bag of a read.
use Rattle.std.proofs.Common.{◌≡◌, ◌≢◌, ◌∙◌, ◌≤◌, ℕ, Bool, true, false, List, [], ◌∷◌, length, map, Option, Some, None, Result, Ok, Err, ap, arith, refl, subst, sym, if◌then◌else◌, nat_lt}
use Rattle.std.proofs.lemmas.Bool.Decides.{nat_tests}
use Rattle.std.specs.Option.{ok_or}
use Rattle.std.specs.Prelude.{IfSome, option_and_then, option_map, pos, ◌↔◌}
use Rattle.std.specs.FinMap as fin
use Rattle.mit_rows.specs.Bags.{BagOf}
use Rattle.mit_rows.specs.declared.row.TheConstants.{MAX_COLUMNS}
use Rattle.mit_rows.specs.declared.value.ColType.{ColType}
use Rattle.mit_rows.specs.declared.value.Value.{Value}
use Rattle.mit_rows.specs.declared.value.Value.TheVariants as value
use Rattle.mit_files.specs.Files.{FileMap}
use Rattle.mit_files.specs.Names.{is_legal}
use Rattle.mit_files.specs.Rows.{rows_of}
use Rattle.mit_shelf.specs.Refused.{TellsBadRow}
use Rattle.mit_shelf.specs.Shelf.{Agrees, FetchesAs, Kept, bytes_at, kept}
use Rattle.mit_shelf.specs.Stops.{IfFolder}
use Rattle.mit_shelf.specs.declared.rows.RowsRefused.{RowsRefused}
use Rattle.mit_shelf.specs.declared.rows.RowsRefused.TheVariants as refused
use Rattle.mit_shelf.specs.declared.shelf.FetchFault.{FetchFault}
use Rattle.mit_shelf.specs.declared.shelf.FetchFault.TheVariants as fetched
use Rattle.mit_shelf.specs.declared.stop.Stop.{Stop}
use Rattle.mit_shelf.specs.declared.stop.Stop.TheVariants as stop
use Rattle.mit_expr.specs.declared.expr.Expr.{Expr}
use Rattle.mit_expr.specs.Values.{ValueOrFault, faults, gives, value_in}
use Rattle.mit_ops.specs.Answers.{BagOrFault, settled}
use Rattle.mit_ops.specs.EachRow.{kind_of_fault}
use Rattle.mit_ops.specs.Operators.{captured, file_rows, if_captured, read_rows, whole}
use Rattle.mit_ops.specs.Parts.{Fits}
use Rattle.mit_ops.specs.Results.{is_wide, result, too_large, too_many_columns, wrong_type}
use Rattle.mit_ops.specs.declared.faults.FaultKind.{FaultKind}
use Rattle.mit_ops.specs.declared.faults.FaultKind.TheVariants as fault
use Rattle.mit_ops.specs.declared.kinds.OpSpec.{OpSpec}
use Rattle.mit_ops.specs.declared.kinds.OpSpec.TheVariants as op
use Rattle.mit_ops.specs.declared.types.VarType.{VarType}
use Rattle.mit_step.specs.Running.{GivesBag, NamedBy, StopsAs}
use Rattle.mit_step.proofs.Wholes.{captured_values}

-- ---- the bag of some bytes

-- the fault of a record that does not fit
pub bad_row : (bytes : List ℕ) (types : List ColType) (number : ℕ) (why : RowsRefused) → why ≡ refused.BadRow number → TellsBadRow (rows_of bytes types) why
    → StopsAs (settled (file_rows types (Some bytes))) (stop.Fault (fault.BadRow number))
bad_row bytes types number why is tells =
    let P : RowsRefused → Type 0 = λ w. TellsBadRow (rows_of bytes types) w in
    let due : rows_of bytes types ≡ Err number = subst P is tells in
    (record { at = value.Int (pos number) ∷ []; kind = fault.BadRow number }, rw due refl, refl)

-- ---- the value of a name

-- the values that were captured
pub values_captured : (inputs : List BagOf) (values : List Value) → map (λ value. (value ∷ []) ∷ []) values ≡ inputs → captured inputs ≡ Some values
values_captured inputs values is = ap captured (sym is) ∙ captured_values values

-- what a name is over no row and the captured values
pub named_as : (name : Expr) (found : Option (List Value)) (values row here : List Value) (due : ValueOrFault) → found ≡ Some values → row ≡ [] → here ≡ values
    → value_in row here name ≡ due → option_map (λ captures. value_in [] captures name) found ≡ Some due
named_as name found values row here due there none same is =
    ap (option_map (λ captures. value_in [] captures name)) there ∙ ap Some (rw (none, same) at is)

-- ---- the file of a name

is_true : (b : Bool) → b ≢ false → b ≡ true
is_true true other = refl
is_true false other = absurd (other refl)

-- a fetch that does not tell of a bad name was one of a legal name
pub legal_name : (name : List ℕ) (found : Result ℕ (Stop FetchFault)) → (found ≡ Err (stop.Fault fetched.BadName)) ↔ (is_legal name ≡ false)
    → found ≢ Err (stop.Fault fetched.BadName) → is_legal name ≡ true
legal_name name found bad differs = is_true (is_legal name) (λ illegal. differs (bad.1 illegal))

-- files that agree with a shelf have a name as it is kept there
kept_there : (shelf : Kept) (name : List ℕ) (file : Option (List ℕ)) → kept shelf name ≡ Some file → (files : FileMap) → Agrees shelf files → fin.get files name ≡ file
kept_there shelf name file is files agrees =
    let P : Option (Option (List ℕ)) → Type 0 = λ k. IfSome k (λ f. fin.get files name ≡ f) in subst P is (agrees name)

-- the rows of a legal name are those of its file
rows_there : (files : FileMap) (types : List ColType) (name : List ℕ) (file : Option (List ℕ)) → is_legal name ≡ true → fin.get files name ≡ file
    → file_rows types file ≡ read_rows files types (gives (value.Text name))
rows_there files types name file legal there = rw (legal, there) refl

-- what is made of the bytes at the place that a fetch gave is what a read gives
pub read_found : (old new : Kept) (name : List ℕ) (told : Option FileMap) (place : ℕ) (bytes : List ℕ) (types : List ColType) (result : Result BagOf (Stop FaultKind))
    → is_legal name ≡ true → FetchesAs old new name told (Ok place) → bytes_at new place ≡ Some bytes → GivesBag (settled (file_rows types (Some bytes))) result
    → (files : FileMap) → Agrees new files → GivesBag (settled (read_rows files types (gives (value.Text name)))) result
read_found old new name told place bytes types result legal fetches at gives_it files agrees =
    let there : bytes_at new place ≡ Some fetches.0 = ap (option_and_then (λ (entry : List ℕ × Option (List ℕ)). entry.1)) fetches.1 in
    let is : fetches.0 ≡ bytes = cc in
    let found : fin.get files name ≡ Some bytes = kept_there new name (Some fetches.0) fetches.2.0 files agrees ∙ ap Some is in
    let P : BagOrFault → Type 0 = λ due. GivesBag (settled due) result in
    subst P (rows_there files types name (Some bytes) legal found) gives_it

-- a name that is kept as absent has no file
pub read_absent : (old new : Kept) (name : List ℕ) (told : Option FileMap) (types : List ColType) (why : Stop FetchFault) → why ≡ stop.Fault fetched.NoFile
    → is_legal name ≡ true → FetchesAs old new name told (Err why) → (files : FileMap) → Agrees new files
    → StopsAs (settled (read_rows files types (gives (value.Text name)))) (stop.Fault fault.NoFile)
read_absent old new name told types why is legal fetches files agrees =
    let P : Stop FetchFault → Type 0 = λ w. FetchesAs old new name told (Err w) in
    let keeps : FetchesAs old new name told (Err (stop.Fault fetched.NoFile)) = subst P is fetches in
    (record { at = []; kind = fault.NoFile }, ap settled (sym (rows_there files types name None legal (kept_there new name None keeps.0 files agrees))), refl)

-- a name that is not legal is at fault
pub read_illegal : (name : List ℕ) (types : List ColType) → is_legal name ≡ false → (files : FileMap)
    → StopsAs (settled (read_rows files types (gives (value.Text name)))) (stop.Fault fault.BadName)
read_illegal name types illegal files = (record { at = []; kind = fault.BadName }, rw illegal refl, refl)

-- ---- the whole operator

-- over the captured values that there are, a read gives the rows of the file of its name
read_captured : (found : Option (List Value)) (name : Expr) (types : List ColType) (files : FileMap) (due : ValueOrFault)
    → option_map (λ captures. value_in [] captures name) found ≡ Some due
    → if_captured found (λ captures. settled (read_rows files types (value_in [] captures name))) ≡ settled (read_rows files types due)
read_captured None name types files due is = cc
read_captured (Some captures) name types files due is =
    let same : value_in [] captures name ≡ due = cc in ap (λ d. settled (read_rows files types d)) same

pub read_whole : (spec : OpSpec) (inputs : List BagOf) (name : Expr) (types : List ColType) (files : FileMap) (due : ValueOrFault) → spec ≡ op.Read name types
    → option_map (λ captures. value_in [] captures name) (captured inputs) ≡ Some due → whole spec inputs files ≡ settled (read_rows files types due)
read_whole spec inputs name types files due is named =
    ap (λ (s : OpSpec). whole s inputs files) is ∙ read_captured (captured inputs) name types files due named

-- a read without a name stops with the name's fault
pub read_unnamed : (spec : OpSpec) (inputs : List BagOf) (name : Expr) (types : List ColType) (files : FileMap) (why : Stop FaultKind) → spec ≡ op.Read name types
    → NamedBy (option_map (λ captures. value_in [] captures name) (captured inputs)) (Err why) → StopsAs (whole spec inputs files) why
read_unnamed spec inputs name types files (stop.Fault kind) is (found, due, same) =
    (record { at = []; kind = kind_of_fault found }, read_whole spec inputs name types files (faults found) is due, same)
read_unnamed spec inputs name types files stop.Folder is named = tt
read_unnamed spec inputs name types files stop.NoMemory is named = tt

-- a name asks no folder
pub named_own : (due : Option ValueOrFault) (why : Stop FaultKind) (P : Type 0) → NamedBy due (Err why) → IfFolder why P
named_own due (stop.Fault kind) P named = tt
named_own due stop.Folder P named = absurd named
named_own due stop.NoMemory P named = tt

not_wide : {E : Type 0} (large wide : Bool) (a b : E) (found : Result VarType E) (type : VarType) → (if large then Err a else if wide then Err b else found) ≡ Ok type → wide ≡ false
not_wide true wide a b found type e = cc
not_wide false true a b found type e = cc
not_wide false false a b found type e = refl

within_columns : (count : ℕ) → nat_lt MAX_COLUMNS count ≡ false → count ≤ MAX_COLUMNS
within_columns count e = grind (arith, nat_tests)

-- a read that fits has no more than `MAX_COLUMNS` columns
pub read_few : (name : Expr) (types : List ColType) (inputs : List BagOf) → Fits (op.Read name types) inputs → length types ≤ MAX_COLUMNS
read_few name types inputs (bags, captures, type, fits) =
    within_columns (length types) (not_wide _ (is_wide (op.Read name types) bags) too_large too_many_columns (ok_or (result (op.Read name types) bags captures) wrong_type) type fits.typed)
