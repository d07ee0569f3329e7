-- The rows of records, as far as they were read.
use Rattle.std.proofs.Common.{◌≡◌, ◌≢◌, ℕ, ◌+◌, ◌<◌, ◌≤◌, Bool, true, false, cond, List, [], ◌∷◌, ◌++◌, length, get_or, drop, Option, Some, None, Result, Ok, Err, refl, sym, ap, ◌∙◌, arith, append_assoc, eq-eqb}
use Rattle.std.proofs.lemmas.Grind.{common_steps}
use Rattle.std.proofs.lemmas.List.{append-nil, drop_all, drop_more}
use Rattle.std.specs.Prelude.{IfOk, zero, suc, ◌==◌, ◌%◌, is_some, option_and_then, option_map}
use Rattle.csv.specs.Records.{field_at}
use Rattle.mit_rows.specs.Bags.{RowOf}
use Rattle.mit_rows.specs.declared.value.ColType.{ColType}
use Rattle.mit_rows.specs.declared.value.Value.{Value}
use Rattle.mit_files.specs.Rows.{field_of, first_row, part_from, part_of, row_of, rows_from, rows_of_part}
use Rattle.mit_shelf.specs.Adding.{AddsRow}

-- the field at a place within a record
pub field_at_is : (fields : List (List ℕ)) (place : ℕ) → place < length fields → field_at fields place ≡ Some (get_or fields place [])
unfolding field_at
field_at_is [] place h = absurd (omega arith)
field_at_is (field ∷ fields) zero h = refl
field_at_is (field ∷ fields) (suc place) h = field_at_is fields place (omega arith)

-- the same of what a look-up gave
pub field_here : (fields : List (List ℕ)) (place : ℕ) (field : List ℕ) → place < length fields → Some field ≡ field_at fields place → field ≡ get_or fields place []
field_here fields place field h e = let f = field_at_is fields place h in cc

pub field_there : (fields : List (List ℕ)) (place : ℕ) → place < length fields → None ≡ field_at fields place → ⊥
field_there fields place h e = let f = field_at_is fields place h in cc

-- ---- one field more

row_of_nil : row_of [] [] ≡ Some []
unfolding row_of
row_of_nil = refl

row_of_cons : (type : ColType) (types : List ColType) (field : List ℕ) (fields : List (List ℕ)) (value : Value) → field_of type field ≡ Some value
    → row_of (type ∷ types) (field ∷ fields) ≡ option_map (λ row. value ∷ row) (row_of types fields)
unfolding row_of
row_of_cons type types field fields value e = ap (option_and_then (λ (v : Value). option_map (λ row. v ∷ row) (row_of types fields))) e

row_of_misfit : (type : ColType) (types : List ColType) (field : List ℕ) (fields : List (List ℕ)) → field_of type field ≡ None
    → row_of (type ∷ types) (field ∷ fields) ≡ None
unfolding row_of
row_of_misfit type types field fields e = ap (option_and_then (λ (v : Value). option_map (λ row. v ∷ row) (row_of types fields))) e

some_after : (o : Option Value) (rest : Option RowOf) → is_some o ≡ true
    → is_some (option_and_then (λ (v : Value). option_map (λ row. v ∷ row) rest) o) ≡ is_some rest
some_after None rest e = cc
some_after (Some value) None e = refl
some_after (Some value) (Some row) e = refl

none_before : (o : Option Value) (rest : Option RowOf) → is_some o ≡ false
    → is_some (option_and_then (λ (v : Value). option_map (λ row. v ∷ row) rest) o) ≡ false
none_before None rest e = refl
none_before (Some value) rest e = cc

fits_cons : (type : ColType) (types : List ColType) (field : List ℕ) (fields : List (List ℕ)) → is_some (field_of type field) ≡ true
    → is_some (row_of (type ∷ types) (field ∷ fields)) ≡ is_some (row_of types fields)
unfolding row_of
fits_cons type types field fields e = some_after (field_of type field) (row_of types fields) e

fits_not : (type : ColType) (types : List ColType) (field : List ℕ) (fields : List (List ℕ)) → is_some (field_of type field) ≡ false
    → is_some (row_of (type ∷ types) (field ∷ fields)) ≡ false
unfolding row_of
fits_not type types field fields e = none_before (field_of type field) (row_of types fields) e

-- the types and fields that are left at a place within both
row_of_rest : (types : List ColType) (fields : List (List ℕ)) (column : ℕ) (type default : ColType) → column < length types → column < length fields
    → type ≡ get_or types column default
    → row_of (drop column types) (drop column fields) ≡ row_of (type ∷ drop (column + 1) types) (get_or fields column [] ∷ drop (column + 1) fields)
row_of_rest types fields column type default h k is =
    ap (λ (l : List ColType). row_of l (drop column fields)) (drop_more types column default h ∙ ap (λ (t : ColType). t ∷ drop (column + 1) types) (sym is))
    ∙ ap (row_of (type ∷ drop (column + 1) types)) (drop_more fields column [] k)

-- ---- a record of another length

none_after : (o : Option Value) (rest : Option RowOf) → rest ≡ None → option_and_then (λ (v : Value). option_map (λ row. v ∷ row) rest) o ≡ None
none_after None rest e = refl
none_after (Some value) rest e = ap (option_map (λ row. value ∷ row)) e

row_of_lengths : (types : List ColType) (fields : List (List ℕ)) → length fields ≢ length types → row_of types fields ≡ None
unfolding row_of
row_of_lengths [] [] h = absurd (h refl)
row_of_lengths [] (field ∷ fields) h = refl
row_of_lengths (type ∷ types) [] h = refl
row_of_lengths (type ∷ types) (field ∷ fields) h = none_after (field_of type field) (row_of types fields) (row_of_lengths types fields (λ e. h (ap suc e)))

pub row_of_other : (types : List ColType) (fields : List (List ℕ)) → length fields ≢ length types → ◌≡◌ {A = Option RowOf} None (row_of types fields)
row_of_other types fields h = sym (row_of_lengths types fields h)

pub fits_other : (types : List ColType) (fields : List (List ℕ)) → length fields ≢ length types → false ≡ is_some (row_of types fields)
fits_other types fields h = sym (ap is_some (row_of_lengths types fields h))

-- ---- whether a record fits

-- it fits where the fields left do
abbrev pub FitsFrom : List ColType → List (List ℕ) → ℕ → Type 0
FitsFrom types fields column = is_some (row_of types fields) ≡ is_some (row_of (drop column types) (drop column fields))

pub fits_more : (types : List ColType) (fields : List (List ℕ)) (column : ℕ) (type default : ColType) (field : List ℕ) → column < length types → length fields ≡ length types
    → type ≡ get_or types column default → field ≡ get_or fields column [] → FitsFrom types fields column → is_some (field_of type field) ≡ true
    → FitsFrom types fields (column + 1)
fits_more types fields column type default field h n is at before e =
    before ∙ ap is_some (row_of_rest types fields column type default h (omega arith) is)
    ∙ fits_cons type (drop (column + 1) types) (get_or fields column []) (drop (column + 1) fields) (ap (λ (f : List ℕ). is_some (field_of type f)) (sym at) ∙ e)

pub fits_bad : (types : List ColType) (fields : List (List ℕ)) (column : ℕ) (type default : ColType) (field : List ℕ) → column < length types → length fields ≡ length types
    → type ≡ get_or types column default → field ≡ get_or fields column [] → FitsFrom types fields column → is_some (field_of type field) ≡ false
    → false ≡ is_some (row_of types fields)
fits_bad types fields column type default field h n is at before e =
    sym (before ∙ ap is_some (row_of_rest types fields column type default h (omega arith) is)
    ∙ fits_not type (drop (column + 1) types) (get_or fields column []) (drop (column + 1) fields) (ap (λ (f : List ℕ). is_some (field_of type f)) (sym at) ∙ e))

pub fits_all : (types : List ColType) (fields : List (List ℕ)) (column : ℕ) → length fields ≡ length types → length types ≤ column
    → FitsFrom types fields column → true ≡ is_some (row_of types fields)
fits_all types fields column n h before =
    sym (before
    ∙ ap (λ (l : List ColType). is_some (row_of l (drop column fields))) (drop_all column types h)
    ∙ ap (λ (l : List (List ℕ)). is_some (row_of [] l)) (drop_all column fields (omega arith))
    ∙ ap is_some row_of_nil)

-- ---- the row of a record

-- the values so far, one of each field, and the fields left give the whole row
pub record Fills (types : List ColType) (fields : List (List ℕ)) (values : RowOf) (column : ℕ) : Type 0 where
  pub many : length values ≡ column
  pub whole : row_of types fields ≡ option_map (λ row. values ++ row) (row_of (drop column types) (drop column fields))

front_none : (o : Option RowOf) → o ≡ option_map (λ row. [] ++ row) o
front_none None = refl
front_none (Some row) = refl

pub fills_start : (types : List ColType) (fields : List (List ℕ)) → Fills types fields [] 0
fills_start types fields = record { many = refl; whole = front_none (row_of types fields) }

front_more : (values : RowOf) (value : Value) (o : Option RowOf)
    → option_map (λ row. values ++ row) (option_map (λ row. value ∷ row) o) ≡ option_map (λ row. (values ++ value ∷ []) ++ row) o
front_more values value None = refl
front_more values value (Some row) = ap Some (sym (append_assoc values (value ∷ []) row))

pub fills_more : (types : List ColType) (fields : List (List ℕ)) (values : RowOf) (column : ℕ) (type default : ColType) (field : List ℕ) (value : Value)
    → column < length types → length fields ≡ length types → type ≡ get_or types column default → field ≡ get_or fields column [] → Fills types fields values column
    → field_of type field ≡ Some value → Fills types fields (values ++ value ∷ []) (column + 1)
fills_more types fields values column type default field value h n is at f e = record {
  many = grind (arith, common_steps, f.many);
  whole = f.whole
      ∙ ap (option_map (λ row. values ++ row)) (row_of_rest types fields column type default h (omega arith) is)
      ∙ ap (option_map (λ row. values ++ row)) (row_of_cons type (drop (column + 1) types) (get_or fields column []) (drop (column + 1) fields) value (ap (field_of type) (sym at) ∙ e))
      ∙ front_more values value (row_of (drop (column + 1) types) (drop (column + 1) fields));
}

-- a field that does not fit
pub row_of_bad : (types : List ColType) (fields : List (List ℕ)) (values : RowOf) (column : ℕ) (type default : ColType) (field : List ℕ)
    → column < length types → length fields ≡ length types → type ≡ get_or types column default → field ≡ get_or fields column [] → Fills types fields values column
    → field_of type field ≡ None → ◌≡◌ {A = Option RowOf} None (row_of types fields)
row_of_bad types fields values column type default field h n is at f e =
    sym (f.whole
    ∙ ap (option_map (λ row. values ++ row)) (row_of_rest types fields column type default h (omega arith) is)
    ∙ ap (option_map (λ row. values ++ row)) (row_of_misfit type (drop (column + 1) types) (get_or fields column []) (drop (column + 1) fields) (ap (field_of type) (sym at) ∙ e)))

pub row_of_all : (types : List ColType) (fields : List (List ℕ)) (values : RowOf) (column : ℕ) → length fields ≡ length types → length types ≤ column
    → Fills types fields values column → Some values ≡ row_of types fields
row_of_all types fields values column n h f =
    sym (f.whole
    ∙ ap (λ (l : List ColType). option_map (λ row. values ++ row) (row_of l (drop column fields))) (drop_all column types h)
    ∙ ap (λ (l : List (List ℕ)). option_map (λ row. values ++ row) (row_of [] l)) (drop_all column fields (omega arith))
    ∙ ap (option_map (λ row. values ++ row)) row_of_nil
    ∙ ap Some (append-nil values))

-- one record more at the end: the row after those so far, or the first that does not fit
cons_first : (number : ℕ) (row : RowOf) (later : Result (List RowOf) ℕ) (rows : List RowOf) → first_row number (Some row) later ≡ Ok rows
    → (rest : List RowOf) × (later ≡ Ok rest) × (rows ≡ row ∷ rest)
cons_first number row (Ok rest) rows e = (rest, refl, cc e)
cons_first number row (Err bad) rows e = cc e

-- a good record, and the rows of those after it
good_first : (number : ℕ) (o : Option RowOf) (later : Result (List RowOf) ℕ) (rows : List RowOf) → first_row number o later ≡ Ok rows
    → (row : RowOf) × (rest : List RowOf) × (o ≡ Some row) × (later ≡ Ok rest) × (rows ≡ row ∷ rest)
good_first number None later rows e = cc e
good_first number (Some row) later rows e = let c = cons_first number row later rows e in (row, c.0, refl, c.1, c.2)

pub rows_more : (types : List ColType) (number : ℕ) (seen : List (List (List ℕ))) (rows : List RowOf) (fields : List (List ℕ)) (row : RowOf)
    → rows_from types number seen ≡ Ok rows → row_of types fields ≡ Some row → rows_from types number (seen ++ fields ∷ []) ≡ Ok (rows ++ row ∷ [])
unfolding rows_from
rows_more types number [] rows fields row r e = let none : [] ≡ rows = cc in rw (e, ← none) refl
rows_more types number (first ∷ seen) rows fields row r e =
    let good = good_first number (row_of types first) (rows_from types (number + 1) seen) rows r in
    let later = rows_more types (number + 1) seen good.1 fields row good.3 e in
    rw (good.2, later) (ap (λ (l : List RowOf). Ok (l ++ row ∷ [])) (sym good.4))

pub rows_bad : (types : List ColType) (number : ℕ) (seen later : List (List (List ℕ))) (rows : List RowOf) (fields : List (List ℕ))
    → rows_from types number seen ≡ Ok rows → row_of types fields ≡ None → rows_from types number (seen ++ fields ∷ later) ≡ Err (number + length seen)
unfolding rows_from
rows_bad types number [] later rows fields r e = rw e (ap Err (omega arith))
rows_bad types number (first ∷ seen) later rows fields r e =
    let good = good_first number (row_of types first) (rows_from types (number + 1) seen) rows r in
    let rest = rows_bad types (number + 1) seen later good.1 fields good.3 e in
    rw (good.2, rest) (ap Err (omega arith))

pub rows_none : (types : List ColType) (number : ℕ) → rows_from types number [] ≡ Ok []
unfolding rows_from
rows_none types number = refl

-- ---- the rows of a part

cond_append : {A : Type 0} (b : Bool) (first : A) (rest last : List A) → cond b (first ∷ (rest ++ last)) (rest ++ last) ≡ cond b (first ∷ rest) rest ++ last
cond_append true first rest last = refl
cond_append false first rest last = refl

pub part_push : (part parts number place : ℕ) (rows : List RowOf) (row : RowOf) → place ≡ number + length rows
    → part_from part parts number (rows ++ row ∷ []) ≡ part_from part parts number rows ++ cond (place % parts == part) (row ∷ []) []
unfolding part_from
part_push part parts number place [] row e =
    let same : number ≡ place = omega arith in
    ap (λ (n : ℕ). cond (n % parts == part) (row ∷ []) []) same
part_push part parts number place (first ∷ rows) row e =
    ap (λ (l : List RowOf). cond (number % parts == part) (first ∷ l) l) (part_push part parts (number + 1) place rows row (omega arith))
    ∙ cond_append (number % parts == part) first (part_from part parts (number + 1) rows) (cond (place % parts == part) (row ∷ []) [])

pub part_none : (part parts : ℕ) → part_of part parts [] ≡ []
unfolding part_from
part_none part parts = refl

-- the only part is the whole
all_rows_of : (number : ℕ) (rows : List RowOf) → part_from 0 1 number rows ≡ rows
unfolding part_from
all_rows_of number [] = refl
all_rows_of number (row ∷ rows) =
    let only : (number % 1 == 0) ≡ true = eq-eqb (number % 1) 0 (omega arith) in
    ap (λ b. cond b (row ∷ part_from 0 1 (number + 1) rows) (part_from 0 1 (number + 1) rows)) only ∙ ap (λ (l : List RowOf). row ∷ l) (all_rows_of (number + 1) rows)

pub whole_part : (all : Result (List RowOf) ℕ) (rows : List RowOf) → rows_of_part 0 1 all ≡ Ok rows → all ≡ Ok rows
whole_part (Ok whole) rows e = ap Ok (sym (all_rows_of 0 whole)) ∙ e
whole_part (Err bad) rows e = cc

pub whole_result : {T E : Type 0} (items : T → List RowOf) (all : Result (List RowOf) ℕ) (result : Result T E)
    → IfOk result (λ rows. rows_of_part 0 1 all ≡ Ok (items rows)) → IfOk result (λ rows. all ≡ Ok (items rows))
whole_result items all (Ok rows) is = whole_part all (items rows) is
whole_result items all (Err e) is = tt

-- ---- one record more

pub added : (wanted : Bool) (o : Option RowOf) (old new : List RowOf) (fits : Bool) → AddsRow wanted o old new fits → fits ≡ true
    → (row : RowOf) × (o ≡ Some row) × (new ≡ old ++ cond wanted (row ∷ []) [])
added wanted None old new fits is e = cc
added true (Some row) old new fits is e = (row, refl, is.1)
added false (Some row) old new fits is e = (row, refl, is.1 ∙ sym (append-nil old))

pub refused : (wanted : Bool) (o : Option RowOf) (old new : List RowOf) (fits : Bool) → AddsRow wanted o old new fits → fits ≡ false → o ≡ None
refused wanted None old new fits is e = refl
refused true (Some row) old new fits is e = let t : fits ≡ true = is.0 in cc
refused false (Some row) old new fits is e = let t : fits ≡ true = is.0 in cc

pub rows_many : (types : List ColType) (number : ℕ) (seen : List (List (List ℕ))) (rows : List RowOf) → rows_from types number seen ≡ Ok rows → length rows ≡ length seen
unfolding rows_from
rows_many types number [] rows e = let none : [] ≡ rows = cc in sym (ap (λ (l : List RowOf). length l) none)
rows_many types number (fields ∷ seen) rows e =
    let good = good_first number (row_of types fields) (rows_from types (number + 1) seen) rows e in
    ap (λ (l : List RowOf). length l) good.4 ∙ ap suc (rows_many types (number + 1) seen good.1 good.3)
