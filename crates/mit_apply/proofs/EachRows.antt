-- What one row gives, value by value and piece by piece.
use Rattle.std.proofs.Common.{◌≡◌, ℕ, suc, cond, eqb, ℤ, pos, zero, negsuc, ◌-ℤ◌, ◌+◌, ◌+ℤ◌, ◌<◌, ◌≤◌, ◌==◌, List, [], ◌∷◌, ◌++◌, map, length, drop, take, get_or, Bool, true, false, Option, Some, None, Ok, Err, IsSome, refl, ap, sym, ◌∙◌, arith, nat_lt, append_assoc}
use Rattle.std.specs.List.{All, filter, list_any, onto_first, slice_split}
use Rattle.std.proofs.Math.Bool.{or-false}
use Rattle.std.proofs.Math.Seq.{take-append_seam, take-length}
use Rattle.std.specs.Prelude.{◌≤ℤ◌, unsigned_abs, Result, OnErr, IfErr}
use Rattle.std.proofs.lemmas.Int.{ints}
use Rattle.std.proofs.lemmas.Bool.{eqb-true, le-ltb, lt-ltb}
use Rattle.std.proofs.lemmas.List.{append-nil, at_drop_more, drop_all, map-append}
use Rattle.std.proofs.lemmas.List.Elements.{All-cons, filter-append}
use Rattle.std.proofs.lemmas.List.FromFn.{map-range_with_len_more}
use Rattle.std.specs.Result.{IsErrAnd}
use Rattle.mit_rows.specs.Bags.{RowOf}
use Rattle.mit_rows.specs.declared.value.Value.{Value}
use Rattle.mit_rows.specs.declared.value.Value.TheVariants.{Int, Text}
use Rattle.mit_rows.specs.declared.value.ColType.{ColType}
use Rattle.mit_expr.specs.Values.{ValueOrFault, gives}
use Rattle.mit_ops.specs.Answers.{RowsOrKind}
use Rattle.mit_ops.specs.EachRow.{given, given_all, numbers_below, numbers_from}
use Rattle.mit_ops.specs.Results.{and_types, types_of}
use Rattle.mit_ops.specs.declared.kinds.TheConstants.{MAX_RANGE}
use Rattle.mit_ops.specs.declared.faults.FaultKind.TheVariants.{RangeTooLong}
use Rattle.mit_apply.specs.Stops.{Adds, Stops}
use Rattle.mit_apply.specs.declared.each_row.OpStop.{OpStop}
use Rattle.mit_apply.specs.declared.each_row.OpStop.TheVariants.{NoMemory}

-- one row of values so far and of those that follow
abbrev pub one_row : List Value → RowOf → RowsOrKind
one_row done values = Ok ((done ++ values) ∷ [])

-- ---- the expressions of a row
module _ {X : Type 0} (type : X → Option ColType) where
  both_typed : (is : Option ColType) (more : Option (List ColType)) → IsSome (and_types is more) → IsSome is × IsSome more
  both_typed None more h = cc
  both_typed (Some is) None h = cc
  both_typed (Some is) (Some more) h = (refl, refl)

  pub next_typed : (xs : List X) (i : ℕ) (x : X) → i < length xs → x ≡ get_or xs i x → IsSome (types_of type (drop i xs)) → IsSome (type x) × IsSome (types_of type (drop (i + 1) xs))
  next_typed xs i x l is h =
      both_typed (type x) (types_of type (drop (i + 1) xs)) (rw (at_drop_more (λ rest. types_of type rest) xs i x l, ← is) at h)

module _ {X : Type 0} (value : X → ValueOrFault) where
  next_given : (xs : List X) (i : ℕ) (x : X) (done : List Value) → i < length xs → x ≡ get_or xs i x
      → given_all (map value (drop i xs)) (one_row done) ≡ given (value x) (λ v. given_all (map value (drop (i + 1) xs)) (λ values. one_row done (v ∷ values)))
  unfolding given_all
  next_given xs i x done l is = at_drop_more (λ rest. given_all (map value rest) (one_row done)) xs i x l
      ∙ ap (λ t. given (value t) (λ v. given_all (map value (drop (i + 1) xs)) (λ values. one_row done (v ∷ values)))) (sym is)

  pub given_more : (xs : List X) (i : ℕ) (x : X) (v : Value) (done more : List Value) (due : RowsOrKind) → i < length xs → x ≡ get_or xs i x → value x ≡ gives v → more ≡ done ++ v ∷ []
      → due ≡ given_all (map value (drop i xs)) (one_row done) → due ≡ given_all (map value (drop (i + 1) xs)) (one_row more)
  given_more xs i x v done more due l is e m h =
      h ∙ next_given xs i x done l is ∙ ap (λ t. given t (λ v. given_all (map value (drop (i + 1) xs)) (λ values. one_row done (v ∷ values)))) e
      ∙ rw m (ap (given_all (map value (drop (i + 1) xs))) (λ j values. Ok (sym (append_assoc done (v ∷ []) values) j ∷ [])))

  pub given_stop : (xs : List X) (i : ℕ) (x : X) (stop : OpStop) (done : List Value) (due : RowsOrKind) → i < length xs → x ≡ get_or xs i x
      → ((next : Value → RowsOrKind) → Stops (given (value x) next) stop) → due ≡ given_all (map value (drop i xs)) (one_row done) → Stops due stop
  given_stop xs i x stop done due l is s h =
      rw (h ∙ next_given xs i x done l is) (s (λ v. given_all (map value (drop (i + 1) xs)) (λ values. one_row done (v ∷ values))))

  pub given_end : (xs : List X) (i : ℕ) (done : List Value) (due : RowsOrKind) → length xs ≤ i → due ≡ given_all (map value (drop i xs)) (one_row done) → due ≡ Ok (done ∷ [])
  unfolding given_all
  given_end xs i done due l h =
      h ∙ ap (λ rest. given_all (map value rest) (one_row done)) (drop_all i xs l) ∙ ap (λ t. Ok (t ∷ [])) (append-nil done)

-- ---- the pieces of a text
-- the rows of pieces so far
abbrev pub word_rows : RowOf → List (List ℕ) → List RowOf
word_rows row pieces = map (λ piece. row ++ Text piece ∷ []) (filter (λ piece. nat_lt 0 (length piece)) pieces)

rows_of_some : (row : RowOf) (piece : List ℕ) → nat_lt 0 (length piece) ≡ true → word_rows row (piece ∷ []) ≡ (row ++ Text piece ∷ []) ∷ []
rows_of_some row piece e = rw e refl

rows_of_none : (row : RowOf) (piece : List ℕ) → nat_lt 0 (length piece) ≡ false → word_rows row (piece ∷ []) ≡ []
rows_of_none row piece e = rw e refl

word_rows-push : (row : RowOf) (pieces : List (List ℕ)) (piece : List ℕ) → word_rows row (pieces ++ piece ∷ []) ≡ word_rows row pieces ++ word_rows row (piece ∷ [])
word_rows-push row pieces piece =
    ap (map (λ piece. row ++ Text piece ∷ [])) (filter-append (λ piece. nat_lt 0 (length piece)) pieces (piece ∷ []))
    ∙ map-append (λ piece. row ++ Text piece ∷ []) (filter (λ piece. nat_lt 0 (length piece)) pieces) (filter (λ piece. nat_lt 0 (length piece)) (piece ∷ []))

pub word_kept : (row : RowOf) (pieces : List (List ℕ)) (piece : List ℕ) (start before after : List RowOf) → nat_lt 0 (length piece) ≡ true
    → before ≡ start ++ word_rows row pieces → after ≡ before ++ (row ++ Text piece ∷ []) ∷ [] → after ≡ start ++ word_rows row (pieces ++ piece ∷ [])
word_kept row pieces piece start before after some b a =
    rw (word_rows-push row pieces piece, rows_of_some row piece some) (rw (a, b) (simp append_assoc))

pub word_left_out : (row : RowOf) (pieces : List (List ℕ)) (piece : List ℕ) (start before : List RowOf) → nat_lt 0 (length piece) ≡ false
    → before ≡ start ++ word_rows row pieces → before ≡ start ++ word_rows row (pieces ++ piece ∷ [])
word_left_out row pieces piece start before none b =
    rw (word_rows-push row pieces piece, rows_of_none row piece none, append-nil) b

-- whether a piece is empty
pub some_byte : (piece : List ℕ) → false ≡ (length piece == 0) → nat_lt 0 (length piece) ≡ true
some_byte [] is = cc
some_byte (byte ∷ bytes) is = lt-ltb 0 (length (byte ∷ bytes)) (omega arith)

pub no_byte : (piece : List ℕ) → true ≡ (length piece == 0) → nat_lt 0 (length piece) ≡ false
no_byte piece is = le-ltb 0 (length piece) (omega (arith, eqb-true (length piece) 0 (sym is)))

-- no piece is longer than the text
onto_first_short : (byte : ℕ) (parts : List (List ℕ)) (most : ℕ) → All (λ part. length part ≤ most) parts → All (λ part. length part ≤ suc most) (onto_first byte parts)
onto_first_short byte [] most h = All-cons (λ part. length part ≤ suc most) (byte ∷ []) [] (omega arith) (λ k d l. absurd (omega arith))
onto_first_short byte (part ∷ parts) most h =
    let here : length part ≤ most = h 0 part (omega arith) in
    All-cons (λ part. length part ≤ suc most) (byte ∷ part) parts (omega arith)
    (λ k d l. let there : length (get_or parts k d) ≤ most = h (suc k) d (omega arith) in omega arith)

pub pieces_short : (test : ℕ → Bool) (text : List ℕ) → All (λ part. length part ≤ length text) (slice_split test text)
pieces_short test [] = All-cons (λ part. length part ≤ 0) [] [] (omega arith) (λ k d l. absurd (omega arith))
pieces_short test (byte ∷ text) =
    elim (test byte) as (λ b. All (λ part. length part ≤ suc (length text)) (cond b ([] ∷ slice_split test text) (onto_first byte (slice_split test text)))) [
      | true ↦ All-cons (λ part. length part ≤ suc (length text)) [] (slice_split test text) (omega arith)
          (λ k d l. let there : length (get_or (slice_split test text) k d) ≤ length text = pieces_short test text k d l in omega arith)
      | false ↦ onto_first_short byte (slice_split test text) (length text) (pieces_short test text)
    ]

-- a separator of one byte
pub one_separator : (separator : ℕ) (text : List ℕ) → slice_split (λ byte. eqb byte separator) text ≡ slice_split (λ byte. list_any (λ other. eqb byte other) (separator ∷ [])) text
one_separator separator text = ap (λ test. slice_split test text) (λ i byte. sym (or-false (eqb byte separator)) i)

-- ---- the numbers of a range
pub numbers_push : (row : RowOf) (from : ℤ) (n : ℕ) → numbers_from row from (n + 1) ≡ numbers_from row from n ++ (row ++ Int (from +ℤ pos n) ∷ []) ∷ []
numbers_push row from n = map-range_with_len_more (λ k. row ++ Int (from +ℤ pos k) ∷ []) 0 n n (omega arith)

pub numbers_added : (row : RowOf) (from between : ℤ) (count : ℕ) (before after : List RowOf) → between ≡ pos count → count ≤ MAX_RANGE
    → after ≡ before ++ numbers_from row from count → Adds (numbers_below row from between) before after
numbers_added row from between count before after b l e =
    (numbers_from row from count, rw (b, le-ltb MAX_RANGE count l) refl, e)

-- one number more
pub next_number : (row : RowOf) (from number next : ℤ) (start before after : List RowOf) → from ≤ℤ number → next ≡ number +ℤ pos 1
    → before ≡ start ++ numbers_from row from (unsigned_abs (number -ℤ from)) → after ≡ before ++ (row ++ Int number ∷ []) ∷ [] → after ≡ start ++ numbers_from row from (unsigned_abs (next -ℤ from))
next_number row from number next start before after l n b a =
    let count : unsigned_abs (next -ℤ from) ≡ unsigned_abs (number -ℤ from) + 1 = omega (arith, ints) in
    let here : from +ℤ pos (unsigned_abs (number -ℤ from)) ≡ number = omega (arith, ints) in
    rw (count, numbers_push row from (unsigned_abs (number -ℤ from)), here) (rw (a, b) (simp append_assoc))

pub distance : (from to : ℤ) → from ≤ℤ to → to -ℤ from ≡ pos (unsigned_abs (to -ℤ from))
distance from to l = omega (arith, ints)

-- no numbers: where the range ends before it begins, and before the first one
pub no_numbers : (row : RowOf) (from between : ℤ) (before : List RowOf) → between ≤ℤ pos 0 → Adds (numbers_below row from between) before before
no_numbers row from (pos zero) before h = ([], refl, sym (append-nil before))
no_numbers row from (pos (suc n)) before h = absurd (omega (arith, ints))
no_numbers row from (negsuc n) before h = ([], refl, sym (append-nil before))

pub too_many_numbers : (row : RowOf) (from between : ℤ) (count : ℕ) → between ≡ pos count → MAX_RANGE < count → numbers_below row from between ≡ Err RangeTooLong
too_many_numbers row from between count b l = rw (b, lt-ltb MAX_RANGE count l) refl

pub none_yet : (row : RowOf) (from : ℤ) (before : List RowOf) → before ≡ before ++ numbers_from row from (unsigned_abs (from -ℤ from))
none_yet row from before =
    let none : unsigned_abs (from -ℤ from) ≡ 0 = omega (arith, ints) in
    rw none (sym (append-nil before))

-- what holds in any case holds at an error, as that rows stay where none is added
pub kept : {T E P : Type 0} (result : Result T E) → P → OnErr result P
kept (Ok value) holds = tt
kept (Err error) holds = holds

pub none_added : {T E : Type 0} (result : Result T E) (rows : List RowOf) → OnErr result (take (length rows) rows ≡ rows)
none_added result rows = kept result (take-length rows)

-- what an error leaves: the rows from before, and others behind them
pub kept_front : {T E : Type 0} (result : Result T E) (start more before after : List RowOf) → before ≡ start ++ more → after ≡ before → OnErr result (take (length start) after ≡ start)
kept_front (Ok value) start more before after b a = tt
kept_front (Err error) start more before after b a = rw (a, b) (take-append_seam start more)

-- out of memory is a stop of any call
pub memory_stops : {T : Type 0} (result : Result T OpStop) (due : RowsOrKind) → IsErrAnd result (λ stop. stop ≡ NoMemory) → IfErr result (Stops due)
memory_stops (Ok value) due is = tt
memory_stops (Err stop) due is = rw is tt
