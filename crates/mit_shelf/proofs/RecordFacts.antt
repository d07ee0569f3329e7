-- The records of a text, as far as they were read.
use Rattle.std.proofs.Common.{◌≡◌, ℕ, ◌+◌, ◌<◌, ◌≤◌, Bool, true, false, cond, List, [], ◌∷◌, ◌++◌, length, Option, Some, None, refl, ap, subst, ◌∙◌, arith}
use Rattle.std.specs.Prelude.{zero, suc, ◌==◌, ◌&&◌}
use Rattle.std.proofs.lemmas.List.{append-nil}
use Rattle.csv.specs.Machine.{Read, after_end, ends_at_end, ends_with, field_after, fields_after, in_field, is_byte, is_end, next_record, start_field, start_record, step}
use Rattle.csv.specs.Reading.{Reached, records, records_from}
use Rattle.csv.specs.declared.parser.Config.{Config}
use Rattle.csv.specs.declared.parser.State.{State}
use Rattle.csv.specs.declared.parser.State.TheVariants as st
use Rattle.csv.specs.declared.parser.Action.{Action}
use Rattle.csv.specs.declared.parser.Action.TheVariants as act
use Rattle.csv.specs.declared.parser.Terminator.{Terminator}
use Rattle.csv.specs.declared.parser.Terminator.TheVariants as term

-- a byte that ends a record leaves a state at which the text may end
abbrev AtBreak : State × Action → Type 0
AtBreak p = is_end p.1 ≡ true → ends_at_end p.0 ≡ false

break_if : (b : Bool) (p q : State × Action) → AtBreak p → AtBreak q → AtBreak (cond b p q)
break_if true p q f g = f
break_if false p q f g = g

after_end_breaks : (end : Terminator) (c : ℕ) → ends_at_end (after_end end c) ≡ false
after_end_breaks term.CRLF c = elim (c == 13) as (λ v. ends_at_end (cond v st.AfterCr st.StartRecord) ≡ false) [ true ↦ refl | false ↦ refl ]
after_end_breaks (term.Any t) c = refl

in_field_breaks : (cfg : Config) (c : ℕ) → AtBreak (in_field cfg c)
in_field_breaks cfg c =
    break_if (c == cfg.delimiter) (st.StartField, act.EndField) _ (λ e. cc)
    (break_if (ends_with cfg.terminator c) (after_end cfg.terminator c, act.EndRecord) (st.InField, act.Copy) (λ e. after_end_breaks cfg.terminator c) (λ e. cc))

start_field_breaks : (cfg : Config) (c : ℕ) → AtBreak (start_field cfg c)
start_field_breaks cfg c = break_if (cfg.quoting && (c == cfg.quote)) (st.InQuoted, act.Skip) (in_field cfg c) (λ e. cc) (in_field_breaks cfg c)

start_record_breaks : (cfg : Config) (c : ℕ) → AtBreak (start_record cfg c)
start_record_breaks cfg c =
    break_if (ends_with cfg.terminator c) (st.StartRecord, act.Skip) _ (λ e. cc)
    (break_if (is_byte cfg.comment c) (st.InComment, act.Skip) (start_field cfg c) (λ e. cc) (start_field_breaks cfg c))

step_breaks : (cfg : Config) (s : State) (c : ℕ) → AtBreak (step cfg s c)
step_breaks cfg st.StartRecord c = start_record_breaks cfg c
step_breaks cfg st.StartField c = start_field_breaks cfg c
step_breaks cfg st.InField c = in_field_breaks cfg c
step_breaks cfg st.InQuoted c =
    break_if (cfg.quoting && (c == cfg.quote)) (st.AfterQuote, act.Skip) _ (λ e. cc)
    (break_if (cfg.quoting && is_byte cfg.escape c) (st.InEscape, act.Skip) (st.InQuoted, act.Copy) (λ e. cc) (λ e. cc))
step_breaks cfg st.InEscape c = λ e. cc
step_breaks cfg st.AfterQuote c =
    break_if (cfg.quoting && cfg.double_quote && (c == cfg.quote)) (st.InQuoted, act.Copy) (in_field cfg c) (λ e. cc) (in_field_breaks cfg c)
step_breaks cfg st.InComment c = break_if (c == 10) (st.StartRecord, act.Skip) (st.InComment, act.Skip) (λ e. cc) (λ e. cc)
step_breaks cfg st.AfterCr c = break_if (c == 10) (st.StartRecord, act.Skip) (start_record cfg c) (λ e. cc) (start_record_breaks cfg c)

-- what a read leaves: no more bytes than there were, at a state at which the text may end
abbrev Leaves : List ℕ → Read → Type 0
Leaves bytes read = (length read.2 ≤ length bytes) × (ends_at_end read.1 ≡ false)

abbrev LeavesIf : List ℕ → Option Read → Type 0
LeavesIf bytes None = Unit {0}
LeavesIf bytes (Some read) = Leaves bytes read

at_end_leaves : (fields : List (List ℕ)) (b : Bool) → LeavesIf [] (cond b (Some (fields, st.StartRecord, [])) None)
at_end_leaves fields true = (omega arith, refl)
at_end_leaves fields false = tt

at_byte_leaves : (rest : List ℕ) (b : Bool) (read : Read) (more : Option Read) → (b ≡ true → Leaves rest read) → LeavesIf rest more
    → LeavesIf rest (cond b (Some read) more)
at_byte_leaves rest true read more f g = f refl
at_byte_leaves rest false read more f g = g

leaves_wider : (c : ℕ) (rest : List ℕ) (o : Option Read) → LeavesIf rest o → LeavesIf (c ∷ rest) o
leaves_wider c rest None h = tt
leaves_wider c rest (Some read) h = (omega (arith, h.0), h.1)

next_leaves : (cfg : Config) (s : State) (fields : List (List ℕ)) (field bytes : List ℕ) → LeavesIf bytes (next_record cfg s fields field bytes)
unfolding next_record
next_leaves cfg s fields field [] = at_end_leaves (fields ++ (field ∷ [])) (ends_at_end s)
next_leaves cfg s fields field (c ∷ rest) =
    leaves_wider c rest _ (
    at_byte_leaves rest (is_end (step cfg s c).1) (fields_after (step cfg s c).1 fields field, (step cfg s c).0, rest) _
    (λ e. (omega arith, step_breaks cfg s c e))
    (next_leaves cfg (step cfg s c).0 (fields_after (step cfg s c).1 fields field) (field_after (step cfg s c).1 c field) rest))

-- a read of a byte takes it
next_takes : (cfg : Config) (s : State) (c : ℕ) (rest : List ℕ) → LeavesIf rest (next_record cfg s [] [] (c ∷ rest))
unfolding next_record
next_takes cfg s c rest =
    at_byte_leaves rest (is_end (step cfg s c).1) (fields_after (step cfg s c).1 [] [], (step cfg s c).0, rest) _
    (λ e. (omega arith, step_breaks cfg s c e))
    (next_leaves cfg (step cfg s c).0 (fields_after (step cfg s c).1 [] []) (field_after (step cfg s c).1 c []) rest)

-- where the text may end, a record takes a byte or more
record_takes : (cfg : Config) (s : State) (bytes : List ℕ) (read : Read) → ends_at_end s ≡ false → next_record cfg s [] [] bytes ≡ Some read
    → (length read.2 < length bytes) × (ends_at_end read.1 ≡ false)
unfolding next_record
record_takes cfg s [] read b e = cc (rw b at e)
record_takes cfg s (c ∷ rest) read b e =
    let leaves = subst (LeavesIf rest) e (next_takes cfg s c rest) in (omega (arith, leaves.0), leaves.1)

-- the records of a text from a state, where each of them has a turn, are those that were read and those from there on
abbrev Splits : Config → ℕ → State → List ℕ → List (List (List ℕ)) → State → List ℕ → Type 0
Splits cfg turns s bytes rows now left =
    (more : ℕ) × (length left < more) × (records_from cfg turns s bytes ≡ rows ++ records_from cfg more now left)

reached_splits : (cfg : Config) (turns : ℕ) (s : State) (bytes : List ℕ) (rows : List (List (List ℕ))) (now : State) (left : List ℕ)
    → ends_at_end s ≡ false → length bytes < turns → Reached cfg s bytes rows now left → Splits cfg turns s bytes rows now left
unfolding Reached records_from
reached_splits cfg turns s bytes [] now left b t h = (turns, rw (← h.1) t, rw (h.0, h.1) refl)
reached_splits cfg zero s bytes (row ∷ rows) now left b t h = absurd (omega arith)
reached_splits cfg (suc turns) s bytes (row ∷ rows) now left b t h =
    let takes = record_takes cfg s bytes h.0 b h.1 in
    let rest = reached_splits cfg turns h.0.1 h.0.2 rows now left takes.1 (omega (arith, takes.0)) h.3 in
    (rest.0, rest.1, rw (h.1, h.2) (ap (λ (l : List (List (List ℕ))). h.0.0 ∷ l) rest.2))

-- records that were read stand first among all
pub records_begin : (cfg : Config) (bytes : List ℕ) (rows : List (List (List ℕ))) (now : State) (left : List ℕ)
    → Reached cfg st.StartRecord bytes rows now left → (later : List (List (List ℕ))) × (records cfg bytes ≡ rows ++ later)
records_begin cfg bytes rows now left h =
    let splits = reached_splits cfg (length bytes + 1) st.StartRecord bytes rows now left refl (omega arith) h in
    (records_from cfg splits.0 now left, splits.2)

no_more : (cfg : Config) (turns : ℕ) (s : State) (bytes : List ℕ) → next_record cfg s [] [] bytes ≡ None → records_from cfg turns s bytes ≡ []
unfolding records_from
no_more cfg zero s bytes e = refl
no_more cfg (suc turns) s bytes e = rw e refl

-- where none follows, they are all
pub records_end : (cfg : Config) (bytes : List ℕ) (rows : List (List (List ℕ))) (now : State) (left : List ℕ)
    → Reached cfg st.StartRecord bytes rows now left → next_record cfg now [] [] left ≡ None → records cfg bytes ≡ rows
records_end cfg bytes rows now left h e =
    let splits = reached_splits cfg (length bytes + 1) st.StartRecord bytes rows now left refl (omega arith) h in
    splits.2 ∙ ap (λ (l : List (List (List ℕ))). rows ++ l) (no_more cfg splits.0 now left e) ∙ append-nil rows
