-- A text in which tokens are written is cut into these tokens.
use Rattle.std.proofs.Common.{◌≡◌, ◌<◌, ℕ, List, [], ◌∷◌, ◌++◌, length, Bool, true, false, ltb, eqb, ◌&&◌, get_or, slice_get, unwrap_or, refl, ap, ◌∙◌, arith, append_assoc, inl, inr, zero-add}
use Rattle.std.specs.List.{enumerate_from, list_all}
use Rattle.std.proofs.lemmas.Bool.{and_parts, cases_Bool, eqb-true}
use Rattle.std.proofs.lemmas.Bool.Decides.{nat_tests}
use Rattle.std.proofs.lemmas.List.Folds.{list_all_at}
use Rattle.std.proofs.lemmas.List.FromFn.{get_or-enumerate_from, length-enumerate_from}
use Rattle.std.proofs.lemmas.Option.{unwrap_or-slice_get}
use Rattle.std.proofs.lemmas.Str.{IsUtf8-from_ascii}
use Rattle.mit_lex.specs.Pieces.{piece_at, symbol_piece, word_piece}
use Rattle.mit_lex.specs.Tables.{keywords, symbols}
use Rattle.mit_lex.specs.Valid.{IsToken}
use Rattle.mit_lex.specs.Written.{IsGap, IsWrittenAs, gap_first, nothing_written, token_first, token_text}
use Rattle.mit_lex.specs.declared.piece.Piece.{Piece}
use Rattle.mit_lex.specs.declared.piece.Piece.TheVariants.{Found}
use Rattle.mit_lex.specs.declared.token.TokenKind.{TokenKind}
use Rattle.mit_lex.specs.declared.token.TokenKind.TheVariants.{Name, Number, Column, Text, Symbol, Keyword}
use Rattle.mit_lex.proofs.Cuts.{Cuts, ReadsAs, cuts_append, cuts_gap, cuts_nil, cuts_token, reads_column, reads_name, reads_number}
use Rattle.mit_lex.proofs.Runs.{passing_ascii}
use Rattle.mit_lex.proofs.WrittenTexts.{reads_text}

-- ---- the tables, by a test of all their places

-- the token is this symbol or keyword
is_same : TokenKind → TokenKind → Bool
is_same (Symbol place) (Symbol other) = eqb place other
is_same (Keyword place) (Keyword other) = eqb place other
is_same _ _ = false

-- the piece is this symbol or keyword, of this size
is_found : TokenKind → ℕ → Piece → Bool
is_found kind size (Found other len) = is_same other kind && eqb len size
is_found kind size _ = false

-- these bytes, before this gap and these bytes, are cut as this token
is_cut : ℕ → List ℕ → TokenKind → List ℕ → Bool
is_cut gap rest kind bytes = ltb 0 (length bytes) && list_all (λ byte. ltb byte 128) bytes && is_found kind (length bytes) (piece_at (bytes ++ gap ∷ rest))

-- and so are those at each place of the table
all_cut : ℕ → List ℕ → (ℕ → TokenKind) → List (List ℕ) → Bool
all_cut gap rest kind table = list_all (λ entry. is_cut gap rest (kind entry.0) entry.1) (enumerate_from 0 table)

symbols_cut : (gap : ℕ) (rest : List ℕ) → IsGap gap → all_cut gap rest (λ place. Symbol place) symbols ≡ true
unfolding all_cut is_cut is_found is_same symbols piece_at symbol_piece
symbols_cut gap rest (inl blank) = rw blank refl
symbols_cut gap rest (inr line) = rw line refl

keywords_cut : (gap : ℕ) (rest : List ℕ) → IsGap gap → all_cut gap rest (λ place. Keyword place) keywords ≡ true
unfolding all_cut is_cut is_found is_same keywords piece_at word_piece
keywords_cut gap rest (inl blank) = rw blank refl
keywords_cut gap rest (inr line) = rw line refl

-- ---- what the tests say

same_is : (kind other : TokenKind) → is_same kind other ≡ true → kind ≡ other
unfolding is_same
same_is (Symbol place) (Symbol other) same = ap (λ (n : ℕ). Symbol n) (eqb-true place other same)
same_is (Keyword place) (Keyword other) same = ap (λ (n : ℕ). Keyword n) (eqb-true place other same)
same_is _ _ same = cc

found_is : (kind : TokenKind) (size : ℕ) (piece : Piece) → is_found kind size piece ≡ true → piece ≡ Found kind size
unfolding is_found
found_is kind size (Found other len) found =
    let parts = and_parts (is_same other kind) (eqb len size) found in rw (same_is other kind parts.0, eqb-true len size parts.1) refl
found_is kind size _ found = cc

entry_cut : (gap : ℕ) (rest : List ℕ) (kind : ℕ → TokenKind) (table : List (List ℕ)) (place : ℕ) → place < length table
    → all_cut gap rest kind table ≡ true → is_cut gap rest (kind place) (unwrap_or (slice_get table place) []) ≡ true
unfolding all_cut
entry_cut gap rest kind table place inside all =
    let test = λ (entry : ℕ × List ℕ). is_cut gap rest (kind entry.0) entry.1 in
    let entry = get_or (enumerate_from 0 table) place (0, []) in
    let is : entry ≡ (place, unwrap_or (slice_get table place) []) =
    get_or-enumerate_from 0 table place (0, []) inside ∙ rw (zero-add place, unwrap_or-slice_get table place []) refl in
    elim (cases_Bool (test entry)) [
      | inl passes ↦ rw is at passes
      | inr fails ↦
          let within : place < length (enumerate_from 0 table) = rw (length-enumerate_from 0 table) inside in
          let none = list_all_at test (enumerate_from 0 table) place (0, []) within fails in cc
    ]

below_ascii : (byte : ℕ) → ltb byte 128 ≡ true → byte < 128
below_ascii byte below = grind (arith, nat_tests)

cut_reads : (kind : TokenKind) (bytes : List ℕ) → ((gap : ℕ) (rest : List ℕ) → IsGap gap → is_cut gap rest kind bytes ≡ true) → ReadsAs bytes kind
unfolding is_cut
cut_reads kind bytes cut =
    let some = ltb 0 (length bytes) in
    let ascii = list_all (λ byte. ltb byte 128) bytes in
    let parts = λ (gap : ℕ) (rest : List ℕ) (is_gap : IsGap gap).
    and_parts (some && ascii) (is_found kind (length bytes) (piece_at (bytes ++ gap ∷ rest))) (cut gap rest is_gap) in
    let front = and_parts some ascii (parts 32 [] (inl refl)).0 in
    let first : some ≡ true = front.0 in
    record {
      some = grind (arith, nat_tests);
      utf8 = IsUtf8-from_ascii bytes (passing_ascii (λ byte. ltb byte 128) below_ascii bytes front.1);
      cut = λ gap rest is_gap. found_is kind (length bytes) (piece_at (bytes ++ gap ∷ rest)) (parts gap rest is_gap).1;
    }

table_reads : (kind : ℕ → TokenKind) (table : List (List ℕ)) (place : ℕ) → place < length table
    → ((gap : ℕ) (rest : List ℕ) → IsGap gap → all_cut gap rest kind table ≡ true) → ReadsAs (unwrap_or (slice_get table place) []) (kind place)
table_reads kind table place inside all =
    cut_reads (kind place) (unwrap_or (slice_get table place) []) (λ gap rest is_gap. entry_cut gap rest kind table place inside (all gap rest is_gap))

-- ---- tokens and texts

reads_token : (kind : TokenKind) → IsToken kind → ReadsAs (token_text kind) kind
unfolding symbols keywords
reads_token (Name name) valid = reads_name name valid
reads_token (Number value) valid = reads_number value valid
reads_token (Column value) valid = reads_column value valid
reads_token (Text bytes) valid = reads_text bytes valid
reads_token (Symbol place) valid = table_reads (λ place. Symbol place) symbols place valid symbols_cut
reads_token (Keyword place) valid = table_reads (λ place. Keyword place) keywords place valid keywords_cut

pub written_cuts : {text : List ℕ} {kinds : List TokenKind} → IsWrittenAs text kinds → Cuts text kinds
written_cuts nothing_written = cuts_nil
written_cuts (gap_first gap is_gap later) = cuts_append (cuts_gap gap is_gap) (written_cuts later)
written_cuts (token_first {text = text} kind gap valid is_gap later) =
    rw (← append_assoc (token_text kind) (gap ∷ []) text) (cuts_append (cuts_token gap is_gap (reads_token kind valid)) (written_cuts later))
