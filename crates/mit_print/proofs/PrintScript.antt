-- A printed script is read as the same script.
use Rattle.std.proofs.Common.{◌≡◌, ℕ, List, [], true, false, ltb, length, map, None, Ok, refl, arith}
use Rattle.std.specs.List.{AllByRecursion as Each}
use Rattle.std.specs.Str.{is_utf8}
use Rattle.std.proofs.lemmas.Bool.Decides.{nat_tests}
use Rattle.std.proofs.lemmas.List.Elements.{recursion_from_All}
use Rattle.mit_lex.specs.declared.limits.TheConstants.{MAX_SCRIPT}
use Rattle.mit_lex.specs.Tokens.{scanned, tokens_of}
use Rattle.mit_lex.specs.Valid.{IsToken}
use Rattle.mit_lex.specs.Written.{IsWrittenAs, nothing_written}
use Rattle.mit_script.specs.Grammar.{IsSpelled, Kinds, each_once, names_in}
use Rattle.mit_script.specs.PrintsBack.{CanBeSpelled, KeepsLimits, PrintsBack, cut}
use Rattle.mit_script.specs.declared.tree.Script.{Script}
use Rattle.mit_print.specs.Printed.{block_lines, printed}
use Rattle.mit_print.proofs.PrintNames.{IsFound, once_found}
use Rattle.mit_print.proofs.PrintStmts.{body_relined, lines_tokens, lines_written}

found_names : (names : List (List ℕ)) (tokens : Kinds) → names ≡ each_once (names_in tokens) → Each (IsFound names) (names_in tokens)
found_names names tokens is = rw is (once_found (names_in tokens))

-- what the law of writing says
pub record WritingLaw : Type 0 where
  pub utf8 : (text : List ℕ) (kinds : Kinds) → IsWrittenAs text kinds → is_utf8 text ≡ true
  pub whole : (text : List ℕ) (kinds : Kinds) → IsWrittenAs text kinds → (scanned 0 0 text).stop ≡ None
  pub cut : (text : List ℕ) (kinds : Kinds) → IsWrittenAs text kinds → map (λ token. token.kind) (scanned 0 0 text).tokens ≡ kinds

-- what is printed prints back
pub prints_back : WritingLaw → (script : Script) (text : List ℕ) → text ≡ printed script → CanBeSpelled script → PrintsBack script text
prints_back law script text is can =
    let all = body_relined script.names can.spelled.body (found_names script.names can.tokens can.spelled.named) [] nothing_written in
    let lines = block_lines script.names script.body [] in
    let valid = all.one.same.valid (recursion_from_All IsToken can.tokens can.valid) in
    let laid : IsWrittenAs text (lines_tokens lines) = rw is (lines_written lines all.indented valid) in
    record {
      utf8 = law.utf8 text (lines_tokens lines) laid;
      whole = law.whole text (lines_tokens lines) laid;
      spelled = rw (law.cut text (lines_tokens lines) laid) (record { named = rw all.one.same.names can.spelled.named; body = all.one.spelled });
    }

-- a text whose tokens keep the limits has just those
read_whole : (text : List ℕ) → is_utf8 text ≡ true → (scanned 0 0 text).stop ≡ None → KeepsLimits text → tokens_of text ≡ Ok (cut text)
unfolding tokens_of
read_whole text utf8 whole keeps =
    let size = keeps.size in
    let small : ltb MAX_SCRIPT (length text) ≡ false = grind (arith, nat_tests) in
    rw (small, utf8, keeps.runs, whole) refl

pub reads_back : (script : Script) (text : List ℕ) → PrintsBack script text → KeepsLimits text → IsSpelled text script
reads_back script text back keeps = record {
  tokens = cut text;
  read = read_whole text back.utf8 back.whole keeps;
  spelled = back.spelled;
}
