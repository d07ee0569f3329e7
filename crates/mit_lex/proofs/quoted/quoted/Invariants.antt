use Rattle.std.proofs.Common.{◌≡◌, ◌+◌, length, string_bytes}
use Rattle.std.specs.Str.{IsUtf8}
use Rattle.mit_lex.proofs.QuoteFacts.{after}
use Rattle.mit_lex.specs.Pieces.{quoted}
use Rattle.mit_lex.proofs.quoted.quoted.Given as goal

-- what was kept and what is left give the whole
abbrev pub invariant-loop-kept : goal.invariant-loop-kept
invariant-loop-kept l = record {
  so_far : quoted l.text ≡ after (string_bytes l.kept) l.size (quoted l.left);
  utf8 : IsUtf8 l.left;
  whole : l.size + length l.left ≡ length l.text;
}

abbrev pub decreases-loop-kept : goal.decreases-loop-kept
decreases-loop-kept l = length l.left
