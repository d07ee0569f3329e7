use Rattle.std.proofs.Common.{◌≤◌, ◌∙◌, ℕ, List, [], ◌∷◌, length, ap, arith}
use Rattle.std.proofs.lemmas.Bool.{and_parts, leb-true}
use Rattle.std.specs.Prelude.{Err}
use Rattle.mit_files.specs.Names.{IsLegal, is_legal}
use Rattle.mit_app.proofs.script.absent.Goals as goal

-- a legal name is short
legal_short : (name : List ℕ) → IsLegal name → length name ≤ 64
unfolding is_legal
legal_short [] legal = omega arith
legal_short (byte ∷ bytes) legal = leb-true (length (byte ∷ bytes)) 64 (and_parts _ _ legal).1

pub unreachable-requires : goal.unreachable-requires
unreachable-requires c =
    omega (arith, legal_short c.args.name.now c.requires, c.from_str.ensures.too_long.0 (c.in-Err-TooLong.is ∙ ap Err c.in-Err-TooLong.field-0-is))
