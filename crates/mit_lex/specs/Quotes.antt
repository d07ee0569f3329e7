-- Devices of the proofs: nobody has to believe them. The parts in which a quoted text is read.
use Rattle.std.specs.Prelude.{ℕ, List, [], ◌∷◌, Bool, false, not, ◌==◌, ◌||◌, if◌then◌else◌, Option, None}
use Rattle.mit_lex.specs.Pieces.{escaped}

-- a byte that stands for itself between quotes
abbrev pub is_plain : ℕ → Bool
is_plain byte = not ((byte == 34) || (byte == 92) || (byte == 10) || (byte == 13))

-- the text begins with a quote
abbrev pub is_closed : List ℕ → Bool
is_closed [] = false
is_closed (byte ∷ rest) = byte == 34

-- what the escape at the front of a text stands for
abbrev pub escape_at : List ℕ → Option ℕ
escape_at [] = None
escape_at (byte ∷ []) = None
escape_at (byte ∷ next ∷ rest) = if byte == 92 then escaped next else None
