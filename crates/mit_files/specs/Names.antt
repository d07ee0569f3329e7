-- Legal file names: 1 to 64 bytes from letters, digits, `.`, `_` and `-`, the first a letter, a digit or `_`.
use Rattle.std.specs.Prelude.{ℕ, List, [], ◌∷◌, Bool, false, length, IsTrue, nat_le, ◌==◌, ◌&&◌, ◌||◌}
use Rattle.std.specs.List.{list_all}
use Rattle.std.specs.Char.{is_ascii_alphanumeric}

-- a letter, a digit or `_`
abbrev pub begins_name : ℕ → Bool
begins_name byte = is_ascii_alphanumeric byte || (byte == 95)

-- one of these, or `.` or `-`
abbrev pub continues_name : ℕ → Bool
continues_name byte = begins_name byte || (byte == 46) || (byte == 45)

unfoldable pub is_legal : List ℕ → Bool
is_legal [] = false
is_legal (byte ∷ bytes) = begins_name byte && list_all continues_name bytes && nat_le (length (byte ∷ bytes)) 64

abbrev pub IsLegal : List ℕ → Type 0
IsLegal name = IsTrue (is_legal name)
