-- Texts as integers.
use Rattle.std.specs.Prelude.{ℕ, ◌-◌, ◌^◌, ℤ, pos, neg_ℤ, List, length, drop, Option, Some, None, option_map, if◌then◌else◌, nat_lt, nat_le, ◌&&◌}
use Rattle.std.specs.List.{list_all}
use Rattle.std.specs.Char.{is_ascii_digit}
use Rattle.std.specs.Str.Parse.{digits_value, starts_with_minus}

-- the value of one or more decimal digits, where it is at most this
unfoldable pub magnitude : ℕ → List ℕ → Option ℕ
magnitude most digits =
    if nat_lt 0 (length digits) && list_all is_ascii_digit digits && nat_le (digits_value 10 digits) most
    then Some (digits_value 10 digits) else None

-- a text as an integer: an optional `-` and one or more digits, with a value within 64 bits
unfoldable pub int_of : List ℕ → Option ℤ
int_of text =
    if starts_with_minus text then option_map (λ size. neg_ℤ (pos size)) (magnitude (2 ^ 63) (drop 1 text))
    else option_map pos (magnitude (2 ^ 63 - 1) text)
