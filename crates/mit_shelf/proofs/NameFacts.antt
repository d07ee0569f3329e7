-- When a name is legal.
use Rattle.std.proofs.Common.{◌≡◌, ℕ, ◌<◌, ◌≤◌, Bool, true, false, List, [], ◌∷◌, length, get_or, drop, refl, arith}
use Rattle.std.proofs.lemmas.Grind.{common_steps}
use Rattle.std.specs.Prelude.{◌&&◌, ◌||◌, ◌==◌, nat_le, zero, suc, ◌-◌, take}
use Rattle.std.proofs.Common.{lit<}
use Rattle.std.specs.Char.{is_ascii_alphanumeric}
use Rattle.std.specs.Int.{is_in_range}
use Rattle.std.specs.Str.{IsAscii, IsUtf8}
use Rattle.std.proofs.lemmas.Str.{IsUtf8-from_ascii}
use Rattle.std.proofs.lemmas.Str.Ascii.{IsAscii-nil}
use Rattle.std.proofs.lemmas.List.{take_all}
use Rattle.std.specs.List.{list_all}
use Rattle.mit_files.specs.Names.{begins_name, continues_name, is_legal}

-- a name of no byte, and one of too many
pub none_empty : (name : List ℕ) → length name ≡ 0 → false ≡ is_legal name
unfolding is_legal
none_empty [] h = refl
none_empty (x ∷ xs) h = absurd (omega arith)

pub none_long : (name : List ℕ) → 64 < length name → false ≡ is_legal name
unfolding is_legal
none_long [] h = refl
none_long (x ∷ xs) h = grind (arith, common_steps)

-- any other name
pub legal_of : (name : List ℕ) → 0 < length name → length name ≤ 64
    → is_legal name ≡ (begins_name (get_or name 0 0) && list_all continues_name (take (length name - 1) (drop 1 name)))
unfolding is_legal
legal_of [] n m = absurd (omega arith)
legal_of (x ∷ xs) n m =
    let all : take (suc (length xs) - 1) xs ≡ xs = take_all _ xs (omega arith) in
    let fits : nat_le (suc (length xs)) 64 ≡ true = grind (arith, common_steps) in
    rw (all, fits) (grind (arith, common_steps))

-- ---- a legal name is text

by_or : {P : Type 0} (a b : Bool) → (a ≡ true → P) → (b ≡ true → P) → (a || b) ≡ true → P
by_or true b f g e = f refl
by_or false b f g e = g e

range_below : (low high byte : ℕ) → high < 128 → is_in_range low high byte ≡ true → byte < 128
range_below low high byte h e = grind (arith, common_steps)

same_below : (byte code : ℕ) → code < 128 → (byte == code) ≡ true → byte < 128
same_below byte code h e = grind (arith, common_steps)

begins_below : (byte : ℕ) → begins_name byte ≡ true → byte < 128
begins_below byte =
    by_or (is_ascii_alphanumeric byte) (byte == 95)
    (by_or (is_in_range 48 57 byte || is_in_range 65 90 byte) (is_in_range 97 122 byte)
    (by_or (is_in_range 48 57 byte) (is_in_range 65 90 byte) (range_below 48 57 byte (lit< tt)) (range_below 65 90 byte (lit< tt)))
    (range_below 97 122 byte (lit< tt)))
    (same_below byte 95 (lit< tt))

continues_below : (byte : ℕ) → continues_name byte ≡ true → byte < 128
continues_below byte =
    by_or (begins_name byte || (byte == 46)) (byte == 45) (by_or (begins_name byte) (byte == 46) (begins_below byte) (same_below byte 46 (lit< tt)))
    (same_below byte 45 (lit< tt))

both_true : (a b : Bool) → (a && b) ≡ true → (a ≡ true) × (b ≡ true)
both_true true b e = (refl, e)
both_true false b e = cc e

first_below : (byte : ℕ) (bytes : List ℕ) → byte < 128 → IsAscii bytes → IsAscii (byte ∷ bytes)
first_below byte bytes first rest zero = first
first_below byte bytes first rest (suc i) = rest i

all_below : (bytes : List ℕ) → list_all continues_name bytes ≡ true → IsAscii bytes
all_below [] e = IsAscii-nil
all_below (byte ∷ bytes) e =
    let both = both_true (continues_name byte) (list_all continues_name bytes) e in
    first_below byte bytes (continues_below byte both.0) (all_below bytes both.1)

legal_ascii : (name : List ℕ) → is_legal name ≡ true → IsAscii name
unfolding is_legal
legal_ascii [] e = cc e
legal_ascii (byte ∷ bytes) e =
    let front = both_true (begins_name byte && list_all continues_name bytes) _ e in
    let both = both_true (begins_name byte) (list_all continues_name bytes) front.0 in
    first_below byte bytes (begins_below byte both.0) (all_below bytes both.1)

pub legal_utf8 : (name : List ℕ) → is_legal name ≡ true → IsUtf8 name
legal_utf8 name e = IsUtf8-from_ascii name (legal_ascii name e)
