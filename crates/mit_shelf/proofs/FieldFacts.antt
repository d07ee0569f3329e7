-- When a field is a truth value, and when it is text.
use Rattle.std.proofs.Common.{◌≡◌, ◌∙◌, ℕ, ◌<◌, ◌≤◌, Bool, true, false, cond, List, length, Option, Some, None, refl, sym, ap, arith}
use Rattle.std.proofs.lemmas.Grind.{common_steps}
use Rattle.std.specs.Prelude.{◌&&◌, nat_le}
use Rattle.std.specs.Str.{IsUtf8, bytes_eq, is_utf8}
use Rattle.std.proofs.lemmas.Str.{IsUtf8-from_is_utf8, is_utf8-from_IsUtf8}
use Rattle.std.specs.Str.Parse.{true_text, false_text}
use Rattle.mit_files.specs.Rows.{bool_of, text_of}

pub bool_true : (field text : List ℕ) (same : Bool) → text ≡ true_text → same ≡ bytes_eq field text → same ≡ true → ◌≡◌ {A = Option Bool} (Some true) (bool_of field)
unfolding bool_of
bool_true field text same t e is = let yes : bytes_eq field true_text ≡ true = ap (bytes_eq field) (sym t) ∙ sym e ∙ is in rw yes refl

pub bool_false : (field text other : List ℕ) (same equal : Bool) → text ≡ true_text → same ≡ bytes_eq field text → same ≡ false
    → other ≡ false_text → equal ≡ bytes_eq field other → equal ≡ true → ◌≡◌ {A = Option Bool} (Some false) (bool_of field)
unfolding bool_of
bool_false field text other same equal t e is u f it =
    let no : bytes_eq field true_text ≡ false = ap (bytes_eq field) (sym t) ∙ sym e ∙ is in
    let yes : bytes_eq field false_text ≡ true = ap (bytes_eq field) (sym u) ∙ sym f ∙ it in
    rw (no, yes) refl

pub bool_none : (field text other : List ℕ) (same equal : Bool) → text ≡ true_text → same ≡ bytes_eq field text → same ≡ false
    → other ≡ false_text → equal ≡ bytes_eq field other → equal ≡ false → ◌≡◌ {A = Option Bool} None (bool_of field)
unfolding bool_of
bool_none field text other same equal t e is u f it =
    let no : bytes_eq field true_text ≡ false = ap (bytes_eq field) (sym t) ∙ sym e ∙ is in
    let none : bytes_eq field false_text ≡ false = ap (bytes_eq field) (sym u) ∙ sym f ∙ it in
    rw (no, none) refl

no_text : (b : Bool) (field : List ℕ) → cond (b && false) (Some field) None ≡ None
no_text true field = refl
no_text false field = refl

pub text_long : (field : List ℕ) → 65536 < length field → ◌≡◌ {A = Option (List ℕ)} None (text_of field)
unfolding text_of
text_long field h =
    let long : nat_le (length field) 65536 ≡ false = grind (arith, common_steps) in
    sym (ap (λ b. cond (is_utf8 field && b) (Some field) None) long ∙ no_text (is_utf8 field) field)

pub text_is : (field text : List ℕ) → length field ≤ 65536 → text ≡ field → IsUtf8 field → Some text ≡ text_of field
unfolding text_of
text_is field text h same utf8 =
    let short : nat_le (length field) 65536 ≡ true = grind (arith, common_steps) in
    let yes : is_utf8 field ≡ true = is_utf8-from_IsUtf8 field utf8 in
    ap Some same ∙ sym (ap (λ b. cond (is_utf8 field && b) (Some field) None) short ∙ ap (λ b. cond (b && true) (Some field) None) yes)

not_utf8 : (field : List ℕ) (b : Bool) → is_utf8 field ≡ b → (IsUtf8 field → ⊥) → b ≡ false
not_utf8 field true e h = absurd (h (IsUtf8-from_is_utf8 field e))
not_utf8 field false e h = refl

pub text_not : (field : List ℕ) → (IsUtf8 field → ⊥) → ◌≡◌ {A = Option (List ℕ)} None (text_of field)
unfolding text_of
text_not field h = sym (ap (λ b. cond (b && nat_le (length field) 65536) (Some field) None) (not_utf8 field (is_utf8 field) refl h))
