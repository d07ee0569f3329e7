-- Texts of numbers one after another, with one more at the end.
use Rattle.std.proofs.Common.{◌≡◌, ℕ, zero, suc, ◌+◌, List, ◌++◌, ap, ◌∙◌, sym, arith, append_assoc, append-nil, add-one}
use Rattle.std.specs.List.{flat_map, range_with_len}

from_more : {A : Type 0} (text : ℕ → List A) (from count number : ℕ) → from + count ≡ number
    → flat_map text (range_with_len from (suc count)) ≡ flat_map text (range_with_len from count) ++ text number
from_more text from zero number at =
    let same : from ≡ number = omega arith in append-nil (text from) ∙ ap text same
from_more text from (suc count) number at =
    let moved : (from + 1) + count ≡ number = omega arith in
    ap (λ rest. text from ++ rest) (from_more text (from + 1) count number moved) ∙ sym (append_assoc (text from) (flat_map text (range_with_len (from + 1) count)) (text number))

pub flat_map-range_more : {A : Type 0} (text : ℕ → List A) (from count number : ℕ) → from + count ≡ number
    → flat_map text (range_with_len from (count + 1)) ≡ flat_map text (range_with_len from count) ++ text number
flat_map-range_more text from count number at =
    ap (λ n. flat_map text (range_with_len from n)) (add-one count) ∙ from_more text from count number at
