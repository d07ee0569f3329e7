-- What one more value adds to a hash.
--     hash_on       a hash and the bytes of these values after it
--     hash_more     the first of the values
--     hash_next     the next of the values from a place on
use Rattle.std.proofs.Common.{◌≡◌, ℕ, ◌+◌, ◌<◌, ◌∷◌, length, get_or, drop, ap, ◌∙◌}
use Rattle.std.specs.List.{fold}
use Rattle.std.proofs.lemmas.List.{drop_more}
use Rattle.std.proofs.lemmas.List.Sums.{fold-append}
use Rattle.mit_rows.specs.Bags.{RowOf}
use Rattle.mit_rows.specs.declared.value.Value.{Value}
use Rattle.mit_ops.specs.Keys.{hash_byte, key_bytes, value_bytes}

abbrev pub hash_on : ℕ → RowOf → ℕ
hash_on hash key = fold hash_byte hash (key_bytes key)

pub hash_more : (hash : ℕ) (value : Value) (key : RowOf) →
    hash_on hash (value ∷ key) ≡ hash_on (fold hash_byte hash (value_bytes value)) key
unfolding key_bytes
hash_more hash value key = fold-append hash_byte hash (value_bytes value) (key_bytes key)

pub hash_next : (hash : ℕ) (values : RowOf) (i : ℕ) (d : Value) → i < length values →
    hash_on hash (drop i values) ≡ hash_on (fold hash_byte hash (value_bytes (get_or values i d))) (drop (i + 1) values)
hash_next hash values i d below = ap (hash_on hash) (drop_more values i d below) ∙ hash_more hash (get_or values i d) (drop (i + 1) values)
