-- Keys of rows and their hash, which is FNV-1a of 64 bits.
use Rattle.std.specs.Prelude.{ℕ, ◌*◌, ◌%◌, ◌^◌, List, [], ◌∷◌, ◌++◌, length, Option, Some, None, if◌then◌else◌, slice_get, bit_xor}
use Rattle.std.specs.Int.{cast_unsigned, to_le_bytes, w64}
use Rattle.std.specs.List.{fold}
use Rattle.mit_rows.specs.Bags.{RowOf}
use Rattle.mit_rows.specs.declared.value.Value.{Value}
use Rattle.mit_rows.specs.declared.value.Value.TheVariants.{Int, Text, Bool}

-- the value of a column, where the row has it
abbrev pub column_of : Option Value → RowOf
column_of None = []
column_of (Some value) = value ∷ []

-- the values of these columns, in this order
unfoldable pub key_of : List ℕ → RowOf → RowOf
key_of [] row = []
key_of (column ∷ columns) row = column_of (slice_get row column) ++ key_of columns row

-- an integer as `00` and its 64 bits, a text as `01`, its length in 64 bits and its bytes, a truth value as `02` and `00` or `01`;
-- numbers with the least byte first
abbrev pub value_bytes : Value → List ℕ
value_bytes (Int number) = 0 ∷ to_le_bytes w64 (cast_unsigned w64 number)
value_bytes (Text text) = 1 ∷ to_le_bytes w64 (length text) ++ text
value_bytes (Bool truth) = 2 ∷ (if truth then 1 else 0) ∷ []

unfoldable pub key_bytes : RowOf → List ℕ
key_bytes [] = []
key_bytes (value ∷ values) = value_bytes value ++ key_bytes values

-- exclusive or with a byte, and then a product, of which 64 bits are kept
abbrev pub hash_byte : ℕ → ℕ → ℕ
hash_byte hash byte = (bit_xor hash byte * 0x0000_0100_0000_01b3) % 2 ^ 64

abbrev pub hash_bytes : List ℕ → ℕ
hash_bytes = fold hash_byte 0xcbf2_9ce4_8422_2325

abbrev pub key_hash : RowOf → ℕ
key_hash key = hash_bytes (key_bytes key)
