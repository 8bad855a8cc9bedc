-- The hash of a text and of an integer.
use Rattle.std.specs.Prelude.{ℕ, ◌+◌, ◌*◌, ◌%◌, ◌^◌, ℤ, List, fold}
use Rattle.std.specs.Int.{w64, to_le_bytes, cast_unsigned}

abbrev pub hash_step : ℕ → ℕ → ℕ
hash_step hash byte = (hash * 31 + byte) % 2 ^ 32

unfoldable pub hash_of_bytes : List ℕ → ℕ
hash_of_bytes bytes = fold hash_step 7 bytes

-- the eight bytes in two's complement, least first
abbrev pub integer_bytes : ℤ → List ℕ
integer_bytes value = to_le_bytes w64 (cast_unsigned w64 value)

abbrev pub hash_of_integer : ℤ → ℕ
hash_of_integer value = hash_of_bytes (integer_bytes value)

-- an odd number, by which the hashes of integers in a row become numbers in a row
abbrev pub row_factor : ℕ
row_factor = 1454739231

-- times the odd number, and with the low half of a value before it
abbrev pub widened : ℕ → ℕ → ℕ
widened hash value = value % 2 ^ 32 * 2 ^ 32 + hash * row_factor % 2 ^ 32

abbrev pub wide_hash_of_integer : ℤ → ℕ
wide_hash_of_integer value = widened (hash_of_integer value) (cast_unsigned w64 value)
