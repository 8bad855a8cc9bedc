-- Values that are alike have one hash.
use Rattle.std.specs.Prelude.{◌≡◌, ℕ, ◌+◌, ◌*◌, ◌%◌, ◌^◌, ℤ, List, IsTrue}
use Rattle.std.proofs.Common.{ap, sym, ◌∙◌, arith}
use Rattle.std.specs.Int.{w64, cast_unsigned}
use Rattle.std.specs.Ordering.{int_eq}
use Rattle.ac_base.specs.Order.{text_alike}
use Rattle.ac_base.specs.OrderLaws.{integers_equal, texts_equal}
use Rattle.ac_base.specs.Hash.{hash_of_bytes, hash_of_integer, row_factor, widened, wide_hash_of_integer}

pub alike_integers_hashes : (x y : ℤ) → IsTrue (int_eq x y) → hash_of_integer x ≡ hash_of_integer y
alike_integers_hashes x y alike = ap hash_of_integer (integers_equal x y alike)

pub alike_texts_hashes : (x y : List ℕ) → IsTrue (text_alike x y) → hash_of_bytes x ≡ hash_of_bytes y
alike_texts_hashes x y alike = ap hash_of_bytes (texts_equal x y alike)

pub alike_integers_wide_hashes : (x y : ℤ) → IsTrue (int_eq x y) → wide_hash_of_integer x ≡ wide_hash_of_integer y
alike_integers_wide_hashes x y alike = ap wide_hash_of_integer (integers_equal x y alike)

low_half : (hash value : ℕ) → widened hash value % 2 ^ 32 ≡ hash * row_factor % 2 ^ 32
low_half hash value = omega arith

pub integers_low_halves : (x y : ℤ) → hash_of_integer x ≡ hash_of_integer y → wide_hash_of_integer x % 2 ^ 32 ≡ wide_hash_of_integer y % 2 ^ 32
integers_low_halves x y same =
    low_half (hash_of_integer x) (cast_unsigned w64 x) ∙ ap (λ hash. hash * row_factor % 2 ^ 32) same ∙ sym (low_half (hash_of_integer y) (cast_unsigned w64 y))

pub texts_low_halves : (x y : List ℕ) → hash_of_bytes x ≡ hash_of_bytes y → hash_of_bytes x % 2 ^ 32 ≡ hash_of_bytes y % 2 ^ 32
texts_low_halves x y same = ap (λ hash. hash % 2 ^ 32) same
