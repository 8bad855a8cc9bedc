-- Texts and integers with their hashes, keys and order.
use Rattle.std.specs.Prelude.{◌≡◌, ◌+◌, ◌^◌, true, false, pos, negsuc, codes, []}
use Rattle.ac_base.specs.Hash.{hash_of_bytes, hash_of_integer, wide_hash_of_integer}
use Rattle.ac_base.specs.Key.{key_of_text}
use Rattle.ac_base.specs.Order.{integer_less, text_less}

abbrev pub HashOfEmpty : Type 0
HashOfEmpty = hash_of_bytes [] ≡ 7

abbrev pub HashOfLetter : Type 0
HashOfLetter = hash_of_bytes (codes "a") ≡ 314

abbrev pub HashOfZero : Type 0
HashOfZero = hash_of_integer (pos 0) ≡ 232720647

-- zero's is 217
abbrev pub WideHashOfOne : Type 0
WideHashOfOne = wide_hash_of_integer (pos 1) ≡ 2 ^ 32 + 218

abbrev pub KeyBeforeSign : Type 0
KeyBeforeSign = key_of_text (codes "a=1=2") ≡ codes "a"

abbrev pub KeyWithoutSign : Type 0
KeyWithoutSign = key_of_text (codes "a") ≡ codes "a"

abbrev pub FrontIsLess : Type 0
FrontIsLess = text_less (codes "a") (codes "ab") ≡ true

abbrev pub FirstDifferenceDecides : Type 0
FirstDifferenceDecides = text_less (codes "b") (codes "ab") ≡ false

abbrev pub NegativeIsLess : Type 0
NegativeIsLess = integer_less (negsuc 0) (pos 0) ≡ true
