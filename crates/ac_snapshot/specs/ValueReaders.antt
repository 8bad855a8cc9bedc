-- Readers of words, numbers and values.
use Rattle.std.specs.Prelude.{ℕ, ℤ, pos, negsuc, zero, suc, ◌-◌, ◌^◌, ◌&&◌, codes, decimal, nat_le, List, [], ◌∷◌, length, take, drop, Option, Some, None, if◌then◌else◌}
use Rattle.std.specs.List.{prefix_len}
use Rattle.std.specs.Char.{is_ascii_digit}
use Rattle.std.specs.Str.{bytes_eq}
use Rattle.ac_base.specs.declared.value.Value.{Value}
use Rattle.ac_base.specs.declared.value.Value.TheVariants as value
use Rattle.ac_base.specs.Text.{is_printable}
use Rattle.ac_syntax.specs.declared.kind.ElemKind.{ElemKind}
use Rattle.ac_syntax.specs.declared.kind.ElemKind.TheVariants.{Integer, Str}
use Rattle.ac_syntax.specs.Characters.{is_word_byte}
use Rattle.ac_syntax.specs.Tokens.{number_value}
use Rattle.ac_snapshot.specs.Outcomes.{Reader, got, stuck, gives, onward, ◌>>=◌, fork, seen}

-- these very bytes
abbrev pub after : List ℕ → Reader (Unit {0})
after wanted t = if bytes_eq (take (length wanted) t) wanted then got tt (drop (length wanted) t) else stuck

-- as many bytes of words as there are, at most 64
abbrev pub word_of : ℕ → Reader (List ℕ)
word_of len t = if nat_le len 64 then got (take len t) (drop len t) else stuck

abbrev pub word : Reader (List ℕ)
word t = word_of (prefix_len is_word_byte t) t

-- the number of some digits, where they are spelled as it is written
abbrev pub spelled : List ℕ → Option ℕ
spelled digits = if bytes_eq (decimal (number_value digits)) digits then Some (number_value digits) else None

abbrev pub number : Reader ℕ
number t = seen (spelled (take (prefix_len is_ascii_digit t) t)) (drop (prefix_len is_ascii_digit t) t)

abbrev pub positive : ℕ → Option ℤ
positive n = if nat_le n (2 ^ 63 - 1) then Some (pos n) else None

-- behind a minus
abbrev pub negative : ℕ → Option ℤ
negative n = if nat_le 1 n && nat_le n (2 ^ 63) then Some (negsuc (n - 1)) else None

abbrev pub integer : Reader ℤ
integer = fork (after (codes "-")) (λ _. number >>= λ n. seen (negative n)) (number >>= λ n. seen (positive n))

-- a byte of a string, and nothing where it ends
abbrev pub plain_byte : Reader (Option ℕ)
plain_byte [] = stuck
plain_byte (b ∷ rest) = if is_printable b then got (Some b) rest else stuck

abbrev pub string_byte : Reader (Option ℕ)
string_byte = fork (after (codes "\"\"")) (λ _. gives (Some 34)) (fork (after (codes "\"")) (λ _. gives None) plain_byte)

abbrev pub before_more : Reader (List ℕ) → Option ℕ → Reader (List ℕ)
before_more more None = gives []
before_more more (Some b) = more >>= λ bytes. gives (b ∷ bytes)

-- a string from behind its first quote, in fewer steps than that
unfoldable pub string_by : ℕ → Reader (List ℕ)
string_by zero t = stuck
string_by (suc n) t = onward (string_byte t) (before_more (string_by n))

abbrev pub quoted_bytes : Reader (List ℕ)
quoted_bytes = after (codes "\"") >>= λ _. string_by 1001

abbrev pub literal : ElemKind → Reader Value
literal Integer = integer >>= λ z. gives (value.Int z)
literal Str = quoted_bytes >>= λ bytes. gives (value.Text bytes)
