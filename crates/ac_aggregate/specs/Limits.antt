-- The limits of a question: how deep it is nested, its numbers and its strings.
use Rattle.std.specs.Prelude.{ℕ, ◌+◌, ◌-◌, ◌^◌, ◌||◌, max, nat_lt, Bool, false, List, [], ◌∷◌, length, if◌then◌else◌}
use Rattle.ac_syntax.specs.declared.token.Token.{Token}
use Rattle.ac_syntax.specs.declared.token.Mark.TheVariants as mark
use Rattle.ac_syntax.specs.Limits.{is_mark}
use Rattle.ac_aggregate.specs.Asked.{Asked, literal, text, name, group, product, sum, all_of, each, reduced, always, compares, both, negated}

abbrev pub opens : Token → Bool
opens t = is_mark mark.Open t || is_mark mark.BracketOpen t

abbrev pub closes : Token → Bool
closes t = is_mark mark.Close t || is_mark mark.BracketClose t

-- how many brackets and parentheses are open behind a token
abbrev pub open_after : ℕ → Token → ℕ
open_after count t = if opens t then count + 1 else if closes t then count - 1 else count

-- the greatest number of brackets and parentheses that are open at once, where so many are to begin with
abbrev pub nesting : (count : ℕ) → List Token → ℕ
nesting count [] = count
nesting count (t ∷ ts) = max count (nesting (open_after count t) ts)

-- a number outside the integers, with a minus before it or none
abbrev pub is_past_integer : (minus : Bool) → ℕ → Bool
is_past_integer minus n = nat_lt (if minus then 2 ^ 63 else 2 ^ 63 - 1) n

-- there is a number outside the integers, or a string of more than 1,000 bytes
abbrev pub has_long : Asked → Bool
has_long (literal minus n) = is_past_integer minus n
has_long (text bytes) = nat_lt 1000 (length bytes)
has_long (name _) = false
has_long (group e) = has_long e
has_long (product l r) = has_long l || has_long r
has_long (sum l minus r) = has_long l || has_long r
has_long (all_of _) = false
has_long (each generator object c e) = has_long c || has_long e
has_long (reduced source by minus n) = is_past_integer minus n || has_long source
has_long always = false
has_long (compares l by r) = has_long l || has_long r
has_long (both l r) = has_long l || has_long r
has_long (negated c) = has_long c

abbrev pub is_past_limit : List Token → Asked → Bool
is_past_limit ts q = nat_lt 16 (nesting 0 ts) || has_long q
