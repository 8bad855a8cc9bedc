-- Readers of a token or a few, none of which leads back to a whole question.
use Rattle.std.specs.Prelude.{ℕ, codes, Bool, true, false, List, Option, Some, None, if◌then◌else◌}
use Rattle.std.specs.Str.{bytes_eq}
use denote.Enum.Bare.{sameb}
use Rattle.ac_syntax.specs.contracts.token.Mark.{the_type}
use Rattle.ac_syntax.specs.declared.token.Token.{Token}
use Rattle.ac_syntax.specs.declared.token.Token.TheVariants as token
use Rattle.ac_syntax.specs.declared.token.Mark.{Mark}
use Rattle.ac_syntax.specs.declared.token.Mark.TheVariants as mark
use Rattle.ac_aggregate.specs.declared.oper.Comparison.{Comparison}
use Rattle.ac_aggregate.specs.declared.oper.Comparison.TheVariants as comparison
use Rattle.ac_aggregate.specs.declared.oper.Oper.{Oper}
use Rattle.ac_aggregate.specs.declared.oper.Oper.TheVariants as oper
use Rattle.ac_aggregate.specs.Asked.{Asked, literal, text, name, all_of, each, reduced}
use Rattle.ac_aggregate.specs.Grammar.{is_name}
use Rattle.ac_aggregate.specs.Outcomes.{Reader, gives, gives_up, ◌>>=◌, fork, one}

abbrev pub as_mark : Mark → Token → Option (Unit {0})
as_mark wanted (token.Mark found) = if sameb the_type found wanted then Some tt else None
as_mark wanted _ = None

abbrev pub as_word : List ℕ → Token → Option (Unit {0})
as_word wanted (token.Word found) = if bytes_eq found wanted then Some tt else None
as_word wanted _ = None

abbrev pub as_name : Token → Option (List ℕ)
as_name (token.Word word) = if is_name word then Some word else None
as_name _ = None

abbrev pub as_number : Token → Option ℕ
as_number (token.Number n) = Some n
as_number _ = None

-- a number or a string
abbrev pub as_constant : Token → Option Asked
as_constant (token.Number n) = Some (literal false n)
as_constant (token.Text bytes) = Some (text bytes)
as_constant _ = None

abbrev pub sign_of : Mark → Option Bool
sign_of mark.Plus = Some false
sign_of mark.Minus = Some true
sign_of _ = None

abbrev pub as_sign : Token → Option Bool
as_sign (token.Mark found) = sign_of found
as_sign _ = None

abbrev pub comparison_of : Mark → Option Comparison
comparison_of mark.Equal = Some comparison.Equal
comparison_of mark.NotEqual = Some comparison.NotEqual
comparison_of mark.Less = Some comparison.Less
comparison_of mark.LessEqual = Some comparison.LessEqual
comparison_of mark.Greater = Some comparison.Greater
comparison_of mark.GreaterEqual = Some comparison.GreaterEqual
comparison_of _ = None

abbrev pub as_comparison : Token → Option Comparison
as_comparison (token.Mark found) = comparison_of found
as_comparison _ = None

abbrev pub oper_of : List ℕ → Option Oper
oper_of bytes =
    if bytes_eq bytes (codes "+") then Some oper.Sum
    else if bytes_eq bytes (codes "*") then Some oper.Product
    else if bytes_eq bytes (codes "min") then Some oper.Least
    else if bytes_eq bytes (codes "max") then Some oper.Greatest
    else None

abbrev pub as_oper : Token → Option Oper
as_oper (token.Text bytes) = oper_of bytes
as_oper _ = None

abbrev pub marked : Mark → Reader (Unit {0})
marked wanted = one (as_mark wanted)

abbrev pub word : List ℕ → Reader (Unit {0})
word wanted = one (as_word wanted)

abbrev pub named : Reader (List ℕ)
named = one as_name

abbrev pub number : Reader ℕ
number = one as_number

abbrev pub constant : Reader Asked
constant = one as_constant

abbrev pub signs : Reader Bool
signs = one as_sign

abbrev pub comparing : Reader Comparison
comparing = one as_comparison

abbrev pub operating : Reader Oper
operating = one as_oper

-- a number that may have a minus
unfoldable pub signed_number : Reader (Bool × ℕ)
signed_number =
    fork (marked mark.Minus)
    (λ _. number >>= λ n. gives (true, n))
    (number >>= λ n. gives (false, n))

-- what stands behind the tick of a reduction: how it reduces, and the number that it begins with
unfoldable pub reducing : Reader (Oper × (Bool × ℕ))
reducing = do
  _ ← word (codes "reduce")
  _ ← marked mark.Open
  by ← operating
  _ ← marked mark.Comma
  from ← signed_number
  _ ← marked mark.Close
  gives (by, from)

-- what stands behind the bracket of an aggregate: its generator and its object
unfoldable pub heading : Reader (List ℕ × List ℕ)
heading = do
  _ ← word (codes "for")
  generator ← named
  _ ← word (codes "of")
  object ← named
  gives (generator, object)

-- a number or a string, as it is spelled
abbrev pub negative : Reader Asked
negative = number >>= λ n. gives (literal true n)

unfoldable pub spelled : Reader Asked
spelled = fork (marked mark.Minus) (λ _. negative) constant

-- what begins a negation
unfoldable pub negation : Reader (Unit {0})
negation = word (codes "not") >>= λ _. marked mark.Open

-- an object's name
abbrev pub object : Reader Asked
object = named >>= λ word. gives (all_of word)

-- a reduction of this source, behind its tick
abbrev pub reduced_by : Asked → Oper × (Bool × ℕ) → Asked
reduced_by source by = reduced source by.0 by.1.0 by.1.1

abbrev pub reduction : Asked → Reader Asked
reduction source = reducing >>= λ by. gives (reduced_by source by)

-- what a source is to a factor where no reduction follows: a name
abbrev pub as_factor : Asked → Reader Asked
as_factor (all_of word) = gives (name word)
as_factor _ = gives_up

-- and to a question: an aggregate
abbrev pub as_question : Asked → Reader Asked
as_question (each generator object c e) = gives (each generator object c e)
as_question _ = gives_up

-- a source, with the reduction behind it where there is one
abbrev pub reduced_or : (Asked → Reader Asked) → Asked → Reader Asked
reduced_or alone source = fork (marked mark.Tick) (λ _. reduction source) (alone source)

-- the mark behind a part of which something is made
abbrev pub closed : Mark → (Asked → Asked) → Asked → Reader Asked
closed close make e = marked close >>= λ _. gives (make e)
