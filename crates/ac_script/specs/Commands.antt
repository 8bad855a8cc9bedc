-- Readers of commands.
use Rattle.std.specs.Prelude.{ℕ, zero, suc, pos, neg_ℤ, codes, Bool, true, false, List, [], ◌∷◌, length, Option, Some, None, if◌then◌else◌}
use Rattle.std.specs.Str.{bytes_eq}
use Rattle.ac_base.specs.declared.value.Value.TheVariants as value
use Rattle.ac_syntax.specs.Code.{Simple, call_at, set_at, sum_at}
use Rattle.ac_syntax.specs.declared.arg.Arg.{Arg}
use Rattle.ac_syntax.specs.declared.arg.Arg.TheVariants.{Lit, NoElement, Var}
use Rattle.ac_syntax.specs.declared.token.Token.{Token}
use Rattle.ac_syntax.specs.declared.token.Token.TheVariants as token
use Rattle.ac_syntax.specs.declared.token.Mark.{Mark}
use Rattle.ac_syntax.specs.declared.token.Mark.TheVariants.{Colon, Semicolon, Comma, Open, Close, Dot, Assign, Plus, Minus, Arrow, BracketOpen, BracketClose, Tick, Star, Equal, NotEqual, Less, LessEqual, Greater, GreaterEqual}
use Rattle.ac_script.specs.Outcomes.{Reader, ◌>>=◌, gives, fork, one}
use Rattle.ac_script.specs.Readers.{mark, name, number}

abbrev pub as_constant : Token → Option Arg
as_constant (token.Word found) = if bytes_eq found (codes "no_element") then Some NoElement else None
as_constant (token.Keyword _) = None
as_constant (token.Number n) = Some (Lit (value.Int (pos n)))
as_constant (token.Text bytes) = Some (Lit (value.Text bytes))
as_constant (token.Mark _) = None

-- an argument of one token that isn't a name
abbrev pub constant : Reader Arg
constant = one as_constant

abbrev pub negative : ℕ → Arg
negative n = Lit (value.Int (neg_ℤ (pos n)))

-- an argument that is a name or begins with `-`
unfoldable pub other_argument : Reader Arg
other_argument =
    fork (mark Minus)
    (λ _. number >>= λ n. gives (negative n))
    (name >>= λ n. gives (Var n))

unfoldable pub argument : Reader Arg
argument = fork constant (λ a. gives a) other_argument

-- at most so many arguments, each with a comma before it, and `)`
unfoldable pub more_within : ℕ → Reader (List Arg)
more_within zero = mark Close >>= λ _. gives []
more_within (suc n) =
    fork (mark Comma)
    (λ _. argument >>= λ a. more_within n >>= λ more. gives (a ∷ more))
    (mark Close >>= λ _. gives [])

unfoldable pub more_arguments : Reader (List Arg)
more_arguments tokens = more_within (length tokens) tokens

-- the first argument, those behind it, and `)`
unfoldable pub listed : Arg → Reader (List Arg)
listed first = more_arguments >>= λ more. gives (first ∷ more)

-- what stands behind `(`
unfoldable pub arguments : Reader (List Arg)
arguments = do
  first ← argument
  all ← listed first
  _ ← mark Semicolon
  gives all

-- arguments in parentheses, where there are any, and `;`
unfoldable pub arguments_end : Reader (List Arg)
arguments_end = fork (mark Open) (λ _. arguments) (mark Semicolon >>= λ _. gives [])

-- what stands behind an object and a dot
unfoldable pub call : ℕ → Option (List ℕ) → List ℕ → Reader Simple
call line target object = do
  op ← name
  args ← arguments_end
  gives (call_at line target object op args)

unfoldable pub set_end : ℕ → List ℕ → Arg → Reader Simple
set_end line target from = mark Semicolon >>= λ _. gives (set_at line target from)

abbrev pub as_sign : Token → Option Bool
as_sign (token.Word _) = None
as_sign (token.Keyword _) = None
as_sign (token.Number _) = None
as_sign (token.Text _) = None
as_sign (token.Mark mark) = sign_of mark where
  sign_of : Mark → Option Bool
  sign_of Colon = None
  sign_of Semicolon = None
  sign_of Comma = None
  sign_of Open = None
  sign_of Close = None
  sign_of Dot = None
  sign_of Assign = None
  sign_of Plus = Some false
  sign_of Minus = Some true
  sign_of Arrow = None
  sign_of BracketOpen = None
  sign_of BracketClose = None
  sign_of Tick = None
  sign_of Star = None
  sign_of Equal = None
  sign_of NotEqual = None
  sign_of Less = None
  sign_of LessEqual = None
  sign_of Greater = None
  sign_of GreaterEqual = None

-- whether the number is taken away
abbrev pub sign : Reader Bool
sign = one as_sign

unfoldable pub sum : ℕ → List ℕ → List ℕ → Bool → Reader Simple
sum line target from minus = do
  n ← number
  _ ← mark Semicolon
  gives (sum_at line target from minus n)

unfoldable pub sum_or_set : ℕ → List ℕ → List ℕ → Reader Simple
sum_or_set line target from = fork sign (λ minus. sum line target from minus) (set_end line target (Var from))

-- what stands behind `X := Y`
unfoldable pub behind_source : ℕ → List ℕ → List ℕ → Reader Simple
behind_source line target from = fork (mark Dot) (λ _. call line (Some target) from) (sum_or_set line target from)

unfoldable pub from_name : ℕ → List ℕ → Reader Simple
from_name line target = name >>= λ from. behind_source line target from

unfoldable pub from_negative : ℕ → List ℕ → Reader Simple
from_negative line target = number >>= λ n. set_end line target (negative n)

unfoldable pub from_other : ℕ → List ℕ → Reader Simple
from_other line target = fork (mark Minus) (λ _. from_negative line target) (from_name line target)

-- what stands behind `X :=`
unfoldable pub assigned : ℕ → List ℕ → Reader Simple
assigned line target = fork constant (λ from. set_end line target from) (from_other line target)

unfoldable pub assignment : ℕ → List ℕ → Reader Simple
assignment line target = mark Assign >>= λ _. assigned line target

-- what stands behind the name with which a command begins
unfoldable pub command : ℕ → List ℕ → Reader Simple
command line first = fork (mark Dot) (λ _. call line None first) (assignment line first)
