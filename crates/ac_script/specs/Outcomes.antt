-- Reading from the front of a token list.
use Rattle.std.specs.Prelude.{◌≡◌, List, [], ◌∷◌, Option, Some, None, Result, Ok, Err}
use denote.Bor.{Bor}
use Rattle.ac_syntax.specs.declared.token.Token.{Token}
use Rattle.ac_syntax.specs.declared.token.Placed.{Placed}
use Rattle.ac_script.specs.declared.stop.Stop.{Stop}
use Rattle.ac_script.specs.declared.stop.Stop.TheVariants.{At, NoMemory}

pub data Outcome (A : Type 0) : Type 0 where
  -- what was read, and the tokens behind it
  got : A → List Placed → Outcome A
  -- the tokens from the first bad one on; none where they ended too early
  stopped : List Placed → Outcome A

abbrev pub Reader : Type 0 → Type 0
Reader A = List Placed → Outcome A

-- reading stopped there, unless memory ran out
abbrev pub Stops : {A : Type 0} → Stop → Outcome A → Type 0
Stops (At at) outcome = outcome ≡ stopped at.now
Stops NoMemory outcome = Unit {0}

-- what a function answered, seen by `view`, is the outcome, unless memory ran out
abbrev pub Sees : {X A : Type 0} → (X → A × List Placed) → Result X Stop → Outcome A → Type 0
Sees view (Ok x) outcome = outcome ≡ got (view x).0 (view x).1
Sees view (Err stop) outcome = Stops stop outcome

-- what a function read at the front of its tokens is the outcome, its value seen by `view`, unless memory ran out
abbrev pub Reads : {X A : Type 0} → (X → A) → Result (X × Bor (List Placed)) Stop → Outcome A → Type 0
Reads view result outcome = Sees (λ read. (view read.0, read.1.now)) result outcome

-- what a function found at the front of the tokens, seen by `view`, is the outcome
abbrev pub Finds : {X A : Type 0} → (X → A × List Placed) → Option X → List Placed → Outcome A → Type 0
Finds view (Some x) tokens outcome = outcome ≡ got (view x).0 (view x).1
Finds view None tokens outcome = outcome ≡ stopped tokens

abbrev pub gives : {A : Type 0} → A → Reader A
gives x tokens = got x tokens

abbrev pub onward : {A B : Type 0} → Outcome A → (A → Reader B) → Outcome B
onward (got x rest) next = next x rest
onward (stopped at) next = stopped at

infixl 10 ◌>>=◌
abbrev pub ◌>>=◌ : {A B : Type 0} → Reader A → (A → Reader B) → Reader B
◌>>=◌ reader next tokens = onward (reader tokens) next

abbrev pub either : {X A : Type 0} → Outcome X → (X → Reader A) → Reader A → Reader A
either (got x rest) next other tokens = next x rest
either (stopped _) next other tokens = other tokens

-- the next reader where the front reader found something, otherwise the other one
abbrev pub fork : {X A : Type 0} → Reader X → (X → Reader A) → Reader A → Reader A
fork front next other tokens = either (front tokens) next other tokens

abbrev pub seen : {A : Type 0} → Option A → Placed → Reader A
seen (Some x) first rest = got x rest
seen None first rest = stopped (first ∷ rest)

-- one token, looked at by `look`
abbrev pub one : {A : Type 0} → (Token → Option A) → Reader A
one look [] = stopped []
one look (first ∷ rest) = seen (look first.token) first rest
