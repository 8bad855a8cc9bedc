-- Reading from the front of a token list.
use Rattle.std.specs.Prelude.{◌≡◌, List, [], ◌∷◌, Option, Some, None}
use denote.Bor.{Bor}
use Rattle.ac_syntax.specs.declared.token.Token.{Token}

pub data Outcome (A : Type 0) : Type 0 where
  -- what was read, and the tokens behind it
  got : A → List Token → Outcome A
  stuck : Outcome A

abbrev pub Reader : Type 0 → Type 0
Reader A = List Token → Outcome A

abbrev pub gives : {A : Type 0} → A → Reader A
gives x ts = got x ts

abbrev pub gives_up : {A : Type 0} → Reader A
gives_up ts = stuck

abbrev pub onward : {A B : Type 0} → Outcome A → (A → Reader B) → Outcome B
onward (got x rest) next = next x rest
onward stuck next = stuck

infixl 10 ◌>>=◌
abbrev pub ◌>>=◌ : {A B : Type 0} → Reader A → (A → Reader B) → Reader B
◌>>=◌ reader next ts = onward (reader ts) next

abbrev pub either : {X A : Type 0} → Outcome X → (X → Reader A) → Reader A → Reader A
either (got x rest) next other ts = next x rest
either stuck next other ts = other ts

-- the next reader where the front reader found something, otherwise the other one
abbrev pub fork : {X A : Type 0} → Reader X → (X → Reader A) → Reader A → Reader A
fork front next other ts = either (front ts) next other ts

abbrev pub seen : {A : Type 0} → Option A → Reader A
seen (Some x) rest = got x rest
seen None rest = stuck

-- one token, looked at by `look`
abbrev pub one : {A : Type 0} → (Token → Option A) → Reader A
one look [] = stuck
one look (first ∷ rest) = seen (look first) rest

-- what a function found at the front of its tokens is the outcome, its value seen by `view`
abbrev pub Finds : {X A : Type 0} → (X → A) → Option (X × Bor (List Token)) → Outcome A → Type 0
Finds view (Some x) outcome = outcome ≡ got (view x.0) x.1.now
Finds view None outcome = outcome ≡ stuck

-- the same of a function that answers only what stands behind a token
abbrev pub Passes : Option (Bor (List Token)) → Outcome (Unit {0}) → Type 0
Passes (Some rest) outcome = outcome ≡ got tt rest.now
Passes None outcome = outcome ≡ stuck
