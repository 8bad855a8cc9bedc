-- Reading from the front of a text.
use Rattle.std.specs.Prelude.{◌≡◌, ℕ, List, ◌++◌, Option, Some, None}
use denote.Bor.{Bor}

pub data Outcome (A : Type 0) : Type 0 where
  -- what was read, and the text behind it
  got : A → List ℕ → Outcome A
  stuck : Outcome A

abbrev pub Reader : Type 0 → Type 0
Reader A = List ℕ → Outcome A

abbrev pub gives : {A : Type 0} → A → Reader A
gives x t = got x t

abbrev pub onward : {A B : Type 0} → Outcome A → (A → Reader B) → Outcome B
onward (got x rest) next = next x rest
onward stuck next = stuck

infixl 10 ◌>>=◌
abbrev pub ◌>>=◌ : {A B : Type 0} → Reader A → (A → Reader B) → Reader B
◌>>=◌ reader next t = onward (reader t) next

abbrev pub either : {X A : Type 0} → Outcome X → (X → Reader A) → Reader A → Reader A
either (got x rest) next other t = next x rest
either stuck next other t = other t

-- the next reader where the front reader found something, otherwise the other one
abbrev pub fork : {X A : Type 0} → Reader X → (X → Reader A) → Reader A → Reader A
fork front next other t = either (front t) next other t

abbrev pub seen : {A : Type 0} → Option A → Reader A
seen (Some x) rest = got x rest
seen None rest = stuck

-- the same with some values before those that were read
abbrev pub behind : {A : Type 0} → List A → Outcome (List A) → Outcome (List A)
behind made (got more rest) = got (made ++ more) rest
behind made stuck = stuck

-- what a function found at the front of its text is the outcome, its value seen by `view`
abbrev pub Finds : {X A : Type 0} → (X → A) → Option (X × Bor (List ℕ)) → Outcome A → Type 0
Finds view (Some x) outcome = outcome ≡ got (view x.0) x.1.now
Finds view None outcome = outcome ≡ stuck

-- the same of a function that answers only what stands behind some bytes
abbrev pub Passes : Option (Bor (List ℕ)) → Outcome (Unit {0}) → Type 0
Passes (Some rest) outcome = outcome ≡ got tt rest.now
Passes None outcome = outcome ≡ stuck
