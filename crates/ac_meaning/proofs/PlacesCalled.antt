-- The places of the queues of a block of tasks: each that is called is one of them, and has a number.
use Rattle.std.proofs.Common.{◌≡◌, ◌==◌, ◌+◌, ◌||◌, ◌<◌, ◌++◌, ℕ, suc, Bool, true, false, not, List, [], ◌∷◌, length, map, refl, sym, ap, ◌∙◌, arith, true≢false, if◌then◌else◌}
use Rattle.std.specs.Prelude.{⊤, get_or}
use Rattle.std.specs.List.{list_any, position_or_len}
use Rattle.std.proofs.lemmas.List.Folds.{list_any-append}
use Rattle.std.proofs.lemmas.Bool.Decides.{nat_tests}
use Rattle.ac_rules.specs.Resolved.{ResolvedSimple, calls_at, sets_at, sums_at, ResolvedCode, no_statement, a_command, a_block}
use Rattle.ac_meaning.specs.TaskBlocks.{with_place, with_object, places_called, places_shared}

abbrev pub Has : List ℕ → ℕ → Type 0
Has places place = list_any (λ p. p == place) places ≡ true

or_right : (a b : Bool) → b ≡ true → (a || b) ≡ true
or_right true b h = refl
or_right false b h = h

or_left : (a b : Bool) → a ≡ true → (a || b) ≡ true
or_left true b h = refl
or_left false b h = absurd (true≢false (sym h))

same_place : (n : ℕ) → (n == n) ≡ true
same_place n = grind (arith, nat_tests)

has_longer : (places more : List ℕ) (place : ℕ) → Has places place → Has (places ++ more) place
has_longer places more place h = list_any-append (λ p. p == place) places more ∙ or_left _ _ h

has_last : (places : List ℕ) (place : ℕ) → Has (places ++ place ∷ []) place
has_last places place =
    list_any-append (λ p. p == place) places (place ∷ []) ∙ or_right (list_any (λ p. p == place) places) _ (or_left (place == place) false (same_place place))

either_kept : (b : Bool) (places : List ℕ) (more place : ℕ) → Has places place → Has (if b then places else places ++ more ∷ []) place
either_kept true places more place h = h
either_kept false places more place h = has_longer places (more ∷ []) place h

with_place_kept : (places : List ℕ) (more place : ℕ) → Has places place → Has (with_place places more) place
with_place_kept places more place h = either_kept (list_any (λ p. p == more) places) places more place h

either_new : (b : Bool) (places : List ℕ) (place : ℕ) → list_any (λ p. p == place) places ≡ b → Has (if b then places else places ++ place ∷ []) place
either_new true places place h = h
either_new false places place h = has_last places place

with_place_new : (places : List ℕ) (place : ℕ) → Has (with_place places place) place
with_place_new places place = either_new (list_any (λ p. p == place) places) places place refl

with_object_kept : (simple : ResolvedSimple) (places : List ℕ) (place : ℕ) → Has places place → Has (with_object places simple) place
with_object_kept (calls_at number target object operation args) places place h = with_place_kept places object place h
with_object_kept (sets_at number target from) places place h = h
with_object_kept (sums_at number target from minus n) places place h = h

called_kept : (steps : ResolvedCode) (places : List ℕ) (place : ℕ) → Has places place → Has (places_called steps places) place
called_kept no_statement places place h = h
called_kept (a_command simple rest) places place h = called_kept rest (with_object places simple) place (with_object_kept simple places place h)
called_kept (a_block head body rest) places place h = called_kept rest places place h

shared_kept : (tasks : ResolvedCode) (places : List ℕ) (place : ℕ) → Has places place → Has (places_shared tasks places) place
shared_kept no_statement places place h = h
shared_kept (a_command simple rest) places place h = shared_kept rest places place h
shared_kept (a_block head steps rest) places place h = shared_kept rest (places_called steps places) place (called_kept steps places place h)

-- the object of each call is among these
abbrev pub HasObject : List ℕ → ResolvedSimple → Type 0
HasObject places (calls_at number target object operation args) = Has places object
HasObject places (sets_at number target from) = ⊤
HasObject places (sums_at number target from minus n) = ⊤

abbrev pub AllCalled : List ℕ → ResolvedCode → Type 0
AllCalled places no_statement = ⊤
AllCalled places (a_command simple rest) = HasObject places simple × AllCalled places rest
AllCalled places (a_block head body rest) = AllCalled places rest

abbrev pub AllShared : List ℕ → ResolvedCode → Type 0
AllShared places no_statement = ⊤
AllShared places (a_command simple rest) = AllShared places rest
AllShared places (a_block head steps rest) = AllCalled places steps × AllShared places rest

object_more : (places more : List ℕ) → ((place : ℕ) → Has places place → Has more place) → (simple : ResolvedSimple) → HasObject places simple → HasObject more simple
object_more places more each (calls_at number target object operation args) h = each object h
object_more places more each (sets_at number target from) h = tt
object_more places more each (sums_at number target from minus n) h = tt

all_more : (places more : List ℕ) → ((place : ℕ) → Has places place → Has more place) → (steps : ResolvedCode) → AllCalled places steps → AllCalled more steps
all_more places more each no_statement h = tt
all_more places more each (a_command simple rest) h = (object_more places more each simple h.0, all_more places more each rest h.1)
all_more places more each (a_block head body rest) h = all_more places more each rest h

object_new : (simple : ResolvedSimple) (places : List ℕ) → HasObject (with_object places simple) simple
object_new (calls_at number target object operation args) places = with_place_new places object
object_new (sets_at number target from) places = tt
object_new (sums_at number target from minus n) places = tt

called_all : (steps : ResolvedCode) (places : List ℕ) → AllCalled (places_called steps places) steps
called_all no_statement places = tt
called_all (a_command simple rest) places =
    let now = with_object places simple in (
      object_more now (places_called rest now) (λ place h. called_kept rest now place h) simple (object_new simple places),
      called_all rest now,
    )
called_all (a_block head body rest) places = called_all rest places

pub shared_all : (tasks : ResolvedCode) (places : List ℕ) → AllShared (places_shared tasks places) tasks
shared_all no_statement places = tt
shared_all (a_command simple rest) places = shared_all rest places
shared_all (a_block head steps rest) places =
    let now = places_called steps places in (
      all_more now (places_shared rest now) (λ place h. shared_kept rest now place h) steps (called_all steps places),
      shared_all rest now,
    )

-- Numbers

same_by : (a b : ℕ) → (a == b) ≡ true → a ≡ b
same_by a b h = grind (arith, nat_tests)

pub numbered : (places : List ℕ) (place : ℕ) → Has places place → position_or_len (λ p. p == place) places < length places
numbered [] place h = absurd (true≢false (sym h))
numbered (q ∷ places) place h = go (q == place) (numbered places place) h
  where
    go : (t : Bool) → (Has places place → position_or_len (λ p. p == place) places < length places) →
        (t || list_any (λ p. p == place) places) ≡ true →
        (if not t then 1 + position_or_len (λ p. p == place) places else 0) < suc (length places)
    go true others f = omega arith
    go false others f = omega (arith, others f)

pub told_at : {A : Type 0} (f : ℕ → A) (other : A) (places : List ℕ) (place : ℕ) → Has places place →
    get_or (map f places) (position_or_len (λ p. p == place) places) other ≡ f place
told_at f other [] place h = absurd (true≢false (sym h))
told_at f other (q ∷ places) place h = go (q == place) refl (told_at f other places place) h
  where
    go : (t : Bool) → (q == place) ≡ t → (Has places place → get_or (map f places) (position_or_len (λ p. p == place) places) other ≡ f place) →
        (t || list_any (λ p. p == place) places) ≡ true →
        get_or (f q ∷ map f places) (if not t then 1 + position_or_len (λ p. p == place) places else 0) other ≡ f place
    go true is others k = ap f (same_by q place is)
    go false is others k =
        let next : 1 + position_or_len (λ p. p == place) places ≡ suc (position_or_len (λ p. p == place) places) = omega arith in
        ap (λ n. get_or (f q ∷ map f places) n other) next ∙ others k
