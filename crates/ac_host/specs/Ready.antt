-- What is known where statements stand: which guards are held, and that the elements for which names stand have one.
use Rattle.std.specs.Prelude.{◌≡◌, ◌⊎◌, ℕ, Bool, true, List, ◌∷◌, ◌++◌, slice_get, Some}
use Rattle.ac_model.specs.Letters.{Mark, mark_at}
use Rattle.ac_calls.specs.Holdings.{Guards}
use Rattle.ac_meaning.specs.Environment.{State, under}
use Rattle.ac_meaning.specs.GuardedNames.{is_guarded, Frame, of_object, of_element, kept}
use Rattle.ac_meaning.specs.Numbers.{NumbersDiffer, GuardsBelow}
use Rattle.ac_objects.specs.World.{World, state_of}

-- an element in the rows of an object with a guard, and not its root
pub record IsNamed (guards : Guards) (number : ℕ) (rooted : Bool) (names : List ℕ) (at : Mark) : Type 0 where
  pub guarded : is_guarded guards number ≡ true
  pub before : List ℕ
  pub name : ℕ
  pub after : List ℕ
  pub among : names ≡ before ++ name ∷ after
  pub no_root : rooted ≡ true → name ≡ 0 → ⊥
  pub is : at ≡ mark_at number name

-- an element of an object with a guard, by what stays of the names in scope while the guards are held: one of its rows, or a holder's,
-- which needs no mark
pub record IsKept (guards : Guards) (frames : List Frame) (object : ℕ) (at : Mark) : Type 0 where
  pub number : ℕ
  pub rooted : Bool
  pub names : List ℕ
  pub has_element : Bool
  pub there : slice_get frames object ≡ Some (of_object number rooted names has_element)
  pub stands : IsNamed guards number rooted names at ⊎ (has_element ≡ true)

-- so is each for which a name stands
abbrev pub ElementsKept : Guards → List Frame → Type 0
ElementsKept guards frames =
    (place object : ℕ) (at : Mark) → slice_get frames place ≡ Some (of_element object at) → IsKept guards frames object at

-- an environment, kept at rest, in which statements can run while these guards are held
pub record Ready (guards : Guards) (e : State) : Type 0 where
  pub below : GuardsBelow guards e
  pub differ : NumbersDiffer e
  pub elements : ElementsKept guards (kept guards e)

-- the objects are those of the environment while the guards are held
pub record IsUnder (w : World) (guards : Guards) (e : State) : Type 0 where
  pub is : state_of w ≡ under guards e
  pub ready : Ready guards e

-- there are such guards and such an environment
pub record IsReady (w : World) : Type 0 where
  pub guards : Guards
  pub env : State
  pub stands : IsUnder w guards env
