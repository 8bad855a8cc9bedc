-- Blocks of tasks that began, told by the orders by which they went.
use Rattle.std.specs.Prelude.{◌≡◌, ◌+◌, ⊤, ℕ, List, [], ◌∷◌, length, All, Result, OnOk}
use Rattle.ac_meaning.specs.Execution.{Orders}
use Rattle.ac_objects.specs.World.{World}
use Rattle.ac_host.specs.declared.end.HostEnd.{HostEnd}

-- from this block on, these are the orders
abbrev pub GoBy : List (List ℕ) → (first : ℕ) → Orders → Type 0
GoBy [] first orders = ⊤
GoBy (order ∷ told) first orders = (orders first ≡ order) × GoBy told (first + 1) orders

-- there are such orders, one for each block that began, and whatever orders go on by these, this holds of them
pub record Tells {T : Type 0} (allows : List ℕ → Type 0) (old new : World) (result : Result T HostEnd) (Holds : Orders → Type 0) : Type 0 where
  pub told : List (List ℕ)
  pub allowed : All allows told
  pub counted : OnOk result (new.counters.blocks ≡ old.counters.blocks + length told)
  pub holds : (orders : Orders) → GoBy told old.counters.blocks orders → Holds orders

-- the same of a whole script, from its first block on
pub record TellsAll (allows : List ℕ → Type 0) (Holds : Orders → Type 0) : Type 0 where
  pub told : List (List ℕ)
  pub allowed : All allows told
  pub holds : (orders : Orders) → GoBy told 0 orders → Holds orders
