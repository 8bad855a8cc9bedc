-- The object that a block finds to guard is the one at the place, where that takes guards.
use Rattle.std.proofs.Common.{◌≡◌, ℕ, Bool, true, false, refl, sym, ap, ◌∙◌, if◌then◌else◌, Option, Some, None}
use Rattle.ac_calls.specs.Holdings.{Held, takes_guards}
use Rattle.ac_meaning.specs.Environment.{State, object_at, only_guarded, guarded_at}
use Rattle.ac_meaning.proofs.CallsStay.{none_some}

found_itself : (found : Option Held) (h : Held) → only_guarded found ≡ Some h → found ≡ Some h
found_itself None h there = none_some h there
found_itself (Some k) h there = go (takes_guards k) there
  where
    go : (takes : Bool) → (if takes then Some k else None) ≡ Some h → Some k ≡ Some h
    go true there = there
    go false there = none_some h there

found_takes : (found : Option Held) (h : Held) → only_guarded found ≡ Some h → takes_guards h ≡ true
found_takes None h there = none_some h there
found_takes (Some k) h there = go (takes_guards k) refl there
  where
    go : (takes : Bool) → takes_guards k ≡ takes → (if takes then Some k else None) ≡ Some h → takes_guards h ≡ true
    go true is there = let same : k ≡ h = cc in ap takes_guards (sym same) ∙ is
    go false is there = none_some h there

pub guarded_is_there : (e : State) (place : ℕ) (h : Held) → guarded_at e place ≡ Some h → object_at e place ≡ Some h
guarded_is_there e place h there = found_itself (object_at e place) h there

pub guarded_takes : (e : State) (place : ℕ) (h : Held) → guarded_at e place ≡ Some h → takes_guards h ≡ true
guarded_takes e place h there = found_takes (object_at e place) h there

pub there_guarded : (e : State) (place : ℕ) (h : Held) → object_at e place ≡ Some h → takes_guards h ≡ true → guarded_at e place ≡ Some h
there_guarded e place h there takes = ap only_guarded there ∙ ap (λ (b : Bool). if b then Some h else None) takes

pub there_unguarded : (e : State) (place : ℕ) (h : Held) → object_at e place ≡ Some h → takes_guards h ≡ false → guarded_at e place ≡ None
there_unguarded e place h there takes = ap only_guarded there ∙ ap (λ (b : Bool). if b then Some h else None) takes
