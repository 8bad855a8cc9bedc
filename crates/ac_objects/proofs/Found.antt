-- What is found at a place.
use Rattle.std.proofs.Common.{◌≡◌, ℕ, true, false, List, is_some, refl, sym, ap, subst, ◌∙◌, option_map, Option, Some, None}
use Rattle.std.specs.Prelude.{slice_get}
use Rattle.std.proofs.lemmas.Option.{slice_get-map, same_Some}
use Rattle.std.specs.Borrow.{Bor}
use Rattle.std.proofs.lemmas.Bool.{false≢true}
use Rattle.ac_base.specs.declared.cursor.Cursor.{Cursor}
use Rattle.ac_meaning.specs.Environment as meant
use Rattle.ac_calls.specs.Holdings.{Held, takes_guards}
use Rattle.ac_meaning.proofs.GuardedPlaces.{guarded_is_there, guarded_takes, there_guarded, there_unguarded}
use Rattle.ac_objects.specs.declared.bound.Bound.{Bound}
use Rattle.ac_objects.specs.declared.bound.Bound.TheVariants as bound
use Rattle.ac_objects.specs.declared.object.Object.{Object}
use Rattle.ac_objects.specs.Given.{HoldsObject, Finds}
use Rattle.ac_objects.specs.Standing.{IsObject, TakesGuards}
use Rattle.ac_objects.specs.World.{World, Counters, world, held_of, bound_of, state_of, ObjectAgrees, IsKnown}
use Rattle.ac_objects.proofs.InScope.{object_there, bound_there}
use Rattle.ac_objects.proofs.Worlds.{known_agrees}

pub found_object : (w : World) (place : ℕ) (found : Option (Bor Object)) → Finds w place found → is_some found ≡ true → IsObject (state_of w) place
found_object w place None finds e = absurd (false≢true e)
found_object w place (Some o) finds e = record { held = held_of o.now; there = object_there w.bounds w.counters place o.now finds }

-- it takes guards, or it doesn't
module _ (w : World) (place : ℕ) (o : Object) (there : slice_get w.bounds place ≡ Some (bound.Object o)) where
  pub found_guarded : takes_guards (held_of o) ≡ true → TakesGuards (state_of w) place
  found_guarded takes =
      record { held = held_of o; there = there_guarded (state_of w) place (held_of o) (object_there w.bounds w.counters place o there) takes }

  pub found_unguarded : takes_guards (held_of o) ≡ false → meant.guarded_at (state_of w) place ≡ None
  found_unguarded takes = there_unguarded (state_of w) place (held_of o) (object_there w.bounds w.counters place o there) takes

  pub found_takes : TakesGuards (state_of w) place → takes_guards (held_of o) ≡ true
  found_takes t =
      let e = state_of w in
      ap takes_guards (same_Some (held_of o) t.held (sym (object_there w.bounds w.counters place o there) ∙ guarded_is_there e place t.held t.there))
      ∙ guarded_takes e place t.held t.there

-- what holds of an object that was found holds of what the environment has at the place
pub holds_there : (P : Held → Type 0) (w : World) (place : ℕ) (o : Object) → slice_get w.bounds place ≡ Some (bound.Object o) → P (held_of o) →
    (h : Held) → meant.object_at (state_of w) place ≡ Some h → P h
holds_there P w place o there p h at =
    subst P (same_Some (held_of o) h (sym (object_there w.bounds w.counters place o there) ∙ at)) p

-- and a cursor that is known agrees with it
pub found_agrees : (w : World) (place : ℕ) (o : Object) (c : Cursor) → slice_get w.bounds place ≡ Some (bound.Object o) → IsKnown w c → ObjectAgrees o c
found_agrees w place o c there known = known_agrees w.bounds w.counters place o c known there

-- what stands at a place, or nothing

module _ (w : World) (bs : List Bound) (next : Counters) (place : ℕ) (view : world bs next ≡ w) where
  no_object : (b : Bound) → slice_get bs place ≡ Some b → meant.object_in (bound_of b) ≡ None → meant.object_at (state_of w) place ≡ None
  no_object b there none = subst (λ v. meant.object_at (state_of v) place ≡ None) view (ap meant.object_in (bound_there bs next place b there) ∙ none)

  pub holds_object : (b : Bound) (found : Option (Bor Object)) → slice_get bs place ≡ Some b → HoldsObject b found → Finds w place found
  holds_object (bound.Object o) (Some p) there is =
      subst (λ v. slice_get v.bounds place ≡ Some (bound.Object p.now)) view (there ∙ ap (λ x. Some (bound.Object x)) (sym is))
  holds_object (bound.Object o) None there is = absurd is
  holds_object bound.Type None there is = no_object bound.Type there refl
  holds_object (bound.Cursor c) None there is = no_object (bound.Cursor c) there refl
  holds_object (bound.Value v) None there is = no_object (bound.Value v) there refl
  holds_object (bound.Element object at) None there is = no_object (bound.Element object at) there refl
  holds_object bound.Type (Some p) there is = absurd is
  holds_object (bound.Cursor c) (Some p) there is = absurd is
  holds_object (bound.Value v) (Some p) there is = absurd is
  holds_object (bound.Element object at) (Some p) there is = absurd is

  pub holds_none : slice_get bs place ≡ None → meant.object_at (state_of w) place ≡ None
  holds_none there =
      subst (λ v. meant.object_at (state_of v) place ≡ None) view
      (ap (λ x. meant.object_in (meant.bound_in x)) (slice_get-map bound_of bs place ∙ ap (option_map bound_of) there))
