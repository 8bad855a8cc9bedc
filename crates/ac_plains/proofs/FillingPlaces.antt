-- Environments with another object at a place.
use Rattle.std.proofs.Common.{◌≡◌, ℕ, slice_get, ap, Option, Some, None}
use Rattle.ac_calls.specs.Holdings.{Held}
use Rattle.ac_meaning.specs.Environment.{Bound, binds_type, binds_object, binds_cursor, binds_value, binds_element, State, bound_in, bound_at, object_in, object_at, with_bound}
use Rattle.ac_meaning.proofs.CallsStay.{none_some}
use Rattle.ac_meaning.proofs.Places.{same_some, set_same, set_twice, get_own}

object_found : (found : Option Bound) (h : Held) → object_in (bound_in found) ≡ Some h → found ≡ Some (binds_object h)
object_found None h e = none_some h e
object_found (Some binds_type) h e = none_some h e
object_found (Some (binds_object k)) h e = ap (λ x. Some (binds_object x)) (same_some k h e)
object_found (Some (binds_cursor mark)) h e = none_some h e
object_found (Some (binds_value v)) h e = none_some h e
object_found (Some (binds_element object at)) h e = none_some h e

pub put_twice : (e : State) (place : ℕ) (a b : Bound) → with_bound (with_bound e place a) place b ≡ with_bound e place b
put_twice e place a b = λ i. record e { bounds = set_twice e.bounds place a b i }

-- where an object stands

module _ (e : State) (place : ℕ) (h : Held) (there : object_at e place ≡ Some h) where
  pub found_there : slice_get e.bounds place ≡ Some (binds_object h)
  found_there = object_found (slice_get e.bounds place) h there

  pub put_same : with_bound e place (binds_object h) ≡ e
  put_same = λ i. record e { bounds = set_same e.bounds place (binds_object h) found_there i }

  pub put_there : (k : Held) → object_at (with_bound e place (binds_object k)) place ≡ Some k
  put_there k = ap (λ found. object_in (bound_in found)) (get_own e.bounds place (binds_object h) (binds_object k) found_there)

  pub bound_there : bound_at e place ≡ binds_object h
  bound_there = ap bound_in found_there
