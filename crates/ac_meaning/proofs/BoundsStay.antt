-- What names hold goes on: the relation alone.
use Rattle.std.proofs.Common.{◌≡◌, ℕ, zero, suc, true, List, [], ◌∷◌, slice_get, slice_set, length, refl, sym, ap, subst, ◌∙◌, arith, Option, Some, None, is_some, inl, inr}
use Rattle.ac_base.specs.declared.limit.Limit.{Limit}
use Rattle.ac_base.specs.declared.reason.Reason.{Reason}
use Rattle.ac_base.specs.declared.guard.Class.TheVariants as class
use Rattle.ac_base.specs.Tampering.{forbids}
use Rattle.ac_model.specs.Objects.{Object}
use Rattle.ac_calls.specs.Holdings.{Held, of_rows, of_holder, of_queue}
use Rattle.ac_meaning.specs.Environment.{Bound, binds_type, binds_object, binds_cursor, binds_value, binds_element, State, bound_in, bound_at, with_bound, object_in}
use Rattle.ac_meaning.specs.Stays.{CapacityGoesOn, Stays, HeldStays, BoundStays, EachStays, StateStays}
use Rattle.ac_meaning.proofs.CallsStay.{none_some, same}
use Rattle.ac_meaning.proofs.HoldersStay.{holder_same, holder_then}
use Rattle.ac_meaning.proofs.QueuesStay.{queue_same, queue_then}

-- a call that isn't refused
pub passed : {V : Type 0} (o : Object ℕ V) (reason : Option Reason) (after : Object ℕ V) → reason ≡ None → Stays o reason after → Stays o None after
passed o reason after none s = record {
  number = s.number;
  limit = s.limit;
  next = s.next;
  capacity = λ _. s.capacity none;
  cursor_guards = s.cursor_guards;
  element_guards = s.element_guards;
  names = λ _. s.names none;
}

-- one Capacity after another
pub capacity_then : (limit later : Limit) (a b c : Option ℕ) → later ≡ limit → CapacityGoesOn limit a b → CapacityGoesOn later b c →
    CapacityGoesOn limit a c
capacity_then limit later a b c same h (inl stays) = subst (λ x. CapacityGoesOn limit a x) (sym stays) h
capacity_then limit later a b c same (inl stays) (inr grew) =
    inr (record {
      unbounded = sym same ∙ grew.unbounded;
      had = subst (λ x. is_some x ≡ true) stays grew.had;
      step = grew.step;
      is = grew.is;
      is_step = grew.is_step;
    })
capacity_then limit later a b c same (inr first) (inr grew) =
    inr (record { unbounded = first.unbounded; had = first.had; step = grew.step; is = grew.is; is_step = grew.is_step })

-- one call after another
pub stays_then : {V : Type 0} (o a b : Object ℕ V) → Stays o None a → Stays a None b → Stays o None b
stays_then o a b h k = record {
  number = k.number ∙ h.number;
  limit = k.limit ∙ h.limit;
  next = omega (arith, h.next, k.next);
  capacity = λ none. capacity_then o.limit a.limit o.capacity a.capacity b.capacity h.limit (h.capacity none) (k.capacity none);
  cursor_guards = k.cursor_guards ∙ h.cursor_guards;
  element_guards = k.element_guards ∙ h.element_guards;
  names = λ none tampering t. k.names none tampering
      (ap (λ n. forbids class.Cursors n a.element_guards) h.cursor_guards ∙ (ap (λ n. forbids class.Cursors o.cursor_guards n) h.element_guards ∙ t))
      ∙ h.names none tampering t;
}

pub held_same : (h : Held) → HeldStays h h
held_same (of_rows kind o) = (o, refl, same o None)
held_same (of_holder e h) = (h, refl, holder_same h None)
held_same (of_queue number q) = (q, refl, queue_same q)

held_then : (h a b : Held) → HeldStays h a → HeldStays a b → HeldStays h b
held_then (of_rows kind o) a b h k =
    let l : HeldStays (of_rows kind h.0) b = subst (λ x. HeldStays x b) h.1 k in (l.0, l.1, stays_then o h.0 l.0 h.2 l.2)
held_then (of_holder e o) a b h k =
    let l : HeldStays (of_holder e h.0) b = subst (λ x. HeldStays x b) h.1 k in (l.0, l.1, holder_then o h.0 l.0 h.2 l.2)
held_then (of_queue number q) a b h k =
    let l : HeldStays (of_queue number h.0) b = subst (λ x. HeldStays x b) h.1 k in (l.0, l.1, queue_then q h.0 l.0 h.2 l.2)

pub bound_same : (b : Bound) → BoundStays b b
bound_same binds_type = tt
bound_same (binds_object h) = held_same h
bound_same (binds_cursor mark) = tt
bound_same (binds_value v) = tt
bound_same (binds_element object at) = (refl, refl)

bound_then : (a b c : Bound) → BoundStays a b → BoundStays b c → BoundStays a c
bound_then binds_type binds_type c h k = k
bound_then (binds_object g) (binds_object a) (binds_object b) h k = held_then g a b h k
bound_then (binds_cursor m) (binds_cursor n) (binds_cursor l) h k = tt
bound_then (binds_value m) (binds_value n) (binds_value l) h k = tt
bound_then (binds_element p m) (binds_element q n) (binds_element r l) h k = (k.0 ∙ h.0, k.1 ∙ h.1)
bound_then (binds_object g) (binds_object a) _ h k = absurd k
bound_then (binds_cursor m) (binds_cursor n) _ h k = absurd k
bound_then (binds_value m) (binds_value n) _ h k = absurd k
bound_then (binds_element p m) (binds_element q n) _ h k = absurd k
bound_then binds_type _ c h k = absurd h
bound_then (binds_object g) _ c h k = absurd h
bound_then (binds_cursor m) _ c h k = absurd h
bound_then (binds_value m) _ c h k = absurd h
bound_then (binds_element p m) _ c h k = absurd h

pub each_same : (bs : List Bound) → EachStays bs bs
each_same [] = tt
each_same (b ∷ bs) = (bound_same b, each_same bs)

each_then : (xs bs cs : List Bound) → EachStays xs bs → EachStays bs cs → EachStays xs cs
each_then [] [] cs h k = k
each_then (a ∷ xs) (b ∷ bs) (c ∷ cs) h k = (bound_then a b c h.0 k.0, each_then xs bs cs h.1 k.1)
each_then (a ∷ xs) (b ∷ bs) [] h k = absurd k
each_then [] (b ∷ bs) cs h k = absurd h
each_then (a ∷ xs) [] cs h k = absurd h

-- with something else at a place
each_set : (xs bs : List Bound) (place : ℕ) (b : Bound) → EachStays xs bs → BoundStays (bound_in (slice_get xs place)) b →
    EachStays xs (slice_set bs place b)
each_set [] [] place b h k = tt
each_set [] (x ∷ bs) place b h k = absurd h
each_set (a ∷ xs) [] place b h k = absurd h
each_set (a ∷ xs) (x ∷ bs) zero b h k = (k, h.1)
each_set (a ∷ xs) (x ∷ bs) (suc place) b h k = (h.0, each_set xs bs place b h.1 k)

pub each_at : (xs bs : List Bound) (place : ℕ) → EachStays xs bs → BoundStays (bound_in (slice_get xs place)) (bound_in (slice_get bs place))
each_at [] [] place h = tt
each_at [] (x ∷ bs) place h = absurd h
each_at (a ∷ xs) [] place h = absurd h
each_at (a ∷ xs) (x ∷ bs) zero h = h.0
each_at (a ∷ xs) (x ∷ bs) (suc place) h = each_at xs bs place h.1

pub same_length : (xs bs : List Bound) → EachStays xs bs → length bs ≡ length xs
same_length [] [] h = refl
same_length [] (x ∷ bs) h = absurd h
same_length (a ∷ xs) [] h = absurd h
same_length (a ∷ xs) (x ∷ bs) h = ap suc (same_length xs bs h.1)

pub state_same : (e : State) → StateStays e e
state_same e = record { bounds = each_same e.bounds; next = refl; blocks = refl }

pub state_then : (e now after : State) → StateStays e now → StateStays now after → StateStays e after
state_then e now after h k = record {
  bounds = each_then e.bounds now.bounds after.bounds h.bounds k.bounds;
  next = k.next ∙ h.next;
  blocks = k.blocks ∙ h.blocks;
}

pub state_set : (e now : State) (place : ℕ) (old b : Bound) → StateStays e now → bound_at e place ≡ old → BoundStays old b →
    StateStays e (with_bound now place b)
state_set e now place old b h is k = record {
  bounds = each_set e.bounds now.bounds place b h.bounds (subst (λ x. BoundStays x b) (sym is) k);
  next = h.next;
  blocks = h.blocks;
}

-- an object that is looked up
pub object_there : (b : Bound) (h : Held) → object_in b ≡ Some h → b ≡ binds_object h
object_there binds_type h e = none_some h e
object_there (binds_object g) h e = cc
object_there (binds_cursor mark) h e = none_some h e
object_there (binds_value v) h e = none_some h e
object_there (binds_element object at) h e = none_some h e
