-- The guard of a block is held on one object.
use Rattle.std.proofs.Common.{◌≡◌, ◌==◌, ◌≤◌, ℕ, zero, suc, Bool, true, false, List, [], ◌∷◌, map, slice_get, slice_set, refl, sym, ap, subst, ◌∙◌, arith, Some, if◌then◌else◌}
use Rattle.std.proofs.lemmas.Bool.Decides.{nat_tests}
use Rattle.ac_base.specs.declared.guard.GuardKind.{GuardKind}
use Rattle.ac_base.specs.Guards.{HeldGuard, raised_kind, one_more, one_less}
use Rattle.ac_model.specs.Objects.{Object}
use Rattle.ac_model.specs.Common.{hold_call, release_call, under_guards, guards_on}
use Rattle.ac_calls.specs.Holdings.{Held, of_rows, of_holder, of_queue, as_object, counted_as, with_rows_by, number_of, are_sets, is_a_set, guard_on}
use Rattle.ac_meaning.specs.Environment.{Bound, binds_type, binds_object, binds_cursor, binds_value, binds_element, bound_by, bound_in, object_in, State, objects_by, object_at, with_bound}
use Rattle.ac_meaning.specs.UnderGuards.{held_with, held_without}
use Rattle.ac_meaning.specs.Numbers.{has_number, times_numbered, NumbersDiffer, GuardsAreOnOneObject}
use Rattle.ac_meaning.proofs.CallsStay.{none_some}
use Rattle.ac_meaning.proofs.BoundsStay.{object_there}
use Rattle.ac_meaning.proofs.NumbersApart.{is_there, own_number}

-- what changes no object with another number
abbrev SparesOthers : ℕ → (Held → Held) → Type 0
SparesOthers number f = (k : Held) → (number_of k == number) ≡ false → f k ≡ k

abbrev one_if : Bool → ℕ
one_if b = if b then 1 else 0

not_numbered : (b : Bool) → one_if b ≡ 0 → b ≡ false
not_numbered true h = absurd (omega (arith, h))
not_numbered false h = refl

bound_spared : (number : ℕ) (f : Held → Held) → SparesOthers number f → (b : Bound) → has_number number b ≡ 0 → bound_by f b ≡ b
bound_spared number f spares binds_type e = refl
bound_spared number f spares (binds_object k) e = λ i. binds_object (spares k (not_numbered (number_of k == number) e) i)
bound_spared number f spares (binds_cursor mark) e = refl
bound_spared number f spares (binds_value v) e = refl
bound_spared number f spares (binds_element object at) e = refl

all_spared : (number : ℕ) (f : Held → Held) → SparesOthers number f → (bs : List Bound) → times_numbered number bs ≡ 0 → map (bound_by f) bs ≡ bs
all_spared number f spares [] e = refl
all_spared number f spares (b ∷ bs) e =
    λ i. bound_spared number f spares b (omega (arith, e)) i ∷ all_spared number f spares bs (omega (arith, e)) i

at_place : (f : Held → Held) (bs : List Bound) (place : ℕ) (h : Held) → SparesOthers (number_of h) f →
    object_in (bound_in (slice_get bs place)) ≡ Some h → times_numbered (number_of h) bs ≤ 1 →
    map (bound_by f) bs ≡ slice_set bs place (binds_object (f h))
at_place f [] place h spares e once = none_some h e
at_place f (b ∷ bs) zero h spares e once =
    let is = object_there b h e in
    let here : 1 ≤ has_number (number_of h) b = subst (λ x. 1 ≤ has_number (number_of h) x) (sym is) (own_number (number_of h)) in
    λ i. bound_by f (is i) ∷ all_spared (number_of h) f spares bs (omega (arith, once, here)) i
at_place f (b ∷ bs) (suc place) h spares e once =
    let there = is_there bs place h e in
    λ i. bound_spared (number_of h) f spares b (omega (arith, once, there)) i
    ∷ at_place f bs place h spares e (omega (arith, once)) i

state_at_place : (f : Held → Held) (e : State) (place : ℕ) (h : Held) → NumbersDiffer e → SparesOthers (number_of h) f → object_at e place ≡ Some h →
    objects_by f e ≡ with_bound e place (binds_object (f h))
state_at_place f e place h d spares there = λ i. record e { bounds = at_place f e.bounds place h spares there (d.once (number_of h)) i }

-- holding and releasing
another : (n m : ℕ) → (n == m) ≡ false → (m == n) ≡ false
another n m e = grind (arith, nat_tests)

where_other : {V : Type 0} (o now : Object ℕ V) (b : Bool) → b ≡ false → (if b then now else o) ≡ o
where_other o now true e = absurd (cc)
where_other o now false e = refl

where_own : {V : Type 0} (o now : Object ℕ V) (b : Bool) → b ≡ true → (if b then now else o) ≡ now
where_own o now true e = refl
where_own o now false e = absurd (cc)

held_spares : (g : HeldGuard) → SparesOthers g.object (held_with g)
held_spares g (of_rows kind o) e =
    ap (of_rows kind) (where_other o (hold_call false g.kind o) (g.object == o.number) (another o.number g.object e))
held_spares g (of_holder element h) e =
    let o = as_object h in
    ap (λ p. of_holder element (counted_as h p))
    (where_other o (hold_call false g.kind o) (g.object == h.number) (another h.number g.object e))
held_spares g (of_queue number q) e = refl

released_spares : (g : HeldGuard) → SparesOthers g.object (held_without g)
released_spares g (of_rows kind o) e =
    ap (of_rows kind) (where_other o (release_call false g.kind o) (g.object == o.number) (another o.number g.object e))
released_spares g (of_holder element h) e =
    let o = as_object h in
    ap (λ p. of_holder element (counted_as h p))
    (where_other o (release_call false g.kind o) (g.object == h.number) (another h.number g.object e))
released_spares g (of_queue number q) e = refl

same_number : (n m : ℕ) → m ≡ n → (n == m) ≡ true
same_number n m e = grind (arith, nat_tests)

-- a kind of guard that is raised once isn't raised again
raised_once : (is_set : Bool) (kind : GuardKind) → raised_kind false (raised_kind is_set kind) ≡ raised_kind is_set kind
raised_once true kind = refl
raised_once false kind = refl

held_own : (h : Held) (kind : GuardKind) → held_with (guard_on h kind) h ≡ with_rows_by (λ V o. hold_call (is_a_set h) kind o) h
held_own (of_rows rows o) kind =
    ap (of_rows rows)
    (where_own o (hold_call false (raised_kind (are_sets rows) kind) o) (o.number == o.number) (same_number o.number o.number refl)
    ∙ ap (λ k. under_guards o (one_more k (guards_on o))) (raised_once (are_sets rows) kind))
held_own (of_holder element h) kind =
    let o = as_object h in
    ap (λ p. of_holder element (counted_as h p))
    (where_own o (hold_call false (raised_kind false kind) o) (h.number == h.number) (same_number h.number h.number refl)
    ∙ ap (λ k. under_guards o (one_more k (guards_on o))) (raised_once false kind))
held_own (of_queue number q) kind = refl

released_own : (h k : Held) (kind : GuardKind) → number_of k ≡ number_of h →
    held_without (guard_on h kind) k ≡ with_rows_by (λ V o. release_call (is_a_set h) kind o) k
released_own h (of_rows rows o) kind e =
    ap (of_rows rows)
    (where_own o (release_call false (raised_kind (is_a_set h) kind) o) (number_of h == o.number) (same_number (number_of h) o.number e)
    ∙ ap (λ k. under_guards o (one_less k (guards_on o))) (raised_once (is_a_set h) kind))
released_own h (of_holder element k) kind e =
    let o = as_object k in
    ap (λ p. of_holder element (counted_as k p))
    (where_own o (release_call false (raised_kind (is_a_set h) kind) o) (number_of h == k.number) (same_number (number_of h) k.number e)
    ∙ ap (λ n. under_guards o (one_less n (guards_on o))) (raised_once (is_a_set h) kind))
released_own h (of_queue number q) kind e = refl

pub guards_are_on_one_object : GuardsAreOnOneObject
guards_are_on_one_object = record {
  held = λ e place h kind d there.
      state_at_place (held_with (guard_on h kind)) e place h d (held_spares (guard_on h kind)) there
      ∙ ap (λ k. with_bound e place (binds_object k)) (held_own h kind);
  released = λ e place h k kind d there same.
      state_at_place (held_without (guard_on h kind)) e place k d
      (subst (λ n. SparesOthers n (held_without (guard_on h kind))) (sym same) (released_spares (guard_on h kind))) there
      ∙ ap (λ x. with_bound e place (binds_object x)) (released_own h k kind same);
}
