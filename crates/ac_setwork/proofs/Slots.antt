-- The slots that there are after a need, and room that is made for one.
use Rattle.std.proofs.Common.{◌≡◌, ◌+◌, ◌-◌, ◌<◌, ◌≤◌, ℕ, true, false, true≢false, length, Option, Some, None, Result, Ok, Err, refl, sym, ap, ◌∙◌, subst, inl, inr, arith}
use Rattle.std.specs.Prelude.{max, IfSome, OnOk}
use Rattle.std.proofs.lemmas.Bool.{cases_lt, cond-false, cond-true, le-leb, leb-false, leb-true, lt-leb, lt-ltb}
use Rattle.ac_base.specs.Growth.{pow8}
use Rattle.ac_base.specs.Limits.{is_past}
use Rattle.ac_base.specs.declared.fault.Fault.{Fault}
use Rattle.ac_base.specs.declared.fault.NoMemory.{NoMemory}
use Rattle.ac_base.specs.declared.limit.Limit.{Limit}
use Rattle.ac_base.specs.declared.limit.Limit.TheVariants.{Unbounded, Bounded}
use Rattle.ac_base.proofs.Powers.{pow8-enough}
use Rattle.ac_model.specs.Containers as containers
use Rattle.ac_model.specs.Forms.{as_fault}
use Rattle.ac_model.specs.Objects.{CapacityFits, capacity_after}
use Rattle.ac_setwork.specs.Filling.{Widens, holds}
use Rattle.ac_setwork.specs.Indexed.{Indexed, HasSlots, MakesRoom, slots, slots_after}

pub after_kept : (have need : ℕ) → need ≤ have → slots_after have need ≡ have
after_kept have need le = cond-true _ _ _ (le-leb need have le)

pub after_grown : (have need : ℕ) → have < need → slots_after have need ≡ pow8 need
after_grown have need lt = cond-false _ _ _ (lt-leb need have lt)

pub after_enough : (have need : ℕ) → need ≤ slots_after have need
after_enough have need = elim (cases_lt have need) [
  | inl lt ↦ subst (λ n. need ≤ n) (sym (after_grown have need lt)) (pow8-enough need)
  | inr le ↦ subst (λ n. need ≤ n) (sym (after_kept have need le)) le
]

pub after_most : (have need : ℕ) → slots_after have need ≤ max have (pow8 need)
after_most have need = elim (cases_lt have need) [
  | inl lt ↦ subst (λ n. n ≤ max have (pow8 need)) (sym (after_grown have need lt)) (omega arith)
  | inr le ↦ subst (λ n. n ≤ max have (pow8 need)) (sym (after_kept have need le)) (omega arith)
]

-- in the words of a container
pub bounded_slots : {V : Type 0} (limit : Limit) (s : Indexed V) → HasSlots limit s.capacity (slots s) → containers.HasSlots limit (length s.rows) s.spare
bounded_slots Unbounded s has = tt
bounded_slots (Bounded most) s has = has

-- no fewer than the Capacity
pub within_slots : (limit : Limit) (capacity : Option ℕ) (length slots : ℕ) → IfSome capacity (CapacityFits limit length) → HasSlots limit capacity slots → IfSome capacity (λ c. c ≤ slots)
within_slots limit None length slots fits has = tt
within_slots Unbounded (Some capacity) length slots fits has = has
within_slots (Bounded most) (Some capacity) length slots fits has = let is : capacity ≡ most = fits in let all : slots ≡ most = has in let le : capacity ≤ slots = omega (arith, is, all) in le

-- so many rows that the Capacity has room for, or that are there
held_slots : (limit : Limit) (capacity : Option ℕ) (length slots need : ℕ) → length ≤ slots → holds capacity length need ≡ true → IfSome capacity (CapacityFits limit length) → HasSlots limit capacity slots → need ≤ slots
held_slots limit None length slots need few held fits has = let le = leb-true need length held in omega (arith, le, few)
held_slots limit (Some capacity) length slots need few held fits has = let le = leb-true need capacity held in let enough : capacity ≤ slots = within_slots limit (Some capacity) length slots fits has in omega (arith, le, enough)

held_capacity : (limit : Limit) (capacity : Option ℕ) (length need : ℕ) → holds capacity length need ≡ true → capacity ≡ capacity_after limit capacity need
held_capacity (Bounded most) capacity length need held = refl
held_capacity Unbounded None length need held = refl
held_capacity Unbounded (Some capacity) length need held = ap Some (sym (cond-true _ _ _ held))

not_held : (limit : Limit) (capacity : Option ℕ) (length need : ℕ) → holds capacity length need ≡ false → is_past limit need ≡ false → IfSome capacity (CapacityFits limit length) → length ≤ need
not_held limit None length need out within fits = let lt = leb-false need length out in omega (arith, lt)
not_held Unbounded (Some capacity) length need out within fits = let lt = leb-false need capacity out in let own : length ≤ capacity = fits in omega (arith, lt, own)
not_held (Bounded most) (Some capacity) length need out within fits =
    let lt = leb-false need capacity out in let own : capacity ≡ most = fits in let past : most < need = omega (arith, lt, own) in absurd (true≢false (sym (lt-ltb most need past) ∙ within))

module _ {V : Type 0} (limit : Limit) (need : ℕ) (s s2 : Indexed V) where
  -- there is room already
  pub widened_here : holds s.capacity (length s.rows) need ≡ true → IfSome s.capacity (CapacityFits limit (length s.rows)) → HasSlots limit s.capacity (slots s) → Widens limit need s s
  widened_here held fits has =
      let enough = held_slots limit s.capacity (length s.rows) (slots s) need (omega arith) held fits has in
      record {
        rows = refl;
        next = refl;
        capacity = held_capacity limit s.capacity (length s.rows) need held;
        enough = enough;
        has_slots = has;
        most = omega arith;
        now_slots = sym (after_kept (slots s) need enough);
      }

  -- room is made for what is missing
  widened_by : length s.rows ≤ need → MakesRoom limit (need - length s.rows) s s2 → Widens limit need s s2
  widened_by few room =
      let sum : length s.rows + (need - length s.rows) ≡ need = omega (arith, few) in
      let count = ap length room.rows in let enough = room.enough in
      record {
        rows = room.rows;
        next = room.next;
        capacity = room.capacity ∙ ap (capacity_after limit s.capacity) sum;
        enough = omega (arith, count, enough, few);
        has_slots = room.has_slots;
        most = subst (λ n. slots s2 ≤ max (slots s) (pow8 n)) sum room.most;
        now_slots = room.now_slots ∙ ap (slots_after (slots s)) sum;
      }

  pub widened_more : (r : Result (Unit {0}) NoMemory) → holds s.capacity (length s.rows) need ≡ false → is_past limit need ≡ false → IfSome s.capacity (CapacityFits limit (length s.rows)) → OnOk r (MakesRoom limit (need - length s.rows) s s2) → OnOk r (Widens limit need s s2)
  widened_more (Ok x) out within fits room = widened_by (not_held limit s.capacity (length s.rows) need out within fits) room
  widened_more (Err e) out within fits room = tt

  -- the slots, where want of memory is a fault
  pub slots_widened : (r : Result (Unit {0}) NoMemory) (f : Result (Unit {0}) Fault) → f ≡ as_fault r → OnOk r (Widens limit need s s2) → OnOk f (slots s2 ≡ slots_after (slots s) need)
  slots_widened (Ok x) f is w = subst (λ f. OnOk f (slots s2 ≡ slots_after (slots s) need)) (sym is) w.now_slots
  slots_widened (Err e) f is w = subst (λ f. OnOk f (slots s2 ≡ slots_after (slots s) need)) (sym is) tt
