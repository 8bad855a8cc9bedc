-- A change of rows keeps an object valid where no name stands more often than before, or than it does among the fresh rows besides.
use Rattle.std.proofs.Common.{◌≡◌, ◌+◌, ◌≤◌, ℕ, false, List, length, refl, arith, Option, Some, None, IfSome, inl, inr, if◌then◌else◌}
use Rattle.std.specs.Prelude.{nat_le}
use Rattle.std.proofs.lemmas.Bool.Decides.{nat_tests}
use Rattle.std.proofs.lemmas.Bool.{cases_lt}
use Rattle.ac_base.specs.declared.limit.Limit.{Limit}
use Rattle.ac_base.specs.declared.limit.Limit.TheVariants.{Unbounded, Bounded}
use Rattle.ac_base.specs.Growth.{pow8}
use Rattle.ac_base.proofs.Powers.{pow8-enough}
use Rattle.ac_base.specs.Rows.{Row}
use Rattle.ac_model.specs.Rows.{fresh}
use Rattle.ac_base.specs.Limits.{is_past}
use Rattle.ac_base.specs.declared.limit.TheConstants.{GREATEST_LENGTH}
use Rattle.ac_model.specs.Objects.{Object, IsValid, CapacityFits, times, with_rows, grown, capacity_after}
use Rattle.ac_model.proofs.Times.{times-fresh_below, times-fresh_above, times-fresh_once}
use Rattle.ac_base.specs.FirstReason.{first_reason}
use Rattle.ac_model.specs.Rows.{put}
use Rattle.ac_model.specs.Letters.{room}
use Rattle.ac_model.specs.Sequences.{with_new}
use Rattle.ac_model.proofs.Times.{times-put}
use Rattle.ac_model.proofs.Lengths.{length-fresh}
use Rattle.ac_model.proofs.Moves.{length-put}
use Rattle.ac_model.proofs.Reasons.{HasRoom, room_none}

is_past-less : (limit : Limit) (m n : ℕ) → is_past limit n ≡ false → m ≤ n → is_past limit m ≡ false
is_past-less Unbounded m n h le = refl
is_past-less (Bounded most) m n h le = grind (arith, nat_tests)

capacity-less : (limit : Limit) (capacity : Option ℕ) (m n : ℕ) → m ≤ n → IfSome capacity (λ c. CapacityFits limit n c) → IfSome capacity (λ c. CapacityFits limit m c)
capacity-less limit None m n le h = tt
capacity-less Unbounded (Some c) m n le h = omega arith
capacity-less (Bounded most) (Some c) m n le h = h

doubled-step : (capacity need rest : ℕ) → need ≤ rest → need ≤ (if nat_le need capacity then capacity else rest)
doubled-step capacity need rest h = grind (arith, nat_tests)

capacity-grown : (limit : Limit) (capacity : Option ℕ) (m n : ℕ) → n ≤ GREATEST_LENGTH → IfSome capacity (λ c. CapacityFits limit m c) → IfSome (capacity_after limit capacity n) (λ c. CapacityFits limit n c)
capacity-grown (Bounded most) None m n le h = tt
capacity-grown (Bounded most) (Some c) m n le h = h
capacity-grown Unbounded None m n le h = tt
capacity-grown Unbounded (Some c) m n le h = doubled-step c n (pow8 n) (pow8-enough n)

-- a capacity that is asked for isn't below what was there
asked-step : (capacity length need rest : ℕ) → length ≤ capacity → need ≤ rest → length ≤ (if nat_le need capacity then capacity else rest)
asked-step capacity length need rest h k = grind (arith, nat_tests)

pub capacity-asked : (limit : Limit) (capacity : Option ℕ) (length need : ℕ) → need ≤ GREATEST_LENGTH → IfSome capacity (λ c. CapacityFits limit length c) → IfSome (capacity_after limit capacity need) (λ c. CapacityFits limit length c)
capacity-asked (Bounded most) capacity length need le h = h
capacity-asked Unbounded None length need le h = tt
capacity-asked Unbounded (Some c) length need le h = asked-step c length need (pow8 need) h (pow8-enough need)

pub kept : {V : Type 0} (o : Object ℕ V) (rows : List (Row ℕ V)) → IsValid o → ((name : ℕ) → times name rows ≤ times name o.rows) → length rows ≤ length o.rows → IsValid (with_rows o rows)
kept o rows v fewer shorter = record {
  names_differ = λ name. omega (arith, fewer name, v.names_differ name);
  names_below_next = λ name h. omega (arith, fewer name, v.names_below_next name h);
  names_from_one = omega (arith, fewer 0, v.names_from_one);
  next_from_one = v.next_from_one;
  next_in_range = v.next_in_range;
  within_limit = is_past-less o.limit (length rows) (length o.rows) v.within_limit shorter;
  within_greatest = omega (arith, v.within_greatest);
  capacity_fits = capacity-less o.limit o.capacity (length rows) (length o.rows) shorter v.capacity_fits;
}

fresh_or_old : {V : Type 0} (o : Object ℕ V) (vs : List V) → IsValid o → (name : ℕ) → times name o.rows + times name (fresh o.next vs) ≤ 1
fresh_or_old o vs v name =
    elim (cases_lt name o.next) [
      | inr h ↦ omega (arith, v.names_below_next name h, times-fresh_once name o.next vs)
      | inl below ↦ omega (arith, v.names_differ name, times-fresh_below name o.next vs below)
    ]

pub grew : {V : Type 0} (o : Object ℕ V) (rows : List (Row ℕ V)) (vs : List V) (more : ℕ) → IsValid o → length vs ≡ more → HasRoom o (length rows) more →
    ((name : ℕ) → times name rows ≤ times name o.rows + times name (fresh o.next vs)) → IsValid (grown o rows more)
grew o rows vs more v counts room fewer = record {
  names_differ = λ name. omega (arith, fewer name, fresh_or_old o vs v name);
  names_below_next = λ name h.
      let below : o.next ≤ name = omega arith in
      let past : o.next + length vs ≤ name = omega arith in
      omega (arith, fewer name, v.names_below_next name below, times-fresh_above name o.next vs past);
  names_from_one = omega (arith, fewer 0, v.names_from_one, times-fresh_below 0 o.next vs v.next_from_one);
  next_from_one = omega (arith, v.next_from_one);
  next_in_range = room.within_names;
  within_limit = room.within_limit;
  within_greatest = room.within_greatest;
  capacity_fits = capacity-grown o.limit o.capacity (length o.rows) (length rows) room.within_greatest v.capacity_fits;
}

pub new_kept : {T : Type 0} (o : Object ℕ T) (place : ℕ) (vs : List T) (more : ℕ) → IsValid o → length vs ≡ more →
    first_reason (room o (length o.rows + more) more) ≡ None → IsValid (with_new o place vs more)
new_kept o place vs more v counts none =
    let len : length (put o.rows place (fresh o.next vs)) ≡ length o.rows + more = omega (arith, length-put o.rows place (fresh o.next vs), length-fresh o.next vs) in
    let fits = room_none o (length o.rows + more) more none in
    grew o (put o.rows place (fresh o.next vs)) vs more v counts (rw len fits) (λ name. omega (arith, times-put name o.rows place (fresh o.next vs)))
