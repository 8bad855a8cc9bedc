-- A copy: a new object that has the Capacity that was asked for, and then takes the contents.
use Rattle.std.proofs.Common.{◌≡◌, ◌⊎◌, Bool, ℕ, zero, suc, ◌+◌, ◌≤◌, ◌&&◌, true, false, [], Some, None, length, map, refl, sym, ap, ◌∙◌, subst, inl, inr, arith, le-leb, lt-ltb, Result, Err}
use Rattle.std.specs.Prelude.{is_some, max, nat_le, nat_lt, if◌then◌else◌}
use Rattle.std.proofs.Math.Nat.{le-max_left, le-max_right, max-le}
use Rattle.std.proofs.lemmas.Bool.{cases_lt, cond-true, cond-false, le-ltb, lt-leb}
use Rattle.std.proofs.lemmas.List.{length-map}
use Rattle.ac_base.specs.declared.fault.Fault.{Fault}
use Rattle.ac_base.specs.declared.fault.Fault.TheVariants as fault
use Rattle.ac_base.specs.declared.limit.Limit.{Limit}
use Rattle.ac_base.specs.declared.limit.Limit.TheVariants.{Unbounded, Bounded}
use Rattle.ac_base.specs.declared.name.Name.{Name}
use Rattle.ac_base.specs.declared.reason.Reason.TheVariants.{CapacityFull}
use Rattle.ac_base.specs.Growth.{pow8}
use Rattle.ac_base.specs.Limits.{is_past}
use Rattle.ac_base.specs.Rows.{Row}
use Rattle.ac_base.specs.declared.limit.TheConstants.{GREATEST_LENGTH}
use Rattle.ac_base.proofs.Powers.{pow8-enough, pow8-rises}
use Rattle.ac_model.specs.Calls.{Changing, Done, Same}
use Rattle.ac_model.specs.Capacities.{widened}
use Rattle.ac_model.specs.Common.{assign_call, copied, copy_call, limit_of_copy}
use Rattle.ac_model.specs.Containers.{Container, first_spare, slots_of}
use Rattle.ac_model.specs.Forms.{Makes}
use Rattle.ac_model.specs.Letters.{reason_if}
use Rattle.ac_model.specs.Objects.{Object, capacity_after, contents, empty_object, first_capacity, length_of, plain, plain_row}
use Rattle.ac_model.specs.Rows.{fresh}
use Rattle.ac_model.proofs.Changes.{empty_takes, fits}
use Rattle.ac_model.proofs.Lengths.{length-fresh}
use Rattle.ac_model.proofs.Reasons.{none_first, not_if}

-- a capacity that isn't too small is 0, or no less than the length
large_enough : (capacity len : ℕ) → reason_if (nat_lt 0 capacity && nat_lt capacity len) CapacityFull ≡ None → (capacity ≡ 0) ⊎ (len ≤ capacity)
large_enough zero len h = inl refl
large_enough (suc capacity) len h = elim (cases_lt (suc capacity) len) [
  | inl less ↦
      let some : nat_lt 0 (suc capacity) ≡ true = lt-ltb 0 (suc capacity) (omega arith) in
      let small : nat_lt (suc capacity) len ≡ true = lt-ltb (suc capacity) len less in
      absurd (let k : true ≡ false = sym (λ i. some i && small i) ∙ not_if (nat_lt 0 (suc capacity) && nat_lt (suc capacity) len) CapacityFull h in cc)
  | inr le ↦ inr le
]

-- the limit of the copy allows what was asked for
pub copy_within : (l : Limit) (capacity len : ℕ) → is_past (limit_of_copy l capacity len) capacity ≡ false
copy_within Unbounded capacity len = refl
copy_within (Bounded most) zero len = le-ltb len 0 (omega arith)
copy_within (Bounded most) (suc capacity) len = le-ltb (suc capacity) (suc capacity) (omega arith)

-- a need within an earlier one changes nothing
enough_for : (capacity : ℕ) → capacity ≤ (if nat_le capacity 0 then 0 else pow8 capacity)
enough_for capacity = elim (cases_lt 0 capacity) [
  | inl lt ↦ subst (λ n. capacity ≤ n) (sym (cond-false _ _ _ (lt-leb capacity 0 lt))) (pow8-enough capacity)
  | inr le ↦ subst (λ n. capacity ≤ n) (sym (cond-true _ _ _ (le-leb capacity 0 le))) le
]

cap_twice : (has : Bool) (m : Limit) (capacity len : ℕ) → (capacity ≡ 0) ⊎ (len ≤ capacity) → capacity_after m (capacity_after m (first_capacity has m) capacity) len ≡ capacity_after m (first_capacity has m) (max capacity len)
cap_twice has (Bounded most) capacity len h = refl
cap_twice false Unbounded capacity len h = refl
cap_twice true Unbounded capacity len (inl none) =
    let most : max capacity len ≡ len = omega (arith, none) in
    ap (λ c. capacity_after Unbounded (capacity_after Unbounded (Some 0) c) len) none ∙ ap (capacity_after Unbounded (Some 0)) (sym most)
cap_twice true Unbounded capacity len (inr le) =
    let most : max capacity len ≡ capacity = omega arith in
    let wide = if nat_le capacity 0 then 0 else pow8 capacity in
    let fit : len ≤ wide = let e = enough_for capacity in omega arith in
    ap Some (cond-true _ _ _ (le-leb len wide fit)) ∙ ap (capacity_after Unbounded (Some 0)) (sym most)

module _ {X : Type 0} where
  pub copied_is : (has : Bool) (o made : Object ℕ X) (number capacity : ℕ) (m : Limit) → is_some o.capacity ≡ has → m ≡ limit_of_copy o.limit capacity (length_of o) → (copy_call o number capacity).reason ≡ None
      → made ≡ widened (empty_object has number m) capacity → (assign_call made o).after ≡ copied o number capacity
  copied_is has o made number capacity m some limit none is =
      let n = length_of o in
      let count : length (fresh 1 (contents o)) ≡ n = length-fresh 1 (contents o) ∙ length-map o.rows (λ (r : Row ℕ X). r.value) in
      let enough : reason_if (nat_lt 0 capacity && nat_lt capacity n) CapacityFull ≡ None = none_first (reason_if (nat_lt 0 capacity && nat_lt capacity n) CapacityFull) [] none in
      let capacity_is : capacity_after m (capacity_after m (first_capacity has m) capacity) (length (fresh 1 (contents o))) ≡ capacity_after (limit_of_copy o.limit capacity n) (first_capacity (is_some o.capacity) (limit_of_copy o.limit capacity n)) (max capacity n) =
      ap (capacity_after m (capacity_after m (first_capacity has m) capacity)) count ∙ cap_twice has m capacity n (large_enough capacity n enough)
      ∙ (λ i. capacity_after (limit i) (first_capacity (sym some i) (limit i)) (max capacity n)) in
      ap (λ p. (assign_call p o).after) is ∙ (λ i. record { number = number; limit = limit i; capacity = capacity_is i; next = 1 + n; rows = fresh 1 (contents o); cursor_guards = 0; element_guards = 0 })

  -- the new object takes the elements
  pub copy_takes : (has : Bool) (o : Object Name X) (made : Object ℕ X) (number capacity len : ℕ) (m : Limit) → length_of (plain o) ≤ GREATEST_LENGTH → len ≡ length_of (plain o) → reason_if (nat_lt 0 capacity && nat_lt capacity len) CapacityFull ≡ None
      → m ≡ limit_of_copy o.limit capacity len → made ≡ widened (plain (empty_object {N = Name} {V = X} has number m)) capacity → (assign_call made (plain o)).reason ≡ None
  copy_takes has o made number capacity len m few count enough limit is =
      let large = ap (λ n. reason_if (nat_lt 0 capacity && nat_lt capacity n) CapacityFull) (sym count) ∙ enough in
      ap (λ p. (assign_call p (plain o)).reason) is
      ∙ empty_takes o number m few (ap (λ l. is_past l (length_of (plain o))) (limit ∙ ap (limit_of_copy o.limit capacity) count) ∙ fits o.limit capacity (length_of (plain o)) large)

  pub copied_slots : (has : Bool) (o : Object Name X) (start wide made : Container X) (number capacity len : ℕ) (m : Limit) → o.limit ≡ Unbounded → m ≡ limit_of_copy o.limit capacity len → start.object ≡ empty_object has number m → start.spare ≡ first_spare m
      → slots_of wide ≤ max (slots_of start) (pow8 capacity) → plain made.object ≡ copied (plain o) number capacity → slots_of made ≤ max (slots_of wide) (pow8 (length_of made.object)) → slots_of made ≤ pow8 (max (length_of o) capacity)
  copied_slots has o start wide made number capacity len m unbounded limit empty spare one is two =
      let none : start.spare ≡ 0 = spare ∙ ap first_spare (limit ∙ ap (λ l. limit_of_copy l capacity len) unbounded) in
      let no_rows : length_of start.object ≡ 0 = ap (λ (p : Object Name X). length p.rows) empty in
      let slots : slots_of start ≡ 0 = omega arith in
      let count : length_of made.object ≡ length_of o = sym (length-map made.object.rows plain_row) ∙ ap (λ (p : Object ℕ X). length p.rows) is
      ∙ length-fresh 1 (contents (plain o)) ∙ length-map (map plain_row o.rows) (λ (r : Row ℕ X). r.value) ∙ length-map o.rows plain_row in
      let first = pow8-rises capacity (max (length_of o) capacity) (le-max_right (length_of o) capacity) in
      let second = pow8-rises (length_of o) (max (length_of o) capacity) (le-max_left (length_of o) capacity) in
      let wide_most : max (slots_of start) (pow8 capacity) ≤ pow8 (max (length_of o) capacity) = max-le (omega arith) first in
      let bound = subst (λ n. slots_of made ≤ max (slots_of wide) (pow8 n)) count two in
      let most : max (slots_of wide) (pow8 (length_of o)) ≤ pow8 (max (length_of o) capacity) = max-le (omega arith) second in
      omega arith

  -- a copy wants memory where the assignment to the new object does
  pub assign_wants : (o : Object Name X) (made new : Object Name X) (number capacity : ℕ) (r : Result Done Fault) (q : Fault) (t : Result (Container X) Fault) → (copy_call (plain o) number capacity).reason ≡ None → (assign_call (plain made) (plain o)).reason ≡ None
      → Changing Same (assign_call (plain made) (plain o)) made new r → r ≡ Err q → t ≡ Err q → Makes (copy_call (plain o) number capacity) t
  assign_wants o made new number capacity r q t enough none h is back =
      subst (λ u. Makes (copy_call (plain o) number capacity) u) (sym back) (by q (subst (λ u. Changing Same (assign_call (plain made) (plain o)) made new u) is h))
    where
      by : (q : Fault) → Changing Same (assign_call (plain made) (plain o)) made new (Err q) → Makes (copy_call (plain o) number capacity) (Err q)
      by (fault.Raised x) h = absurd (let k : None ≡ Some x = sym none ∙ h.0 in cc)
      by fault.NoMemory h = (refl, enough)
