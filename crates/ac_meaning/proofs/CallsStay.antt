-- What stays of an object through a call: the parts.
use Rattle.std.proofs.Common.{◌≡◌, ◌==◌, ◌*◌, ◌^◌, ◌≤◌, ℕ, Bool, true, false, List, [], ◌∷◌, length, refl, sym, ◌∙◌, arith, Option, Some, None, inl, inr, if◌then◌else◌}
use Rattle.std.specs.Prelude.{nat_le}
use Rattle.ac_base.specs.declared.limit.Limit.{Limit}
use Rattle.ac_base.specs.declared.limit.Limit.TheVariants.{Unbounded, Bounded}
use Rattle.ac_base.specs.declared.limit.TheConstants.{GREATEST_LENGTH}
use Rattle.ac_base.specs.declared.reason.Reason.{Reason}
use Rattle.ac_base.specs.FirstReason.{first_reason, earlier}
use Rattle.ac_base.specs.Growth.{pow8}
use Rattle.ac_base.specs.Rows.{Row, row, names}
use Rattle.ac_base.proofs.Powers.{IsLeastPow8-pow8, pow8-within}
use Rattle.ac_model.specs.Capacities.{IsStep, widened}
use Rattle.ac_model.specs.Rows.{with_value, with_some_value, with_exchanged_values, value_at, over}
use Rattle.ac_model.specs.Objects.{Object, with_rows, grown, grown_unless, capacity_after}
use Rattle.ac_model.specs.Letters.{tampers_cursors}
use Rattle.ac_calls.specs.Replies.{Arguments, Source, without, itself, another, by_source, Reply}
use Rattle.ac_meaning.specs.Stays.{CapacityGoesOn, Stays, SourceStays, ReplyStays}

pub none_some : {A : Type 0} {B : Type 0} (x : A) → None ≡ Some x → B
none_some x e = absurd (cc)

pub earlier_none : (a b : Option Reason) → earlier a b ≡ None → (a ≡ None) × (b ≡ None)
earlier_none None b h = (refl, h)
earlier_none (Some r) None h = cc
earlier_none (Some r) (Some q) h = grind arith

pub first_none : (a : Option Reason) (others : List (Option Reason)) → first_reason (a ∷ others) ≡ None → a ≡ None
first_none a others h = (earlier_none a (first_reason others) h).0

pub second_none : (a b : Option Reason) (others : List (Option Reason)) → first_reason (a ∷ b ∷ others) ≡ None → b ≡ None
second_none a b others h = first_none b others (earlier_none a (first_reason (b ∷ others)) h).1

-- where no call with this check goes on
abbrev pub Checked : {V : Type 0} → Object ℕ V → Option Reason → Type 0
Checked o reason = reason ≡ None → tampers_cursors o ≡ None

pub first_check : {V : Type 0} (o : Object ℕ V) (others : List (Option Reason)) → Checked o (first_reason (tampers_cursors o ∷ others))
first_check o others h = first_none (tampers_cursors o) others h

-- and where it is made before the call looks for its own reasons
pub earlier_check : {V : Type 0} (o : Object ℕ V) (reason : Option Reason) → Checked o (earlier (tampers_cursors o) reason)
earlier_check o reason h = (earlier_none (tampers_cursors o) reason h).0

pub second_check : {V : Type 0} (o : Object ℕ V) (first : Option Reason) (others : List (Option Reason)) →
    Checked o (first_reason (first ∷ tampers_cursors o ∷ others))
second_check o first others h = second_none first (tampers_cursors o) others h

-- a need that is allowed makes a step of a Capacity that is too small

fits_greatest : (need : ℕ) → need ≤ GREATEST_LENGTH → need ≤ 8 * 2 ^ 17
fits_greatest need h = let most : GREATEST_LENGTH ≤ 8 * 2 ^ 17 = omega arith in omega arith

power_of : (need : ℕ) → need ≤ GREATEST_LENGTH → IsStep (pow8 need)
power_of need h =
    let least = IsLeastPow8-pow8 need in
    inr (record { exponent = least.power.0; is = least.power.1; within = pow8-within need 17 (fits_greatest need h) })

capacity_case : (need c : ℕ) (b : Bool) → need ≤ GREATEST_LENGTH → CapacityGoesOn Unbounded (Some c) (Some (if b then c else pow8 need))
capacity_case need c true h = inl refl
capacity_case need c false h = inr (record { unbounded = refl; had = refl; step = pow8 need; is = refl; is_step = power_of need h })

pub capacity_grows : (limit : Limit) (capacity : Option ℕ) (need : ℕ) → need ≤ GREATEST_LENGTH →
    CapacityGoesOn limit capacity (capacity_after limit capacity need)
capacity_grows (Bounded most) capacity need h = inl refl
capacity_grows Unbounded None need h = inl refl
capacity_grows Unbounded (Some c) need h = capacity_case need c (nat_le need c) h

-- where no call that isn't refused makes more rows than there may be
abbrev pub HasRoomFor : {V : Type 0} → Option Reason → List (Row ℕ V) → Type 0
HasRoomFor reason rows = reason ≡ None → length rows ≤ GREATEST_LENGTH

pub same : {V : Type 0} (o : Object ℕ V) (reason : Option Reason) → Stays o reason o
same o reason =
    record {
      number = refl;
      limit = refl;
      next = omega arith;
      capacity = λ none. inl refl;
      cursor_guards = refl;
      element_guards = refl;
      names = λ none tampering t. refl;
    }

pub renamed : {V : Type 0} (o : Object ℕ V) (reason : Option Reason) (rows : List (Row ℕ V)) → names rows ≡ names o.rows →
    Stays o reason (with_rows o rows)
renamed o reason rows e =
    record {
      number = refl;
      limit = refl;
      next = omega arith;
      capacity = λ none. inl refl;
      cursor_guards = refl;
      element_guards = refl;
      names = λ none tampering t. e;
    }

pub changed : {V : Type 0} (o : Object ℕ V) (reason : Option Reason) (rows : List (Row ℕ V)) → Checked o reason → Stays o reason (with_rows o rows)
changed o reason rows checked = record {
  number = refl;
  limit = refl;
  next = omega arith;
  capacity = λ none. inl refl;
  cursor_guards = refl;
  element_guards = refl;
  names = λ h tampering t. none_some tampering (sym (checked h) ∙ t);
}

pub grows : {V : Type 0} (o : Object ℕ V) (reason : Option Reason) (rows : List (Row ℕ V)) (more : ℕ) → Checked o reason → HasRoomFor reason rows →
    Stays o reason (grown o rows more)
grows o reason rows more checked room = record {
  number = refl;
  limit = refl;
  next = omega arith;
  capacity = λ none. capacity_grows o.limit o.capacity (length rows) (room none);
  cursor_guards = refl;
  element_guards = refl;
  names = λ h tampering t. none_some tampering (sym (checked h) ∙ t);
}

pub grows_unless : {V : Type 0} (test : Bool) (o : Object ℕ V) (reason : Option Reason) (rows longer : List (Row ℕ V)) (more : ℕ) →
    Checked o reason → (test ≡ false → HasRoomFor reason longer) → Stays o reason (grown_unless test o rows longer more)
grows_unless true o reason rows longer more checked room = changed o reason rows checked
grows_unless false o reason rows longer more checked room = grows o reason longer more checked (room refl)

pub reserves : {V : Type 0} (o : Object ℕ V) (reason : Option Reason) (need : ℕ) → (reason ≡ None → need ≤ GREATEST_LENGTH) →
    Stays o reason (widened o need)
reserves o reason need asked = record {
  number = refl;
  limit = refl;
  next = omega arith;
  capacity = λ none. capacity_grows o.limit o.capacity need (asked none);
  cursor_guards = refl;
  element_guards = refl;
  names = λ none tampering t. refl;
}

-- a reply that changes no source
none_stays : {V : Type 0} (source : Source (Object ℕ V)) (reason : Option Reason) (after : Option (Object ℕ V)) → after ≡ None →
    SourceStays source reason after
none_stays without reason after e = e
none_stays itself reason after e = e
none_stays (another s args) reason after e = rw e tt

pub alone : {V : Type 0} (o : Object ℕ V) (source : Source (Object ℕ V)) (r : Reply (Object ℕ V)) → r.source ≡ None → Stays o r.reason r.after →
    ReplyStays o source r
alone o source r e h = record { target = h; source_stays = none_stays source r.reason r.source e }

pub by_source_stays : {V : Type 0} (o : Object ℕ V) (source : Source (Object ℕ V)) (own : Reply (Object ℕ V))
    (two : Object ℕ V → Arguments → Reply (Object ℕ V)) → own.source ≡ None → Stays o own.reason own.after →
    ((s : Object ℕ V) (args : Arguments) → ReplyStays o (another s args) (two s args)) → ReplyStays o source (by_source source own two)
by_source_stays o without own two e h k = alone o without own e h
by_source_stays o itself own two e h k = alone o itself own e h
by_source_stays o (another s args) own two e h k = k s args

name_kept : {V : Type 0} (r : Row ℕ V) (name : ℕ) (v : V) (b : Bool) → r.name == name ≡ b → (if b then row name v else r).name ≡ r.name
name_kept r name v true e = grind (arith)
name_kept r name v false e = refl

pub names-with_value : {V : Type 0} (rows : List (Row ℕ V)) (name : ℕ) (v : V) → names (with_value rows name v) ≡ names rows
names-with_value [] name v = refl
names-with_value (r ∷ rows) name v = λ i. name_kept r name v (r.name == name) refl i ∷ names-with_value rows name v i

pub names-with_some_value : {V : Type 0} (rows : List (Row ℕ V)) (name : ℕ) (v : Option V) → names (with_some_value rows name v) ≡ names rows
names-with_some_value rows name None = refl
names-with_some_value rows name (Some v) = names-with_value rows name v

pub names-with_exchanged_values : {V : Type 0} (rows : List (Row ℕ V)) (a b : ℕ) → names (with_exchanged_values rows a b) ≡ names rows
names-with_exchanged_values rows a b =
    names-with_some_value (with_some_value rows a (value_at rows b)) b (value_at rows a)
    ∙ names-with_some_value rows a (value_at rows b)

pub names-over : {V : Type 0} (rows : List (Row ℕ V)) (vs : List V) → names (over rows vs) ≡ names rows
names-over [] vs = refl
names-over (r ∷ rows) [] = refl
names-over (r ∷ rows) (v ∷ vs) = λ i. r.name ∷ names-over rows vs i
