-- An object that was just declared gets its Capacity, where a state tells one.
use Rattle.std.proofs.Common.{◌≡◌, ℕ, min, Bool, true, false, not, ◌&&◌, List, [], refl, sym, ap, subst, ◌∙◌, Option, Some, None, is_some, Result, Ok, Err}
use Rattle.std.specs.Prelude.{nat_le, length, OnOk}
use Rattle.std.proofs.lemmas.Bool.{false≢true, and_parts}
use Rattle.ac_base.specs.declared.limit.TheConstants.{GREATEST_LENGTH}
use Rattle.ac_syntax.specs.declared.operation.CapacityCall.TheVariants as capacity_call
use Rattle.ac_syntax.specs.declared.operation.Operation.TheVariants as operation
use Rattle.ac_syntax.specs.declared.type_def.TypeDef.{TypeDef}
use Rattle.ac_syntax.specs.Kinds.{has_capacity}
use Rattle.ac_rules.specs.Rules.{is_type}
use Rattle.ac_calls.specs.Holdings.{Held, new_held, reply_of}
use Rattle.ac_calls.specs.Replies.{Arguments}
use Rattle.ac_calls.specs.declared.plains.PlainRow.{PlainRow}
use Rattle.ac_meaning.specs.Environment.{State, binds_object, object_at, with_bound}
use Rattle.ac_snapshot.specs.Filled.{filled, count_arguments}
use Rattle.ac_snapshot.specs.FillLaws.{Leaves}
use Rattle.ac_snapshot.specs.RowValidity.{is_given, are_valid_rows}
use Rattle.ac_snapshot.specs.Validity.{is_step, is_limit_of, is_capacity_of, is_peak_of, is_valid_object}
use Rattle.ac_snapshot.proofs.Filling.{fill_begins, fill_reserves}
use Rattle.ac_plains.specs.Filling.{GoesThrough, IsAsDeclared, IsToReserve, IsToFill, reserved, with_rows}
use Rattle.ac_plains.proofs.FillingPlaces.{put_twice, put_same, put_there}

-- What an entry tells beside its rows

pub record IsTold (def : TypeDef) (limit capacity peak : Option ℕ) (rows : List PlainRow) : Type 0 where
  pub typed : is_type def ≡ true
  pub limited : is_limit_of def limit ≡ true
  pub has : is_capacity_of def rows capacity ≡ true
  pub used : is_peak_of def limit rows peak ≡ true

pub told_by : (def : TypeDef) (limit capacity peak : Option ℕ) (rows : List PlainRow) → is_valid_object def limit capacity peak rows ≡ true →
    IsTold def limit capacity peak rows
told_by def limit capacity peak rows valid =
    let a = and_parts (is_type def) (is_limit_of def limit && (is_capacity_of def rows capacity && (is_peak_of def limit rows peak && are_valid_rows def limit rows))) valid in
    let b = and_parts (is_limit_of def limit) (is_capacity_of def rows capacity && (is_peak_of def limit rows peak && are_valid_rows def limit rows)) a.1 in
    let c = and_parts (is_capacity_of def rows capacity) (is_peak_of def limit rows peak && are_valid_rows def limit rows) b.1 in
    let d = and_parts (is_peak_of def limit rows peak) (are_valid_rows def limit rows) c.1 in
    record { typed = a.0; limited = b.0; has = c.0; used = d.0 }

pub some_where_wanted : {A : Type 0} (wanted : Bool) (test : A → Bool) (given : Option A) → is_given wanted test given ≡ true → is_some given ≡ wanted
some_where_wanted true test None h = absurd (false≢true h)
some_where_wanted false test None h = refl
some_where_wanted true test (Some a) h = refl
some_where_wanted false test (Some a) h = absurd (false≢true h)

pub given_passes : {A : Type 0} (wanted : Bool) (test : A → Bool) (given : Option A) (a : A) → given ≡ Some a → is_given wanted test given ≡ true → (wanted ≡ true) × (test a ≡ true)
given_passes wanted test given a is h = and_parts wanted (test a) (ap (is_given wanted test) (sym is) ∙ h)

-- The Capacity

module _ {capacity : Option ℕ} {e : State} {place : ℕ} (r : IsToReserve capacity e place) where
  abbrev held : Held
  held = new_held r.def r.declared.number r.declared.limit

  told : IsTold r.def r.declared.limit capacity r.peak r.rows
  told = told_by r.def r.declared.limit capacity r.peak r.rows r.declared.valid

  pub none_reserved : capacity ≡ None → e ≡ reserved r
  none_reserved none =
      let same : filled held capacity (Some 0) [] ≡ held = ap (λ c. filled held c (Some 0) []) none ∙ fill_begins r.def r.declared.number r.declared.limit in
      sym (ap (λ h. with_bound e place (binds_object h)) same ∙ put_same e place held r.declared.there)

  module _ (c : ℕ) (tells : capacity ≡ Some c) where
    reserves : Leaves (reply_of held None (operation.Capacity capacity_call.ReserveCapacity) (count_arguments (min c GREATEST_LENGTH))) (filled held (Some c) (Some 0) [])
    reserves =
        let given = given_passes (not r.def.bounded && has_capacity r.def.kind) (λ n. is_step n && nat_le (length r.rows) n) capacity c tells told.has in
        fill_reserves r.def r.declared.number c r.declared.limit told.typed
        (some_where_wanted r.def.bounded (λ most. nat_le most GREATEST_LENGTH) r.declared.limit told.limited) given.0
        (and_parts (is_step c) (nat_le (length r.rows) c) given.1).0

    pub reserve_goes : GoesThrough (operation.Capacity capacity_call.ReserveCapacity) (count_arguments (min c GREATEST_LENGTH)) e place
    reserve_goes = (held, r.declared.there, reserves.0, reserves.1)

    pub is_reserved : (t : State) →
        ((h : Held) → object_at e place ≡ Some h →
        t ≡ with_bound e place (binds_object (reply_of h None (operation.Capacity capacity_call.ReserveCapacity) (count_arguments (min c GREATEST_LENGTH))).after)) →
        t ≡ reserved r
    is_reserved t put =
        put held r.declared.there
        ∙ ap (λ h. with_bound e place (binds_object h)) (reserves.2 ∙ ap (λ n. filled held n (Some 0) []) (sym tells))

-- by a call whose arguments are these
pub reserved_if : {T E : Type 0} (capacity : Option ℕ) (e : State) (place : ℕ) (c : ℕ) (args : Arguments) (result : Result T E) (t : State) → capacity ≡ Some c → args ≡ count_arguments (min c GREATEST_LENGTH) →
    OnOk result ((h : Held) → object_at e place ≡ Some h →
    t ≡ with_bound e place (binds_object (reply_of h None (operation.Capacity capacity_call.ReserveCapacity) args).after)) →
    OnOk result ((r : IsToReserve capacity e place) → t ≡ reserved r)
reserved_if capacity e place c args (Err fault) t tells are put = tt
reserved_if capacity e place c args (Ok done) t tells are put =
    λ r. is_reserved r c tells t (subst (λ a. (h : Held) → object_at e place ≡ Some h →
    t ≡ with_bound e place (binds_object (reply_of h None (operation.Capacity capacity_call.ReserveCapacity) a).after)) are put)

-- What is then to be filled

module _ {def : TypeDef} {capacity peak : Option ℕ} {rows : List PlainRow} {e : State} {place : ℕ} (d : IsAsDeclared def capacity peak rows e place) where
  abbrev pub to_reserve : IsToReserve capacity e place
  to_reserve = record { def = def; peak = peak; rows = rows; declared = d }

  abbrev own : Held
  own = new_held def d.number d.limit

  abbrev empty : Held
  empty = filled own capacity (Some 0) []

  abbrev pub to_fill : (s : State) → s ≡ reserved to_reserve → IsToFill def.kind rows s place
  to_fill s is = record {
    def = def;
    kind_is = refl;
    number = d.number;
    limit = d.limit;
    capacity = capacity;
    peak = peak;
    valid = d.valid;
    there = ap (λ x. object_at x place) is ∙ put_there e place own d.there empty;
  }

  -- the rows stand over what was declared
  pub filled_over : (s t : State) (is : s ≡ reserved to_reserve) → t ≡ with_rows (to_fill s is) (length rows) rows →
      t ≡ with_bound e place (binds_object (filled own capacity (Some (length rows)) rows))
  filled_over s t is put =
      put
      ∙ (ap (λ x. with_bound x place (binds_object (filled own capacity (Some (length rows)) rows))) is
      ∙ put_twice e place (binds_object empty) (binds_object (filled own capacity (Some (length rows)) rows)))
