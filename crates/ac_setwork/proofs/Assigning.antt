-- A table whose index took the values of another, in the words of the definitions.
use Rattle.std.proofs.Common.{◌≡◌, ◌+◌, ◌<◌, ◌≤◌, ℕ, ◌∷◌, [], length, None, true, Result, Ok, Err, IsTrue, refl, sym, ap, ◌∙◌, subst, arith}
use Rattle.std.specs.Prelude.{OnErr, OnOk, filter, max}
use Rattle.std.proofs.lemmas.List.{length-map}
use Rattle.ac_base.specs.FirstReason.{first_reason}
use Rattle.ac_base.specs.Growth.{pow8}
use Rattle.ac_base.specs.Guards.{GuardCounts}
use Rattle.ac_base.specs.declared.fault.NoMemory.{NoMemory}
use Rattle.ac_base.specs.declared.limit.Limit.{Limit}
use Rattle.ac_base.specs.Rows.{Row, names, values}
use Rattle.ac_model.specs.Calls.{Changing, ChangingBoth, Done, IsAfter, KeepsSlots, Same, both}
use Rattle.ac_model.specs.Common.{assign_call, move_from_call}
use Rattle.ac_model.specs.Containers.{Grows, container}
use Rattle.ac_model.specs.Forms.{as_fault}
use Rattle.ac_model.specs.Keyed.{Order, IsValidKeyed, is_in_order}
use Rattle.ac_model.specs.Letters.{is_among, room, tampers_cursors}
use Rattle.ac_model.specs.Objects.{Object, capacity_after, contents, grown, length_of, plain, plain_row, plains, times}
use Rattle.ac_model.specs.Rows.{fresh}
use Rattle.ac_model.proofs.Counts.{count_values}
use Rattle.ac_model.proofs.KeyedLaws.{Closed, assign_keeps}
use Rattle.ac_model.proofs.Lengths.{length-fresh}
use Rattle.ac_model.proofs.Moves.{times-named}
use Rattle.ac_model.proofs.Plains.{values-plains}
use Rattle.ac_model.proofs.Reasons.{after_two, none_first}
use Rattle.ac_model.proofs.SequencesKept.{cleared}
use Rattle.ac_model.proofs.Times.{times-fresh_below}
use Rattle.ac_setwork.specs.Indexed.{Indexed, Becomes, slots}
use Rattle.ac_setwork.specs.Refilling.{AreKeyed, IsRefilled}
use Rattle.ac_setwork.specs.TableFields.{IsTable, object_of}
use Rattle.ac_setwork.proofs.Found.{named_among}
use Rattle.ac_setwork.proofs.Tables.{all_from, becomes_after, becomes_slots, becomes_table}

-- the values of a table may come to another
pub keyed_values : {V : Type 0} (order : Order V) (h : GuardCounts) (m : Limit) (j : Indexed V) → IsTable order h m j → AreKeyed order (values j.rows)
keyed_values order h m j t =
    let same = values-plains j.rows in record {
      keys_differ = λ v. let many = ap (λ vs. length (filter (λ w. order.alike w v) vs)) same in let count = count_values (λ w. order.alike w v) (plains j.rows) in let few = t.valid.keys_differ v in omega (arith, many, count, few);
      in_order = subst (λ vs. is_in_order order vs ≡ true) (sym same) t.valid.in_order;
    }

module _ {V : Type 0} (order : Order V) (g : GuardCounts) (l : Limit) (s : Indexed V) where
  -- the reasons that were looked for are the definition's
  pub assign_reason : (h : GuardCounts) (m : Limit) (j : Indexed V) (len : ℕ) → len ≡ length j.rows → first_reason (tampers_cursors (plain (object_of g l s)) ∷ room (plain (object_of g l s)) len len) ≡ None
      → (assign_call (plain (object_of g l s)) (plain (object_of h m j))).reason ≡ None
  assign_reason h m j len e none = ap (λ n. first_reason (tampers_cursors (plain (object_of g l s)) ∷ room (plain (object_of g l s)) n n)) (length-map j.rows plain_row ∙ sym e) ∙ none

  pub as_contents : (s2 j : Indexed V) (r : Result Done NoMemory) → OnOk r (IsRefilled l (values j.rows) s s2) → OnOk r (IsRefilled l (values (plains j.rows)) s s2)
  as_contents s2 j r = subst (λ vs. OnOk r (IsRefilled l vs s s2)) (values-plains j.rows)

  module _ (s2 : Indexed V) (from : Object ℕ V) where
    -- the object is what an assignment means
    refilled_object : IsRefilled l (contents from) s s2 → plain (object_of g l s2) ≡ grown (plain (object_of g l s)) (fresh s.next (contents from)) (length_of from)
    refilled_object r =
        let count : length (contents from) ≡ length_of from = length-map from.rows (λ (q : Row ℕ V). q.value) in
        let next : s2.next ≡ s.next + length_of from = r.next ∙ ap (λ n. s.next + n) count in
        let capacity : s2.capacity ≡ capacity_after l s.capacity (length (fresh s.next (contents from))) = r.capacity ∙ ap (capacity_after l s.capacity) (sym (length-fresh s.next (contents from))) in
        λ i. record { number = g.number; limit = l; capacity = capacity i; next = next i; rows = r.rows i; cursor_guards = g.cursor_guards; element_guards = g.element_guards }

    new_names : IsRefilled l (contents from) s s2 → KeepsSlots (object_of g l s) (object_of g l s2)
    new_names r = all_from (λ a. a.serial < s.next → IsTrue (is_among (names s.rows) a)) (names s2.rows) (λ a t lt. absurd (
        let there = times-named a.serial (plains s2.rows) (named_among a s2.rows t) in
        let gone = ap (times a.serial) r.rows ∙ times-fresh_below a.serial s.next (contents from) lt in
        omega (arith, there, gone)))

    pub refilled_after : IsRefilled l (contents from) s s2 → IsAfter (object_of g l s) (object_of g l s2) (grown (plain (object_of g l s)) (fresh s.next (contents from)) (length_of from))
    refilled_after r = record { plainly = refilled_object r; slots = new_names r }

    pub refilled_table : Closed order → (r : Result Done NoMemory) → IsTable order g l s → IsValidKeyed order from → (assign_call (plain (object_of g l s)) from).reason ≡ None
        → OnOk r (IsRefilled l (contents from) s s2) → OnErr r (s2 ≡ s) → IsTable order g l s2
    refilled_table closed (Err e) t valid none ok err = subst (IsTable order g l) (sym err) t
    refilled_table closed (Ok x) t valid none ok err = record {
      valid = subst (IsValidKeyed order) (sym (refilled_object ok)) (assign_keeps order closed (plain (object_of g l s)) from valid t.valid none);
      is_limit = t.is_limit;
      has_slots = ok.has_slots;
    }

    pub assign_changes : (r : Result Done NoMemory) → (assign_call (plain (object_of g l s)) from).reason ≡ None → OnOk r (IsRefilled l (contents from) s s2) → OnErr r (s2 ≡ s)
        → Changing Same (assign_call (plain (object_of g l s)) from) (object_of g l s) (object_of g l s2) (as_fault r)
    assign_changes (Ok x) none ok err = (none, refilled_after ok, refl)
    assign_changes (Err e) none ok err = (refl, none, ap (object_of g l) err)

    pub refilled_grows : (r : Result Done NoMemory) → OnOk r (IsRefilled l (contents from) s s2) → OnErr r (s2 ≡ s)
        → Grows (as_fault r) (container (object_of g l s) s.spare) (container (object_of g l s2) s2.spare)
    refilled_grows (Err e) ok err = ap slots err
    refilled_grows (Ok x) ok err =
        let count : length s2.rows ≡ length (contents from) = sym (length-map s2.rows plain_row) ∙ ap length ok.rows ∙ length-fresh s.next (contents from) in
        subst (λ n. slots s2 ≤ max (slots s) (pow8 n)) (sym count) ok.most

-- a move that isn't refused has what an assignment asks for
pub move_reason : {V : Type 0} (target source : Object ℕ V) → (move_from_call target source).reason ≡ None → (assign_call target source).reason ≡ None
move_reason target source none =
    let n = length_of source in
    ap (λ t. first_reason (t ∷ room target n n)) (none_first (tampers_cursors target) (tampers_cursors source ∷ room target n n) none) ∙ after_two (tampers_cursors target) (tampers_cursors source) (room target n n) none

-- a source that lost its rows
module _ {V : Type 0} (order : Order V) (h : GuardCounts) (m : Limit) (j j2 : Indexed V) where
  abbrev pub IsDrained : Type 0
  IsDrained = Becomes j j2 [] j.next (slots j)

  pub drained_table : Closed order → (r : Result Done NoMemory) → IsTable order h m j → OnOk r IsDrained → OnErr r (j2 ≡ j) → IsTable order h m j2
  drained_table closed (Err e) t ok err = subst (IsTable order h m) (sym err) t
  drained_table closed (Ok x) t ok err = becomes_table order h m j j2 [] (slots j) t ok (record { as_object = cleared (plain (object_of h m j)) t.valid.as_object; keys_differ = λ v. omega arith; in_order = closed.in_none }) (omega arith)

  pub drained_slots : (r : Result Done NoMemory) → OnOk r IsDrained → OnErr r (j2 ≡ j) → slots j2 ≡ slots j
  drained_slots (Err e) ok err = ap slots err
  drained_slots (Ok x) ok err = becomes_slots order h m j j2 [] (slots j) ok (omega arith)

  pub move_changes : (g : GuardCounts) (l : Limit) (s s2 : Indexed V) (r : Result Done NoMemory) → let target = object_of g l s in let source = object_of h m j in
      (move_from_call (plain target) (plain source)).reason ≡ None → OnOk r (IsRefilled l (contents (plain source)) s s2) → OnErr r (s2 ≡ s) → OnOk r IsDrained → OnErr r (j2 ≡ j)
      → ChangingBoth Same (move_from_call (plain target) (plain source)) (both target source) (both (object_of g l s2) (object_of h m j2)) (as_fault r)
  move_changes g l s s2 (Ok x) none ok err drained kept =
      (none, record { target = refilled_after order g l s s2 (plain (object_of h m j)) ok; source = becomes_after order h m j j2 [] (slots j) drained }, refl)
  move_changes g l s s2 (Err e) none ok err drained kept = (refl, none, λ i. both (object_of g l (err i)) (object_of h m (kept i)))
