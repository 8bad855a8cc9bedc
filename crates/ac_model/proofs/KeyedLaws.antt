-- The calls of maps and sets keep them valid, in each order.
use Rattle.std.proofs.Common.{◌≡◌, ◌+◌, ◌-◌, ◌≤◌, ℕ, Bool, true, false, not, List, [], ◌∷◌, length, refl, arith, Option, Some, None, if◌then◌else◌}
use Rattle.std.specs.Prelude.{filter, is_some, option_map}
use Rattle.ac_base.specs.declared.reason.Reason.{Reason}
use Rattle.ac_base.specs.declared.reason.Reason.TheVariants.{KeyPresent, KeyAbsent, Duplicate}
use Rattle.ac_base.specs.FirstReason.{first_reason}
use Rattle.ac_base.specs.Rows.{Row, row, values}
use Rattle.ac_base.specs.Order.{are_level, IsWeakOrder}
use Rattle.ac_model.specs.Rows.{fresh, Entry, entry, cut, put, place_of, named, is_named, value_at, with_value, with_some_value, row_by}
use Rattle.ac_model.specs.Objects.{IsValid, Object, times, contents, with_rows, grown}
use Rattle.ac_model.specs.Letters.{Mark, room, room_for_one, needs, tampers_cursors, tampers_elements, name_of, reason_if}
use Rattle.ac_model.specs.Keyed as keyed
use Rattle.std.specs.Cmp.{IsEquivalence}
use Rattle.ac_model.specs.Keyed.{on_key, is_in_order, place_in, Order, IsValidKeyed, by_arrival, ascending, KeepsKeyed, InEachOrder, added, with_added, without, with_replaced, with_reordered, another_is_like, row_like, room_where_absent, with_added_if_absent, with_added_or_replaced, has}
use Rattle.ac_model.specs.Sets as set
use Rattle.ac_model.specs.Common as common
use Rattle.ac_model.specs.Maps as map
use Rattle.ac_model.specs.Ordered as ordered
use Rattle.ac_model.specs.KeyedSets as by_key
use Rattle.ac_model.specs.KeyedSets.{reordered_where_found, name_found}
use Rattle.ac_model.proofs.Reasons.{none_first, none_others, after_two, needs_none, not_if}
use Rattle.ac_model.proofs.RowLaws.{fresh_values, found_matches}
use Rattle.ac_model.proofs.Counts.{count-fresh, count, count-filter, found_is_named, found_name, count_values}
use Rattle.ac_model.proofs.Moves.{found}
use Rattle.ac_model.proofs.SequencesKept.{assigned, cleared, cut_kept, with_value_kept}
use Rattle.ac_model.proofs.KeyedKept.{times-filter, added_kept, one_added_kept, without_kept, reordered_kept, filtered_kept}
use Rattle.ac_model.proofs.KeysDiffer.{Differ, insert_apart, union_apart, differ_all_added, differ_replaced, differ_cut, differ_filter, differ_reordered, others_zero}
use Rattle.ac_model.proofs.Ascending.{asc_cut, asc_filter, asc_put, asc_replaced, asc_added, level_equal}

-- what the proofs need of an order
pub record Closed {V : Type 0} (order : Order V) : Type 0 where
  pub equal : IsEquivalence order.alike
  pub in_none : is_in_order order [] ≡ true
  pub in_cut : (rows : List (Row ℕ V)) (place n : ℕ) → is_in_order order (values rows) ≡ true → is_in_order order (values (cut rows place n)) ≡ true
  pub in_filter : (test : Row ℕ V → Bool) (rows : List (Row ℕ V)) → is_in_order order (values rows) ≡ true → is_in_order order (values (filter test rows)) ≡ true
  pub in_put : (from : ℕ) (rows : List (Row ℕ V)) (name : ℕ) (v : V) → is_in_order order (values rows) ≡ true → count (λ w. order.alike w v) rows ≡ 0 → is_in_order order (values (put rows (place_in order from (values rows) v) (row name v ∷ []))) ≡ true
  pub in_replaced : (rows : List (Row ℕ V)) (name : ℕ) (v : V) (r : Row ℕ V) → is_in_order order (values rows) ≡ true → times name rows ≤ 1 → named rows name ≡ Some r → order.alike r.value v ≡ true → is_in_order order (values (with_value rows name v)) ≡ true
  pub in_added : (vs : List V) (rows : List (Row ℕ V)) (next : ℕ) → is_in_order order (values rows) ≡ true → ((u : V) → count (λ w. order.alike w u) rows + length (filter (λ w. order.alike w u) vs) ≤ 1) → is_in_order order (values (added order rows next vs)) ≡ true

pub closed_arrival : {V : Type 0} (alike : V → V → Bool) → IsEquivalence alike → Closed (by_arrival alike)
closed_arrival alike equal = record {
  equal = equal;
  in_none = refl;
  in_cut = λ rows place n h. refl;
  in_filter = λ test rows h. refl;
  in_put = λ from rows name v h k. refl;
  in_replaced = λ rows name v r h k l m. refl;
  in_added = λ vs rows next h k. refl;
}

pub closed_ascending : {V : Type 0} (less : V → V → Bool) → IsWeakOrder less → Closed (ascending less)
closed_ascending less order = record {
  equal = level_equal less order;
  in_none = refl;
  in_cut = asc_cut less order;
  in_filter = asc_filter less order;
  in_put = λ from. asc_put less order;
  in_replaced = asc_replaced less order;
  in_added = asc_added less order;
}

pub in_each : {V : Type 0} (P : Order V → Type 0) → ((order : Order V) → Closed order → P order) → InEachOrder P
in_each P prove = (λ alike equal. prove (by_arrival alike) (closed_arrival alike equal), λ less weak. prove (ascending less) (closed_ascending less weak))

none_of : {X : Type 0} (o : Option X) → is_some o ≡ false → o ≡ None
none_of None h = refl
none_of (Some x) h = cc

some_of : {X : Type 0} (o : Option X) → not (is_some o) ≡ false → (x : X) × (o ≡ Some x)
some_of None h = cc
some_of (Some x) h = (x, refl)

module _ {V : Type 0} (order : Order V) (closed : Closed order) where
  inserted_valid : (o : Object ℕ V) (v : V) → IsValidKeyed order o → row_like order o v ≡ None → first_reason (room_for_one o) ≡ None → IsValidKeyed order (with_added order o v)
  inserted_valid o v valid absent none =
      let apart = insert_apart order.alike closed.equal o.rows v valid.keys_differ absent in
      record {
        as_object = one_added_kept order o v valid.as_object none;
        keys_differ = differ_all_added order o.rows o.next (v ∷ []) apart;
        in_order = closed.in_added (v ∷ []) o.rows o.next valid.in_order apart;
      }

  pub insert_keeps : (o : Object ℕ V) (v : V) → KeepsKeyed order o (keyed.insert_call order o v)
  insert_keeps o v valid none =
      let present = row_like order o v in
      let own = reason_if (is_some present) KeyPresent in
      let rest = none_others (tampers_cursors o) (own ∷ room_for_one o) none in
      inserted_valid o v valid (none_of present (not_if (is_some present) KeyPresent (none_first own (room_for_one o) rest))) (none_others own (room_for_one o) rest)

  if_absent_valid : (o : Object ℕ V) (v : V) (present : Option (Row ℕ V)) → row_like order o v ≡ present → IsValidKeyed order o → first_reason (room_where_absent o present) ≡ None → IsValidKeyed order (with_added_if_absent order o present v)
  if_absent_valid o v None e valid none = inserted_valid o v valid e none
  if_absent_valid o v (Some r) e valid none = valid

  pub insert_pos_keeps : (o : Object ℕ V) (v : V) → KeepsKeyed order o (keyed.insert_pos_call order o v)
  insert_pos_keeps o v valid none =
      if_absent_valid o v (row_like order o v) refl valid (none_others (tampers_cursors o) (room_where_absent o (row_like order o v)) none)

  value_valid : (o : Object ℕ V) (name : ℕ) (v : V) (r : Row ℕ V) → IsValidKeyed order o → named o.rows name ≡ Some r → order.alike r.value v ≡ true → IsValidKeyed order (with_rows o (with_value o.rows name v))
  value_valid o name v r valid there like = record {
    as_object = with_value_kept o name v valid.as_object;
    keys_differ = differ_replaced order.alike closed.equal o.rows name v r valid.keys_differ (valid.as_object.names_differ name) there like;
    in_order = closed.in_replaced o.rows name v r valid.in_order (valid.as_object.names_differ name) there like;
  }

  replaced_valid : (o : Object ℕ V) (v : V) (present : Option (Row ℕ V)) → row_like order o v ≡ present → IsValidKeyed order o → IsValidKeyed order (with_replaced o present v)
  replaced_valid o v None e valid = valid
  replaced_valid o v (Some r) e valid =
      value_valid o r.name v r valid (found_is_named (λ w. order.alike w v) o.rows r e (valid.as_object.names_differ r.name)) (found_matches (λ w. order.alike w v) o.rows r e)

  or_replaced_valid : (o : Object ℕ V) (v : V) (present : Option (Row ℕ V)) → row_like order o v ≡ present → IsValidKeyed order o → first_reason (room_where_absent o present) ≡ None → IsValidKeyed order (with_added_or_replaced order o present v)
  or_replaced_valid o v None e valid none = inserted_valid o v valid e none
  or_replaced_valid o v (Some r) e valid none = replaced_valid o v (Some r) e valid

  pub include_keeps : (o : Object ℕ V) (v : V) → KeepsKeyed order o (keyed.include_call order o v)
  include_keeps o v valid none =
      or_replaced_valid o v (row_like order o v) refl valid (none_others (tampers_cursors o) (room_where_absent o (row_like order o v)) none)

  pub replace_keeps : (tampering : Option Reason) (o : Object ℕ V) (v : V) → KeepsKeyed order o (keyed.replace_call tampering order o v)
  replace_keeps tampering o v valid none = replaced_valid o v (row_like order o v) refl valid

  pub cut_valid : (o : Object ℕ V) (place n : ℕ) → IsValidKeyed order o → IsValidKeyed order (with_rows o (cut o.rows place n))
  cut_valid o place n valid = record {
    as_object = cut_kept o place n valid.as_object;
    keys_differ = differ_cut order.alike o.rows place n valid.keys_differ;
    in_order = closed.in_cut o.rows place n valid.in_order;
  }

  without_valid : (o : Object ℕ V) (r : Option (Row ℕ V)) → IsValidKeyed order o → IsValidKeyed order (with_rows o (without o.rows r))
  without_valid o None valid = record { as_object = without_kept o None valid.as_object; keys_differ = valid.keys_differ; in_order = valid.in_order }
  without_valid o (Some r) valid = cut_valid o (place_of o.rows r.name) 1 valid

  pub exclude_keeps : (matches : V → Bool) (o : Object ℕ V) → KeepsKeyed order o (keyed.exclude_call matches o)
  exclude_keeps matches o valid none = without_valid o (row_by matches o.rows) valid

  pub delete_match_keeps : (matches : V → Bool) (o : Object ℕ V) → KeepsKeyed order o (keyed.delete_match_call matches o)
  delete_match_keeps matches o valid none = without_valid o (row_by matches o.rows) valid

  pub delete_keeps : (o : Object ℕ V) (position : Mark) → KeepsKeyed order o (keyed.delete_call o position)
  delete_keeps o position valid none = cut_valid o (place_of o.rows (name_of position)) 1 valid

  reordered_valid : (o : Object ℕ V) (name : ℕ) (v : V) → IsValidKeyed order o → is_named o.rows name ≡ true → another_is_like order o.rows name v ≡ false → IsValidKeyed order (with_rows o (with_reordered order o.rows name v))
  reordered_valid o name v valid there alone =
      let once = valid.as_object.names_differ name in
      record {
        as_object = reordered_kept order o name v valid.as_object there;
        keys_differ = differ_reordered order closed.equal o.rows name v valid.keys_differ once alone;
        in_order = closed.in_put (place_of o.rows name) (cut o.rows (place_of o.rows name) 1) name v
            (closed.in_cut o.rows (place_of o.rows name) 1 valid.in_order) (others_zero order o.rows name v once alone);
      }

  pub replace_element_keeps : (o : Object ℕ V) (c : Mark) (v : V) → KeepsKeyed order o (keyed.replace_element_call order o c v)
  replace_element_keeps o c v valid none =
      let own = reason_if (another_is_like order o.rows (name_of c) v) Duplicate in
      let judged = none_others (tampers_cursors o) (needs o c ∷ own ∷ []) none in
      reordered_valid o (name_of c) v valid
      (needs_none o c (none_first (needs o c) (own ∷ []) judged))
      (not_if (another_is_like order o.rows (name_of c) v) Duplicate (none_first own [] (none_others (needs o c) (own ∷ []) judged)))

  filter_valid : (o : Object ℕ V) (test : Row ℕ V → Bool) → IsValidKeyed order o → IsValidKeyed order (with_rows o (filter test o.rows))
  filter_valid o test valid = record {
    as_object = filtered_kept o test valid.as_object;
    keys_differ = differ_filter order.alike test o.rows valid.keys_differ;
    in_order = closed.in_filter test o.rows valid.in_order;
  }

  pub intersection_keeps : (target source : Object ℕ V) → KeepsKeyed order target (set.intersection_call order target source)
  intersection_keeps target source valid none = filter_valid target (λ r. has order (contents source) r.value) valid

  pub difference_keeps : (target source : Object ℕ V) → KeepsKeyed order target (set.difference_call order target source)
  difference_keeps target source valid none = filter_valid target (λ r. not (has order (contents source) r.value)) valid

  added_valid : (target : Object ℕ V) (some : List (Row ℕ V)) (source : Object ℕ V) → IsValidKeyed order target → IsValidKeyed order source →
      ((s : ℕ) → times s some ≤ times s target.rows) → ((u : V) → count (λ w. order.alike w u) some ≤ count (λ w. order.alike w u) target.rows) → is_in_order order (values some) ≡ true →
      first_reason (room target (length some + length (set.additions order target source)) (length (set.additions order target source))) ≡ None →
      IsValidKeyed order (grown target (added order some target.next (set.additions order target source)) (length (set.additions order target source)))
  added_valid target some source valid source_valid fewer fewer_like in_order none =
      let more = set.additions order target source in
      let differ : Differ order.alike some = λ u. omega (arith, fewer_like u, valid.keys_differ u) in
      let source_differ : (u : V) → length (filter (λ w. order.alike w u) (contents source)) ≤ 1 = λ u. omega (arith, count_values (λ w. order.alike w u) source.rows, source_valid.keys_differ u) in
      let apart = union_apart order closed.equal target.rows some (contents source) differ fewer_like source_differ in
      record {
        as_object = added_kept order target some more valid.as_object fewer none;
        keys_differ = differ_all_added order some target.next more apart;
        in_order = closed.in_added more some target.next in_order apart;
      }

  pub union_keeps : (target source : Object ℕ V) → IsValidKeyed order source → KeepsKeyed order target (set.union_call order target source)
  union_keeps target source source_valid valid none =
      let more = length (set.additions order target source) in
      added_valid target target.rows source valid source_valid (λ s. omega arith) (λ u. omega arith) valid.in_order
      (none_others (tampers_cursors target) (room target (length target.rows + more) more) none)

  pub symmetric_difference_keeps : (target source : Object ℕ V) → IsValidKeyed order source → KeepsKeyed order target (set.symmetric_difference_call order target source)
  symmetric_difference_keeps target source source_valid valid none =
      let test : Row ℕ V → Bool = λ r. not (has order (contents source) r.value) in
      let some = set.own_rows order target source in
      let more = length (set.additions order target source) in
      added_valid target some source valid source_valid (λ s. times-filter test s target.rows) (λ u. count-filter (λ w. order.alike w u) test target.rows) (closed.in_filter test target.rows valid.in_order)
      (none_others (tampers_cursors target) (room target (length some + more) more) none)

  reordered_if_found : (o : Object ℕ V) (matches : V → Bool) (element : V) (present : Option (Row ℕ V)) → row_by matches o.rows ≡ present → IsValidKeyed order o →
      first_reason (tampers_cursors o ∷ reason_if (not (is_some present)) KeyAbsent ∷ reason_if (another_is_like order o.rows (name_found present) element) Duplicate ∷ []) ≡ None →
      IsValidKeyed order (reordered_where_found order o present element)
  reordered_if_found o matches element None e valid none = valid
  reordered_if_found o matches element (Some r) e valid none =
      let own = reason_if (another_is_like order o.rows r.name element) Duplicate in
      reordered_valid o r.name element valid (found_name matches o.rows r e)
      (not_if (another_is_like order o.rows r.name element) Duplicate (none_first own [] (after_two (tampers_cursors o) (reason_if false KeyAbsent) (own ∷ []) none)))

  pub same_key_valid : (o : Object ℕ V) (name : ℕ) (change : V → V) → ((v : V) → order.alike v (change v) ≡ true) → IsValidKeyed order o → is_named o.rows name ≡ true →
      IsValidKeyed order (with_rows o (with_some_value o.rows name (option_map change (value_at o.rows name))))
  same_key_valid o name change same valid there =
      let r = found name o.rows there in
      rw r.1 (value_valid o name (change r.0.value) r.0 valid r.1 (same r.0.value))

  cleared_valid : (o : Object ℕ V) → IsValidKeyed order o → IsValidKeyed order (with_rows o [])
  cleared_valid o valid = record { as_object = cleared o valid.as_object; keys_differ = λ u. omega arith; in_order = closed.in_none }

  pub clear_keeps : (o : Object ℕ V) → KeepsKeyed order o (common.clear_call o)
  clear_keeps o valid none = cleared_valid o valid

  assigned_valid : (target source : Object ℕ V) → IsValidKeyed order target → IsValidKeyed order source → first_reason (room target (length source.rows) (length source.rows)) ≡ None →
      IsValidKeyed order (grown target (fresh target.next (contents source)) (length source.rows))
  assigned_valid target source valid source_valid none = record {
    as_object = assigned target source valid.as_object none;
    keys_differ = λ u. omega (arith, count-fresh (λ w. order.alike w u) (contents source) target.next, count_values (λ w. order.alike w u) source.rows, source_valid.keys_differ u);
    in_order = rw (fresh_values target.next (contents source)) source_valid.in_order;
  }

  pub assign_keeps : (target source : Object ℕ V) → IsValidKeyed order source → KeepsKeyed order target (common.assign_call target source)
  assign_keeps target source source_valid valid none =
      assigned_valid target source valid source_valid (none_others (tampers_cursors target) (room target (length source.rows) (length source.rows)) none)

  pub move_from_keeps : (target source : Object ℕ V) → IsValidKeyed order target → IsValidKeyed order source → (common.move_from_call target source).reason ≡ None →
      IsValidKeyed order (common.move_from_call target source).after.target × IsValidKeyed order (common.move_from_call target source).after.source
  move_from_keeps target source valid source_valid none = (
    assigned_valid target source valid source_valid (after_two (tampers_cursors target) (tampers_cursors source) (room target (length source.rows) (length source.rows)) none),
    cleared_valid source source_valid,
  )

-- an element of a map is replaced under its key
element_kept : {K T : Type 0} (order : Order (Entry K T)) → Closed order → ((e : Entry K T) (element : T) → order.alike e (entry e.key element) ≡ true) → (o : Object ℕ (Entry K T)) (c : Mark) (element : T) →
    IsValidKeyed order o → needs o c ≡ None → IsValidKeyed order (map.element_replaced o c element)
element_kept order closed same o c element valid none =
    same_key_valid order closed o (name_of c) (λ e. entry e.key element) (λ e. same e element) valid (needs_none o c none)

pub hashed_equal : {K T : Type 0} (alike : K → K → Bool) → IsEquivalence alike → IsEquivalence {K = Entry K T} (λ e f. alike e.key f.key)
hashed_equal alike equal = record {
  refl = λ e. equal.refl e.key;
  symm = λ e f. equal.symm e.key f.key;
  congr = λ e f g. equal.congr e.key f.key g.key;
}

pub ordered_weak : {K T : Type 0} (less : K → K → Bool) → IsWeakOrder less → IsWeakOrder {A = Entry K T} (λ e f. less e.key f.key)
ordered_weak less weak = record {
  irreflexive = λ e. weak.irreflexive e.key;
  transitive = λ e f g. weak.transitive e.key f.key g.key;
  ties_transitive = λ e f g. weak.ties_transitive e.key f.key g.key;
}

pub hashed_replace_element_keeps : {K T : Type 0} (alike : K → K → Bool) → IsEquivalence alike → (o : Object ℕ (Entry K T)) (c : Mark) (element : T) → KeepsKeyed (map.order_of (by_arrival alike)) o (map.replace_element_call o c element)
hashed_replace_element_keeps alike equal o c element valid none =
    let entries = hashed_equal alike equal in
    element_kept (map.order_of (by_arrival alike)) (closed_arrival (λ e f. alike e.key f.key) entries) (λ e t. equal.refl e.key) o c element valid
    (none_first (needs o c) [] (none_others (tampers_elements o) (needs o c ∷ []) none))

pub ordered_replace_element_keeps : {K T : Type 0} (less : K → K → Bool) → IsWeakOrder less → (o : Object ℕ (Entry K T)) (c : Mark) (element : T) → KeepsKeyed (map.order_of (ascending less)) o (map.replace_element_call o c element)
ordered_replace_element_keeps less weak o c element valid none =
    let entries = ordered_weak less weak in
    element_kept (map.order_of (ascending less)) (closed_ascending (λ e f. less e.key f.key) entries) (λ e t. (level_equal less weak).refl e.key) o c element valid
    (none_first (needs o c) [] (none_others (tampers_elements o) (needs o c ∷ []) none))

pub hashed_write_keeps : {K T : Type 0} (alike : K → K → Bool) → IsEquivalence alike → (o : Object ℕ (Entry K T)) (c : Mark) (element : T) → KeepsKeyed (map.order_of (by_arrival alike)) o (map.write_call o c element)
hashed_write_keeps alike equal o c element valid none =
    let entries = hashed_equal alike equal in
    element_kept (map.order_of (by_arrival alike)) (closed_arrival (λ e f. alike e.key f.key) entries) (λ e t. equal.refl e.key) o c element valid (none_first (needs o c) [] none)

pub ordered_write_keeps : {K T : Type 0} (less : K → K → Bool) → IsWeakOrder less → (o : Object ℕ (Entry K T)) (c : Mark) (element : T) → KeepsKeyed (map.order_of (ascending less)) o (map.write_call o c element)
ordered_write_keeps less weak o c element valid none =
    let entries = ordered_weak less weak in
    element_kept (map.order_of (ascending less)) (closed_ascending (λ e f. less e.key f.key) entries) (λ e t. (level_equal less weak).refl e.key) o c element valid (none_first (needs o c) [] none)

-- each law in each order
pub each_insert : {V : Type 0} → InEachOrder (λ (order : Order V). (o : Object ℕ V) (v : V) → KeepsKeyed order o (keyed.insert_call order o v))
each_insert {V} = in_each (λ (order : Order V). (o : Object ℕ V) (v : V) → KeepsKeyed order o (keyed.insert_call order o v)) (λ order closed. insert_keeps order closed)

pub each_insert_pos : {V : Type 0} → InEachOrder (λ (order : Order V). (o : Object ℕ V) (v : V) → KeepsKeyed order o (keyed.insert_pos_call order o v))
each_insert_pos {V} = in_each (λ (order : Order V). (o : Object ℕ V) (v : V) → KeepsKeyed order o (keyed.insert_pos_call order o v)) (λ order closed. insert_pos_keeps order closed)

pub each_include : {V : Type 0} → InEachOrder (λ (order : Order V). (o : Object ℕ V) (v : V) → KeepsKeyed order o (keyed.include_call order o v))
each_include {V} = in_each (λ (order : Order V). (o : Object ℕ V) (v : V) → KeepsKeyed order o (keyed.include_call order o v)) (λ order closed. include_keeps order closed)

pub each_replace : {V : Type 0} → InEachOrder (λ (order : Order V). (tampering : Option Reason) (o : Object ℕ V) (v : V) → KeepsKeyed order o (keyed.replace_call tampering order o v))
each_replace {V} = in_each (λ (order : Order V). (tampering : Option Reason) (o : Object ℕ V) (v : V) → KeepsKeyed order o (keyed.replace_call tampering order o v)) (λ order closed. replace_keeps order closed)

pub each_exclude : {V : Type 0} → InEachOrder (λ (order : Order V). (matches : V → Bool) (o : Object ℕ V) → KeepsKeyed order o (keyed.exclude_call matches o))
each_exclude {V} = in_each (λ (order : Order V). (matches : V → Bool) (o : Object ℕ V) → KeepsKeyed order o (keyed.exclude_call matches o)) (λ order closed. exclude_keeps order closed)

pub each_delete_match : {V : Type 0} → InEachOrder (λ (order : Order V). (matches : V → Bool) (o : Object ℕ V) → KeepsKeyed order o (keyed.delete_match_call matches o))
each_delete_match {V} = in_each (λ (order : Order V). (matches : V → Bool) (o : Object ℕ V) → KeepsKeyed order o (keyed.delete_match_call matches o)) (λ order closed. delete_match_keeps order closed)

pub each_delete : {V : Type 0} → InEachOrder (λ (order : Order V). (o : Object ℕ V) (position : Mark) → KeepsKeyed order o (keyed.delete_call o position))
each_delete {V} = in_each (λ (order : Order V). (o : Object ℕ V) (position : Mark) → KeepsKeyed order o (keyed.delete_call o position)) (λ order closed. delete_keeps order closed)

pub each_replace_element : {V : Type 0} → InEachOrder (λ (order : Order V). (o : Object ℕ V) (c : Mark) (v : V) → KeepsKeyed order o (keyed.replace_element_call order o c v))
each_replace_element {V} = in_each (λ (order : Order V). (o : Object ℕ V) (c : Mark) (v : V) → KeepsKeyed order o (keyed.replace_element_call order o c v)) (λ order closed. replace_element_keeps order closed)

pub each_delete_first : {V : Type 0} → InEachOrder (λ (order : Order V). (o : Object ℕ V) → KeepsKeyed order o (ordered.delete_first_call o))
each_delete_first {V} = in_each (λ (order : Order V). (o : Object ℕ V) → KeepsKeyed order o (ordered.delete_first_call o)) (λ order closed. λ o valid none. cut_valid order closed o 0 1 valid)

pub each_delete_last : {V : Type 0} → InEachOrder (λ (order : Order V). (o : Object ℕ V) → KeepsKeyed order o (ordered.delete_last_call o))
each_delete_last {V} = in_each (λ (order : Order V). (o : Object ℕ V) → KeepsKeyed order o (ordered.delete_last_call o)) (λ order closed. λ o valid none. cut_valid order closed o (length o.rows - 1) 1 valid)

pub each_union : {V : Type 0} → InEachOrder (λ (order : Order V). (target source : Object ℕ V) → IsValidKeyed order source → KeepsKeyed order target (set.union_call order target source))
each_union {V} = in_each (λ (order : Order V). (target source : Object ℕ V) → IsValidKeyed order source → KeepsKeyed order target (set.union_call order target source)) (λ order closed. union_keeps order closed)

pub each_intersection : {V : Type 0} → InEachOrder (λ (order : Order V). (target source : Object ℕ V) → KeepsKeyed order target (set.intersection_call order target source))
each_intersection {V} = in_each (λ (order : Order V). (target source : Object ℕ V) → KeepsKeyed order target (set.intersection_call order target source)) (λ order closed. intersection_keeps order closed)

pub each_difference : {V : Type 0} → InEachOrder (λ (order : Order V). (target source : Object ℕ V) → KeepsKeyed order target (set.difference_call order target source))
each_difference {V} = in_each (λ (order : Order V). (target source : Object ℕ V) → KeepsKeyed order target (set.difference_call order target source)) (λ order closed. difference_keeps order closed)

pub each_symmetric_difference : {V : Type 0} → InEachOrder (λ (order : Order V). (target source : Object ℕ V) → IsValidKeyed order source → KeepsKeyed order target (set.symmetric_difference_call order target source))
each_symmetric_difference {V} = in_each (λ (order : Order V). (target source : Object ℕ V) → IsValidKeyed order source → KeepsKeyed order target (set.symmetric_difference_call order target source)) (λ order closed. symmetric_difference_keeps order closed)

pub each_clear : {V : Type 0} → InEachOrder (λ (order : Order V). (o : Object ℕ V) → KeepsKeyed order o (common.clear_call o))
each_clear {V} = in_each (λ (order : Order V). (o : Object ℕ V) → KeepsKeyed order o (common.clear_call o)) (λ order closed. clear_keeps order closed)

pub each_assign : {V : Type 0} → InEachOrder (λ (order : Order V). (target source : Object ℕ V) → IsValidKeyed order source → KeepsKeyed order target (common.assign_call target source))
each_assign {V} = in_each (λ (order : Order V). (target source : Object ℕ V) → IsValidKeyed order source → KeepsKeyed order target (common.assign_call target source)) (λ order closed. assign_keeps order closed)

pub each_move_from : {V : Type 0} → InEachOrder (λ (order : Order V). (target source : Object ℕ V) → IsValidKeyed order target → IsValidKeyed order source → (common.move_from_call target source).reason ≡ None →
    IsValidKeyed order (common.move_from_call target source).after.target × IsValidKeyed order (common.move_from_call target source).after.source)
each_move_from {V} = in_each (λ (order : Order V). (target source : Object ℕ V) → IsValidKeyed order target → IsValidKeyed order source → (common.move_from_call target source).reason ≡ None →
    IsValidKeyed order (common.move_from_call target source).after.target × IsValidKeyed order (common.move_from_call target source).after.source) (λ order closed. move_from_keeps order closed)

keys_equal : {K V : Type 0} (key : V → K) (alike : K → K → Bool) → IsEquivalence alike → IsEquivalence {K = V} (λ v w. alike (key v) (key w))
keys_equal key alike equal = record {
  refl = λ v. equal.refl (key v);
  symm = λ v w. equal.symm (key v) (key w);
  congr = λ v w x. equal.congr (key v) (key w) (key x);
}

keys_weak : {K V : Type 0} (key : V → K) (less : K → K → Bool) → IsWeakOrder less → IsWeakOrder {A = V} (λ v w. less (key v) (key w))
keys_weak key less weak = record {
  irreflexive = λ v. weak.irreflexive (key v);
  transitive = λ v w x. weak.transitive (key v) (key w) (key x);
  ties_transitive = λ v w x. weak.ties_transitive (key v) (key w) (key x);
}

released_valid : {V : Type 0} (o : Object ℕ V) → IsValid o → IsValid (record o { cursor_guards = o.cursor_guards - 1 })
released_valid o v = record {
  names_differ = v.names_differ;
  names_below_next = v.names_below_next;
  names_from_one = v.names_from_one;
  next_from_one = v.next_from_one;
  next_in_range = v.next_in_range;
  within_limit = v.within_limit;
  within_greatest = v.within_greatest;
  capacity_fits = v.capacity_fits;
}

ended : {K V : Type 0} (key : V → K) (alike : K → K → Bool) (order : Order V) → Closed order → ((v w : V) → alike (key v) (key w) ≡ true → order.alike v w ≡ true) → (o : Object ℕ V) (c : Mark) (copy : V) (r : Row ℕ V) →
    IsValidKeyed order o → named o.rows (name_of c) ≡ Some r → (b : Bool) → alike (key r.value) (key copy) ≡ b →
    IsValidKeyed order (with_rows o (if b then with_value o.rows (name_of c) copy else cut o.rows (place_of o.rows (name_of c)) 1))
ended key alike order closed same o c copy r valid there true e = value_valid order closed o (name_of c) copy r valid there (same r.value copy e)
ended key alike order closed same o c copy r valid there false e = cut_valid order closed o (place_of o.rows (name_of c)) 1 valid

-- the end of an update of a keyed set, whether its key was kept or not
updated : {K V : Type 0} (key : V → K) (alike : K → K → Bool) (order : Order V) → Closed order → ((v w : V) → alike (key v) (key w) ≡ true → order.alike v w ≡ true) → (o : Object ℕ V) (c : Mark) (copy : V) →
    IsValidKeyed order o → is_named o.rows (name_of c) ≡ true → IsValidKeyed order (by_key.end_update_key_call key (by_arrival alike) o c copy).after
updated key alike order closed same o c copy valid there =
    let released = record o { cursor_guards = o.cursor_guards - 1 } in
    let r = found (name_of c) o.rows there in
    let free : IsValidKeyed order released = record { as_object = released_valid o valid.as_object; keys_differ = valid.keys_differ; in_order = valid.in_order } in
    rw r.1 (ended key alike order closed same released c copy r.0 free r.1 (alike (key r.0.value) (key copy)) refl)

pub hashed_update_keeps : {K V : Type 0} (key : V → K) (alike : K → K → Bool) → IsEquivalence alike → (o : Object ℕ V) (c : Mark) (copy : V) →
    IsValidKeyed (on_key key (by_arrival alike)) o → is_named o.rows (name_of c) ≡ true → IsValidKeyed (on_key key (by_arrival alike)) (by_key.end_update_key_call key (by_arrival alike) o c copy).after
hashed_update_keeps key alike equal o c copy valid there =
    updated key alike (on_key key (by_arrival alike)) (closed_arrival (λ v w. alike (key v) (key w)) (keys_equal key alike equal)) (λ v w h. h) o c copy valid there

pub ordered_update_keeps : {K V : Type 0} (key : V → K) (less : K → K → Bool) → IsWeakOrder less → (o : Object ℕ V) (c : Mark) (copy : V) →
    IsValidKeyed (on_key key (ascending less)) o → is_named o.rows (name_of c) ≡ true → IsValidKeyed (on_key key (ascending less)) (by_key.end_update_key_call key (ascending less) o c copy).after
ordered_update_keeps key less weak o c copy valid there =
    updated key (are_level less) (on_key key (ascending less)) (closed_ascending (λ v w. less (key v) (key w)) (keys_weak key less weak)) (λ v w h. h) o c copy valid there

-- a replacement by a key
key_replace_keeps : {K V : Type 0} (key : V → K) (keys : Order K) → Closed (on_key key keys) → (o : Object ℕ V) (k : K) (element : V) →
    KeepsKeyed (on_key key keys) o (by_key.key_replace_call key keys o k element)
key_replace_keeps key keys closed o k element valid none =
    reordered_if_found (on_key key keys) closed o (by_key.has_key key keys k) element (row_by (by_key.has_key key keys k) o.rows) refl valid none

pub hashed_key_replace_keeps : {K V : Type 0} (key : V → K) (alike : K → K → Bool) → IsEquivalence alike → (o : Object ℕ V) (k : K) (element : V) →
    KeepsKeyed (on_key key (by_arrival alike)) o (by_key.key_replace_call key (by_arrival alike) o k element)
hashed_key_replace_keeps key alike equal =
    key_replace_keeps key (by_arrival alike) (closed_arrival (λ v w. alike (key v) (key w)) (keys_equal key alike equal))

pub ordered_key_replace_keeps : {K V : Type 0} (key : V → K) (less : K → K → Bool) → IsWeakOrder less → (o : Object ℕ V) (k : K) (element : V) →
    KeepsKeyed (on_key key (ascending less)) o (by_key.key_replace_call key (ascending less) o k element)
ordered_key_replace_keeps key less weak =
    key_replace_keeps key (ascending less) (closed_ascending (λ v w. less (key v) (key w)) (keys_weak key less weak))
