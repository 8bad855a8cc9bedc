-- The rows of a sound object may stand in an object of its type.
use Rattle.std.proofs.Common.{◌≡◌, ◌≤◌, ℕ, Bool, true, false, not, ◌&&◌, List, [], ◌∷◌, map, length, Option, Some, None, refl, sym, ap, subst, ◌∙◌, arith}
use Rattle.std.specs.Prelude.{if◌then◌else◌, nat_le, option_to_list}
use Rattle.std.specs.List.{list_all}
use Rattle.std.proofs.lemmas.Bool.{and_from, and_parts, le-leb, not_from_false}
use Rattle.std.proofs.lemmas.List.{length-map}
use Rattle.ac_base.specs.declared.limit.Limit.{Limit}
use Rattle.ac_base.specs.declared.limit.Limit.TheVariants.{Unbounded, Bounded}
use Rattle.ac_base.specs.declared.limit.TheConstants.{GREATEST_LENGTH}
use Rattle.ac_base.specs.Limits.{is_past}
use Rattle.ac_model.specs.Holders.{Holder, IsValidHolder, is_too_large}
use Rattle.ac_model.specs.Objects.{Object, IsValid, contents}
use Rattle.ac_model.specs.Queues.{Discipline, by_arrival, by_priority, Queue, IsValidQueue, are_in_line_by, are_in_line}
use Rattle.ac_syntax.specs.Kinds.{is_holder}
use Rattle.ac_syntax.specs.declared.kind.ElemKind.{ElemKind}
use Rattle.ac_syntax.specs.declared.kind.ElemKind.TheVariants.{Integer}
use Rattle.ac_syntax.specs.declared.kind.Kind.TheVariants as kinds
use Rattle.ac_syntax.specs.declared.type_def.TypeDef.{TypeDef}
use Rattle.ac_rules.specs.Rules.{is_type}
use Rattle.ac_calls.specs.Elements.{Tools, ElementOf, tools_of, integer_in}
use Rattle.ac_calls.specs.Holdings.{of_list, of_vector, RowKind, RowOf, a_sequence, a_map, a_set, a_keyed_set, a_tree, discipline_by, limit_by}
use Rattle.ac_calls.specs.KeyedReplies.{of_hashed, of_ordered}
use Rattle.ac_calls.specs.PlainRows.{element_form, item_form, row_form}
use Rattle.ac_calls.specs.declared.plains.PlainRow.{PlainRow}
use Rattle.ac_meaning.specs.Plains.{a_def, is_bounded, limit_number, queue_kind, rows_def}
use Rattle.ac_snapshot.specs.Representable.{is_row_representable}
use Rattle.ac_snapshot.specs.RowValidity.{is_row_of, is_held, are_within, are_rows_of, are_lined_up, are_valid_rows}
use Rattle.ac_snapshot.specs.RowValues.{row_kind, row_values}
use Rattle.ac_snapshot.specs.TestLaws.{AreSound}
use Rattle.ac_snapshot.proofs.RowTests.{rows_decided}
use Rattle.ac_snapshot.proofs.RowsBack.{forms_stand, forms_are_rows, forms_are_values}

pub limit_back : (limit : Limit) → limit_by (limit_number limit) ≡ limit
limit_back Unbounded = refl
limit_back (Bounded most) = refl

-- of any type

module _ (def : TypeDef) (is : is_type def ≡ true) where
  forms_pass : (vs : List (RowOf (row_kind def))) → list_all is_row_representable (map (row_form (row_kind def)) vs) ≡ true →
      list_all (is_row_of def) (map (row_form (row_kind def)) vs) ≡ true
  forms_pass [] h = refl
  forms_pass (v ∷ vs) h =
      let parts = and_parts (is_row_representable (row_form (row_kind def) v)) (list_all is_row_representable (map (row_form (row_kind def)) vs)) h in
      and_from (is_row_of def (row_form (row_kind def) v)) (list_all (is_row_of def) (map (row_form (row_kind def)) vs))
      (forms_are_rows def v is ∙ sym (forms_are_values (row_kind def) v) ∙ parts.0) (forms_pass vs parts.1)

  rows_valid : (limit : Option ℕ) (vs : List (RowOf (row_kind def))) → list_all is_row_representable (map (row_form (row_kind def)) vs) ≡ true →
      length vs ≤ GREATEST_LENGTH → are_within def limit (map (row_form (row_kind def)) vs) ≡ true → are_rows_of (row_kind def) vs ≡ true →
      are_lined_up def (map (row_form (row_kind def)) vs) ≡ true → are_valid_rows def limit (map (row_form (row_kind def)) vs) ≡ true
  rows_valid limit vs held few within stand lined =
      let rows = map (row_form (row_kind def)) vs in
      let short : nat_le (length rows) GREATEST_LENGTH ≡ true =
      le-leb (length rows) GREATEST_LENGTH (subst (λ n. n ≤ GREATEST_LENGTH) (sym (length-map vs (row_form (row_kind def)))) few) in
      let back : are_rows_of (row_kind def) (row_values (row_kind def) rows) ≡ true = ap (are_rows_of (row_kind def)) (forms_stand (row_kind def) vs) ∙ stand in
      and_from (list_all (is_row_of def) rows) (nat_le (length rows) GREATEST_LENGTH && (are_within def limit rows && (are_rows_of (row_kind def) (row_values (row_kind def) rows) && are_lined_up def rows)))
      (forms_pass vs held)
      (and_from (nat_le (length rows) GREATEST_LENGTH) (are_within def limit rows && (are_rows_of (row_kind def) (row_values (row_kind def) rows) && are_lined_up def rows)) short
      (and_from (are_within def limit rows) (are_rows_of (row_kind def) (row_values (row_kind def) rows) && are_lined_up def rows) within
      (and_from (are_rows_of (row_kind def) (row_values (row_kind def) rows)) (are_lined_up def rows) back lined)))

-- within a limit that isn't a holder's

not_past : (limit : Limit) (n : ℕ) → is_past limit n ≡ false → not (is_past (limit_by (limit_number limit)) n) ≡ true
not_past limit n h = not_from_false (is_past (limit_by (limit_number limit)) n) (ap (λ l. is_past l n) (limit_back limit) ∙ h)

length_within : (holder : Bool) (elements : Bool) (limit : Limit) (n : ℕ) → holder ≡ false → is_past limit n ≡ false →
    (if holder then elements else not (is_past (limit_by (limit_number limit)) n)) ≡ true
length_within holder elements limit n none h =
    ap (λ b. if b then elements else not (is_past (limit_by (limit_number limit)) n)) none ∙ not_past limit n h

-- Rows of each kind

pub sound_object : (kind : RowKind) (o : Object ℕ (RowOf kind)) → AreSound kind o → IsValid o
sound_object (a_sequence _ _) o h = h
sound_object (a_map _ _ _) o h = h.as_object
sound_object (a_set _ _) o h = h.as_object
sound_object (a_keyed_set _) o h = h.as_object
sound_object (a_tree _) o h = h.as_object

pub length_held : {V : Type 0} (form : V → PlainRow) (o : Object ℕ V) → length (map form (contents o)) ≡ length o.rows
length_held form o = length-map (contents o) form ∙ length-map o.rows (λ r. r.value)

module _ (def : TypeDef) (is : is_type def ≡ true) (none : is_holder def.kind ≡ false) (arrives : discipline_by def.kind ≡ by_arrival) where
  of_type : (o : Object ℕ (RowOf (row_kind def))) → AreSound (row_kind def) o →
      list_all is_row_representable (map (row_form (row_kind def)) (contents o)) ≡ true →
      are_valid_rows def (limit_number o.limit) (map (row_form (row_kind def)) (contents o)) ≡ true
  of_type o sound held =
      let valid = sound_object (row_kind def) o sound in
      let rows = map (row_form (row_kind def)) (contents o) in
      rows_valid def is (limit_number o.limit) (contents o) held
      (subst (λ n. n ≤ GREATEST_LENGTH) (sym (length-map o.rows (λ r. r.value))) valid.within_greatest)
      (length_within (is_holder def.kind) _ o.limit (length rows) none (ap (is_past o.limit) (length_held (row_form (row_kind def)) o) ∙ valid.within_limit))
      ((rows_decided (row_kind def) o valid).1 sound)
      (ap (λ d. are_in_line_by d (map (λ r. integer_in r.value) rows)) arrives)

-- whatever their limit
pub kind_rows : (kind : RowKind) (o : Object ℕ (RowOf kind)) → is_type (rows_def (is_bounded o.limit) kind) ≡ true → AreSound kind o →
    list_all is_row_representable (map (row_form kind) (contents o)) ≡ true →
    are_valid_rows (rows_def (is_bounded o.limit) kind) (limit_number o.limit) (map (row_form kind) (contents o)) ≡ true
kind_rows (a_sequence of_list e) o is sound held = of_type (rows_def (is_bounded o.limit) (a_sequence of_list e)) is refl refl o sound held
kind_rows (a_sequence of_vector e) o is sound held = of_type (rows_def (is_bounded o.limit) (a_sequence of_vector e)) is refl refl o sound held
kind_rows (a_map of_hashed k e) o is sound held = of_type (rows_def (is_bounded o.limit) (a_map of_hashed k e)) is refl refl o sound held
kind_rows (a_map of_ordered k e) o is sound held = of_type (rows_def (is_bounded o.limit) (a_map of_ordered k e)) is refl refl o sound held
kind_rows (a_set of_hashed e) o is sound held = of_type (rows_def (is_bounded o.limit) (a_set of_hashed e)) is refl refl o sound held
kind_rows (a_set of_ordered e) o is sound held = of_type (rows_def (is_bounded o.limit) (a_set of_ordered e)) is refl refl o sound held
kind_rows (a_keyed_set of_hashed) o is sound held = of_type (rows_def (is_bounded o.limit) (a_keyed_set of_hashed)) is refl refl o sound held
kind_rows (a_keyed_set of_ordered) o is sound held = of_type (rows_def (is_bounded o.limit) (a_keyed_set of_ordered)) is refl refl o sound held
kind_rows (a_tree e) o is sound held = of_type (rows_def (is_bounded o.limit) (a_tree e)) is refl refl o sound held

-- A holder's element

abbrev pub holder_def : Limit → ElemKind → TypeDef
holder_def limit e = a_def (is_bounded limit) kinds.Holder e None false

held_within : {T : Type 0} (tools : Tools T) (limit : Limit) (element : Option T) → is_too_large tools.size limit element ≡ false →
    is_held tools (limit_number limit) (option_to_list element) ≡ true
held_within tools limit None h = refl
held_within tools limit (Some v) h =
    not_from_false (is_too_large tools.size (limit_by (limit_number limit)) (Some v)) (ap (λ l. is_too_large tools.size l (Some v)) (limit_back limit) ∙ h)

one_element : {T : Type 0} (element : Option T) → length (option_to_list element) ≤ GREATEST_LENGTH
one_element None = omega arith
one_element (Some v) = omega arith

pub holder_rows : (e : ElemKind) (h : Holder (ElementOf e)) → IsValidHolder (tools_of e).size h →
    list_all is_row_representable (map (element_form (tools_of e)) (option_to_list h.element)) ≡ true →
    are_valid_rows (holder_def h.limit e) (limit_number h.limit) (map (element_form (tools_of e)) (option_to_list h.element)) ≡ true
holder_rows e h valid held =
    let vs = option_to_list h.element in
    rows_valid (holder_def h.limit e) refl (limit_number h.limit) vs held (one_element h.element)
    (ap (is_held (tools_of e) (limit_number h.limit)) (forms_stand (a_sequence of_list e) vs) ∙ held_within (tools_of e) h.limit h.element valid.within_limit)
    refl refl

-- A queue's items

abbrev pub queue_def : Limit → Discipline → TypeDef
queue_def limit d = a_def (is_bounded limit) (queue_kind d) Integer None false

queue_within : (q : Queue) → is_past q.limit (length q.items) ≡ false → not (is_past (limit_by (limit_number q.limit)) (length (map item_form q.items))) ≡ true
queue_within q h = not_past q.limit (length (map item_form q.items)) (ap (is_past q.limit) (length-map q.items item_form) ∙ h)

pub queue_rows : (d : Discipline) (q : Queue) → IsValidQueue d q → list_all is_row_representable (map item_form q.items) ≡ true →
    are_valid_rows (queue_def q.limit d) (limit_number q.limit) (map item_form q.items) ≡ true
queue_rows by_arrival q valid held =
    rows_valid (queue_def q.limit by_arrival) refl (limit_number q.limit) q.items held valid.within_greatest (queue_within q valid.within_limit) refl refl
queue_rows by_priority q valid held =
    rows_valid (queue_def q.limit by_priority) refl (limit_number q.limit) q.items held valid.within_greatest (queue_within q valid.within_limit) refl
    (ap are_in_line (forms_stand (a_sequence of_list Integer) q.items) ∙ valid.in_line)
