-- The calls that fill an object from an entry, kind by kind.
use Rattle.std.proofs.Common.{◌≡◌, ◌+◌, ◌≤◌, arith, ℕ, min, Bool, true, false, not, ◌&&◌, List, [], ◌∷◌, ◌++◌, length, refl, sym, ap, subst, ◌∙◌, Option, Some, None, is_some}
use Rattle.std.specs.Prelude.{nat_le, nat_lt, if◌then◌else◌}
use Rattle.std.specs.List.{list_all}
use Rattle.std.proofs.lemmas.Bool.{true≢false, false≢true, and_parts}
use Rattle.std.proofs.lemmas.List.{length_push, length-append, length-map, map-append}
use Rattle.ac_base.specs.declared.limit.Limit.{Limit}
use Rattle.ac_base.specs.declared.limit.Limit.TheVariants.{Unbounded}
use Rattle.ac_base.specs.declared.limit.TheConstants.{GREATEST_LENGTH}
use Rattle.ac_base.specs.declared.reason.Reason.TheVariants.{LengthRange}
use Rattle.ac_base.specs.declared.value.Value.{Value}
use Rattle.ac_base.specs.FirstReason.{first_reason}
use Rattle.ac_base.specs.Growth.{pow8}
use Rattle.ac_base.specs.OrderLaws.{integer_order, text_order, key_order}
use Rattle.ac_model.specs.Letters.{reason_if}
use Rattle.ac_model.specs.Maps.{order_of}
use Rattle.ac_model.specs.Objects.{Object, empty_object, first_capacity}
use Rattle.ac_model.specs.Queues.{by_arrival, by_priority}
use Rattle.ac_syntax.specs.declared.kind.ElemKind.{ElemKind}
use Rattle.ac_syntax.specs.declared.kind.ElemKind.TheVariants.{Integer, Str}
use Rattle.ac_syntax.specs.declared.kind.Kind.{Kind}
use Rattle.ac_syntax.specs.declared.kind.Kind.TheVariants as kinds
use Rattle.ac_syntax.specs.declared.operation.CapacityCall.TheVariants as capacity_call
use Rattle.ac_syntax.specs.declared.operation.Operation.TheVariants as operation
use Rattle.ac_syntax.specs.declared.type_def.TypeDef.{TypeDef}
use Rattle.ac_syntax.specs.Kinds.{is_queue, has_capacity}
use Rattle.ac_rules.specs.Rules.{is_type}
use Rattle.ac_calls.specs.Elements.{tools_of, keyed_texts}
use Rattle.ac_calls.specs.Holdings.{SequenceKind, of_list, of_vector, RowKind, RowOf, a_sequence, a_map, a_set, a_keyed_set, Held, of_rows, limit_by, new_held, reply_of}
use Rattle.ac_calls.specs.KeyedReplies.{KeyedKind, of_hashed, of_ordered, order_by}
use Rattle.ac_calls.specs.declared.plains.PlainRow.{PlainRow}
use Rattle.ac_snapshot.specs.FillLaws.{Leaves, FillBegins, FillReserves, FillPuts, FillEnds}
use Rattle.ac_snapshot.specs.Filled.{given_or, filled, row_operation, fill_operation, arguments_by, count_arguments}
use Rattle.ac_snapshot.specs.RowValidity.{is_tree, is_given, is_value_of, is_row_of, are_rows_of, are_within, are_lined_up, are_valid_rows}
use Rattle.ac_snapshot.specs.RowValues.{row_kind, row_value, row_values}
use Rattle.ac_snapshot.specs.Validity.{is_step, is_limit_of, is_capacity_of, is_peak_of, is_valid_object}
use Rattle.ac_snapshot.proofs.FillingCapacity.{step_reserved, none_past}
use Rattle.ac_snapshot.proofs.FillingKeyed.{IsTransitive, inserted}
use Rattle.ac_snapshot.proofs.FillingOthers.{element_put, item_put}
use Rattle.ac_snapshot.proofs.FillingRoom.{holding, HasRoomBehind, has_room_behind, appended}

-- A row more in an object with rows

elements_transitive : (e : ElemKind) (which : KeyedKind) → IsTransitive (order_by (tools_of e) which).less
elements_transitive Integer of_hashed = λ x y z h k. h
elements_transitive Integer of_ordered = integer_order.transitive
elements_transitive Str of_hashed = λ x y z h k. h
elements_transitive Str of_ordered = text_order.transitive

texts_transitive : (which : KeyedKind) → IsTransitive (order_by keyed_texts which).less
texts_transitive of_hashed = λ x y z h k. h
texts_transitive of_ordered = key_order.transitive

abbrev a_row : ℕ → Option Value → Value → PlainRow
a_row depth key v = record { depth = depth; key = key; value = v }

module _ (number : ℕ) (limit : Limit) (own : Option ℕ) where
  abbrev held_rows : RowKind → List PlainRow → Held
  held_rows kind rows = of_rows kind (holding number limit own (length rows) (row_values kind rows))

  module _ (depth : ℕ) (v : Value) (test : Value → Bool) (before later : List PlainRow) (room : HasRoomBehind limit own (length before)) where
    abbrev PutsRow : RowKind → Option Value → Type 0
    PutsRow kind key =
        Leaves (reply_of (held_rows kind before) None (row_operation kind) (arguments_by key v)) (held_rows kind (before ++ a_row depth key v ∷ []))

    count_of : (kind : RowKind) → length (row_values kind before) ≡ length before
    count_of kind = length-map before (row_value kind)

    left : (kind : RowKind) (r : PlainRow) (after : Object ℕ (RowOf kind)) → after ≡ holding number limit own (length before + 1) (row_values kind before ++ row_value kind r ∷ []) →
        of_rows kind after ≡ held_rows kind (before ++ r ∷ [])
    left kind r after is =
        ap (of_rows kind) is
        ∙ (λ i. of_rows kind (holding number limit own (sym (length_push before r) i) (sym (map-append (row_value kind) before (r ∷ [])) i)))

    in_turn : (kind : RowKind) (r : PlainRow) → are_rows_of kind (row_values kind (before ++ r ∷ later)) ≡ true →
        are_rows_of kind (row_values kind before ++ row_value kind r ∷ row_values kind later) ≡ true
    in_turn kind r h = ap (are_rows_of kind) (sym (map-append (row_value kind) before (r ∷ later))) ∙ h

    in_sequence : (which : SequenceKind) (e : ElemKind) (key : Option Value) → is_given false test key ≡ true → PutsRow (a_sequence which e) key
    in_sequence which e (Some key) h = absurd (false≢true h)
    in_sequence of_list e None h =
        let kind = a_sequence of_list e in
        let r = a_row depth None v in
        let put = appended number limit own (length before) (row_values kind before) (row_value kind r) (count_of kind) room in
        (refl, put.0, left kind r _ put.1)
    in_sequence of_vector e None h =
        let kind = a_sequence of_vector e in
        let r = a_row depth None v in
        let put = appended number limit own (length before) (row_values kind before) (row_value kind r) (count_of kind) room in
        (refl, put.0, left kind r _ put.1)

    in_map : (which : KeyedKind) (k e : ElemKind) (key : Option Value) → is_given true test key ≡ true →
        are_rows_of (a_map which k e) (row_values (a_map which k e) (before ++ a_row depth key v ∷ later)) ≡ true → PutsRow (a_map which k e) key
    in_map which k e None h stand = absurd (false≢true h)
    in_map which k e (Some key) h stand =
        let kind = a_map which k e in
        let r = a_row depth (Some key) v in
        let put = inserted (order_of (order_by (tools_of k) which)) (λ x y z. elements_transitive k which x.key y.key z.key) number limit own (length before)
        (row_values kind before) (row_value kind r) (row_values kind later) (count_of kind) room (in_turn kind r stand) in
        (refl, put.0, left kind r _ put.1)

    in_set : (which : KeyedKind) (e : ElemKind) (key : Option Value) → is_given false test key ≡ true →
        are_rows_of (a_set which e) (row_values (a_set which e) (before ++ a_row depth key v ∷ later)) ≡ true → PutsRow (a_set which e) key
    in_set which e (Some key) h stand = absurd (false≢true h)
    in_set which e None h stand =
        let kind = a_set which e in
        let r = a_row depth None v in
        let put = inserted (order_by (tools_of e) which) (elements_transitive e which) number limit own (length before)
        (row_values kind before) (row_value kind r) (row_values kind later) (count_of kind) room (in_turn kind r stand) in
        (refl, put.0, left kind r _ put.1)

    in_keyed_set : (which : KeyedKind) (key : Option Value) → is_given false test key ≡ true →
        are_rows_of (a_keyed_set which) (row_values (a_keyed_set which) (before ++ a_row depth key v ∷ later)) ≡ true → PutsRow (a_keyed_set which) key
    in_keyed_set which (Some key) h stand = absurd (false≢true h)
    in_keyed_set which None h stand =
        let kind = a_keyed_set which in
        let r = a_row depth None v in
        let put = inserted (order_by keyed_texts which) (texts_transitive which) number limit own (length before)
        (row_values kind before) (row_value kind r) (row_values kind later) (count_of kind) room (in_turn kind r stand) in
        (refl, put.0, left kind r _ put.1)

-- In an object of each kind

-- what is used of the entry's validity
pub record IsEntryOf (def : TypeDef) (limit capacity : Option ℕ) (rows : List PlainRow) (r : PlainRow) : Type 0 where
  pub typed : is_type def ≡ true
  pub limited : is_limit_of def limit ≡ true
  pub has : is_capacity_of def rows capacity ≡ true
  pub few : nat_le (length rows) GREATEST_LENGTH ≡ true
  pub within : are_within def limit rows ≡ true
  pub stand : are_rows_of (row_kind def) (row_values (row_kind def) rows) ≡ true
  pub line : are_lined_up def rows ≡ true
  pub form : is_row_of def r ≡ true

last_all : (p : PlainRow → Bool) (before : List PlainRow) (r : PlainRow) (later : List PlainRow) → list_all p (before ++ r ∷ later) ≡ true → p r ≡ true
last_all p [] r later h = (and_parts (p r) (list_all p later) h).0
last_all p (s ∷ before) r later h = last_all p before r later (and_parts (p s) (list_all p (before ++ r ∷ later)) h).1

entry_of : (def : TypeDef) (limit capacity peak : Option ℕ) (before : List PlainRow) (r : PlainRow) (later : List PlainRow) →
    is_valid_object def limit capacity peak (before ++ r ∷ later) ≡ true → IsEntryOf def limit capacity (before ++ r ∷ later) r
entry_of def limit capacity peak before r later valid =
    let rows = before ++ r ∷ later in
    let a = and_parts (is_type def) (is_limit_of def limit && (is_capacity_of def rows capacity && (is_peak_of def limit rows peak && are_valid_rows def limit rows))) valid in
    let b = and_parts (is_limit_of def limit) (is_capacity_of def rows capacity && (is_peak_of def limit rows peak && are_valid_rows def limit rows)) a.1 in
    let c = and_parts (is_capacity_of def rows capacity) (is_peak_of def limit rows peak && are_valid_rows def limit rows) b.1 in
    let d = and_parts (is_peak_of def limit rows peak) (are_valid_rows def limit rows) c.1 in
    let stands = are_rows_of (row_kind def) (row_values (row_kind def) rows) in
    let e = and_parts (list_all (is_row_of def) rows) (nat_le (length rows) GREATEST_LENGTH && (are_within def limit rows && (stands && are_lined_up def rows))) d.1 in
    let f = and_parts (nat_le (length rows) GREATEST_LENGTH) (are_within def limit rows && (stands && are_lined_up def rows)) e.1 in
    let g = and_parts (are_within def limit rows) (stands && are_lined_up def rows) f.1 in
    let h = and_parts stands (are_lined_up def rows) g.1 in
    record {
      typed = a.0;
      limited = b.0;
      has = c.0;
      few = f.0;
      within = g.0;
      stand = h.0;
      line = h.1;
      form = last_all (is_row_of def) before r later e.0;
    }

middle : (a b c : Bool) → (a && (b && c)) ≡ true → b ≡ true
middle a b c h = (and_parts b c (and_parts a (b && c) h).1).0

module _ (number : ℕ) (limit capacity : Option ℕ) (before later : List PlainRow) (depth : ℕ) (key : Option Value) (v : Value) where
  abbrev Puts : TypeDef → Type 0
  Puts def =
      let h = new_held def number limit in
      Leaves (reply_of (filled h capacity (Some (length before)) before) None (fill_operation h) (arguments_by key v))
      (filled h capacity (Some (length before + 1)) (before ++ a_row depth key v ∷ []))

  abbrev all_rows : List PlainRow
  all_rows = before ++ a_row depth key v ∷ later

  one_less : length before + 1 ≤ length all_rows
  one_less = omega (arith, length-append before (a_row depth key v ∷ later))

  abbrev most : ℕ → Bool
  most n = nat_le n GREATEST_LENGTH

  abbrev own : Bool → Option ℕ
  own has = given_or capacity (first_capacity has (limit_by limit))

  put_in_kind : (bounded : Bool) (kind : Kind) (first : ElemKind) (second : Option ElemKind) (keyed : Bool) →
      let def : TypeDef = record { bounded = bounded; kind = kind; first = first; second = second; keyed = keyed } in
      IsEntryOf def limit capacity all_rows (a_row depth key v) → is_tree kind ≡ false → Puts def
  put_in_kind bounded kinds.Vector first second keyed w t =
      let room = has_room_behind bounded true most limit capacity (length before) (length all_rows) w.limited w.has one_less w.few w.within in
      in_sequence number (limit_by limit) (own true) depth v (is_value_of first) before later room of_vector first key (middle _ _ _ w.form)
  put_in_kind bounded kinds.List first second keyed w t =
      let room = has_room_behind bounded false most limit capacity (length before) (length all_rows) w.limited w.has one_less w.few w.within in
      in_sequence number (limit_by limit) (own false) depth v (is_value_of first) before later room of_list first key (middle _ _ _ w.form)
  put_in_kind bounded kinds.HashedMap first None keyed w t = absurd (false≢true w.typed)
  put_in_kind bounded kinds.HashedMap first (Some second) keyed w t =
      let room = has_room_behind bounded true most limit capacity (length before) (length all_rows) w.limited w.has one_less w.few w.within in
      in_map number (limit_by limit) (own true) depth v (is_value_of first) before later room of_hashed first second key (middle _ _ _ w.form) w.stand
  put_in_kind bounded kinds.OrderedMap first None keyed w t = absurd (false≢true w.typed)
  put_in_kind bounded kinds.OrderedMap first (Some second) keyed w t =
      let room = has_room_behind bounded false most limit capacity (length before) (length all_rows) w.limited w.has one_less w.few w.within in
      in_map number (limit_by limit) (own false) depth v (is_value_of first) before later room of_ordered first second key (middle _ _ _ w.form) w.stand
  put_in_kind bounded kinds.HashedSet first second false w t =
      let room = has_room_behind bounded true most limit capacity (length before) (length all_rows) w.limited w.has one_less w.few w.within in
      in_set number (limit_by limit) (own true) depth v (is_value_of first) before later room of_hashed first key (middle _ _ _ w.form) w.stand
  put_in_kind bounded kinds.HashedSet first second true w t =
      let room = has_room_behind bounded true most limit capacity (length before) (length all_rows) w.limited w.has one_less w.few w.within in
      in_keyed_set number (limit_by limit) (own true) depth v (is_value_of first) before later room of_hashed key (middle _ _ _ w.form) w.stand
  put_in_kind bounded kinds.OrderedSet first second false w t =
      let room = has_room_behind bounded false most limit capacity (length before) (length all_rows) w.limited w.has one_less w.few w.within in
      in_set number (limit_by limit) (own false) depth v (is_value_of first) before later room of_ordered first key (middle _ _ _ w.form) w.stand
  put_in_kind bounded kinds.OrderedSet first second true w t =
      let room = has_room_behind bounded false most limit capacity (length before) (length all_rows) w.limited w.has one_less w.few w.within in
      in_keyed_set number (limit_by limit) (own false) depth v (is_value_of first) before later room of_ordered key (middle _ _ _ w.form) w.stand
  put_in_kind bounded kinds.Tree first second keyed w t = absurd (true≢false t)
  put_in_kind bounded kinds.Holder first second keyed w t =
      element_put first number limit capacity (Some (length before)) (Some (length before + 1)) depth v (is_value_of first) before later key (middle _ _ _ w.form) w.within
  put_in_kind bounded kinds.Queue first second keyed w t =
      let room = has_room_behind bounded false most limit capacity (length before) (length all_rows) w.limited w.has one_less w.few w.within in
      item_put by_arrival number limit capacity depth v (is_value_of first) before later key (middle _ _ _ w.form) room.few room.within w.line
  put_in_kind bounded kinds.PriorityQueue first second keyed w t =
      let room = has_room_behind bounded false most limit capacity (length before) (length all_rows) w.limited w.has one_less w.few w.within in
      item_put by_priority number limit capacity depth v (is_value_of first) before later key (middle _ _ _ w.form) room.few room.within w.line

pub fill_puts : FillPuts
fill_puts def number limit capacity peak rows before r later valid is t =
    put_in_kind number limit capacity before later r.depth r.key r.value def.bounded def.kind def.first def.second def.keyed
    (entry_of def limit capacity peak before r later (subst (λ all. is_valid_object def limit capacity peak all ≡ true) is valid)) t

-- Before the first row, and behind the last

begins_in : (bounded : Bool) (kind : Kind) (first : ElemKind) (second : Option ElemKind) (keyed : Bool) (number : ℕ) (limit : Option ℕ) →
    let h = new_held (record { bounded = bounded; kind = kind; first = first; second = second; keyed = keyed }) number limit in
    filled h None (Some 0) [] ≡ h
begins_in bounded kinds.Vector first second keyed number limit = refl
begins_in bounded kinds.List first second keyed number limit = refl
begins_in bounded kinds.HashedMap first second keyed number limit = refl
begins_in bounded kinds.OrderedMap first second keyed number limit = refl
begins_in bounded kinds.HashedSet first second keyed number limit = refl
begins_in bounded kinds.OrderedSet first second keyed number limit = refl
begins_in bounded kinds.Tree first second keyed number limit = refl
begins_in bounded kinds.Holder first second keyed number limit = refl
begins_in bounded kinds.Queue first second keyed number limit = refl
begins_in bounded kinds.PriorityQueue first second keyed number limit = refl

pub fill_begins : FillBegins
fill_begins def number limit = begins_in def.bounded def.kind def.first def.second def.keyed number limit

ends_in : (bounded : Bool) (kind : Kind) (first : ElemKind) (second : Option ElemKind) (keyed : Bool) (number n : ℕ) (limit capacity peak : Option ℕ) (rows : List PlainRow) → is_queue kind ≡ false →
    let h = new_held (record { bounded = bounded; kind = kind; first = first; second = second; keyed = keyed }) number limit in
    filled h capacity (Some n) rows ≡ filled h capacity peak rows
ends_in bounded kinds.Vector first second keyed number n limit capacity peak rows h = refl
ends_in bounded kinds.List first second keyed number n limit capacity peak rows h = refl
ends_in bounded kinds.HashedMap first second keyed number n limit capacity peak rows h = refl
ends_in bounded kinds.OrderedMap first second keyed number n limit capacity peak rows h = refl
ends_in bounded kinds.HashedSet first second keyed number n limit capacity peak rows h = refl
ends_in bounded kinds.OrderedSet first second keyed number n limit capacity peak rows h = refl
ends_in bounded kinds.Tree first second keyed number n limit capacity peak rows h = refl
ends_in bounded kinds.Holder first second keyed number n limit capacity peak rows h = refl
ends_in bounded kinds.Queue first second keyed number n limit capacity peak rows h = absurd (true≢false h)
ends_in bounded kinds.PriorityQueue first second keyed number n limit capacity peak rows h = absurd (true≢false h)

pub fill_ends : FillEnds
fill_ends def number n limit capacity peak rows h = ends_in def.bounded def.kind def.first def.second def.keyed number n limit capacity peak rows h

-- The Capacity

module _ (number c : ℕ) (step : is_step c ≡ true) where
  abbrev Reserves : TypeDef → (limit : Option ℕ) → Type 0
  Reserves def limit =
      let h = new_held def number limit in
      Leaves (reply_of h None (operation.Capacity capacity_call.ReserveCapacity) (count_arguments (min c GREATEST_LENGTH))) (filled h (Some c) (Some 0) [])

  -- nothing is found against it
  allowed : first_reason (None ∷ reason_if (nat_lt GREATEST_LENGTH (min c GREATEST_LENGTH)) LengthRange ∷ None ∷ []) ≡ None
  allowed = λ i. first_reason (None ∷ reason_if (none_past c i) LengthRange ∷ None ∷ [])

  reserved : (kind : RowKind) → ◌≡◌ {A = Held} (of_rows kind (record (empty_object true number Unbounded) { capacity = Some (if nat_le (min c GREATEST_LENGTH) 0 then 0 else pow8 (min c GREATEST_LENGTH)) }))
      (of_rows kind (record (empty_object true number Unbounded) { capacity = Some c }))
  reserved kind = ap (λ n. of_rows kind (record (empty_object true number Unbounded) { capacity = Some n })) (step_reserved c step)

  reserves_in : (bounded : Bool) (kind : Kind) (first : ElemKind) (second : Option ElemKind) (keyed : Bool) (limit : Option ℕ) → is_some limit ≡ bounded → (not bounded && has_capacity kind) ≡ true →
      Reserves (record { bounded = bounded; kind = kind; first = first; second = second; keyed = keyed }) limit
  reserves_in true kind first second keyed limit b h = absurd (false≢true h)
  reserves_in false kind first second keyed (Some most) b h = absurd (true≢false b)
  reserves_in false kinds.Vector first second keyed None b h = (refl, allowed, reserved _)
  reserves_in false kinds.List first second keyed None b h = absurd (false≢true h)
  reserves_in false kinds.HashedMap first second keyed None b h = (refl, allowed, reserved _)
  reserves_in false kinds.OrderedMap first second keyed None b h = absurd (false≢true h)
  reserves_in false kinds.HashedSet first second false None b h = (refl, allowed, reserved _)
  reserves_in false kinds.HashedSet first second true None b h = (refl, allowed, reserved _)
  reserves_in false kinds.OrderedSet first second keyed None b h = absurd (false≢true h)
  reserves_in false kinds.Tree first second keyed None b h = absurd (false≢true h)
  reserves_in false kinds.Holder first second keyed None b h = absurd (false≢true h)
  reserves_in false kinds.Queue first second keyed None b h = absurd (false≢true h)
  reserves_in false kinds.PriorityQueue first second keyed None b h = absurd (false≢true h)

pub fill_reserves : FillReserves
fill_reserves def number c limit typed limited has step = reserves_in number c step def.bounded def.kind def.first def.second def.keyed limit limited has
