-- What a map or a set is after its index changed, in the words of the definitions.
use Rattle.std.proofs.Common.{◌≡◌, ◌==◌, ◌||◌, ◌+◌, ◌-◌, ◌<◌, ℕ, zero, suc, Bool, true, false, not, true≢false, List, [], ◌∷◌, length, map, Option, Some, None, Result, Ok, Err, IsTrue, refl, sym, ap, ◌∙◌, subst, arith}
use Rattle.std.specs.Prelude.{is_some, All, if◌then◌else◌}
use Rattle.std.proofs.lemmas.List.{length-map}
use Rattle.std.proofs.lemmas.Option.{none-some}
use Rattle.ac_base.specs.declared.limit.Limit.{Limit}
use Rattle.ac_base.specs.declared.limit.Limit.TheVariants.{Unbounded, Bounded}
use Rattle.ac_base.specs.declared.name.Name.{Name}
use Rattle.ac_base.specs.declared.reason.Reason.{Reason}
use Rattle.ac_base.specs.declared.reason.Reason.TheVariants.{KeyPresent, KeyAbsent}
use Rattle.ac_base.specs.FirstReason.{first_reason, earlier}
use Rattle.ac_base.specs.Guards.{GuardCounts}
use Rattle.ac_base.specs.Rows.{Row, row, names}
use Rattle.ac_model.specs.Rows.{cut, place_of, named, with_value, row_by}
use Rattle.ac_model.specs.Containers.{Container, container, object_with, first_spare}
use Rattle.ac_model.specs.Objects.{Object, plain, plain_row, with_rows, capacity_after, first_capacity, empty_object}
use Rattle.ac_base.specs.Limits.{IsLimit}
use Rattle.ac_model.specs.Letters.{mark_at, mark_of, has_room, is_among, is_same_name, name_of, tampers_cursors, room_for_one, room_in, reason_if}
use Rattle.ac_model.specs.Calls.{IsAfter, KeepsSlots, Changing, Same, Marks, call}
use Rattle.ac_base.specs.declared.fault.Fault.{Fault}
use Rattle.ac_base.specs.declared.fault.Fault.TheVariants as fault
use Rattle.ac_base.specs.declared.cursor.Cursor.{Cursor}
use Rattle.ac_base.specs.declared.cursor.Cursor.TheVariants.{NoElement}
use Rattle.ac_model.specs.Cursors.{mark, needs_cursor, name_in, cursor_at}
use Rattle.ac_model.specs.Keyed as keyed
use Rattle.ac_model.specs.Keyed.{Order, IsValidKeyed, added, with_added, row_like, without, replaced_rows, room_where_absent, insertion_takes_memory, with_added_or_replaced, with_added_if_absent, inserted_or_found}
use Rattle.ac_model.specs.Lists.{one_row}
use Rattle.ac_model.specs.Putting.{done}
use Rattle.ac_model.proofs.KeyedLaws.{Closed, insert_keeps, cut_valid, replace_keeps}
use Rattle.ac_model.proofs.Moves.{found, length-cut_one}
use Rattle.ac_model.proofs.KeyedKept.{length-added}
use Rattle.ac_model.proofs.FirstValid.{empty_is_valid}
use Rattle.ac_model.proofs.Reasons.{none_first, none_others, not_if}
use Rattle.ac_setwork.specs.Indexed.{Indexed, Becomes, IsEmpty, MakesRoom, HasSlots, plain_rows, slots, found_in}
use Rattle.ac_setwork.specs.TableFields.{object_of, IsTable, named_like, add_call, Inserts, Places}
use Rattle.ac_setwork.proofs.Found.{among_found, marked, none_found, some_found, row_named, named_among, is_same, or_true, Stands, stands}

pub all_from : (P : Name → Type 0) (rest : List Name) → ((a : Name) → is_among rest a ≡ true → P a) → All P rest
all_from P [] h i d lt = absurd (omega arith)
all_from P (a ∷ rest) h zero d lt = h a (ap (λ b. b || is_among rest a) (is_same a a refl))
all_from P (a ∷ rest) h (suc i) d lt = all_from P rest (λ b t. h b (ap (λ c. is_same_name b a || c) t ∙ or_true (is_same_name b a))) i d (omega arith)

pub none_some : {X : Type 0} (x : Option X) → is_some x ≡ false → x ≡ None
none_some None h = refl
none_some (Some y) h = absurd (true≢false h)

module _ {V : Type 0} (order : Order V) (o : Object Name V) (v : V) where
  pub like_none : named_like order o v ≡ None → row_like order (plain o) v ≡ None
  like_none h = none_found (λ w. order.alike w v) o.rows h

  -- where no row is like it, an insertion is refused for want of room alone
  pub insertion_allowed : named_like order o v ≡ None → first_reason (tampers_cursors (plain o) ∷ room_for_one (plain o)) ≡ None → (keyed.insert_call order (plain o) v).reason ≡ None
  insertion_allowed absent allowed =
      let t = none_first (tampers_cursors (plain o)) (room_for_one (plain o)) allowed in
      let r = none_others (tampers_cursors (plain o)) (room_for_one (plain o)) allowed in
      ap (λ p. first_reason (tampers_cursors (plain o) ∷ reason_if (is_some p) KeyPresent ∷ room_for_one (plain o))) (like_none absent)
      ∙ ap (λ m. first_reason (m ∷ None ∷ room_for_one (plain o))) t ∙ r

  -- what an insertion that isn't refused knows
  pub insertion_absent : (keyed.insert_call order (plain o) v).reason ≡ None → named_like order o v ≡ None
  insertion_absent none =
      let own = reason_if (is_some (row_like order (plain o) v)) KeyPresent in
      none_some (named_like order o v) (sym (some_found (λ w. order.alike w v) o.rows) ∙ not_if (is_some (row_like order (plain o) v)) KeyPresent (none_first own (room_for_one (plain o)) (none_others (tampers_cursors (plain o)) (own ∷ room_for_one (plain o)) none)))

  pub insertion_room : (keyed.insert_call order (plain o) v).reason ≡ None → first_reason (tampers_cursors (plain o) ∷ room_for_one (plain o)) ≡ None
  insertion_room none =
      let own = reason_if (is_some (row_like order (plain o) v)) KeyPresent in
      let t = none_first (tampers_cursors (plain o)) (own ∷ room_for_one (plain o)) none in
      ap (λ m. first_reason (m ∷ room_for_one (plain o))) t ∙ none_others own (room_for_one (plain o)) (none_others (tampers_cursors (plain o)) (own ∷ room_for_one (plain o)) none)

earlier_itself : (r : Option Reason) → earlier r None ≡ r
earlier_itself None = refl
earlier_itself (Some r) = refl

module _ {V : Type 0} (order : Order V) (g : GuardCounts) (l : Limit) where
  -- the reasons of an insertion, as they are found
  pub insertion_refused : (s : Indexed V) (v : V) (len next : ℕ) (like : Option Name) (t a r result : Option Reason)
      → len ≡ length s.rows → next ≡ s.next → like ≡ found_in (λ w. order.alike w v) s.rows → t ≡ tampers_cursors (plain (object_of g l s)) → a ≡ reason_if (is_some like) KeyPresent
      → r ≡ first_reason (room_in l next (len + 1) 1) → result ≡ first_reason (t ∷ a ∷ r ∷ []) → result ≡ (keyed.insert_call order (plain (object_of g l s)) v).reason
  insertion_refused s v len next like t a r result el en ey et ea er e =
      let sum : len + 1 ≡ length (plain_rows s) + 1 = ap (λ n. n + 1) (el ∙ sym (length-map s.rows plain_row)) in
      let is : is_some like ≡ is_some (row_like order (plain (object_of g l s)) v) = ap is_some ey ∙ sym (some_found (λ w. order.alike w v) s.rows) in
      e ∙ ap (λ m. earlier t (earlier a m)) (earlier_itself r) ∙ (λ i. earlier (et i) (earlier ((ea ∙ ap (λ m. reason_if m KeyPresent) is) i) ((er ∙ (λ j. first_reason (room_in l (en j) (sum j) 1))) i)))

  -- one row more
  pub added_object : (s s1 s2 : Indexed V) (v : V) → MakesRoom l 1 s s1 → Becomes s1 s2 (added order (plain_rows s1) s1.next (v ∷ [])) (s1.next + 1) (s1.spare - 1) → plain (object_of g l s2) ≡ with_added order (plain (object_of g l s)) v
  added_object s s1 s2 v room b =
      let rows : plain_rows s1 ≡ plain_rows s = ap (map plain_row) room.rows in
      let after : plain_rows s2 ≡ added order (plain_rows s) s.next (v ∷ []) = b.plainly ∙ (λ i. added order (rows i) (room.next i) (v ∷ [])) in
      let next : s2.next ≡ s.next + 1 = b.next ∙ ap (λ n. n + 1) room.next in
      let count : length s.rows + 1 ≡ length (added order (plain_rows s) s.next (v ∷ [])) = sym (length-added order (v ∷ []) (plain_rows s) s.next ∙ ap (λ n. n + 1) (length-map s.rows plain_row)) in
      let cap : s2.capacity ≡ capacity_after l s.capacity (length (added order (plain_rows s) s.next (v ∷ []))) = b.capacity ∙ room.capacity ∙ ap (capacity_after l s.capacity) count in
      λ i. record { number = g.number; limit = l; capacity = cap i; next = next i; rows = after i; cursor_guards = g.cursor_guards; element_guards = g.element_guards }

  pub added_table : Closed order → (s s1 s2 : Indexed V) (v : V) → IsTable order g l s → (keyed.insert_call order (plain (object_of g l s)) v).reason ≡ None
      → MakesRoom l 1 s s1 → Becomes s1 s2 (added order (plain_rows s1) s1.next (v ∷ [])) (s1.next + 1) (s1.spare - 1) → IsTable order g l s2
  added_table closed s s1 s2 v t none room b =
      let enough = room.enough in let less = b.spare in
      let count : length s2.rows ≡ length s1.rows + 1 = sym (length-map s2.rows plain_row) ∙ ap length b.plainly ∙ length-added order (v ∷ []) (plain_rows s1) s1.next ∙ ap (λ n. n + 1) (length-map s1.rows plain_row) in
      let same : slots s1 ≡ slots s2 = omega arith in
      record {
        valid = subst (IsValidKeyed order) (sym (added_object s s1 s2 v room b)) (insert_keeps order closed (plain (object_of g l s)) v t.valid none);
        is_limit = t.is_limit;
        has_slots = subst (λ (p : Option ℕ × ℕ). HasSlots l p.0 p.1) (λ i. (sym b.capacity i, same i)) room.has_slots;
      }

  -- other rows, none of them new
  pub becomes_object : (s s2 : Indexed V) (rows : List (Row ℕ V)) (spare : ℕ) → Becomes s s2 rows s.next spare → plain (object_of g l s2) ≡ with_rows (plain (object_of g l s)) rows
  becomes_object s s2 rows spare b =
      λ i. record { number = g.number; limit = l; capacity = b.capacity i; next = b.next i; rows = b.plainly i; cursor_guards = g.cursor_guards; element_guards = g.element_guards }

  pub becomes_after : (s s2 : Indexed V) (rows : List (Row ℕ V)) (spare : ℕ) → Becomes s s2 rows s.next spare → IsAfter (object_of g l s) (object_of g l s2) (with_rows (plain (object_of g l s)) rows)
  becomes_after s s2 rows spare b = record { plainly = becomes_object s s2 rows spare b; slots = b.same_slots }

  pub becomes_table : (s s2 : Indexed V) (rows : List (Row ℕ V)) (spare : ℕ) → IsTable order g l s → Becomes s s2 rows s.next spare → IsValidKeyed order (with_rows (plain (object_of g l s)) rows) → length rows + spare ≡ slots s → IsTable order g l s2
  becomes_table s s2 rows spare t b valid sum =
      let count : length s2.rows ≡ length rows = sym (length-map s2.rows plain_row) ∙ ap length b.plainly in
      let is = b.spare in
      let same : slots s ≡ slots s2 = omega arith in
      record {
        valid = subst (IsValidKeyed order) (sym (becomes_object s s2 rows spare b)) valid;
        is_limit = t.is_limit;
        has_slots = subst (λ (p : Option ℕ × ℕ). HasSlots l p.0 p.1) (λ i. (sym b.capacity i, same i)) t.has_slots;
      }

  pub becomes_slots : (s s2 : Indexed V) (rows : List (Row ℕ V)) (spare : ℕ) → Becomes s s2 rows s.next spare → length rows + spare ≡ slots s → slots s2 ≡ slots s
  becomes_slots s s2 rows spare b sum =
      let count : length s2.rows ≡ length rows = sym (length-map s2.rows plain_row) ∙ ap length b.plainly in
      let is = b.spare in omega arith

  -- the row under the name is gone
  pub one_less : (s : Indexed V) (name : Name) → is_among (names s.rows) name ≡ true → length (cut (plain_rows s) (place_of (plain_rows s) name.serial) 1) + (s.spare + 1) ≡ slots s
  one_less s name there =
      let r = found name.serial (plain_rows s) (named_among name s.rows there) in
      let one : length (one_row (named (plain_rows s) name.serial)) ≡ 1 = ap (λ (o : Option (Row ℕ V)). length (one_row o)) r.1 in
      let sum = length-cut_one name.serial (plain_rows s) in let count = length-map s.rows plain_row in omega arith

  abbrev pub IsTaken : Indexed V → Indexed V → Name → Type 0
  IsTaken s s2 name = Becomes s s2 (cut (plain_rows s) (place_of (plain_rows s) name.serial) 1) s.next (s.spare + 1)

  pub taken_table : Closed order → (s s2 : Indexed V) (name : Name) → IsTable order g l s → is_among (names s.rows) name ≡ true → IsTaken s s2 name → IsTable order g l s2
  taken_table closed s s2 name t there b =
      becomes_table s s2 (cut (plain_rows s) (place_of (plain_rows s) name.serial) 1) (s.spare + 1) t b
      (cut_valid order closed (plain (object_of g l s)) (place_of (plain_rows s) name.serial) 1 t.valid) (one_less s name there)

  pub taken_slots : (s s2 : Indexed V) (name : Name) → is_among (names s.rows) name ≡ true → IsTaken s s2 name → slots s2 ≡ slots s
  taken_slots s s2 name there b = becomes_slots s s2 (cut (plain_rows s) (place_of (plain_rows s) name.serial) 1) (s.spare + 1) b (one_less s name there)

  pub taken_after : (s s2 : Indexed V) (name : Name) → IsTaken s s2 name → IsAfter (object_of g l s) (object_of g l s2) (with_rows (plain (object_of g l s)) (cut (plain_rows s) (place_of (plain_rows s) name.serial) 1))
  taken_after s s2 name b = becomes_after s s2 (cut (plain_rows s) (place_of (plain_rows s) name.serial) 1) (s.spare + 1) b

  abbrev pub allowed_now : Indexed V → Type 0
  allowed_now s = tampers_cursors (plain (object_of g l s)) ≡ None

  without_found : (matches : V → Bool) (s s2 : Indexed V) (name : Name) → found_in matches s.rows ≡ Some name → IsTaken s s2 name
      → IsAfter (object_of g l s) (object_of g l s2) (with_rows (plain (object_of g l s)) (without (plain_rows s) (row_by matches (plain_rows s))))
  without_found matches s s2 name f b =
      let one = row_named matches s.rows name f in
      subst (λ (p : Option (Row ℕ V)). IsAfter (object_of g l s) (object_of g l s2) (with_rows (plain (object_of g l s)) (without (plain_rows s) p))) (sym one.1) (taken_after s s2 name b)

  pub delete_found : (matches : V → Bool) (s s2 : Indexed V) (name : Name) → found_in matches s.rows ≡ Some name → allowed_now s → IsTaken s s2 name
      → Changing Same (keyed.delete_match_call matches (plain (object_of g l s))) (object_of g l s) (object_of g l s2) (Ok tt)
  delete_found matches s s2 name f none b =
      let o = plain (object_of g l s) in let one = row_named matches s.rows name f in (
        ap (λ (p : Option (Row ℕ V)). first_reason (tampers_cursors o ∷ reason_if (not (is_some p)) KeyAbsent ∷ [])) one.1 ∙ ap (λ t. first_reason (t ∷ None ∷ [])) none,
        without_found matches s s2 name f b,
        refl,
      )

  pub delete_absent : (matches : V → Bool) (s : Indexed V) → found_in matches s.rows ≡ None → allowed_now s → (keyed.delete_match_call matches (plain (object_of g l s))).reason ≡ Some KeyAbsent
  delete_absent matches s f none =
      let o = plain (object_of g l s) in
      ap (λ (p : Option (Row ℕ V)). first_reason (tampers_cursors o ∷ reason_if (not (is_some p)) KeyAbsent ∷ [])) (none_found matches s.rows f) ∙ ap (λ t. first_reason (t ∷ Some KeyAbsent ∷ [])) none

  pub exclude_found : (matches : V → Bool) (s s2 : Indexed V) (name : Name) → found_in matches s.rows ≡ Some name → allowed_now s → IsTaken s s2 name
      → Changing Same (keyed.exclude_call matches (plain (object_of g l s))) (object_of g l s) (object_of g l s2) (Ok tt)
  exclude_found matches s s2 name f none b = (ap (λ t. first_reason (t ∷ [])) none, without_found matches s s2 name f b, refl)

  pub exclude_absent : (matches : V → Bool) (s : Indexed V) → found_in matches s.rows ≡ None → allowed_now s
      → Changing Same (keyed.exclude_call matches (plain (object_of g l s))) (object_of g l s) (object_of g l s) (Ok tt)
  exclude_absent matches s f none =
      let o = object_of g l s in (
        ap (λ t. first_reason (t ∷ [])) none,
        subst (λ (p : Option (Row ℕ V)). IsAfter o o (with_rows (plain o) (without (plain_rows s) p))) (sym (none_found matches s.rows f)) (record { plainly = refl; slots = all_from (λ a. a.serial < s.next → IsTrue (is_among (names s.rows) a)) (names s.rows) (λ a t _. t) }),
        refl,
      )

  -- at a cursor that isn't refused
  pub delete_stands : (s : Indexed V) (c : Cursor) → (keyed.delete_call (plain (object_of g l s)) (mark (object_of g l s) c)).reason ≡ None → Stands (object_of g l s) c
  delete_stands s c none =
      let o = object_of g l s in stands o c (none_first (needs_cursor o c) [] (none_others (tampers_cursors (plain o)) (needs_cursor o c ∷ []) none))

  pub delete_changed : (s s2 : Indexed V) (c : Cursor) → (keyed.delete_call (plain (object_of g l s)) (mark (object_of g l s) c)).reason ≡ None → IsTaken s s2 (name_in c)
      → Changing (λ (_ : Unit {0}) m. Marks (object_of g l s2) NoElement m) (keyed.delete_call (plain (object_of g l s)) (mark (object_of g l s) c)) (object_of g l s) (object_of g l s2) (Ok tt)
  delete_changed s s2 c none b =
      let o = object_of g l s in let st = delete_stands s c none in
      (none, subst (λ n. IsAfter o (object_of g l s2) (with_rows (plain o) (cut (plain_rows s) (place_of (plain_rows s) n) 1))) (sym (ap name_of st.is_mark)) (taken_after s s2 (name_in c) b), refl)

  -- an equivalent row in a row's place
  abbrev pub IsReplaced : Indexed V → Indexed V → Name → V → Type 0
  IsReplaced s s2 name v = Becomes s s2 (with_value (plain_rows s) name.serial v) s.next s.spare

  same_many : (s : Indexed V) (name : Name) (v : V) → length (with_value (plain_rows s) name.serial v) + s.spare ≡ slots s
  same_many s name v = ap (λ n. n + s.spare) (length-map (plain_rows s) (λ r. if r.name == name.serial then row name.serial v else r) ∙ length-map s.rows plain_row)

  replaced_at : (s : Indexed V) (v : V) (name : Name) → found_in (λ w. order.alike w v) s.rows ≡ Some name → replaced_rows (plain_rows s) (row_like order (plain (object_of g l s)) v) v ≡ with_value (plain_rows s) name.serial v
  replaced_at s v name f = ap (λ p. replaced_rows (plain_rows s) p v) (row_named (λ w. order.alike w v) s.rows name f).1

  there_like : (tampering : Option Reason) (s : Indexed V) (v : V) (name : Name) → found_in (λ w. order.alike w v) s.rows ≡ Some name → tampering ≡ None → (keyed.replace_call tampering order (plain (object_of g l s)) v).reason ≡ None
  there_like tampering s v name f none =
      ap (λ p. first_reason (tampering ∷ reason_if (not (is_some p)) KeyAbsent ∷ [])) (row_named (λ w. order.alike w v) s.rows name f).1 ∙ ap (λ t. first_reason (t ∷ None ∷ [])) none

  pub replaced_table : Closed order → (s s2 : Indexed V) (v : V) (name : Name) → IsTable order g l s → found_in (λ w. order.alike w v) s.rows ≡ Some name → IsReplaced s s2 name v → IsTable order g l s2
  replaced_table closed s s2 v name t f b =
      let o = plain (object_of g l s) in
      becomes_table s s2 (with_value (plain_rows s) name.serial v) s.spare t b
      (subst (λ rows. IsValidKeyed order (with_rows o rows)) (replaced_at s v name f) (replace_keeps order closed None o v t.valid (there_like None s v name f refl))) (same_many s name v)

  pub replaced_slots : (s s2 : Indexed V) (v : V) (name : Name) → IsReplaced s s2 name v → slots s2 ≡ slots s
  replaced_slots s s2 v name b = becomes_slots s s2 (with_value (plain_rows s) name.serial v) s.spare b (same_many s name v)

  replaced_after : (s s2 : Indexed V) (v : V) (name : Name) → found_in (λ w. order.alike w v) s.rows ≡ Some name → IsReplaced s s2 name v
      → IsAfter (object_of g l s) (object_of g l s2) (with_rows (plain (object_of g l s)) (replaced_rows (plain_rows s) (row_like order (plain (object_of g l s)) v) v))
  replaced_after s s2 v name f b =
      subst (λ rows. IsAfter (object_of g l s) (object_of g l s2) (with_rows (plain (object_of g l s)) rows)) (sym (replaced_at s v name f)) (becomes_after s s2 (with_value (plain_rows s) name.serial v) s.spare b)

  pub replace_changed : (tampering : Option Reason) (s s2 : Indexed V) (v : V) (name : Name) → found_in (λ w. order.alike w v) s.rows ≡ Some name → tampering ≡ None → IsReplaced s s2 name v
      → Changing Same (keyed.replace_call tampering order (plain (object_of g l s)) v) (object_of g l s) (object_of g l s2) (Ok tt)
  replace_changed tampering s s2 v name f none b = (there_like tampering s v name f none, replaced_after s s2 v name f b, refl)

  pub replace_absent : (tampering : Option Reason) (s : Indexed V) (v : V) → found_in (λ w. order.alike w v) s.rows ≡ None → tampering ≡ None → (keyed.replace_call tampering order (plain (object_of g l s)) v).reason ≡ Some KeyAbsent
  replace_absent tampering s v f none =
      ap (λ p. first_reason (tampering ∷ reason_if (not (is_some p)) KeyAbsent ∷ [])) (none_found (λ w. order.alike w v) s.rows f) ∙ ap (λ t. first_reason (t ∷ Some KeyAbsent ∷ [])) none

  pub include_found : (s s2 : Indexed V) (v : V) (name : Name) → found_in (λ w. order.alike w v) s.rows ≡ Some name → allowed_now s → IsReplaced s s2 name v
      → Changing Same (keyed.include_call order (plain (object_of g l s)) v) (object_of g l s) (object_of g l s2) (Ok tt)
  include_found s s2 v name f none b =
      let o = plain (object_of g l s) in let one = row_named (λ w. order.alike w v) s.rows name f in (
        ap (λ p. first_reason (tampers_cursors o ∷ room_where_absent o p)) one.1 ∙ ap (λ t. first_reason (t ∷ [])) none,
        subst (λ p. IsAfter (object_of g l s) (object_of g l s2) (with_added_or_replaced order o p v)) (sym one.1) (becomes_after s s2 (with_value (plain_rows s) name.serial v) s.spare b),
        refl,
      )

done_changes : {V X A : Type 0} (Answers : X → A → Type 0) (memory : Bool) (reason : Option Reason) (after : Object ℕ V) (answer : A) (old new : Object Name V) (r : Result X Fault) → reason ≡ None
    → Changing Answers (call memory None after answer) old new r → Changing Same (call memory reason after tt) old new (done r)
done_changes Answers memory reason after answer old new (Ok x) e h = (e, h.1, refl)
done_changes Answers memory reason after answer old new (Err (fault.Raised q)) e h = absurd (none-some q h.0)
done_changes Answers memory reason after answer old new (Err fault.NoMemory) e h = (h.0, e, h.2)

module _ {V : Type 0} (order : Order V) (o new : Object Name V) (v : V) where
  pub pos_found : (name : Name) (p : Cursor) → named_like order o v ≡ Some name → tampers_cursors (plain o) ≡ None → p ≡ cursor_at o.number (Some name)
      → Changing (Places o p) (keyed.insert_pos_call order (plain o) v) o o (Ok false)
  pos_found name p f none at =
      let test : V → Bool = λ w. order.alike w v in
      let one = row_named test o.rows name f in
      let same : KeepsSlots o o = all_from (λ a. a.serial < o.next → IsTrue (is_among (names o.rows) a)) (names o.rows) (λ a t lt. t) in (
        ap (λ p. first_reason (tampers_cursors (plain o) ∷ room_where_absent (plain o) p)) one.1 ∙ ap (λ t. first_reason (t ∷ [])) none,
        subst (λ p. IsAfter o o (with_added_if_absent order (plain o) p v)) (sym one.1) (record { plainly = refl; slots = same }),
        subst (λ (r : Option (Row ℕ V)). Places o p false (inserted_or_found (plain o) r)) (sym one.1) (refl, ap (mark_of o.number (names o.rows)) at ∙ marked o.number o.rows name (among_found test o.rows name f)),
      )

  -- where no row is like it
  pub pos_refused : named_like order o v ≡ None → (keyed.insert_pos_call order (plain o) v).reason ≡ first_reason (tampers_cursors (plain o) ∷ room_for_one (plain o))
  pos_refused h = ap (λ p. first_reason (tampers_cursors (plain o) ∷ room_where_absent (plain o) p)) (like_none order o v h)

  pub include_refused : named_like order o v ≡ None → (keyed.include_call order (plain o) v).reason ≡ first_reason (tampers_cursors (plain o) ∷ room_for_one (plain o))
  include_refused h = ap (λ p. first_reason (tampers_cursors (plain o) ∷ room_where_absent (plain o) p)) (like_none order o v h)

  pub include_absent : (r : Result Name Fault) → named_like order o v ≡ None → first_reason (tampers_cursors (plain o) ∷ room_for_one (plain o)) ≡ None → Changing (Inserts new) (add_call order (plain o) v) o new r
      → Changing Same (keyed.include_call order (plain o) v) o new (done r)
  include_absent r h none c =
      subst (λ p. Changing Same (call (insertion_takes_memory (plain o) p) (first_reason (tampers_cursors (plain o) ∷ room_where_absent (plain o) p)) (with_added_or_replaced order (plain o) p v) tt) o new (done r)) (sym (like_none order o v h))
      (done_changes (Inserts new) (not (has_room (plain o))) (first_reason (tampers_cursors (plain o) ∷ room_for_one (plain o))) (with_added order (plain o) v) (mark_at o.number o.next) o new r none c)

  pub pos_absent : (name : Name) (p : Cursor) → named_like order o v ≡ None → first_reason (tampers_cursors (plain o) ∷ room_for_one (plain o)) ≡ None → p ≡ cursor_at new.number (Some name) → Changing (Inserts new) (add_call order (plain o) v) o new (Ok name)
      → Changing (Places new p) (keyed.insert_pos_call order (plain o) v) o new (Ok true)
  pos_absent name p h none at c =
      subst (λ q. Changing (Places new p) (call (insertion_takes_memory (plain o) q) (first_reason (tampers_cursors (plain o) ∷ room_where_absent (plain o) q)) (with_added_if_absent order (plain o) q v) (inserted_or_found (plain o) q)) o new (Ok true)) (sym (like_none order o v h))
      (none, c.1, (refl, ap (mark_of new.number (names new.rows)) at ∙ c.2))

  pub pos_wants : (e : Fault) → named_like order o v ≡ None → first_reason (tampers_cursors (plain o) ∷ room_for_one (plain o)) ≡ None → Changing (Inserts new) (add_call order (plain o) v) o new (Err e)
      → (p : Cursor) → Changing (Places new p) (keyed.insert_pos_call order (plain o) v) o new (Err e)
  pos_wants (fault.Raised q) h none c p = absurd (none-some q c.0)
  pos_wants fault.NoMemory h none c p =
      subst (λ q. Changing (Places new p) (call (insertion_takes_memory (plain o) q) (first_reason (tampers_cursors (plain o) ∷ room_where_absent (plain o) q)) (with_added_if_absent order (plain o) q v) (inserted_or_found (plain o) q)) o new (Err fault.NoMemory)) (sym (like_none order o v h))
      (c.0, none, c.2)

abbrev pub first_guards : ℕ → GuardCounts
first_guards number = record { number = number; cursor_guards = 0; element_guards = 0 }

first_slots : (has_capacity : Bool) (limit : Limit) → HasSlots limit (first_capacity has_capacity limit) (0 + first_spare limit)
first_slots false Unbounded = tt
first_slots false (Bounded most) = omega arith
first_slots true Unbounded = omega arith
first_slots true (Bounded most) = omega arith

-- an index without rows
module _ {V : Type 0} (has_capacity : Bool) (number : ℕ) (limit : Limit) (s : Indexed V) where
  pub empty_is : IsEmpty has_capacity limit s → container (object_of (first_guards number) limit s) s.spare ≡ container (empty_object has_capacity number limit) (first_spare limit)
  empty_is e = λ i. container (object_with number limit (e.capacity i) (e.next i) (e.rows i) 0 0) (e.spare i)

  pub empty_table : (order : Order V) → Closed order → IsLimit limit → IsEmpty has_capacity limit s → IsTable order (first_guards number) limit s
  empty_table order closed is_limit e =
      let is : object_of (first_guards number) limit s ≡ empty_object has_capacity number limit = ap (λ (c : Container V). c.object) (empty_is e) in
      record {
        valid = subst (λ (o : Object Name V). IsValidKeyed order (plain o)) (sym is) (record {
          as_object = empty_is_valid has_capacity number limit;
          keys_differ = λ v. omega arith;
          in_order = closed.in_none;
        });
        is_limit = is_limit;
        has_slots = subst (λ (p : Option ℕ × ℕ). HasSlots limit p.0 p.1) (λ i. (sym e.capacity i, sym (λ j. length (e.rows j) + e.spare j) i)) (first_slots has_capacity limit);
      }
