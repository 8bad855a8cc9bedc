-- A set's element that is replaced: another one that is equivalent is a duplicate, and a later reason than the cursor's.
use Rattle.std.proofs.Common.{◌≡◌, ◌==◌, ◌&&◌, ◌||◌, ◌+◌, ◌≤◌, ℕ, Bool, true, false, not, true≢false, List, [], ◌∷◌, length, Option, Some, None, Ok, refl, sym, ap, ◌∙◌, subst, inl, inr, arith}
use Rattle.std.specs.Prelude.{find, option_map, if◌then◌else◌}
use Rattle.std.proofs.lemmas.Bool.{cases_Bool, cond-true, cond-false}
use Rattle.ac_base.specs.declared.cursor.Cursor.{Cursor}
use Rattle.ac_base.specs.declared.cursor.Cursor.TheVariants as cursor
use Rattle.ac_base.specs.declared.limit.Limit.{Limit}
use Rattle.ac_base.specs.declared.name.Name.{Name}
use Rattle.ac_base.specs.declared.reason.Reason.{Reason}
use Rattle.ac_base.specs.declared.reason.Reason.TheVariants.{Duplicate, NoElement, ForeignCursor, DeadCursor}
use Rattle.ac_base.specs.FirstReason.{first_reason, earlier}
use Rattle.ac_base.specs.Guards.{GuardCounts}
use Rattle.ac_base.specs.Rows.{Row, row, names, values}
use Rattle.ac_model.specs.Rows.{cut, place_of}
use Rattle.ac_model.specs.Objects.{Object, plain, plains, plain_row, with_rows}
use Rattle.ac_model.specs.Letters.{is_among, name_of, judged_in, tampers_cursors, reason_if}
use Rattle.ac_model.specs.Calls.{Changing, IsAfter, Same}
use Rattle.ac_model.specs.Cursors.{mark, needs_cursor, name_in}
use Rattle.ac_model.specs.Keyed as keyed
use Rattle.ac_model.specs.Keyed.{Order, IsValidKeyed, another_is_like, with_reordered, place_in}
use Rattle.ac_model.proofs.Counts.{count, count-cons}
use Rattle.ac_model.proofs.KeyedLaws.{Closed, replace_element_keeps}
use Rattle.ac_model.proofs.Moves.{length-put}
use Rattle.ac_model.proofs.Reasons.{none_first, none_others, not_if}
use Rattle.ac_setwork.specs.Indexed.{Indexed, Becomes, plain_rows, slots, found_in}
use Rattle.ac_setwork.specs.TableFields.{object_of, IsTable, is_another}
use Rattle.ac_setwork.proofs.Found.{Stands, stands, judged_by_name}
use Rattle.ac_setwork.proofs.Tables.{one_less, becomes_table, becomes_slots}

and_false : (b : Bool) → (b && false) ≡ false
and_false true = refl
and_false false = refl

and_true : (b : Bool) → (b && true) ≡ b
and_true true = refl
and_true false = refl

or_false : (b : Bool) → (b || false) ≡ b
or_false true = refl
or_false false = refl

-- what a cursor may be refused for
data Refusal (n : Option Reason) : Type 0 where
  no_reason : n ≡ None → Refusal n
  at_none : n ≡ Some NoElement → Refusal n
  at_foreign : n ≡ Some ForeignCursor → Refusal n
  at_dead : n ≡ Some DeadCursor → Refusal n

refusal_of : {V : Type 0} (o : Object Name V) (c : Cursor) → Refusal (needs_cursor o c)
refusal_of o cursor.NoElement = at_none refl
refusal_of o (cursor.At object a) = by_test (object == o.number) (is_among (names o.rows) a) refl (judged_by_name o object a)
  where
    by_test : (b d : Bool) → (object == o.number) ≡ b → needs_cursor o (cursor.At object a) ≡ judged_in o.number object d → Refusal (needs_cursor o (cursor.At object a))
    by_test true true e h = no_reason (h ∙ cond-true _ _ _ e)
    by_test true false e h = at_dead (h ∙ cond-true _ _ _ e)
    by_test false d e h = at_foreign (h ∙ cond-false _ _ _ e)

-- a duplicate after a cursor's reason is of no account
masked : (first : Reason) → ((b : Bool) → first_reason (Some first ∷ reason_if b Duplicate ∷ []) ≡ Some first) → (n : Option Reason) (b d : Bool) → n ≡ Some first
    → first_reason (n ∷ reason_if b Duplicate ∷ []) ≡ first_reason (n ∷ reason_if d Duplicate ∷ [])
masked first over n b d e = subst (λ m. first_reason (m ∷ reason_if b Duplicate ∷ []) ≡ first_reason (m ∷ reason_if d Duplicate ∷ [])) (sym e) (over b ∙ sym (over d))

over_none : (b : Bool) → first_reason (Some NoElement ∷ reason_if b Duplicate ∷ []) ≡ Some NoElement
over_none true = refl
over_none false = refl

over_foreign : (b : Bool) → first_reason (Some ForeignCursor ∷ reason_if b Duplicate ∷ []) ≡ Some ForeignCursor
over_foreign true = refl
over_foreign false = refl

over_dead : (b : Bool) → first_reason (Some DeadCursor ∷ reason_if b Duplicate ∷ []) ≡ Some DeadCursor
over_dead true = refl
over_dead false = refl

later_own : (n : Option Reason) (b d : Bool) → Refusal n → (n ≡ None → b ≡ d) → first_reason (n ∷ reason_if b Duplicate ∷ []) ≡ first_reason (n ∷ reason_if d Duplicate ∷ [])
later_own n b d (no_reason e) h = ap (λ m. first_reason (n ∷ reason_if m Duplicate ∷ [])) (h e)
later_own n b d (at_none e) h = masked NoElement over_none n b d e
later_own n b d (at_foreign e) h = masked ForeignCursor over_foreign n b d e
later_own n b d (at_dead e) h = masked DeadCursor over_dead n b d e

one_more : (b : Bool) (n m : ℕ) → n ≡ (if b then 1 else 0) + m → b ≡ true → n ≡ 1 + m
one_more true n m e h = e
one_more false n m e h = absurd (true≢false (sym h))

none_more : (b : Bool) (n m : ℕ) → n ≡ (if b then 1 else 0) + m → b ≡ false → n ≡ m
none_more true n m e h = absurd (true≢false h)
none_more false n m e h = omega (arith, e)

module _ {V : Type 0} (order : Order V) where
  none_like : (rows : List (Row Name V)) (s : ℕ) (v : V) → count (λ w. order.alike w v) (plains rows) ≡ 0 → another_is_like order (plains rows) s v ≡ false
  none_like [] s v h = refl
  none_like (r ∷ rows) s v h = let k = count-cons (λ w. order.alike w v) (plain_row r) (plains rows) in elim (cases_Bool (order.alike r.value v)) [
    | inl t ↦ absurd (let q = one_more (order.alike r.value v) _ _ k t in omega (arith, h, q))
    | inr f ↦ let q = none_more (order.alike r.value v) _ _ k f in ap (λ b. (not (r.name.serial == s) && b) || another_is_like order (plains rows) s v) f
        ∙ ap (λ b. b || another_is_like order (plains rows) s v) (and_false (not (r.name.serial == s))) ∙ none_like rows s v (sym q ∙ h)
  ]

  -- where at most one is like it, there is another exactly where the one that is found has another serial
  another_is : (rows : List (Row Name V)) (s : ℕ) (v : V) → count (λ w. order.alike w v) (plains rows) ≤ 1 → another_is_like order (plains rows) s v ≡ is_another (found_in (λ w. order.alike w v) rows) s
  another_is [] s v h = refl
  another_is (r ∷ rows) s v h =
      let k = count-cons (λ w. order.alike w v) (plain_row r) (plains rows) in
      let choice : (b : Bool) → order.alike r.value v ≡ b → is_another (option_map (λ (x : Row Name V). x.name) (if b then Some r else find (λ (x : Row Name V). order.alike x.value v) rows)) s ≡ is_another (found_in (λ w. order.alike w v) (r ∷ rows)) s =
      λ b e. sym (ap (λ t. is_another (option_map (λ (x : Row Name V). x.name) (if t then Some r else find (λ (x : Row Name V). order.alike x.value v) rows)) s) e) in
      elim (cases_Bool (order.alike r.value v)) [
        | inl t ↦ let q = one_more (order.alike r.value v) _ _ k t in
            ap (λ b. (not (r.name.serial == s) && order.alike r.value v) || b) (none_like rows s v (omega (arith, h, q))) ∙ or_false (not (r.name.serial == s) && order.alike r.value v)
            ∙ ap (λ b. not (r.name.serial == s) && b) t ∙ and_true (not (r.name.serial == s)) ∙ choice true t
        | inr f ↦ let q = none_more (order.alike r.value v) _ _ k f in
            ap (λ b. (not (r.name.serial == s) && b) || another_is_like order (plains rows) s v) f ∙ ap (λ b. b || another_is_like order (plains rows) s v) (and_false (not (r.name.serial == s)))
            ∙ another_is rows s v (subst (λ n. n ≤ 1) q h) ∙ choice false f
      ]

module _ {V : Type 0} (order : Order V) (o : Object Name V) (c : Cursor) (v : V) where
  abbrev own : Option Reason
  own = reason_if (another_is_like order (plain o).rows (name_of (mark o c)) v) Duplicate

  pub replaced_stands : (keyed.replace_element_call order (plain o) (mark o c) v).reason ≡ None → Stands o c
  replaced_stands none = stands o c (none_first (needs_cursor o c) (own ∷ []) (none_others (tampers_cursors (plain o)) (needs_cursor o c ∷ own ∷ []) none))

  pub replaced_only : (keyed.replace_element_call order (plain o) (mark o c) v).reason ≡ None → another_is_like order (plain o).rows (name_in c).serial v ≡ false
  replaced_only none =
      subst (λ m. another_is_like order (plain o).rows m v ≡ false) (ap name_of (replaced_stands none).is_mark)
      (not_if (another_is_like order (plain o).rows (name_of (mark o c)) v) Duplicate (none_first own [] (none_others (needs_cursor o c) (own ∷ []) (none_others (tampers_cursors (plain o)) (needs_cursor o c ∷ own ∷ []) none))))

  pub replaced_changed : (new : Object Name V) → (keyed.replace_element_call order (plain o) (mark o c) v).reason ≡ None → IsAfter o new (with_rows (plain o) (with_reordered order (plain o).rows (name_in c).serial v))
      → Changing Same (keyed.replace_element_call order (plain o) (mark o c) v) o new (Ok tt)
  replaced_changed new none after = (none, subst (λ m. IsAfter o new (with_rows (plain o) (with_reordered order (plain o).rows m v))) (sym (ap name_of (replaced_stands none).is_mark)) after, refl)

  pub replacement_refused : (like : Option Name) (t n d result : Option Reason) → IsValidKeyed order (plain o) → like ≡ found_in (λ w. order.alike w v) o.rows → t ≡ tampers_cursors (plain o) → n ≡ needs_cursor o c
      → d ≡ reason_if (is_another like (name_in c).serial) Duplicate → result ≡ first_reason (t ∷ n ∷ d ∷ []) → result ≡ (keyed.replace_element_call order (plain o) (mark o c) v).reason
  replacement_refused like t n d result valid el et en ed er =
      er ∙ (λ i. earlier (et i) (first_reason (en i ∷ ed i ∷ []))) ∙ ap (earlier (tampers_cursors (plain o)))
      (later_own (needs_cursor o c) (is_another like (name_in c).serial) (another_is_like order (plain o).rows (name_of (mark o c)) v) (refusal_of o c)
      (λ none. ap (λ (m : Option Name). is_another m (name_in c).serial) el ∙ sym (ap (λ m. another_is_like order (plain o).rows m v) (ap name_of (stands o c none).is_mark) ∙ another_is order o.rows (name_in c).serial v (valid.keys_differ v))))

module _ {V : Type 0} (order : Order V) (g : GuardCounts) (l : Limit) where
  -- a row under its name, at its place
  abbrev pub IsReordered : Indexed V → Indexed V → Name → V → Type 0
  IsReordered s s2 name v = Becomes s s2 (with_reordered order (plain_rows s) name.serial v) s.next s.spare

  same_many : (s : Indexed V) (name : Name) (v : V) → is_among (names s.rows) name ≡ true → length (with_reordered order (plain_rows s) name.serial v) + s.spare ≡ slots s
  same_many s name v there =
      let others = cut (plain_rows s) (place_of (plain_rows s) name.serial) 1 in
      let less = one_less order g l s name there in
      let more = length-put others (place_in order (place_of (plain_rows s) name.serial) (values others) v) (row name.serial v ∷ []) in
      omega arith

  pub reordered_table : Closed order → (s s2 : Indexed V) (c : Cursor) (v : V) → IsTable order g l s → (keyed.replace_element_call order (plain (object_of g l s)) (mark (object_of g l s) c) v).reason ≡ None
      → IsReordered s s2 (name_in c) v → IsTable order g l s2
  reordered_table closed s s2 c v t none b =
      let o = object_of g l s in let st = replaced_stands order o c v none in
      becomes_table order g l s s2 (with_reordered order (plain_rows s) (name_in c).serial v) s.spare t b
      (subst (λ m. IsValidKeyed order (with_rows (plain o) (with_reordered order (plain_rows s) m v))) (ap name_of st.is_mark) (replace_element_keeps order closed (plain o) (mark o c) v t.valid none)) (same_many s (name_in c) v st.there)

  pub reordered_slots : (s s2 : Indexed V) (name : Name) (v : V) → is_among (names s.rows) name ≡ true → IsReordered s s2 name v → slots s2 ≡ slots s
  reordered_slots s s2 name v there b = becomes_slots order g l s s2 (with_reordered order (plain_rows s) name.serial v) s.spare b (same_many s name v there)
