-- The calls by key and the update of a key, in the words of the definitions.
use Rattle.std.proofs.Common.{◌≡◌, ◌==◌, ◌||◌, ◌+◌, ◌<◌, ◌≤◌, ℕ, Bool, true, false, not, true≢false, List, [], ◌∷◌, Option, Some, None, Result, Ok, Err, IsTrue, refl, sym, ap, ◌∙◌, subst, inl, inr, arith, eq-eqb, if◌then◌else◌}
use Rattle.std.specs.Prelude.{IfOk, find, is_some, nat_lt, option_map}
use Rattle.std.proofs.lemmas.Bool.{cases_Bool}
use Rattle.std.proofs.lemmas.Bool.Decides.{nat_tests}
use Rattle.std.proofs.lemmas.Option.{none-some}
use Rattle.ac_base.specs.declared.cursor.Cursor.{Cursor}
use Rattle.ac_base.specs.declared.fault.Fault.{Fault}
use Rattle.ac_base.specs.declared.fault.Fault.TheVariants as fault
use Rattle.ac_base.specs.declared.fault.NoMemory.{NoMemory}
use Rattle.ac_base.specs.declared.guard.Class.TheVariants as class
use Rattle.ac_base.specs.declared.guard.GuardKind.TheVariants.{Cursors}
use Rattle.ac_base.specs.declared.limit.Limit.{Limit}
use Rattle.ac_base.specs.declared.name.Name.{Name}
use Rattle.ac_base.specs.declared.reason.Reason.TheVariants.{CursorTampering, Duplicate, KeyAbsent, KeyChanged}
use Rattle.ac_base.specs.FirstReason.{earlier, first_reason}
use Rattle.ac_base.specs.Guards.{GuardCounts, HeldGuard, one_less, one_more}
use Rattle.ac_base.specs.Rows.{Row, names}
use Rattle.ac_base.specs.Tampering.{forbids}
use Rattle.ac_model.specs.Calls.{Call, Changing, ChangingAlways, Done, IsAfter, Same, call, takes_none}
use Rattle.ac_model.specs.Containers.{Container, container, guards_of, with_guards}
use Rattle.ac_model.specs.Cursors.{cursor_at, mark, name_in, needs_cursor}
use Rattle.ac_model.specs.Keyed as keyed
use Rattle.ac_model.specs.Keyed.{Order, another_is_like, on_key, with_reordered}
use Rattle.ac_model.specs.KeyedSets as by_key
use Rattle.ac_model.specs.KeyedSets.{has_key, keeps_key, name_found, reordered_where_found}
use Rattle.ac_model.specs.Letters.{Mark, is_among, is_same_name, judged_in, mark_at, mark_of, name_of, needs, reason_if, tampers_cursors}
use Rattle.ac_model.specs.Objects.{Object, plain, plain_row, plains, times, with_rows}
use Rattle.ac_model.specs.Rows.{cut, place_of, named, value_at, with_value}
use Rattle.ac_model.proofs.Counts.{count, count-cons}
use Rattle.ac_model.proofs.Moves.{times-named}
use Rattle.ac_model.proofs.Reasons.{none_first, none_others}
use Rattle.ac_setwork.specs.Indexed.{Indexed, found_in, value_of}
use Rattle.ac_setwork.specs.KeyCalls.{Starts, cursor_guard_of, settle_call}
use Rattle.ac_setwork.specs.TableFields.{IsTable, object_of}
use Rattle.ac_setwork.proofs.Found.{among_found, marked, named_among, none_found, row_named, same_is, stands}
use Rattle.ac_setwork.proofs.Tables.{all_from}

one_counted : (b : Bool) (n m : ℕ) → n ≡ (if b then 1 else 0) + m → b ≡ true → n ≡ 1 + m
one_counted true n m e h = e
one_counted false n m e h = absurd (true≢false (sym h))

none_counted : (b : Bool) (n m : ℕ) → n ≡ (if b then 1 else 0) + m → b ≡ false → n ≡ m
none_counted true n m e h = absurd (true≢false h)
none_counted false n m e h = omega (arith, e)

unguarded : (cursor_guards element_guards : ℕ) → forbids class.Cursors cursor_guards element_guards ≡ None → cursor_guards ≡ 0
unguarded cursor_guards element_guards h = elim (cases_Bool (nat_lt 0 cursor_guards)) [
  | inl t ↦ absurd (let k = simp t at h in none-some CursorTampering (sym k))
  | inr f ↦ grind (arith, nat_tests)
]

-- a call's own reason after that no element has the key
absent_first : (b : Bool) → first_reason (Some KeyAbsent ∷ reason_if b Duplicate ∷ []) ≡ Some KeyAbsent
absent_first true = refl
absent_first false = refl

needs_none : (number : ℕ) (is_there : Bool) → is_there ≡ true → judged_in number number is_there ≡ None
needs_none number is_there t = let e = eq-eqb number number refl in simp (e, t)

module _ {V : Type 0} (test : V → Bool) where
  head_value : (r : Row ℕ V) (rows : List (Row ℕ V)) (name : ℕ) (v : V) → (r.name == name) ≡ true → value_at (r ∷ rows) name ≡ Some v → r.value ≡ v
  head_value r rows name v e is =
      let k : Some r.value ≡ Some v = sym (ap (λ b. option_map (λ (q : Row ℕ V). q.value) (if b then Some r else named rows name)) e) ∙ is in cc

  tail_value : (r : Row ℕ V) (rows : List (Row ℕ V)) (name : ℕ) (v : V) → (r.name == name) ≡ false → value_at (r ∷ rows) name ≡ Some v → value_at rows name ≡ Some v
  tail_value r rows name v e is = sym (ap (λ b. option_map (λ (q : Row ℕ V). q.value) (if b then Some r else named rows name)) e) ∙ is

  -- a value that passes is counted
  is_counted : (rows : List (Row ℕ V)) (name : ℕ) (v : V) → value_at rows name ≡ Some v → test v ≡ true → 1 ≤ count test rows
  is_counted [] name v is t = absurd (none-some v is)
  is_counted (r ∷ rows) name v is t = let k = count-cons test r rows in elim (cases_Bool (r.name == name)) [
    | inl e ↦ let q = one_counted (test r.value) _ _ k (ap test (head_value r rows name v e is) ∙ t) in omega (arith, q)
    | inr n ↦ let m = is_counted rows name v (tail_value r rows name v n is) t in omega (arith, k, m)
  ]

  -- the row under a name passes, and no other does
  pub found_alone : (rows : List (Row Name V)) (a : Name) (v : V) → count test (plains rows) ≤ 1 → times a.serial (plains rows) ≤ 1 → is_among (names rows) a ≡ true → value_at (plains rows) a.serial ≡ Some v → test v ≡ true → found_in test rows ≡ Some a
  found_alone [] a v few once there is t = absurd (true≢false (sym there))
  found_alone (r ∷ rows) a v few once there is t = elim (cases_Bool (r.name.serial == a.serial)) [
    | inl e ↦
        let passes : test r.value ≡ true = ap test (head_value (plain_row r) (plains rows) a.serial v e is) ∙ t in
        let one = one_counted (r.name.serial == a.serial) (times a.serial (plains (r ∷ rows))) (times a.serial (plains rows)) refl e in
        let same : a ≡ r.name = elim (cases_Bool (is_same_name a r.name)) [
          | inl s ↦ same_is a r.name s
          | inr o ↦ absurd (let more = times-named a.serial (plains rows) (named_among a rows (subst (λ b. (b || is_among (names rows) a) ≡ true) o there)) in omega (arith, once, one, more))
        ] in
        ap (λ b. option_map (λ (q : Row Name V). q.name) (if b then Some r else find (λ (q : Row Name V). test q.value) rows)) passes ∙ ap Some (sym same)
    | inr n ↦
        let rest : is_among (names rows) a ≡ true = elim (cases_Bool (is_same_name a r.name)) [
          | inl s ↦ absurd (true≢false (sym (eq-eqb r.name.serial a.serial (ap (λ (x : Name). x.serial) (sym (same_is a r.name s)))) ∙ n))
          | inr o ↦ subst (λ b. (b || is_among (names rows) a) ≡ true) o there
        ] in
        let once_left = none_counted (r.name.serial == a.serial) (times a.serial (plains (r ∷ rows))) (times a.serial (plains rows)) refl n in
        let left = tail_value (plain_row r) (plains rows) a.serial v n is in
        let some = is_counted (plains rows) a.serial v left t in
        let k = count-cons test (plain_row r) (plains rows) in
        elim (cases_Bool (test r.value)) [
          | inl p ↦ absurd (let q = one_counted (test r.value) _ _ k p in omega (arith, few, q, some))
          | inr f ↦
              let q = none_counted (test r.value) _ _ k f in
              ap (λ b. option_map (λ (x : Row Name V). x.name) (if b then Some r else find (λ (x : Row Name V). test x.value) rows)) f
              ∙ found_alone rows a v (omega (arith, few, q)) (omega (arith, once, once_left)) rest left t
        ]
  ]

module _ {K V : Type 0} (order : Order V) (key : V → K) (keys : Order K) (by_key_is : order ≡ on_key key keys) where
  -- the row under the name stays what is found, as long as its key stays
  pub kept_found : (g : GuardCounts) (l : Limit) (s : Indexed V) (name : Name) (v copy : V) (b : Bool) → IsTable order g l s → is_among (names s.rows) name ≡ true → value_of s name ≡ Some v → b ≡ keys.alike (key v) (key copy) → b ≡ true
      → found_in (λ w. order.alike w copy) s.rows ≡ Some name
  kept_found g l s name v copy b t there is like true_now =
      found_alone (λ w. order.alike w copy) s.rows name v (t.valid.keys_differ copy) (t.valid.as_object.names_differ name.serial) there is (ap (λ (o : Order V). o.alike v copy) by_key_is ∙ sym like ∙ true_now)

module _ {K V : Type 0} (key : V → K) (keys : Order K) where
  keeps_is : (value : Option V) (v copy : V) (b : Bool) → value ≡ Some v → b ≡ keys.alike (key v) (key copy) → keeps_key key keys value copy ≡ b
  keeps_is value v copy b is like = ap (λ p. keeps_key key keys p copy) is ∙ sym like

  settled : (old new : Object Name V) (name : ℕ) (v copy : V) (b c : Bool) → value_at (plain old).rows name ≡ Some v → b ≡ keys.alike (key v) (key copy) → b ≡ c
      → IsAfter old new (with_rows (plain old) (if c then with_value (plain old).rows name copy else cut (plain old).rows (place_of (plain old).rows name) 1))
      → ((settle_call key keys name copy (plain old)).reason ≡ first_reason (reason_if (not c) KeyChanged ∷ [])) × IsAfter old new (settle_call key keys name copy (plain old)).after
  settled old new name v copy b c is like at after =
      let keeps = keeps_is (value_at (plain old).rows name) v copy b is like ∙ at in (
        ap (λ k. first_reason (reason_if (not k) KeyChanged ∷ [])) keeps,
        subst (λ k. IsAfter old new (with_rows (plain old) (if k then with_value (plain old).rows name copy else cut (plain old).rows (place_of (plain old).rows name) 1))) (sym keeps) after,
      )

  pub settled_kept : (old new : Object Name V) (name : ℕ) (v copy : V) (b : Bool) → value_at (plain old).rows name ≡ Some v → b ≡ keys.alike (key v) (key copy) → b ≡ true
      → IsAfter old new (with_rows (plain old) (with_value (plain old).rows name copy)) → ChangingAlways Same (settle_call key keys name copy (plain old)) old new (Ok tt)
  settled_kept old new name v copy b is like true_now after = let both = settled old new name v copy b true is like true_now after in (both.0, both.1, refl)

  pub settled_gone : (old new : Object Name V) (name : ℕ) (v copy : V) (b : Bool) → value_at (plain old).rows name ≡ Some v → b ≡ keys.alike (key v) (key copy) → b ≡ false
      → IsAfter old new (with_rows (plain old) (cut (plain old).rows (place_of (plain old).rows name) 1))
      → ((settle_call key keys name copy (plain old)).reason ≡ Some KeyChanged) × IsAfter old new (settle_call key keys name copy (plain old)).after
  settled_gone old new name v copy b is like false_now after = settled old new name v copy b false is like false_now after

  -- the container once a guard is released
  abbrev pub released : Container V → Container V
  released old = with_guards old (one_less Cursors (guards_of old))

  ended_at : (old : Container V) (new : Object Name V) (m : Mark) (copy : V) (r : Result Done Fault) → ChangingAlways Same (settle_call key keys (name_of m) copy (plain (released old).object)) (released old).object new r
      → ChangingAlways Same (by_key.end_update_key_call key keys (plain old.object) m copy) old.object new r
  ended_at old new m copy (Ok x) h = (h.0, record { plainly = h.1.plainly; slots = h.1.slots }, h.2)
  ended_at old new m copy (Err (fault.Raised q)) h = (h.0, record { plainly = h.1.plainly; slots = h.1.slots })
  ended_at old new m copy (Err fault.NoMemory) h = h

  -- the end of an update, with its guard released first
  pub ended : (old mid new : Container V) (c : Cursor) (name : Name) (copy : V) (r : Result Done Fault) → mid ≡ released old → needs_cursor old.object c ≡ None → name ≡ name_in c
      → ChangingAlways Same (settle_call key keys name.serial copy (plain mid.object)) mid.object new.object r → ChangingAlways Same (by_key.end_update_key_call key keys (plain old.object) (mark old.object c) copy) old.object new.object r
  ended old mid new c name copy r is none at h =
      let same : name.serial ≡ name_of (mark old.object c) = ap (λ (n : Name). n.serial) at ∙ sym (ap name_of (stands old.object c none).is_mark) in
      ended_at old new.object (mark old.object c) copy r
      (subst (λ n. ChangingAlways Same (settle_call key keys n copy (plain (released old).object)) (released old).object new.object r) same
      (subst (λ (x : Container V). ChangingAlways Same (settle_call key keys name.serial copy (plain x.object)) x.object new.object r) is h))

module _ {V : Type 0} where
  -- the guard of an update is one that a set is left with
  pub released_is : (old mid : Container V) (held : HeldGuard) → held ≡ cursor_guard_of old.object.number → mid ≡ with_guards old (one_less held.kind (guards_of old)) → mid ≡ with_guards old (one_less Cursors (guards_of old))
  released_is old mid held own is = is ∙ ap (λ (k : HeldGuard). with_guards old (one_less k.kind (guards_of old))) own

  pub none_held : (o : Object ℕ V) (m : Mark) → by_key.update_key_reason o m ≡ None → o.cursor_guards ≡ 0
  none_held o m h = unguarded o.cursor_guards o.element_guards (none_first (tampers_cursors o) (needs o m ∷ []) h)

  pub update_stands : (o : Object Name V) (c : Cursor) → by_key.update_key_reason (plain o) (mark o c) ≡ None → needs_cursor o c ≡ None
  update_stands o c h = none_first (needs_cursor o c) [] (none_others (tampers_cursors (plain o)) (needs_cursor o c ∷ []) h)

  -- a copy of the row at a cursor that isn't refused
  pub copied_at : (now : Container V) (g : GuardCounts) (l : Limit) (s : Indexed V) (c : Cursor) (name : Name) (v : V) (made : Result V NoMemory) → container (object_of g l s) s.spare ≡ now → needs_cursor now.object c ≡ None → name ≡ name_in c
      → value_of s name ≡ Some v → IfOk made (λ copy. copy ≡ v) → IfOk made (λ copy. value_at (plain now.object).rows (name_of (mark now.object c)) ≡ Some copy)
  copied_at now g l s c name v (Ok copy) is none at under same =
      let serial : name_of (mark now.object c) ≡ name.serial = ap name_of (stands now.object c none).is_mark ∙ ap (λ (n : Name). n.serial) (sym at) in
      ap (value_at (plain now.object).rows) serial ∙ ap (λ (x : Container V). value_at (plain x.object).rows name.serial) (sym is) ∙ under ∙ ap Some (sym same)
  copied_at now g l s c name v (Err e) is none at under same = same

  started_after : (old : Container V) → IsAfter old.object (with_guards old (one_more Cursors (guards_of old))).object (record (plain old.object) { cursor_guards = old.object.cursor_guards + 1 })
  started_after old = record {
    plainly = refl;
    slots = all_from (λ a. a.serial < old.object.next → IsTrue (is_among (names old.object.rows) a)) (names old.object.rows) (λ a t lt. t);
  }

  -- the start of an update
  pub started : (old new : Container V) (m : Mark) (copy : V) (held : HeldGuard) → by_key.update_key_reason (plain old.object) m ≡ None → value_at (plain old.object).rows (name_of m) ≡ Some copy
      → held.object ≡ old.object.number → held.kind ≡ Cursors → new ≡ with_guards old (one_more held.kind (guards_of old)) → Changing Starts (by_key.start_update_key_call (plain old.object) m) old.object new.object (Ok (held, copy))
  started old new m copy held none at object kind is = (
    none,
    subst (λ (x : Container V). IsAfter old.object x.object (record (plain old.object) { cursor_guards = old.object.cursor_guards + 1 })) (sym (is ∙ ap (λ k. with_guards old (one_more k (guards_of old))) kind)) (started_after old),
    ((λ i. record { object = object i; kind = kind i }), at),
  )

  -- the cursor still designates its element, and the guard is held
  pub record Underway (now : Container V) (c : Cursor) (key : HeldGuard) : Type 0 where
    pub there : needs_cursor now.object c ≡ None
    pub own : key ≡ cursor_guard_of now.object.number
    pub held : 0 < now.object.cursor_guards

  pub underway : (old new : Container V) (c : Cursor) (held : HeldGuard) → by_key.update_key_reason (plain old.object) (mark old.object c) ≡ None → held ≡ cursor_guard_of old.object.number
      → new ≡ with_guards old (one_more Cursors (guards_of old)) → Underway new c held
  underway old new c held none own is = subst (λ (x : Container V). Underway x c held) (sym is) (record { there = update_stands old.object c none; own = own; held = omega arith })

module _ {K V : Type 0} (order : Order V) (key : V → K) (keys : Order K) (by_key_is : order ≡ on_key key keys) (matches : V → Bool) (k : K) (matches_is : matches ≡ has_key key keys k) (o : Object Name V) (v : V) where
  abbrev replaced_at : Option (Row ℕ V) → Call (Object ℕ V) Done
  replaced_at present = call takes_none
      (first_reason (tampers_cursors (plain o) ∷ reason_if (not (is_some present)) KeyAbsent ∷ reason_if (another_is_like (on_key key keys) (plain o).rows (name_found present) v) Duplicate ∷ []))
      (reordered_where_found (on_key key keys) (plain o) present v) tt

  -- no element has the key
  pub replace_absent : found_in matches o.rows ≡ None → tampers_cursors (plain o) ≡ None → (by_key.key_replace_call key keys (plain o) k v).reason ≡ Some KeyAbsent
  replace_absent f none =
      let present = none_found (has_key key keys k) o.rows (sym (ap (λ m. found_in m o.rows) matches_is) ∙ f) in
      ap (λ p. (replaced_at p).reason) present ∙ ap (earlier (tampers_cursors (plain o))) (absent_first (another_is_like (on_key key keys) (plain o).rows 0 v)) ∙ ap (λ t. earlier t (Some KeyAbsent)) none

  -- the element that has it is replaced as by a cursor
  pub replace_found : (name : Name) (c : Cursor) (new : Object Name V) (r : Result Done Fault) → found_in matches o.rows ≡ Some name → c ≡ cursor_at o.number (Some name)
      → Changing Same (keyed.replace_element_call order (plain o) (mark o c) v) o new r → Changing Same (by_key.key_replace_call key keys (plain o) k v) o new r
  replace_found name c new r f at h =
      let found = sym (ap (λ m. found_in m o.rows) matches_is) ∙ f in
      let one = row_named (has_key key keys k) o.rows name found in
      let there = among_found (has_key key keys k) o.rows name found in
      let is_mark : mark o c ≡ mark_at o.number name.serial = ap (mark_of o.number (names o.rows)) at ∙ marked o.number o.rows name there in
      let none = needs_none o.number _ (named_among name o.rows there) in
      let d = reason_if (another_is_like (on_key key keys) (plain o).rows name.serial v) Duplicate in
      let same : keyed.replace_element_call order (plain o) (mark o c) v ≡ by_key.key_replace_call key keys (plain o) k v =
      (λ i. keyed.replace_element_call (by_key_is i) (plain o) (is_mark i) v)
      ∙ ap (λ n. call takes_none (first_reason (tampers_cursors (plain o) ∷ n ∷ d ∷ [])) (with_rows (plain o) (with_reordered (on_key key keys) (plain o).rows name.serial v)) tt) none
      ∙ sym (ap replaced_at one.1) in
      subst (λ (it : Call (Object ℕ V) Done). Changing Same it o new r) same h

-- tests by keys as tests of rows
pub as_test : {K V : Type 0} (same : K → K → Bool) (key : V → K) (like : V → V → Bool) → ((v w : V) → like v w ≡ same (key v) (key w)) → (e : V) (k : K) → k ≡ key e → ◌≡◌ {A = V → Bool} (λ v. same (key v) k) (λ v. like v e)
as_test same key like law e k is = λ i v. (ap (same (key v)) is ∙ sym (law v e)) i
