-- Rows that come one after another to the end of an index, and a source that loses them.
use Rattle.std.proofs.Common.{◌≡◌, ◌&&◌, ◌+◌, ◌-◌, ◌^◌, ◌<◌, ◌≤◌, ℕ, suc, Bool, true, false, true≢false, List, [], ◌∷◌, ◌++◌, length, Option, Some, None, refl, sym, ap, ◌∙◌, subst, inl, inr, arith, eq-eqb}
use Rattle.std.specs.Prelude.{All, IsTrue, filter, max, option_map, slice_get}
use Rattle.std.specs.List.{list_any, prefix_len}
use Rattle.std.proofs.Math.Seq.{drop-length, take-append_seam, take-length}
use Rattle.std.proofs.lemmas.Bool.{cases_Bool, cond-true, cond-false}
use Rattle.std.proofs.lemmas.List.{append_assoc, append-nil, drop_all, drop_at, length-append, length-map, length_push, map-append, nil_from_length}
use Rattle.std.proofs.lemmas.Option.{none-some}
use Rattle.ac_base.specs.Growth.{pow8}
use Rattle.ac_base.specs.declared.limit.Limit.{Limit}
use Rattle.ac_base.specs.declared.name.Name.{Name}
use Rattle.ac_base.specs.Rows.{Row, names, row, values}
use Rattle.ac_model.specs.Keyed.{Order, added, is_in_order, place_in}
use Rattle.ac_model.specs.Objects.{capacity_after, plain_row, plains}
use Rattle.ac_model.specs.Rows.{cut, fresh, place_of, put, value_at}
use Rattle.ac_model.proofs.KeyedLaws.{Closed}
use Rattle.ac_model.proofs.Lengths.{length-fresh}
use Rattle.ac_model.proofs.Plains.{fresh-append, values-plains}
use Rattle.ac_model.proofs.RowLaws.{fresh_values}
use Rattle.ac_setwork.specs.Filling.{Widens}
use Rattle.ac_setwork.specs.Indexed.{Indexed, Becomes, HasSlots, found, is_there, name_at, plain_rows, slots, value_of}
use Rattle.ac_setwork.specs.Refilling.{AreKeyed, IsFilled, IsRefilled}
use Rattle.ac_setwork.proofs.Found.{any_found, at_place}
use Rattle.ac_setwork.proofs.Tables.{none_some}

-- a value that passes a test is among those that do
pub passes : {X : Type 0} (test : X → Bool) (xs : List X) (x : X) (ys : List X) → test x ≡ true → 1 ≤ length (filter test (xs ++ x ∷ ys))
passes test [] x ys h = rw h (omega arith)
passes test (w ∷ xs) x ys h = let later = passes test xs x ys h in elim (cases_Bool (test w)) [
  | inl t ↦ rw t (omega arith)
  | inr f ↦ rw f later
]

-- and where it is the only one, none before it does
only_one : {X : Type 0} (test : X → Bool) (xs : List X) (x : X) (ys : List X) → test x ≡ true → length (filter test (xs ++ x ∷ ys)) ≤ 1 → list_any test xs ≡ false
only_one test [] x ys h few = refl
only_one test (w ∷ xs) x ys h few = let later = passes test xs x ys h in elim (cases_Bool (test w)) [
  | inl t ↦ absurd (let many : suc (length (filter test (xs ++ x ∷ ys))) ≤ 1 = simp t at few in omega arith)
  | inr f ↦ rw f (only_one test xs x ys h (let one : length (filter test (xs ++ x ∷ ys)) ≤ 1 = simp f at few in one))
]

-- a row that follows all others in the order goes to the end
module _ {V : Type 0} (order : Order V) (closed : Closed order) where
  beside : (x : Row ℕ V) (rest : List (Row ℕ V)) (r : Row ℕ V) → cut ((x ∷ rest) ++ r ∷ []) 1 (length rest) ≡ x ∷ r ∷ []
  beside x rest r = ap (λ rows. x ∷ rows) (drop_at (x ∷ rest) (r ∷ []) (1 + length rest) (omega arith))

  both_less : (v w : V) → order.ascends ≡ true → is_in_order order (v ∷ w ∷ []) ≡ true → order.less v w ≡ true
  both_less v w up h = elim (cases_Bool (order.less v w)) [
    | inl t ↦ t
    | inr f ↦ absurd (true≢false (sym h ∙ cond-true _ _ _ up ∙ ap (λ b. b && true) f))
  ]

  all_less : (rows : List (Row ℕ V)) (r : Row ℕ V) → order.ascends ≡ true → is_in_order order (values (rows ++ r ∷ [])) ≡ true → prefix_len (λ w. order.less w r.value) (values rows) ≡ length rows
  all_less [] r up h = refl
  all_less (x ∷ rest) r up h =
      let two = subst (λ rows. is_in_order order (values rows) ≡ true) (beside x rest r) (closed.in_cut ((x ∷ rest) ++ r ∷ []) 1 (length rest) h) in
      let less = both_less x.value r.value up two in
      let later = all_less rest r up (closed.in_cut ((x ∷ rest) ++ r ∷ []) 0 1 h) in
      rw less (omega (arith, later))

  goes_last : (rows : List (Row ℕ V)) (r : Row ℕ V) → is_in_order order (values (rows ++ r ∷ [])) ≡ true → place_in order (length rows) (values rows) r.value ≡ length rows
  goes_last rows r h = elim (cases_Bool order.ascends) [
    | inl up ↦ cond-true _ _ _ up ∙ all_less rows r up h
    | inr level ↦ cond-false _ _ _ level
  ]

  put_last : (rows more : List (Row ℕ V)) → put rows (length rows) more ≡ rows ++ more
  put_last rows more = (λ i. (take-length rows i ++ more) ++ drop-length rows i) ∙ append-nil (rows ++ more)

  added_last : (rows : List (Row ℕ V)) (next : ℕ) (v : V) → is_in_order order (values (rows ++ row next v ∷ [])) ≡ true → added order rows next (v ∷ []) ≡ rows ++ row next v ∷ []
  added_last rows next v h = ap (λ place. put rows place (row next v ∷ [])) (goes_last rows (row next v) h) ∙ put_last rows (row next v ∷ [])

  -- the values up to one of them stand in the order
  in_order_up_to : (done : List V) (v : V) (left : List V) (next : ℕ) → is_in_order order (done ++ v ∷ left) ≡ true → is_in_order order (values (fresh next (done ++ v ∷ []))) ≡ true
  in_order_up_to done v left next h =
      let xs = fresh next (done ++ v ∷ []) in let ys = fresh next left in
      let are : values (xs ++ ys) ≡ done ++ v ∷ left = map-append (λ (r : Row ℕ V). r.value) xs ys ∙ (λ i. fresh_values next (done ++ v ∷ []) i ++ fresh_values next left i) ∙ append_assoc done (v ∷ []) left in
      let first : cut (xs ++ ys) (length xs) (length ys) ≡ xs = (λ i. take-append_seam xs ys i ++ drop_all (length xs + length ys) (xs ++ ys) (let sum = length-append xs ys in omega arith) i) ∙ append-nil xs in
      subst (λ rows. is_in_order order (values rows) ≡ true) first (closed.in_cut (xs ++ ys) (length xs) (length ys) (subst (λ ws. is_in_order order ws ≡ true) (sym are) h))

-- these values came, and those are left
pub record Filling {V : Type 0} (vs : List V) (start now : Indexed V) (left : List V) : Type 0 where
  pub done : List V
  pub all : done ++ left ≡ vs
  pub filled : IsFilled done start now

module _ {V : Type 0} (vs : List V) (start : Indexed V) where
  pub filling_starts : start.rows ≡ [] → Filling vs start start vs
  filling_starts none = record {
    done = [];
    all = refl;
    filled = record { rows = ap plains none; next = omega arith; spare = omega arith; capacity = refl };
  }

  pub filling_ends : (now : Indexed V) → Filling vs start now [] → IsFilled vs start now
  filling_ends now f = subst (λ ws. IsFilled ws start now) (sym (append-nil f.done) ∙ f.all) f.filled

  counted : (now : Indexed V) (v : V) (left : List V) → (f : Filling vs start now (v ∷ left)) → length f.done + 1 ≤ length vs
  counted now v left f = let sum = length-append f.done (v ∷ left) in let all = ap length f.all in omega arith

  pub filling_spare : (now : Indexed V) (v : V) (left : List V) → Filling vs start now (v ∷ left) → length vs ≤ start.spare → 0 < now.spare
  filling_spare now v left f enough = let few = counted now v left f in let spare = f.filled.spare in omega arith

  pub filling_unspent : (now : Indexed V) (v : V) (left : List V) → Filling vs start now (v ∷ left) → start.next + length vs < 2 ^ 64 → now.next < 2 ^ 64 - 1
  filling_unspent now v left f unspent = let few = counted now v left f in let next = f.filled.next in omega arith

  module _ (order : Order V) (closed : Closed order) where
    pub filling_absent : (now : Indexed V) (v : V) (left : List V) → AreKeyed order vs → Filling vs start now (v ∷ left) → found (λ other. order.alike other v) now ≡ None
    filling_absent now v left keyed f =
        let test : V → Bool = λ other. order.alike other v in
        let alone = only_one test f.done v left (closed.equal.refl v) (subst (λ ws. length (filter test ws) ≤ 1) (sym f.all) (keyed.keys_differ v)) in
        none_some (found test now) (any_found test now.rows ∙ ap (λ rows. list_any test (values rows)) f.filled.rows ∙ ap (list_any test) (fresh_values start.next f.done) ∙ alone)

    pub filling_more : (now new : Indexed V) (v : V) (left : List V) → AreKeyed order vs → Filling vs start now (v ∷ left) → length vs ≤ start.spare
        → Becomes now new (added order (plain_rows now) now.next (v ∷ [])) (now.next + 1) (now.spare - 1) → Filling vs start new left
    filling_more now new v left keyed f enough b =
        let few = counted now v left f in let old = f.filled.spare in let risen = f.filled.next in let next = b.next in let spare = b.spare in
        let more : length (f.done ++ v ∷ []) ≡ length f.done + 1 = length_push f.done v in
        let here = in_order_up_to order closed f.done v left start.next (subst (λ ws. is_in_order order ws ≡ true) (sym f.all) keyed.in_order) in
        let name = fresh-append start.next f.done v in
        record {
          done = f.done ++ v ∷ [];
          all = append_assoc f.done (v ∷ []) left ∙ f.all;
          filled = record {
            rows = b.plainly ∙ (λ i. added order (f.filled.rows i) (risen i) (v ∷ []))
                ∙ added_last order closed (fresh start.next f.done) (start.next + length f.done) v (subst (λ rows. is_in_order order (values rows) ≡ true) name here) ∙ sym name;
            next = omega arith;
            spare = omega arith;
            capacity = b.capacity ∙ f.filled.capacity;
          };
        }

-- a source that lost rows, and nothing else
pub record Draining {V : Type 0} (old now : Indexed V) : Type 0 where
  pub next : now.next ≡ old.next
  pub slots : slots now ≡ slots old
  pub capacity : now.capacity ≡ old.capacity

-- its first row was taken
pub record FirstTaken {V : Type 0} (old now new : Indexed V) (v : V) : Type 0 where
  pub are : values now.rows ≡ v ∷ values new.rows
  pub fewer : length new.rows < length now.rows
  pub draining : Draining old new

-- where a walk begins
module _ {V : Type 0} (s : Indexed V) where
  pub first_there : (name : Name) → name_at s 0 ≡ Some name → is_there s name ≡ true
  first_there name first = by_row (slice_get s.rows 0) refl first
    where
      by_row : (o : Option (Row Name V)) → slice_get s.rows 0 ≡ o → option_map (λ (r : Row Name V). r.name) o ≡ Some name → is_there s name ≡ true
      by_row None e h = absurd (none-some name h)
      by_row (Some r) e h = let same : r.name ≡ name = (let k : Some r.name ≡ Some name = h in cc) in subst (λ n. is_there s n ≡ true) same (at_place s.rows 0 r e)

  pub none_there : name_at s 0 ≡ None → s.rows ≡ []
  none_there first = by_rows s.rows refl
    where
      by_rows : (rows : List (Row Name V)) → s.rows ≡ rows → s.rows ≡ []
      by_rows [] e = e
      by_rows (r ∷ rest) e = absurd (none-some r.name (sym first ∙ ap (λ rs. option_map (λ (q : Row Name V). q.name) (slice_get rs 0)) e))

module _ {V : Type 0} (old : Indexed V) where
  pub draining_more : (now new : Indexed V) (name : Name) (v : V) → Draining old now → name_at now 0 ≡ Some name → value_of now name ≡ Some v
      → Becomes now new (cut (plain_rows now) (place_of (plain_rows now) name.serial) 1) now.next (now.spare + 1) → FirstTaken old now new v
  draining_more now new name v d first value b = by_rows now.rows refl
    where
      by_rows : (rows : List (Row Name V)) → now.rows ≡ rows → FirstTaken old now new v
      by_rows [] e = absurd (none-some name (sym (ap (λ rs. option_map (λ (r : Row Name V). r.name) (slice_get rs 0)) e) ∙ first))
      by_rows (r ∷ rest) e =
          let is : r.name ≡ name = (let k : Some r.name ≡ Some name = sym (ap (λ rs. option_map (λ (q : Row Name V). q.name) (slice_get rs 0)) e) ∙ first in cc) in
          let same = eq-eqb r.name.serial name.serial (ap (λ (n : Name). n.serial) is) in
          let at : place_of (plain_rows now) name.serial ≡ 0 = ap (λ rs. place_of (plains rs) name.serial) e ∙ cond-true _ _ _ same in
          let after : plain_rows new ≡ plains rest = b.plainly ∙ (λ i. cut (plains (e i)) (at i) 1) in
          let got : value_of now name ≡ Some r.value = ap (λ rs. value_at (plains rs) name.serial) e ∙ ap (option_map (λ (q : Row ℕ V). q.value)) (cond-true _ _ _ same) in
          let this : r.value ≡ v = (let k : Some r.value ≡ Some v = sym got ∙ value in cc) in
          let count : length new.rows ≡ length rest = sym (length-map new.rows plain_row) ∙ ap length after ∙ length-map rest plain_row in
          let all : length now.rows ≡ suc (length rest) = ap length e in
          let spare = b.spare in let sum = d.slots in
          record {
            are = ap values e ∙ (λ i. this i ∷ values rest) ∙ ap (λ ws. v ∷ ws) (values-plains rest ∙ sym (ap values after) ∙ sym (values-plains new.rows));
            fewer = omega arith;
            draining = record { next = b.next ∙ d.next; slots = omega arith; capacity = b.capacity ∙ d.capacity };
          }

  pub draining_ends : (now : Indexed V) → Draining old now → name_at now 0 ≡ None → Becomes old now [] old.next (slots old)
  draining_ends now d first =
      let none = none_there now first in let count : length now.rows ≡ 0 = ap length none in let sum = d.slots in
      record {
        plainly = ap plains none;
        same_slots = subst (λ rs. All (λ name. name.serial < old.next → IsTrue (is_there old name)) (names rs)) (sym none) (λ i n lt. absurd (omega arith));
        next = d.next;
        spare = omega arith;
        capacity = d.capacity;
      }

-- room was made, the rows were dropped, and others came
module _ {V : Type 0} (l : Limit) (need : ℕ) (vs : List V) (s wide clear new : Indexed V) where
  pub cleared_none : Becomes wide clear [] wide.next (slots wide) → clear.rows ≡ []
  cleared_none b = nil_from_length clear.rows (sym (length-map clear.rows plain_row) ∙ ap length b.plainly)

  pub refilled : length vs ≡ need → Widens l need s wide → Becomes wide clear [] wide.next (slots wide) → IsFilled vs clear new → IsRefilled l vs s new
  refilled many w b f =
      let next : clear.next ≡ s.next = b.next ∙ w.next in
      let count : length new.rows ≡ length vs = sym (length-map new.rows plain_row) ∙ ap length f.rows ∙ length-fresh clear.next vs in
      let spare = f.spare in let kept = b.spare in
      let same : slots new ≡ slots wide = omega arith in
      let capacity : new.capacity ≡ wide.capacity = f.capacity ∙ b.capacity in
      record {
        rows = f.rows ∙ ap (λ n. fresh n vs) next;
        next = f.next ∙ ap (λ n. n + length vs) next;
        capacity = capacity ∙ w.capacity ∙ ap (capacity_after l s.capacity) (sym many);
        has_slots = subst (λ (p : Option ℕ × ℕ). HasSlots l p.0 p.1) (λ i. (sym capacity i, sym same i)) w.has_slots;
        most = subst (λ n. n ≤ max (slots s) (pow8 (length vs))) (sym same) (subst (λ n. slots wide ≤ max (slots s) (pow8 n)) (sym many) w.most);
      }
