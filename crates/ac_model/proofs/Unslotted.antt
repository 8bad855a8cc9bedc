-- Slots show in no answer: what a cursor means to an object is what it means without its slot, where the slot is the one that the object would find.
use Rattle.std.proofs.Common.{◌≡◌, ◌==◌, ◌&&◌, ◌||◌, ◌<◌, ◌≤◌, ◌+◌, ◌⊎◌, inl, inr, ℕ, suc, Bool, true, false, not, List, [], ◌∷◌, map, refl, sym, ap, ◌∙◌, subst, arith, eq-eqb}
use Rattle.std.specs.Prelude.{All, IsTrue, if◌then◌else◌}
use Rattle.std.proofs.lemmas.Bool.{eqb-true}
use Rattle.ac_base.specs.declared.name.Name.{Name}
use Rattle.ac_base.specs.declared.cursor.Cursor.{Cursor}
use Rattle.ac_base.specs.declared.cursor.Cursor.TheVariants as cursor
use Rattle.ac_base.specs.Rows.{Row, names}
use Rattle.ac_model.specs.Rows.{is_named}
use Rattle.ac_model.specs.Objects.{Object, plain, plain_row, IsValid, times}
use Rattle.ac_model.specs.Letters.{Mark, mark_at, stale_mark, is_among, is_same_name}
use Rattle.ac_model.specs.Calls.{IsAfter}
use Rattle.ac_model.specs.Cursors.{mark, plain_mark, seen, IsOwn, Agrees}
use Rattle.ac_model.specs.Trees.{tree_mark, root_name, is_node, seen_in_tree, AgreesInTree}

decided : (a b : Bool) → (a ≡ true → b ≡ true) → (b ≡ true → a ≡ true) → a ≡ b
decided true b f g = sym (f refl)
decided false true f g = g refl
decided false false f g = refl

or_cases : (a b : Bool) → (a || b) ≡ true → (a ≡ true) ⊎ (b ≡ true)
or_cases true b h = inl refl
or_cases false b h = inr h

or_left : (a b : Bool) → a ≡ true → (a || b) ≡ true
or_left true b h = refl
or_left false b h = absurd (cc h)

or_right : (a b : Bool) → b ≡ true → (a || b) ≡ true
or_right true b h = refl
or_right false b h = h

and_left : (a b : Bool) → (a && b) ≡ true → a ≡ true
and_left true b h = refl
and_left false b h = h

and_right : (a b : Bool) → (a && b) ≡ true → b ≡ true
and_right true b h = h
and_right false b h = absurd (cc h)

-- names with the same slot and serial are the same
same_name : (a b : Name) → is_same_name a b ≡ true → a ≡ b
same_name a b h =
    let slots = eqb-true a.slot b.slot (and_left (a.slot == b.slot) (a.serial == b.serial) h) in
    let serials = eqb-true a.serial b.serial (and_right (a.slot == b.slot) (a.serial == b.serial) h) in
    let made : ℕ → ℕ → Name = λ slot serial. record { slot = slot; serial = serial } in
    ap (λ n. made n a.serial) slots ∙ ap (made b.slot) serials

itself : (a : Name) → is_same_name a a ≡ true
itself a = rw (eq-eqb a.slot a.slot refl, eq-eqb a.serial a.serial refl) refl

fewer : (b : Bool) (k : ℕ) → (if b then 1 else 0) + k ≤ 1 → k ≤ 1
fewer true k h = omega arith
fewer false k h = omega arith

-- a serial that stands twice
twice : (b : Bool) (k : ℕ) → b ≡ true → 1 ≤ k → (if b then 1 else 0) + k ≤ 1 → ⊥
twice true k e h w = omega arith
twice false k e h w = absurd (cc e)

module _ {V : Type 0} where
  named_among : (a : Name) (rows : List (Row Name V)) → is_among (names rows) a ≡ true → is_named (map plain_row rows) a.serial ≡ true
  named_among a [] h = h
  named_among a (r ∷ rows) h = elim (or_cases (is_same_name a r.name) (is_among (names rows) a) h) [
    | inl same ↦ or_left (r.name.serial == a.serial) (is_named (map plain_row rows) a.serial) (eq-eqb r.name.serial a.serial (ap (λ (n : Name). n.serial) (sym (same_name a r.name same))))
    | inr more ↦ or_right (r.name.serial == a.serial) (is_named (map plain_row rows) a.serial) (named_among a rows more)
  ]

  -- a serial that is there stands at least once
  counted : (n : ℕ) (rows : List (Row ℕ V)) → is_named rows n ≡ true → 1 ≤ times n rows
  counted n [] h = absurd (cc h)
  counted n (r ∷ rows) h = elim (or_cases (r.name == n) (is_named rows n) h) [
    | inl here ↦ here_at (r.name == n) (times n rows) here
    | inr more ↦ there_at (r.name == n) (times n rows) (counted n rows more)
  ]
    where
      here_at : (b : Bool) (k : ℕ) → b ≡ true → 1 ≤ (if b then 1 else 0) + k
      here_at true k h = omega arith
      here_at false k h = absurd (cc h)

      there_at : (b : Bool) (k : ℕ) → 1 ≤ k → 1 ≤ (if b then 1 else 0) + k
      there_at true k h = omega arith
      there_at false k h = omega arith

  -- two names with one serial that stands once are one
  one_name : (a b : Name) (rows : List (Row Name V)) → times a.serial (map plain_row rows) ≤ 1 → a.serial ≡ b.serial → is_among (names rows) a ≡ true → is_among (names rows) b ≡ true → a ≡ b
  one_name a b [] once e p q = absurd (cc p)
  one_name a b (r ∷ rows) once e p q =
      let here = r.name.serial == a.serial in
      let left = times a.serial (map plain_row rows) in
      elim (or_cases (is_same_name a r.name) (is_among (names rows) a) p) [
        | inl first ↦ elim (or_cases (is_same_name b r.name) (is_among (names rows) b) q) [
          | inl second ↦ same_name a r.name first ∙ sym (same_name b r.name second)
          | inr second ↦ absurd (twice here left (eq-eqb r.name.serial a.serial (ap (λ (n : Name). n.serial) (sym (same_name a r.name first)))) (counted a.serial (map plain_row rows) (subst (λ n. is_named (map plain_row rows) n ≡ true) (sym e) (named_among b rows second))) once)
        ]
        | inr first ↦ elim (or_cases (is_same_name b r.name) (is_among (names rows) b) q) [
          | inl second ↦ absurd (twice here left (eq-eqb r.name.serial a.serial (sym (e ∙ ap (λ (n : Name). n.serial) (same_name b r.name second)))) (counted a.serial (map plain_row rows) (named_among a rows first)) once)
          | inr second ↦ one_name a b rows (fewer here left once) e first second
        ]
      ]

  -- a serial that is there has a name
  slot_kept : (P : Name → Type 0) (name : Name) (rows : List (Row Name V)) → All P (names rows) → ((n : Name) → n.serial ≡ name.serial → P n → n ≡ name) → is_named (map plain_row rows) name.serial ≡ true → is_among (names rows) name ≡ true
  slot_kept P name [] all one h = h
  slot_kept P name (r ∷ rows) all one h = elim (or_cases (r.name.serial == name.serial) (is_named (map plain_row rows) name.serial) h) [
    | inl here ↦ or_left (is_same_name name r.name) (is_among (names rows) name) (subst (λ n. is_same_name name n ≡ true) (sym (one r.name (eqb-true r.name.serial name.serial here) (all 0 r.name (omega arith)))) (itself name))
    | inr more ↦ or_right (is_same_name name r.name) (is_among (names rows) name) (slot_kept P name rows (λ k d h. all (suc k) d (omega arith)) one more)
  ]

same_test : (b p q : Bool) (x y : Mark) → (b ≡ true → p ≡ q) → (if b && not p then x else y) ≡ (if b && not q then x else y)
same_test true p q x y f = ap (λ t. if not t then x else y) (f refl)
same_test false p q x y f = refl

module _ {V : Type 0} where
  pub seen_marks : (o : Object Name V) (c : Cursor) → Agrees o c → mark o c ≡ seen (plain o) (plain_mark c)
  seen_marks o cursor.NoElement agrees = refl
  seen_marks o (cursor.At object name) agrees =
      same_test (object == o.number) (is_among (names o.rows) name) (is_named (plain o).rows name.serial) (stale_mark object) (mark_at object name.serial)
      (λ e. decided (is_among (names o.rows) name) (is_named (plain o).rows name.serial) (named_among name o.rows) (agrees (eqb-true object o.number e)).slot)

  node_among : (o : Object Name V) (name : Name) → is_among (root_name ∷ names o.rows) name ≡ true → is_node (plain o) name.serial ≡ true
  node_among o name h = elim (or_cases (is_same_name name root_name) (is_among (names o.rows) name) h) [
    | inl root ↦ or_left (name.serial == 0) (is_named (plain o).rows name.serial) (and_right (name.slot == 0) (name.serial == 0) root)
    | inr more ↦ or_right (name.serial == 0) (is_named (plain o).rows name.serial) (named_among name o.rows more)
  ]

  among_nodes : (o : Object Name V) (name : Name) → (name.serial ≡ 0 → name ≡ root_name) → IsOwn o name → is_node (plain o) name.serial ≡ true → is_among (root_name ∷ names o.rows) name ≡ true
  among_nodes o name root own h = elim (or_cases (name.serial == 0) (is_named (plain o).rows name.serial) h) [
    | inl zero ↦ or_left (is_same_name name root_name) (is_among (names o.rows) name) (subst (λ n. is_same_name n root_name ≡ true) (sym (root (eqb-true name.serial 0 zero))) (itself root_name))
    | inr more ↦ or_right (is_same_name name root_name) (is_among (names o.rows) name) (own.slot more)
  ]

  pub seen_tree_marks : (o : Object Name V) (c : Cursor) → AgreesInTree o c → tree_mark o c ≡ seen_in_tree (plain o) (plain_mark c)
  seen_tree_marks o cursor.NoElement agrees = refl
  seen_tree_marks o (cursor.At object name) agrees =
      same_test (object == o.number) (is_among (root_name ∷ names o.rows) name) (is_node (plain o) name.serial) (stale_mark object) (mark_at object name.serial)
      (λ e. let (root, own) = agrees (eqb-true object o.number e) in
      decided (is_among (root_name ∷ names o.rows) name) (is_node (plain o) name.serial) (node_among o name) (among_nodes o name root own))

  own_kept : (o now : Object Name V) (after : Object ℕ V) (name : Name) → IsValid (plain o) → IsOwn o name → IsAfter o now after → o.next ≤ after.next → IsOwn now name
  own_kept o now after name v own is next =
      let nexts : now.next ≡ after.next = ap (λ (p : Object ℕ V). p.next) is.plainly in
      record {
        given = omega (arith, own.given, next, nexts);
        slot = slot_kept (λ n. n.serial < o.next → IsTrue (is_among (names o.rows) n)) name now.rows is.slots
            (λ n same had. one_name n name o.rows (subst (λ k. times k (map plain_row o.rows) ≤ 1) (sym same) (v.names_differ name.serial)) same
            (had (subst (λ k. k < o.next) (sym same) own.given))
            (own.slot (subst (λ k. is_named (plain o).rows k ≡ true) same (named_among n o.rows (had (subst (λ k. k < o.next) (sym same) own.given))))));
      }

  numbers : (o now : Object Name V) (after : Object ℕ V) → IsAfter o now after → after.number ≡ o.number → now.number ≡ o.number
  numbers o now after is number = ap (λ (p : Object ℕ V). p.number) is.plainly ∙ number

  pub agreement_kept : (o now : Object Name V) (after : Object ℕ V) (c : Cursor) → IsValid (plain o) → Agrees o c → IsAfter o now after → after.number ≡ o.number → o.next ≤ after.next → Agrees now c
  agreement_kept o now after cursor.NoElement v agrees is number next = tt
  agreement_kept o now after (cursor.At object name) v agrees is number next = λ e. own_kept o now after name v (agrees (e ∙ numbers o now after is number)) is next

  pub tree_agreement_kept : (o now : Object Name V) (after : Object ℕ V) (c : Cursor) → IsValid (plain o) → AgreesInTree o c → IsAfter o now after → after.number ≡ o.number → o.next ≤ after.next → AgreesInTree now c
  tree_agreement_kept o now after cursor.NoElement v agrees is number next = tt
  tree_agreement_kept o now after (cursor.At object name) v agrees is number next = λ e.
      let (root, own) = agrees (e ∙ numbers o now after is number) in
      (root, own_kept o now after name v own is next)
