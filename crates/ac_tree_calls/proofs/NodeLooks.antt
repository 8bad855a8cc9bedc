-- A walk over a tree's rows, whose cursors are at elements and never at the root.
use Rattle.std.proofs.Common.{◌≡◌, ◌==◌, ◌&&◌, ◌||◌, ℕ, zero, suc, Bool, true, false, not, List, [], ◌∷◌, refl, sym, ap, subst, ◌∙◌, eq-eqb, Option, Some, None, slice_get, if◌then◌else◌}
use Rattle.std.specs.Prelude.{⊤, Result, Ok, Err}
use Rattle.ac_base.specs.declared.cursor.Cursor.{Cursor}
use Rattle.ac_base.specs.declared.cursor.Cursor.TheVariants as cursor
use Rattle.ac_base.specs.declared.fault.Fault.{Fault}
use Rattle.ac_base.specs.declared.fault.Fault.TheVariants as fault
use Rattle.ac_base.specs.declared.name.Name.{Name}
use Rattle.ac_base.specs.declared.reason.Reason.{Reason}
use Rattle.ac_base.specs.Rows.{Row, names}
use Rattle.ac_model.specs.Cursors.{mark}
use Rattle.ac_model.specs.Objects.{Object, IsValid, plain}
use Rattle.ac_model.specs.Rows.{is_named}
use Rattle.ac_model.specs.Letters.{Mark, no_mark, mark_at, stale_mark, is_among, is_same_name, may, mark_for, mark_in, judged_in}
use Rattle.ac_base.specs.FirstReason.{first_reason}
use Rattle.ac_model.specs.Calls.{Looking, Marks, look}
use Rattle.ac_model.specs.Sequences.{mark_before}
use Rattle.ac_model.specs.Trees.{root_name, tree_mark}
use Rattle.ac_chain.specs.TreeCursors.{NodeMarks}
use Rattle.ac_calls.proofs.NoRoot.{named_among, no_root}
use Rattle.ac_calls.proofs.Own.{stale_judged}
use Rattle.ac_tree_calls.proofs.OwnNodes.{at_root}

-- the mark isn't a root's
abbrev pub IsRowMark : Mark → Type 0
IsRowMark no_mark = ⊤
IsRowMark (mark_at object name) = name ≡ 0 → ⊥
IsRowMark (stale_mark object) = ⊤

pub or_left : (a b : Bool) → a ≡ true → (a || b) ≡ true
or_left true b h = refl
or_left false b h = absurd (cc)

pub or_right : (a b : Bool) → b ≡ true → (a || b) ≡ true
or_right true b h = refl
or_right false b h = h

unstale : (same : Bool) (x y : Mark) → (if same && false then x else y) ≡ y
unstale true x y = refl
unstale false x y = refl

-- names are told apart
pub told_apart : (b : Bool) → (b ≡ true → ⊥) → b ≡ false
told_apart true h = absurd (h refl)
told_apart false h = refl

row_mark : {V : Type 0} (number : ℕ) (rows : List (Row ℕ V)) (i : ℕ) → ((n : ℕ) → is_named rows n ≡ true → n ≡ 0 → ⊥) → IsRowMark (mark_for number (slice_get rows i))
row_mark number [] i f = tt
row_mark number (r ∷ rows) zero f = f r.name (or_left (r.name == r.name) (is_named rows r.name) (eq-eqb r.name r.name refl))
row_mark number (r ∷ rows) (suc i) f = row_mark number rows i (λ n h. f n (or_right (r.name == n) (is_named rows n) h))

module _ {V : Type 0} (o : Object Name V) (valid : IsValid (plain o)) where
  no_root_named : (n : ℕ) → is_named (plain o).rows n ≡ true → n ≡ 0 → ⊥
  no_root_named n h = no_root (plain o) n valid h

  pub in_row : (place : ℕ) → IsRowMark (mark_in (plain o) place)
  in_row place = row_mark o.number (plain o).rows place no_root_named

  pub before_row : (place : ℕ) → IsRowMark (mark_before (plain o) place)
  before_row zero = tt
  before_row (suc place) = in_row place

  pub next_row : (b : Bool) (place : ℕ) → IsRowMark (if b then no_mark else mark_in (plain o) place)
  next_row true place = tt
  next_row false place = in_row place

  pub previous_row : (b : Bool) (place : ℕ) → IsRowMark (if b then no_mark else mark_before (plain o) place)
  previous_row true place = tt
  previous_row false place = before_row place

  -- a cursor that is at no root marks the same row with a root and without
  row_at : (object : ℕ) (name : Name) (root : Bool) (m : Mark) → is_same_name name root_name ≡ root → IsRowMark m →
      (if (object == o.number) && not (root || is_among (names o.rows) name) then stale_mark object else mark_at object name.serial) ≡ m →
      (if (object == o.number) && not (is_among (names o.rows) name) then stale_mark object else mark_at object name.serial) ≡ m
  row_at object name false m is row h = h
  row_at object name true m is row h =
      let at : mark_at object name.serial ≡ m = sym (unstale (object == o.number) (stale_mark object) (mark_at object name.serial)) ∙ h in
      absurd (subst IsRowMark (sym at) row (ap (λ (n : Name). n.serial) (at_root name is)))

  pub row_marks : (c : Cursor) (m : Mark) → IsRowMark m → NodeMarks o c m → Marks o c m
  row_marks cursor.NoElement m row is = is
  row_marks (cursor.At object name) m row is = row_at object name (is_same_name name root_name) m refl row is

  -- and a root is refused as a cursor that is gone
  not_among : (name : Name) → name.serial ≡ 0 → is_among (names o.rows) name ≡ false
  not_among name at_zero = told_apart (is_among (names o.rows) name) (λ h. no_root_named name.serial (named_among name o.rows h) at_zero)

  not_named : (n : ℕ) → n ≡ 0 → is_named (plain o).rows n ≡ false
  not_named n at_zero = told_apart (is_named (plain o).rows n) (λ h. no_root_named n h at_zero)

  gone_root : (object : ℕ) (same named among : Bool) (serial : ℕ) → (object == o.number) ≡ same → is_named (plain o).rows serial ≡ named → named ≡ false → among ≡ false →
      may (plain o) (if same && false then stale_mark object else mark_at object serial) ≡ may (plain o) (if same && not among then stale_mark object else mark_at object serial)
  gone_root object true named true serial is is_there e f = absurd (cc f)
  gone_root object true named false serial is is_there e f = ap (judged_in o.number object) (is_there ∙ e)
  gone_root object false named among serial is is_there e f = refl

  may_at : (object : ℕ) (name : Name) (root : Bool) → is_same_name name root_name ≡ root →
      may (plain o) (if (object == o.number) && not (root || is_among (names o.rows) name) then stale_mark object else mark_at object name.serial)
      ≡ may (plain o) (if (object == o.number) && not (is_among (names o.rows) name) then stale_mark object else mark_at object name.serial)
  may_at object name false is = refl
  may_at object name true is =
      let at_zero : name.serial ≡ 0 = ap (λ (n : Name). n.serial) (at_root name is) in
      gone_root object (object == o.number) (is_named (plain o).rows name.serial) (is_among (names o.rows) name) name.serial refl refl
      (not_named name.serial at_zero) (not_among name at_zero)

  may_same : (c : Cursor) → may (plain o) (tree_mark o c) ≡ may (plain o) (mark o c)
  may_same cursor.NoElement = refl
  may_same (cursor.At object name) = may_at object name (is_same_name name root_name) refl

  root_refused : (object : ℕ) (name : Name) → name.serial ≡ 0 → may (plain o) (mark_at object name.serial) ≡ None → ⊥
  root_refused object name at_zero h = stale_judged o.number object (sym (ap (judged_in o.number object) (not_named name.serial at_zero)) ∙ h)

  seen_at : (object : ℕ) (name : Name) (root : Bool) → is_same_name name root_name ≡ root →
      may (plain o) (if (object == o.number) && not (root || is_among (names o.rows) name) then stale_mark object else mark_at object name.serial) ≡ None →
      (if (object == o.number) && not (root || is_among (names o.rows) name) then stale_mark object else mark_at object name.serial)
      ≡ (if (object == o.number) && not (is_among (names o.rows) name) then stale_mark object else mark_at object name.serial)
  seen_at object name false is h = refl
  seen_at object name true is h = absurd (root_refused object name (ap (λ (n : Name). n.serial) (at_root name is))
      (ap (may (plain o)) (sym (unstale (object == o.number) (stale_mark object) (mark_at object name.serial))) ∙ h))

  seen_same : (c : Cursor) → may (plain o) (tree_mark o c) ≡ None → tree_mark o c ≡ mark o c
  seen_same cursor.NoElement h = refl
  seen_same (cursor.At object name) h = seen_at object name (is_same_name name root_name) refl h

  one_reason : (r : Option Reason) → first_reason (r ∷ []) ≡ None → r ≡ None
  one_reason None h = refl
  one_reason (Some r) h = absurd (cc h)

  -- a step of a walk, by the cursor as the tree sees it and as its rows do
  pub step_same : (answer : Mark → Mark) (c : Cursor) (result : Result Cursor Fault) → ((m : Mark) → IsRowMark (answer m)) →
      Looking (NodeMarks o) (look (first_reason (may (plain o) (tree_mark o c) ∷ [])) (answer (tree_mark o c))) result →
      Looking (Marks o) (look (first_reason (may (plain o) (mark o c) ∷ [])) (answer (mark o c))) result
  step_same answer c (Ok next) row h =
      let allowed = one_reason (may (plain o) (tree_mark o c)) h.0 in (
        sym (ap (λ r. first_reason (r ∷ [])) (may_same c)) ∙ h.0,
        subst (λ m. Marks o next (answer m)) (seen_same c allowed) (row_marks next (answer (tree_mark o c)) (row (tree_mark o c)) h.1),
      )
  step_same answer c (Err (fault.Raised reason)) row h = sym (ap (λ r. first_reason (r ∷ [])) (may_same c)) ∙ h
  step_same answer c (Err fault.NoMemory) row h = h
