-- A cursor that a call of a tree answers is the tree's own, or at its root.
use Rattle.std.proofs.Common.{◌≡◌, ◌==◌, ◌||◌, ◌∷◌, ◌∙◌, ℕ, zero, suc, nat_lt, List, Bool, true, false, refl, sym, ap, subst, Option, Some, None, inl, inr, if◌then◌else◌}
use Rattle.std.specs.Prelude.{Result, Ok, Err}
use Rattle.std.proofs.lemmas.Bool.{eqb-true}
use Rattle.ac_base.specs.declared.cursor.Cursor.{Cursor}
use Rattle.ac_base.specs.declared.cursor.Cursor.TheVariants as cursor
use Rattle.ac_base.specs.declared.fault.Fault.{Fault}
use Rattle.ac_base.specs.declared.fault.Fault.TheVariants as fault
use Rattle.ac_base.specs.declared.name.Name.{Name}
use Rattle.ac_base.specs.declared.reason.Reason.{Reason}
use Rattle.ac_base.specs.declared.reason.Reason.TheVariants.{RootNode}
use Rattle.ac_base.specs.FirstReason.{step_of, earlier, first_reason}
use Rattle.ac_base.specs.Rows.{names}
use Rattle.ac_model.specs.Objects.{Object}
use Rattle.ac_model.specs.Letters.{Mark, no_mark, mark_at, stale_mark, is_among, is_same_name, reason_if}
use Rattle.ac_model.specs.Calls.{Call, Look, Looking, Changing, ChangingBoth, IsAfter, AreAfter, Both, both}
use Rattle.ac_model.specs.Outline.{Spot}
use Rattle.ac_model.specs.Trees.{root_name, mark_of_spot, is_root, may_node, needs_node, needs_element, unless_none}
use Rattle.ac_model.specs.Sequences.{first_new}
use Rattle.ac_model.proofs.Depths.{and_left, and_right}
use Rattle.ac_model.proofs.Reasons.{none_first, none_others}
use Rattle.ac_chain.specs.TreeCursors.{NodeMarks}
use Rattle.ac_calls.specs.Replied.{IsOwnName, IsAnswer}
use Rattle.ac_calls.proofs.Own.{IsOwnMark, own_at, judged_own, stale_judged}

-- a name that is the root's
pub at_root : (name : Name) → is_same_name name root_name ≡ true → name ≡ root_name
at_root name h =
    let slots = eqb-true name.slot root_name.slot (and_left (name.slot == root_name.slot) (name.serial == root_name.serial) h) in
    let serials = eqb-true name.serial root_name.serial (and_right (name.slot == root_name.slot) (name.serial == root_name.serial) h) in
    let made : ℕ → ℕ → Name = λ slot serial. record { slot = slot; serial = serial } in
    ap (λ n. made n name.serial) slots ∙ ap (made root_name.slot) serials

earlier_first : (a b : Option Reason) → earlier a b ≡ None → a ≡ None
earlier_first None b h = refl
earlier_first (Some r) b h = absurd (earlier_some r b h)
  where
    earlier_some : (r : Reason) (b : Option Reason) → earlier (Some r) b ≡ None → ⊥
    earlier_some r None h = cc h
    earlier_some r (Some other) h = either (nat_lt (step_of other) (step_of r)) h
      where
        either : (test : Bool) → (if test then Some other else Some r) ≡ None → ⊥
        either true h = cc h
        either false h = cc h

module _ {V : Type 0} where
  own_name : (o : Object Name V) (name : Name) (root among : Bool) → is_same_name name root_name ≡ root → is_among (names o.rows) name ≡ among →
      (root || among) ≡ true → IsOwnName o name
  own_name o name true among root_is is h = inr (at_root name root_is)
  own_name o name false true root_is is h = inl is
  own_name o name false false root_is is h = absurd (cc h)

  pub node_cursor : (o : Object Name V) (c : Cursor) (m : Mark) → IsOwnMark o.number m → NodeMarks o c m → IsAnswer o c m
  node_cursor o cursor.NoElement m own is = (sym is, tt)
  node_cursor o (cursor.At object name) m own is =
      let h = own_at o.number object name (is_among (root_name ∷ names o.rows) name) (object == o.number) m refl own is in
      (h.0, (h.1, own_name o name (is_same_name name root_name) (is_among (names o.rows) name) refl refl h.2))

  pub node_look : (o : Object Name V) (l : Look Mark) (result : Result Cursor Fault) → IsOwnMark o.number l.answer → Looking (NodeMarks o) l result → Looking (IsAnswer o) l result
  node_look o l (Ok c) own h = (h.0, node_cursor o c l.answer own h.1)
  node_look o l (Err (fault.Raised reason)) own h = h
  node_look o l (Err fault.NoMemory) own h = h

  -- a cursor variable that a call sets
  pub node_change : (old new : Object Name V) (c : Call (Object ℕ V) Mark) (q : Cursor) → (c.reason ≡ None → IsOwnMark c.after.number c.answer)
      → (c.reason ≡ None) × IsAfter old new c.after × NodeMarks new q c.answer → Changing (λ x m. IsAnswer new x m) c old new (Ok q)
  node_change old new c q own h =
      let number : c.after.number ≡ new.number = ap (λ (p : Object ℕ V). p.number) (sym h.1.plainly) in
      (h.0, h.1, node_cursor new q c.answer (subst (λ n. IsOwnMark n c.answer) number (own h.0)) h.2)

  -- what the calls answer

  pub spot_own : (o : Object ℕ V) (s : Option Spot) → IsOwnMark o.number (mark_of_spot o s)
  spot_own o None = tt
  spot_own o (Some s) = refl

  pub spot_or_none : (o : Object ℕ V) (c : Mark) (s : Option Spot) → IsOwnMark o.number (unless_none c no_mark (mark_of_spot o s))
  spot_or_none o no_mark s = tt
  spot_or_none o (mark_at object name) s = spot_own o s
  spot_or_none o (stale_mark object) s = spot_own o s

  -- a cursor that a call took

  pub may_node_own : (o : Object ℕ V) (m : Mark) → may_node o m ≡ None → IsOwnMark o.number m
  may_node_own o no_mark h = tt
  may_node_own o (mark_at object name) h = judged_own o.number object _ h
  may_node_own o (stale_mark object) h = absurd (stale_judged o.number object h)

  pub needs_node_own : (o : Object ℕ V) (m : Mark) → needs_node o m ≡ None → IsOwnMark o.number m
  needs_node_own o no_mark h = tt
  needs_node_own o (mark_at object name) h = judged_own o.number object _ h
  needs_node_own o (stale_mark object) h = absurd (stale_judged o.number object h)

  -- the first new node, or the cursor before which none was put
  pub first_node_own : (o : Object ℕ V) (before : Mark) (count : ℕ) → may_node o before ≡ None → IsOwnMark o.number (first_new o before count)
  first_node_own o before zero h = may_node_own o before h
  first_node_own o before (suc count) h = refl

  -- a node that is at an element
  pub element_own : (o : Object ℕ V) (m : Mark) → needs_element o m ≡ None → IsOwnMark o.number m
  element_own o m h = needs_node_own o m (earlier_first (needs_node o m) (reason_if (is_root m) RootNode) h)

  -- a cursor variable that a call of two trees sets, to a cursor of the target
  pub node_both : (old source new source_new : Object Name V) (c : Call (Both (Object ℕ V)) Mark) (q : Cursor) → (c.reason ≡ None → IsOwnMark c.after.target.number c.answer)
      → (c.reason ≡ None) × AreAfter (both old source) (both new source_new) c.after × NodeMarks new q c.answer
      → ChangingBoth (λ x m. IsAnswer new x m) c (both old source) (both new source_new) (Ok q)
  node_both old source new source_new c q own h =
      let number : c.after.target.number ≡ new.number = ap (λ (p : Object ℕ V). p.number) (sym h.1.target.plainly) in
      (h.0, h.1, node_cursor new q c.answer (subst (λ n. IsOwnMark n c.answer) number (own h.0)) h.2)

-- what was judged where no reason was found

pub third_none : (a b c : Option Reason) (others : List (Option Reason)) → first_reason (a ∷ b ∷ c ∷ others) ≡ None → c ≡ None
third_none a b c others h = none_first c others (none_others b (c ∷ others) (none_others a (b ∷ c ∷ others) h))

pub fourth_none : (a b c d : Option Reason) (others : List (Option Reason)) → first_reason (a ∷ b ∷ c ∷ d ∷ others) ≡ None → d ≡ None
fourth_none a b c d others h = third_none b c d others (none_others a (b ∷ c ∷ d ∷ others) h)
