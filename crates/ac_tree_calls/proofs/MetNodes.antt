-- A walk that knows its depth stands at an element, which can be read.
use Rattle.std.proofs.Common.{◌≡◌, ◌==◌, ◌||◌, ◌<◌, ℕ, Bool, true, false, List, [], ◌∷◌, ◌++◌, length, map, refl, sym, ap, subst, ◌∙◌, eq-eqb, arith, Option, Some, None, slice_get}
use Rattle.std.proofs.lemmas.List.{length-append}
use Rattle.std.proofs.lemmas.Bool.{eqb-true}
use Rattle.std.proofs.lemmas.Option.{same_Some, none-some}
use Rattle.std.specs.Prelude.{Err}
use Rattle.ac_base.specs.declared.cursor.Cursor.{Cursor}
use Rattle.ac_base.specs.declared.cursor.Cursor.TheVariants.{At}
use Rattle.ac_base.specs.declared.fault.Fault.{Fault}
use Rattle.ac_base.specs.declared.fault.Fault.TheVariants as fault
use Rattle.ac_base.specs.declared.name.Name.{Name}
use Rattle.ac_base.specs.declared.reason.Reason.TheVariants.{RootNode}
use Rattle.ac_base.specs.FirstReason.{first_reason, earlier}
use Rattle.ac_base.specs.Rows.{Row, names}
use Rattle.ac_model.specs.Objects.{Object, IsValid, plain, plain_row}
use Rattle.ac_model.specs.Letters.{mark_at, mark_of, mark_in, mark_for, name_of, is_among, is_same_name, judged_in, reason_if}
use Rattle.ac_model.specs.Rows.{Node, is_named, value_at}
use Rattle.ac_model.specs.Trees.{tree_mark, element_call, element_of}
use Rattle.ac_model.specs.Calls.{Look, Looking, Lends}
use Rattle.ac_chain.specs.TreeWalk.{IsMet}
use Rattle.ac_calls.proofs.NoRoot.{named_among, no_root}
use Rattle.ac_tree_calls.proofs.NodeLooks.{or_left, or_right, told_apart}
use Rattle.ac_calls.proofs.Walks.{here}

none_refused : (number : ℕ) (root named : Bool) → root ≡ false → named ≡ true →
    first_reason (earlier (judged_in number number (root || named)) (reason_if root RootNode) ∷ []) ≡ None
none_refused number true named r n = absurd (cc r)
none_refused number false true r n = rw (eq-eqb number number refl) refl
none_refused number false false r n = absurd (cc n)

module _ {V : Type 0} where
  among_cut : (before left : List (Row Name V)) (at : Row Name V) → is_among (names (before ++ at ∷ left)) at.name ≡ true
  among_cut [] left at =
      or_left (is_same_name at.name at.name) (is_among (names left) at.name) (rw (eq-eqb at.name.slot at.name.slot refl, eq-eqb at.name.serial at.name.serial refl) refl)
  among_cut (r ∷ before) left at =
      or_right (is_same_name at.name r.name) (is_among (names (before ++ at ∷ left)) at.name) (among_cut before left at)

  row_cut : (before left : List (Row Name V)) (at : Row Name V) → slice_get (map plain_row (before ++ at ∷ left)) (length before) ≡ Some (plain_row at)
  row_cut [] left at = refl
  row_cut (r ∷ before) left at = row_cut before left at

  value_cut : (before left : List (Row Name V)) (at : Row Name V) →
      slice_get (map (λ (r : Row ℕ V). r.value) (map plain_row (before ++ at ∷ left))) (length before) ≡ Some at.value
  value_cut [] left at = refl
  value_cut (r ∷ before) left at = value_cut before left at

  module _ (o : Object Name V) (before left : List (Row Name V)) (at : Row Name V) (is : o.rows ≡ before ++ at ∷ left) where
    among : is_among (names o.rows) at.name ≡ true
    among = subst (λ rows. is_among (names rows) at.name ≡ true) (sym is) (among_cut before left at)

    row_seen : mark_of o.number (names o.rows) (At o.number at.name) ≡ mark_at o.number at.name.serial
    row_seen = rw (eq-eqb o.number o.number refl, among) refl

    pub node_seen : tree_mark o (At o.number at.name) ≡ mark_at o.number at.name.serial
    node_seen = rw (eq-eqb o.number o.number refl, or_right (is_same_name at.name (record { slot = 0; serial = 0 })) (is_among (names o.rows) at.name) among) refl

    in_place : mark_in (plain o) (length before) ≡ mark_at o.number at.name.serial
    in_place = ap (mark_for o.number) (subst (λ rows. slice_get (map plain_row rows) (length before) ≡ Some (plain_row at)) (sym is) (row_cut before left at))

    within : length before < length o.rows
    within = omega (arith, ap length is, length-append before (at ∷ left))

    pub value_met : IsValid (plain o) → value_at (plain o).rows at.name.serial ≡ Some at.value
    value_met valid =
        let k = here o valid (At o.number at.name) (length before) within (row_seen ∙ sym in_place) in
        let same : k.0 ≡ at.value =
        same_Some k.0 at.value (sym k.2 ∙ subst (λ rows. slice_get (map (λ (r : Row ℕ V). r.value) (map plain_row rows)) (length before) ≡ Some at.value) (sym is) (value_cut before left at)) in
        ap (λ m. value_at (plain o).rows (name_of m)) (sym row_seen) ∙ (k.1 ∙ ap Some same)

module _ {X : Type 0} (o : Object Name (Node X)) (valid : IsValid (plain o)) (c : Cursor) (depth : ℕ) (m : IsMet o c depth) where
  seen_met : tree_mark o c ≡ mark_at o.number m.at.name.serial
  seen_met = ap (tree_mark o) m.stands ∙ node_seen o m.before m.left m.at m.is

  named_met : is_named (plain o).rows m.at.name.serial ≡ true
  named_met = named_among m.at.name o.rows (among o m.before m.left m.at m.is)

  no_root_met : (m.at.name.serial == 0) ≡ false
  no_root_met = told_apart (m.at.name.serial == 0) (λ h. no_root (plain o) m.at.name.serial valid named_met (eqb-true m.at.name.serial 0 h))

  pub met_read : (element_call (plain o) (tree_mark o c)).reason ≡ None
  met_read =
      ap (λ p. (element_call (plain o) p).reason) seen_met
      ∙ none_refused o.number (m.at.name.serial == 0) (is_named (plain o).rows m.at.name.serial) no_root_met named_met

  pub met_element : (element_call (plain o) (tree_mark o c)).answer ≡ Some m.at.value.element
  met_element = ap (λ p. (element_call (plain o) p).answer) seen_met ∙ ap element_of (value_met o m.before m.left m.at m.is valid)

-- a look that nothing refuses isn't refused
pub not_refused : {X : Type 0} (l : Look (Option X)) (f : Fault) → l.reason ≡ None → Looking (Lends {A = X}) l (Err f) → ⊥
not_refused l (fault.Raised reason) none h = none-some reason (sym none ∙ h)
not_refused l fault.NoMemory none h = h
