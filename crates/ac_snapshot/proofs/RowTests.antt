-- What the test of all rows decides, kind by kind.
use Rattle.std.proofs.Common.{◌≡◌, ℕ, Bool, List, [], ◌∷◌, map, refl, sym, ap, ◌∙◌}
use Rattle.std.specs.Bool.{Decides}
use Rattle.std.specs.Cmp.{IsEquivalence}
use Rattle.std.proofs.lemmas.Cmp.{int_eq_equiv}
use Rattle.ac_base.specs.Key.{key_of_text}
use Rattle.ac_base.specs.Order.{IsWeakOrder}
use Rattle.ac_base.specs.OrderLaws.{integer_order, text_order, key_order, text_equivalence}
use Rattle.ac_base.specs.Rows.{Row, values}
use Rattle.ac_model.proofs.Ascending.{level_equal}
use Rattle.ac_model.specs.Maps.{order_of}
use Rattle.ac_model.specs.Objects.{Object, IsValid, contents}
use Rattle.ac_model.specs.Outline.{follows, depths}
use Rattle.ac_model.specs.Rows.{Entry, Node}
use Rattle.ac_syntax.specs.declared.kind.ElemKind.{ElemKind}
use Rattle.ac_syntax.specs.declared.kind.ElemKind.TheVariants.{Integer, Str}
use Rattle.ac_calls.specs.Elements.{Tools, ElementOf, tools_of, keyed_texts}
use Rattle.ac_calls.specs.Holdings.{RowKind, RowOf, a_sequence, a_map, a_set, a_keyed_set, a_tree}
use Rattle.ac_calls.specs.KeyedReplies.{KeyedKind, of_hashed, of_ordered, order_by}
use Rattle.ac_snapshot.specs.RowValidity.{are_rows_of}
use Rattle.ac_snapshot.specs.TestLaws.{AreSound}
use Rattle.ac_snapshot.proofs.KeyTests.{keyed_decided}

-- the orders of elements

by_key : {V K : Type 0} (key : V → K) {alike : K → K → Bool} → IsEquivalence alike → IsEquivalence (λ v w. alike (key v) (key w))
by_key key equal = record {
  refl = λ v. equal.refl (key v);
  symm = λ v w. equal.symm (key v) (key w);
  congr = λ v w x. equal.congr (key v) (key w) (key x);
}

alike_equal : (e : ElemKind) → IsEquivalence (tools_of e).alike
alike_equal Integer = int_eq_equiv
alike_equal Str = text_equivalence

less_weak : (e : ElemKind) → IsWeakOrder (tools_of e).less
less_weak Integer = integer_order
less_weak Str = text_order

order_equal : {T : Type 0} (tools : Tools T) → IsEquivalence tools.alike → IsWeakOrder tools.less → (which : KeyedKind) → IsEquivalence (order_by tools which).alike
order_equal tools equal weak of_hashed = equal
order_equal tools equal weak of_ordered = level_equal tools.less weak

element_order : (e : ElemKind) (which : KeyedKind) → IsEquivalence (order_by (tools_of e) which).alike
element_order e which = order_equal (tools_of e) (alike_equal e) (less_weak e) which

keyed_order : (which : KeyedKind) → IsEquivalence (order_by keyed_texts which).alike
keyed_order which = order_equal keyed_texts (by_key key_of_text text_equivalence) key_order which

-- an outline

depths_in : {T : Type 0} (rows : List (Row ℕ (Node T))) → map (λ n. n.depth) (values rows) ≡ depths rows
depths_in [] = refl
depths_in (r ∷ rows) = ap (λ ds. r.value.depth ∷ ds) (depths_in rows)

pub rows_decided : (kind : RowKind) (o : Object ℕ (RowOf kind)) → IsValid o → Decides (are_rows_of kind (contents o)) (AreSound kind o)
rows_decided (a_sequence which e) o valid = (λ h. valid, λ h. refl)
rows_decided (a_map which k e) o valid =
    keyed_decided (order_of (order_by (tools_of k) which)) (by_key (λ (row : Entry (ElementOf k) (ElementOf e)). row.key) (element_order k which)) o valid
rows_decided (a_set which e) o valid = keyed_decided (order_by (tools_of e) which) (element_order e which) o valid
rows_decided (a_keyed_set which) o valid = keyed_decided (order_by keyed_texts which) (keyed_order which) o valid
rows_decided (a_tree e) o valid = (
  λ h. record { as_object = valid; outline = sym (ap (follows 1) (depths_in o.rows)) ∙ h },
  λ tree. ap (follows 1) (depths_in o.rows) ∙ tree.outline,
)
