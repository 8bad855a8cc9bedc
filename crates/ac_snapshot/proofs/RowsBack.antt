-- What rows stand for has their form, and has it alone.
use Rattle.std.proofs.Common.{◌≡◌, ℕ, ◌==◌, Bool, true, false, ◌&&◌, List, [], ◌∷◌, map, Option, Some, None, refl, sym, ap, ap₂}
use Rattle.std.specs.List.{list_all}
use Rattle.std.proofs.lemmas.Bool.{false≢true, and_parts, eqb-true}
use Rattle.ac_base.specs.declared.value.Value.{Value}
use Rattle.ac_base.specs.declared.value.Value.TheVariants as value
use Rattle.ac_model.specs.Rows.{entry, node}
use Rattle.ac_syntax.specs.declared.kind.ElemKind.{ElemKind}
use Rattle.ac_syntax.specs.declared.kind.ElemKind.TheVariants.{Integer, Str}
use Rattle.ac_syntax.specs.declared.kind.Kind.{Kind}
use Rattle.ac_syntax.specs.declared.kind.Kind.TheVariants as kinds
use Rattle.ac_syntax.specs.declared.type_def.TypeDef.{TypeDef}
use Rattle.ac_rules.specs.Rules.{is_type}
use Rattle.ac_calls.specs.Elements.{ElementOf, tools_of, keyed_texts}
use Rattle.ac_calls.specs.Holdings.{RowKind, RowOf, a_sequence, a_map, a_set, a_keyed_set, a_tree}
use Rattle.ac_calls.specs.PlainRows.{element_form, entry_form, node_form, row_form}
use Rattle.ac_calls.specs.declared.plains.PlainRow.{PlainRow}
use Rattle.ac_snapshot.specs.RowValues.{row_kind, row_value, row_values, element_in, key_from}
use Rattle.ac_snapshot.specs.Representable.{is_representable, is_row_representable}
use Rattle.ac_snapshot.specs.RowLaws.{are_values}
use Rattle.ac_snapshot.specs.RowValidity.{is_value_of, is_given, is_row_of}

-- From an element to its value and back

value_stands : (e : ElemKind) (v : ElementOf e) → (tools_of e).from_value ((tools_of e).to_value v) ≡ v
value_stands Integer v = refl
value_stands Str v = refl

pub form_stands : (kind : RowKind) (v : RowOf kind) → row_value kind (row_form kind v) ≡ v
form_stands (a_sequence _ e) v = value_stands e v
form_stands (a_map _ k e) v = λ i. entry (value_stands k v.key i) (value_stands e v.element i)
form_stands (a_set _ e) v = value_stands e v
form_stands (a_keyed_set _) v = refl
form_stands (a_tree e) v = ap (node v.depth) (value_stands e v.element)

-- From a value to its element and back

value_held : (e : ElemKind) (v : Value) → is_value_of e v ≡ true → (tools_of e).to_value ((tools_of e).from_value v) ≡ v
value_held Integer (value.Int z) h = refl
value_held Integer (value.Text bytes) h = absurd (false≢true h)
value_held Str (value.Int z) h = absurd (false≢true h)
value_held Str (value.Text bytes) h = refl

none_given : (test : Value → Bool) (key : Option Value) → is_given false test key ≡ true → None ≡ key
none_given test None h = refl
none_given test (Some k) h = absurd (false≢true h)

one_given : (k : ElemKind) (key : Option Value) → is_given true (is_value_of k) key ≡ true → Some ((tools_of k).to_value (key_from (tools_of k) key)) ≡ key
one_given k None h = absurd (false≢true h)
one_given k (Some v) h = ap Some (value_held k v h)

row_is : (depth : ℕ) (key : Option Value) (v : Value) (r : PlainRow) → depth ≡ r.depth → key ≡ r.key → v ≡ r.value → ◌≡◌ {A = PlainRow} (record { depth = depth; key = key; value = v }) r
row_is depth key v r d k e = λ i. record { depth = d i; key = k i; value = e i }

module _ (r : PlainRow) where
  in_elements : (e : ElemKind) (test : Value → Bool) → ((r.depth == 0) && (is_given false test r.key && is_value_of e r.value)) ≡ true →
      element_form (tools_of e) (element_in (tools_of e) r) ≡ r
  in_elements e test h =
      let parts = and_parts (r.depth == 0) (is_given false test r.key && is_value_of e r.value) h in
      let more = and_parts (is_given false test r.key) (is_value_of e r.value) parts.1 in
      row_is 0 None _ r (sym (eqb-true r.depth 0 parts.0)) (none_given test r.key more.0) (value_held e r.value more.1)

  in_keyed_texts : (test : Value → Bool) → ((r.depth == 0) && (is_given false test r.key && is_value_of Str r.value)) ≡ true →
      element_form keyed_texts (element_in keyed_texts r) ≡ r
  in_keyed_texts test h = in_elements Str test h

  in_entries : (k e : ElemKind) → ((r.depth == 0) && (is_given true (is_value_of k) r.key && is_value_of e r.value)) ≡ true →
      entry_form (tools_of k) (tools_of e) (entry (key_from (tools_of k) r.key) (element_in (tools_of e) r)) ≡ r
  in_entries k e h =
      let parts = and_parts (r.depth == 0) (is_given true (is_value_of k) r.key && is_value_of e r.value) h in
      let more = and_parts (is_given true (is_value_of k) r.key) (is_value_of e r.value) parts.1 in
      row_is 0 (Some ((tools_of k).to_value (key_from (tools_of k) r.key))) _ r (sym (eqb-true r.depth 0 parts.0)) (one_given k r.key more.0) (value_held e r.value more.1)

  in_nodes : (e : ElemKind) (test : Value → Bool) → (is_given false test r.key && is_value_of e r.value) ≡ true →
      node_form (tools_of e) (node r.depth (element_in (tools_of e) r)) ≡ r
  in_nodes e test h =
      let more = and_parts (is_given false test r.key) (is_value_of e r.value) h in
      row_is r.depth None _ r refl (none_given test r.key more.0) (value_held e r.value more.1)

  of_kind : (bounded : Bool) (kind : Kind) (first : ElemKind) (second : Option ElemKind) (keyed : Bool) →
      let def : TypeDef = record { bounded = bounded; kind = kind; first = first; second = second; keyed = keyed } in
      is_type def ≡ true → is_row_of def r ≡ true → row_form (row_kind def) (row_value (row_kind def) r) ≡ r
  of_kind bounded kinds.Vector first None keyed t h = in_elements first (is_value_of first) h
  of_kind bounded kinds.Vector first (Some second) keyed t h = absurd (false≢true t)
  of_kind bounded kinds.List first None keyed t h = in_elements first (is_value_of first) h
  of_kind bounded kinds.List first (Some second) keyed t h = absurd (false≢true t)
  of_kind bounded kinds.HashedMap first None keyed t h = absurd (false≢true t)
  of_kind bounded kinds.HashedMap first (Some second) keyed t h = in_entries first second h
  of_kind bounded kinds.OrderedMap first None keyed t h = absurd (false≢true t)
  of_kind bounded kinds.OrderedMap first (Some second) keyed t h = in_entries first second h
  of_kind bounded kinds.HashedSet first None false t h = in_elements first (is_value_of first) h
  of_kind bounded kinds.HashedSet Integer None true t h = absurd (false≢true t)
  of_kind bounded kinds.HashedSet Str None true t h = in_keyed_texts (is_value_of Str) h
  of_kind bounded kinds.HashedSet first (Some second) keyed t h = absurd (false≢true t)
  of_kind bounded kinds.OrderedSet first None false t h = in_elements first (is_value_of first) h
  of_kind bounded kinds.OrderedSet Integer None true t h = absurd (false≢true t)
  of_kind bounded kinds.OrderedSet Str None true t h = in_keyed_texts (is_value_of Str) h
  of_kind bounded kinds.OrderedSet first (Some second) keyed t h = absurd (false≢true t)
  of_kind bounded kinds.Tree first None keyed t h = in_nodes first (is_value_of first) h
  of_kind bounded kinds.Tree first (Some second) keyed t h = absurd (false≢true t)
  of_kind bounded kinds.Holder first None keyed t h = in_elements first (is_value_of first) h
  of_kind bounded kinds.Holder first (Some second) keyed t h = absurd (false≢true t)
  of_kind bounded kinds.Queue first None keyed t h = in_elements first (is_value_of first) h
  of_kind bounded kinds.Queue first (Some second) keyed t h = absurd (false≢true t)
  of_kind bounded kinds.PriorityQueue first None keyed t h = in_elements first (is_value_of first) h
  of_kind bounded kinds.PriorityQueue first (Some second) keyed t h = absurd (false≢true t)

pub rows_have_form : (def : TypeDef) (r : PlainRow) → is_type def ≡ true → is_row_of def r ≡ true → row_form (row_kind def) (row_value (row_kind def) r) ≡ r
rows_have_form def r t h = of_kind r def.bounded def.kind def.first def.second def.keyed t h

-- What stands in an object has the form of a row that may stand there

row_of_kind : (bounded : Bool) (kind : Kind) (first : ElemKind) (second : Option ElemKind) (keyed : Bool) →
    let def : TypeDef = record { bounded = bounded; kind = kind; first = first; second = second; keyed = keyed } in
    (v : RowOf (row_kind def)) → is_type def ≡ true → is_row_of def (row_form (row_kind def) v) ≡ are_values (row_kind def) v
row_of_kind bounded kinds.Vector first None keyed v t = refl
row_of_kind bounded kinds.Vector first (Some second) keyed v t = absurd (false≢true t)
row_of_kind bounded kinds.List first None keyed v t = refl
row_of_kind bounded kinds.List first (Some second) keyed v t = absurd (false≢true t)
row_of_kind bounded kinds.HashedMap first None keyed v t = absurd (false≢true t)
row_of_kind bounded kinds.HashedMap first (Some second) keyed v t = refl
row_of_kind bounded kinds.OrderedMap first None keyed v t = absurd (false≢true t)
row_of_kind bounded kinds.OrderedMap first (Some second) keyed v t = refl
row_of_kind bounded kinds.HashedSet first None false v t = refl
row_of_kind bounded kinds.HashedSet Integer None true v t = absurd (false≢true t)
row_of_kind bounded kinds.HashedSet Str None true v t = refl
row_of_kind bounded kinds.HashedSet first (Some second) keyed v t = absurd (false≢true t)
row_of_kind bounded kinds.OrderedSet first None false v t = refl
row_of_kind bounded kinds.OrderedSet Integer None true v t = absurd (false≢true t)
row_of_kind bounded kinds.OrderedSet Str None true v t = refl
row_of_kind bounded kinds.OrderedSet first (Some second) keyed v t = absurd (false≢true t)
row_of_kind bounded kinds.Tree first None keyed v t = refl
row_of_kind bounded kinds.Tree first (Some second) keyed v t = absurd (false≢true t)
row_of_kind bounded kinds.Holder first None keyed v t = refl
row_of_kind bounded kinds.Holder first (Some second) keyed v t = absurd (false≢true t)
row_of_kind bounded kinds.Queue first None keyed v t = refl
row_of_kind bounded kinds.Queue first (Some second) keyed v t = absurd (false≢true t)
row_of_kind bounded kinds.PriorityQueue first None keyed v t = refl
row_of_kind bounded kinds.PriorityQueue first (Some second) keyed v t = absurd (false≢true t)

pub forms_are_rows : (def : TypeDef) (v : RowOf (row_kind def)) → is_type def ≡ true → is_row_of def (row_form (row_kind def) v) ≡ are_values (row_kind def) v
forms_are_rows def v t = row_of_kind def.bounded def.kind def.first def.second def.keyed v t

value_fits : (e : ElemKind) (v : ElementOf e) → is_representable ((tools_of e).to_value v) ≡ is_value_of e ((tools_of e).to_value v)
value_fits Integer v = refl
value_fits Str v = refl

pub forms_are_values : (kind : RowKind) (v : RowOf kind) → is_row_representable (row_form kind v) ≡ are_values kind v
forms_are_values (a_sequence _ e) v = value_fits e v
forms_are_values (a_map _ k e) v = ap₂ (λ a b. a && b) (value_fits k v.key) (value_fits e v.element)
forms_are_values (a_set _ e) v = value_fits e v
forms_are_values (a_keyed_set _) v = refl
forms_are_values (a_tree e) v = value_fits e v.element

-- all rows of an object

pub forms_stand : (kind : RowKind) (vs : List (RowOf kind)) → row_values kind (map (row_form kind) vs) ≡ vs
forms_stand kind [] = refl
forms_stand kind (v ∷ vs) = ap₂ (λ w ws. w ∷ ws) (form_stands kind v) (forms_stand kind vs)

pub all_have_form : (def : TypeDef) (rows : List PlainRow) → is_type def ≡ true → list_all (is_row_of def) rows ≡ true →
    map (row_form (row_kind def)) (row_values (row_kind def) rows) ≡ rows
all_have_form def [] t h = refl
all_have_form def (r ∷ rows) t h =
    let parts = and_parts (is_row_of def r) (list_all (is_row_of def) rows) h in
    ap₂ (λ q more. q ∷ more) (rows_have_form def r t parts.0) (all_have_form def rows t parts.1)
