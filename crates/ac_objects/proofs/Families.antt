-- What a list or a vector, a set, a map and a tree of one type are in memory, after a call that keeps their kind.
use Rattle.std.proofs.Common.{◌≡◌, ℤ, refl, ap, ◌∙◌}
use Rattle.ac_syntax.specs.declared.kind.ElemKind.{ElemKind}
use Rattle.ac_syntax.specs.declared.kind.ElemKind.TheVariants.{Integer, Str}
use Rattle.ac_model.specs.Containers.{Container}
use Rattle.ac_model.specs.Rows.{Entry, Node}
use Rattle.ac_calls.specs.Elements.{ElementOf, Text}
use Rattle.ac_calls.specs.Holdings.{SequenceKind, of_list, of_vector, RowKind, a_sequence, a_map, a_set, a_keyed_set, a_tree}
use Rattle.ac_calls.specs.KeyedReplies.{of_hashed, of_ordered}
use Rattle.ac_sequence_calls.specs.declared.sequence.Sequence.TheVariants.{List, Vector}
use Rattle.ac_objects.specs.declared.object.Object.{Object}
use Rattle.ac_objects.specs.declared.object.Object.TheVariants.{Integers, Texts, IntegerSet, TextSet, KeyedSet, IntegersByInteger, IntegersByText, TextsByInteger, TextsByText, IntegerTree, TextTree}
use Rattle.ac_base.specs.declared.keyed_text.KeyedText.{KeyedText}
use Rattle.ac_base.specs.declared.text.Text.{Text as TextKey}
use Rattle.ac_setwork.specs.declared.keys.OfKeyed.{OfKeyed}
use Rattle.ac_hashed.specs.declared.arrivals.Arrivals.{Arrivals}
use Rattle.ac_ordered.specs.declared.ascending.Ascending.{Ascending}
use Rattle.ac_keyed_calls.specs.declared.keyed_set.KeyedSet.{KeyedSet as KeyedTexts_by}
use Rattle.ac_objects.specs.declared.set.kinds.HashedSets.{HashedSets}
use Rattle.ac_objects.specs.declared.set.kinds.OrderedSets.{OrderedSets}
use Rattle.ac_keyed_calls.specs.declared.map.Map.TheVariants as map
use Rattle.ac_keyed_calls.specs.declared.set.Set.{Set}
use Rattle.ac_keyed_calls.specs.declared.set.Set.TheVariants as set
use Rattle.ac_keyed_calls.specs.KeyedSets.{keyed_items, keyed_kind}
use Rattle.ac_keyed_calls.specs.Maps.{MapOf, entries_of, map_kind_of}
use Rattle.ac_objects.specs.Sequences.{Sequence, rows_of, kind_of}
use Rattle.ac_keyed_calls.specs.Sets.{items_of, set_kind_of}
use Rattle.ac_objects.specs.World.{in_rows, memory_of}
use Rattle.ac_keyed_calls.proofs.KeyedOperations.{keyed_in}

-- which of its two a kind is

abbrev sequence_in : RowKind → SequenceKind
sequence_in (a_sequence which e) = which
sequence_in (a_map which k e) = of_list
sequence_in (a_set which e) = of_list
sequence_in (a_keyed_set which) = of_list
sequence_in (a_tree e) = of_list

list_is_none : of_list ≡ of_vector → ⊥
list_is_none e = cc

vector_is_none : of_vector ≡ of_list → ⊥
vector_is_none e = cc

hashed_is_none : of_hashed ≡ of_ordered → ⊥
hashed_is_none e = cc

ordered_is_none : of_ordered ≡ of_hashed → ⊥
ordered_is_none e = cc

-- the rows and the kind are all of it

same_sequence : {T : Type 0} (old new : Sequence T) → kind_of new ≡ kind_of old → rows_of new ≡ rows_of old → new ≡ old
same_sequence (List l) (List m) kind rows = λ i. List (record l { sequence = rows i })
same_sequence (List l) (Vector w) kind rows = absurd (vector_is_none kind)
same_sequence (Vector v) (List m) kind rows = absurd (list_is_none kind)
same_sequence (Vector v) (Vector w) kind rows = λ i. Vector (record v { sequence = rows i })

same_set : {T H O P I J : Type 0} (old new : Set T H O P I J) → set_kind_of new ≡ set_kind_of old → items_of new ≡ items_of old → new ≡ old
same_set (set.Hashed s) (set.Hashed t) kind rows = ap set.Hashed rows
same_set (set.Hashed s) (set.Ordered t) kind rows = absurd (ordered_is_none kind)
same_set (set.Ordered s) (set.Hashed t) kind rows = absurd (hashed_is_none kind)
same_set (set.Ordered s) (set.Ordered t) kind rows = ap set.Ordered rows

same_map : {V : Type 0} (old new : MapOf V) → map_kind_of new ≡ map_kind_of old → entries_of new ≡ entries_of old → new ≡ old
same_map (map.Hashed m) (map.Hashed n) kind rows = ap map.Hashed rows
same_map (map.Hashed m) (map.Ordered n) kind rows = absurd (ordered_is_none kind)
same_map (map.Ordered m) (map.Hashed n) kind rows = absurd (hashed_is_none kind)
same_map (map.Ordered m) (map.Ordered n) kind rows = ap map.Ordered rows

module _ (e : ElemKind) (wrap : Sequence (ElementOf e) → Object) (wrapped : (s : Sequence (ElementOf e)) → memory_of (wrap s) ≡ in_rows (a_sequence (kind_of s) e) (rows_of s))
    (old new : Sequence (ElementOf e)) (kept : a_sequence (kind_of new) e ≡ a_sequence (kind_of old) e) where
  pub sequence_now : memory_of (wrap new) ≡ in_rows (a_sequence (kind_of old) e) (rows_of new)
  sequence_now = wrapped new ∙ ap (λ which. in_rows (a_sequence which e) (rows_of new)) (ap sequence_in kept)

  pub sequence_same : rows_of new ≡ rows_of old → wrap new ≡ wrap old
  sequence_same rows = ap wrap (same_sequence old new (ap sequence_in kept) rows)

module _ {H O P I J : Type 0} (e : ElemKind) (wrap : Set (ElementOf e) H O P I J → Object) (wrapped : (s : Set (ElementOf e) H O P I J) → memory_of (wrap s) ≡ in_rows (a_set (set_kind_of s) e) (items_of s))
    (old new : Set (ElementOf e) H O P I J) (kept : a_set (set_kind_of new) e ≡ a_set (set_kind_of old) e) where
  pub set_now : memory_of (wrap new) ≡ in_rows (a_set (set_kind_of old) e) (items_of new)
  set_now = wrapped new ∙ ap (λ which. in_rows (a_set which e) (items_of new)) (ap keyed_in kept)

  pub set_same : items_of new ≡ items_of old → wrap new ≡ wrap old
  set_same rows = ap wrap (same_set old new (ap keyed_in kept) rows)

-- the one type of sets of texts with keys
abbrev pub KeyedTexts : Type 0
KeyedTexts = KeyedTexts_by HashedSets OrderedSets (Arrivals (OfKeyed KeyedText) KeyedText TextKey) (Ascending (OfKeyed KeyedText) KeyedText TextKey)

pub keyed_set : (s : KeyedTexts) → memory_of (KeyedSet s) ≡ in_rows (a_keyed_set (keyed_kind s)) (keyed_items s)
unfolding memory_of
keyed_set s = refl

module _ (old new : KeyedTexts) (kept : a_keyed_set (keyed_kind new) ≡ a_keyed_set (keyed_kind old)) where
  pub keyed_set_now : memory_of (KeyedSet new) ≡ in_rows (a_keyed_set (keyed_kind old)) (keyed_items new)
  keyed_set_now = keyed_set new ∙ ap (λ which. in_rows (a_keyed_set which) (keyed_items new)) (ap keyed_in kept)

  pub keyed_set_same : keyed_items new ≡ keyed_items old → KeyedSet new ≡ KeyedSet old
  keyed_set_same rows = λ i. KeyedSet (record { set = same_set old.set new.set (ap keyed_in kept) rows i })

module _ (k e : ElemKind) (wrap : MapOf (Entry (ElementOf k) (ElementOf e)) → Object) (wrapped : (s : MapOf (Entry (ElementOf k) (ElementOf e))) → memory_of (wrap s) ≡ in_rows (a_map (map_kind_of s) k e) (entries_of s))
    (old new : MapOf (Entry (ElementOf k) (ElementOf e))) (kept : a_map (map_kind_of new) k e ≡ a_map (map_kind_of old) k e) where
  pub map_now : memory_of (wrap new) ≡ in_rows (a_map (map_kind_of old) k e) (entries_of new)
  map_now = wrapped new ∙ ap (λ which. in_rows (a_map which k e) (entries_of new)) (ap keyed_in kept)

  pub map_same : entries_of new ≡ entries_of old → wrap new ≡ wrap old
  map_same rows = ap wrap (same_map old new (ap keyed_in kept) rows)

-- what each variant is in memory

pub integers : (s : Sequence ℤ) → memory_of (Integers s) ≡ in_rows (a_sequence (kind_of s) Integer) (rows_of s)
unfolding memory_of
integers s = refl

pub texts : (s : Sequence Text) → memory_of (Texts s) ≡ in_rows (a_sequence (kind_of s) Str) (rows_of s)
unfolding memory_of
texts s = refl

pub integer_set : (s : _) → memory_of (IntegerSet s) ≡ in_rows (a_set (set_kind_of s) Integer) (items_of s)
unfolding memory_of
integer_set s = refl

pub text_set : (s : _) → memory_of (TextSet s) ≡ in_rows (a_set (set_kind_of s) Str) (items_of s)
unfolding memory_of
text_set s = refl

pub integers_by_integer : (s : MapOf (Entry ℤ ℤ)) → memory_of (IntegersByInteger s) ≡ in_rows (a_map (map_kind_of s) Integer Integer) (entries_of s)
unfolding memory_of
integers_by_integer s = refl

pub integers_by_text : (s : MapOf (Entry Text ℤ)) → memory_of (IntegersByText s) ≡ in_rows (a_map (map_kind_of s) Str Integer) (entries_of s)
unfolding memory_of
integers_by_text s = refl

pub texts_by_integer : (s : MapOf (Entry ℤ Text)) → memory_of (TextsByInteger s) ≡ in_rows (a_map (map_kind_of s) Integer Str) (entries_of s)
unfolding memory_of
texts_by_integer s = refl

pub texts_by_text : (s : MapOf (Entry Text Text)) → memory_of (TextsByText s) ≡ in_rows (a_map (map_kind_of s) Str Str) (entries_of s)
unfolding memory_of
texts_by_text s = refl

pub integer_tree : (t : Container (Node ℤ)) → memory_of (IntegerTree t) ≡ in_rows (a_tree Integer) t
unfolding memory_of
integer_tree t = refl

pub text_tree : (t : Container (Node Text)) → memory_of (TextTree t) ≡ in_rows (a_tree Str) t
unfolding memory_of
text_tree t = refl
