-- An object of one type is found as no rows of another's kinds, and as no holder of another element type.
use Rattle.std.proofs.Common.{◌≡◌, refl, Some, None}
use Rattle.ac_syntax.specs.declared.kind.ElemKind.TheVariants.{Integer, Str}
use Rattle.ac_calls.specs.Holdings.{SequenceKind, a_sequence, a_map, a_set, a_keyed_set, a_tree, rows_in, holder_in}
use Rattle.ac_calls.specs.KeyedReplies.{KeyedKind}
use Rattle.ac_objects.specs.declared.object.Object.{Object}
use Rattle.ac_objects.specs.declared.object.Object.TheVariants.{Integers, Texts, IntegerSet, TextSet, KeyedSet, IntegersByInteger, IntegersByText, TextsByInteger, TextsByText, IntegerTree, TextTree, IntegerHolder, TextHolder, Queue}
use Rattle.ac_objects.specs.World.{memory_of, held_of}

pub no_integers : (which : SequenceKind) (s : Object) → ((x : _) → s ≡ Integers x → ⊥) → rows_in (a_sequence which Integer) (Some (held_of s)) ≡ None
unfolding memory_of
no_integers which (Integers x) none = absurd (none x refl)
no_integers which (Texts x) none = refl
no_integers which (IntegerSet x) none = refl
no_integers which (TextSet x) none = refl
no_integers which (KeyedSet x) none = refl
no_integers which (IntegersByInteger x) none = refl
no_integers which (IntegersByText x) none = refl
no_integers which (TextsByInteger x) none = refl
no_integers which (TextsByText x) none = refl
no_integers which (IntegerTree x) none = refl
no_integers which (TextTree x) none = refl
no_integers which (IntegerHolder x) none = refl
no_integers which (TextHolder x) none = refl
no_integers which (Queue x) none = refl

pub no_texts : (which : SequenceKind) (s : Object) → ((x : _) → s ≡ Texts x → ⊥) → rows_in (a_sequence which Str) (Some (held_of s)) ≡ None
unfolding memory_of
no_texts which (Integers x) none = refl
no_texts which (Texts x) none = absurd (none x refl)
no_texts which (IntegerSet x) none = refl
no_texts which (TextSet x) none = refl
no_texts which (KeyedSet x) none = refl
no_texts which (IntegersByInteger x) none = refl
no_texts which (IntegersByText x) none = refl
no_texts which (TextsByInteger x) none = refl
no_texts which (TextsByText x) none = refl
no_texts which (IntegerTree x) none = refl
no_texts which (TextTree x) none = refl
no_texts which (IntegerHolder x) none = refl
no_texts which (TextHolder x) none = refl
no_texts which (Queue x) none = refl

pub no_integer_set : (which : KeyedKind) (s : Object) → ((x : _) → s ≡ IntegerSet x → ⊥) → rows_in (a_set which Integer) (Some (held_of s)) ≡ None
unfolding memory_of
no_integer_set which (Integers x) none = refl
no_integer_set which (Texts x) none = refl
no_integer_set which (IntegerSet x) none = absurd (none x refl)
no_integer_set which (TextSet x) none = refl
no_integer_set which (KeyedSet x) none = refl
no_integer_set which (IntegersByInteger x) none = refl
no_integer_set which (IntegersByText x) none = refl
no_integer_set which (TextsByInteger x) none = refl
no_integer_set which (TextsByText x) none = refl
no_integer_set which (IntegerTree x) none = refl
no_integer_set which (TextTree x) none = refl
no_integer_set which (IntegerHolder x) none = refl
no_integer_set which (TextHolder x) none = refl
no_integer_set which (Queue x) none = refl

pub no_text_set : (which : KeyedKind) (s : Object) → ((x : _) → s ≡ TextSet x → ⊥) → rows_in (a_set which Str) (Some (held_of s)) ≡ None
unfolding memory_of
no_text_set which (Integers x) none = refl
no_text_set which (Texts x) none = refl
no_text_set which (IntegerSet x) none = refl
no_text_set which (TextSet x) none = absurd (none x refl)
no_text_set which (KeyedSet x) none = refl
no_text_set which (IntegersByInteger x) none = refl
no_text_set which (IntegersByText x) none = refl
no_text_set which (TextsByInteger x) none = refl
no_text_set which (TextsByText x) none = refl
no_text_set which (IntegerTree x) none = refl
no_text_set which (TextTree x) none = refl
no_text_set which (IntegerHolder x) none = refl
no_text_set which (TextHolder x) none = refl
no_text_set which (Queue x) none = refl

pub no_integers_by_integer : (which : KeyedKind) (s : Object) → ((x : _) → s ≡ IntegersByInteger x → ⊥) → rows_in (a_map which Integer Integer) (Some (held_of s)) ≡ None
unfolding memory_of
no_integers_by_integer which (Integers x) none = refl
no_integers_by_integer which (Texts x) none = refl
no_integers_by_integer which (IntegerSet x) none = refl
no_integers_by_integer which (TextSet x) none = refl
no_integers_by_integer which (KeyedSet x) none = refl
no_integers_by_integer which (IntegersByInteger x) none = absurd (none x refl)
no_integers_by_integer which (IntegersByText x) none = refl
no_integers_by_integer which (TextsByInteger x) none = refl
no_integers_by_integer which (TextsByText x) none = refl
no_integers_by_integer which (IntegerTree x) none = refl
no_integers_by_integer which (TextTree x) none = refl
no_integers_by_integer which (IntegerHolder x) none = refl
no_integers_by_integer which (TextHolder x) none = refl
no_integers_by_integer which (Queue x) none = refl

pub no_integers_by_text : (which : KeyedKind) (s : Object) → ((x : _) → s ≡ IntegersByText x → ⊥) → rows_in (a_map which Str Integer) (Some (held_of s)) ≡ None
unfolding memory_of
no_integers_by_text which (Integers x) none = refl
no_integers_by_text which (Texts x) none = refl
no_integers_by_text which (IntegerSet x) none = refl
no_integers_by_text which (TextSet x) none = refl
no_integers_by_text which (KeyedSet x) none = refl
no_integers_by_text which (IntegersByInteger x) none = refl
no_integers_by_text which (IntegersByText x) none = absurd (none x refl)
no_integers_by_text which (TextsByInteger x) none = refl
no_integers_by_text which (TextsByText x) none = refl
no_integers_by_text which (IntegerTree x) none = refl
no_integers_by_text which (TextTree x) none = refl
no_integers_by_text which (IntegerHolder x) none = refl
no_integers_by_text which (TextHolder x) none = refl
no_integers_by_text which (Queue x) none = refl

pub no_texts_by_integer : (which : KeyedKind) (s : Object) → ((x : _) → s ≡ TextsByInteger x → ⊥) → rows_in (a_map which Integer Str) (Some (held_of s)) ≡ None
unfolding memory_of
no_texts_by_integer which (Integers x) none = refl
no_texts_by_integer which (Texts x) none = refl
no_texts_by_integer which (IntegerSet x) none = refl
no_texts_by_integer which (TextSet x) none = refl
no_texts_by_integer which (KeyedSet x) none = refl
no_texts_by_integer which (IntegersByInteger x) none = refl
no_texts_by_integer which (IntegersByText x) none = refl
no_texts_by_integer which (TextsByInteger x) none = absurd (none x refl)
no_texts_by_integer which (TextsByText x) none = refl
no_texts_by_integer which (IntegerTree x) none = refl
no_texts_by_integer which (TextTree x) none = refl
no_texts_by_integer which (IntegerHolder x) none = refl
no_texts_by_integer which (TextHolder x) none = refl
no_texts_by_integer which (Queue x) none = refl

pub no_texts_by_text : (which : KeyedKind) (s : Object) → ((x : _) → s ≡ TextsByText x → ⊥) → rows_in (a_map which Str Str) (Some (held_of s)) ≡ None
unfolding memory_of
no_texts_by_text which (Integers x) none = refl
no_texts_by_text which (Texts x) none = refl
no_texts_by_text which (IntegerSet x) none = refl
no_texts_by_text which (TextSet x) none = refl
no_texts_by_text which (KeyedSet x) none = refl
no_texts_by_text which (IntegersByInteger x) none = refl
no_texts_by_text which (IntegersByText x) none = refl
no_texts_by_text which (TextsByInteger x) none = refl
no_texts_by_text which (TextsByText x) none = absurd (none x refl)
no_texts_by_text which (IntegerTree x) none = refl
no_texts_by_text which (TextTree x) none = refl
no_texts_by_text which (IntegerHolder x) none = refl
no_texts_by_text which (TextHolder x) none = refl
no_texts_by_text which (Queue x) none = refl

pub no_keyed_set : (which : KeyedKind) (s : Object) → ((x : _) → s ≡ KeyedSet x → ⊥) → rows_in (a_keyed_set which) (Some (held_of s)) ≡ None
unfolding memory_of
no_keyed_set which (Integers x) none = refl
no_keyed_set which (Texts x) none = refl
no_keyed_set which (IntegerSet x) none = refl
no_keyed_set which (TextSet x) none = refl
no_keyed_set which (KeyedSet x) none = absurd (none x refl)
no_keyed_set which (IntegersByInteger x) none = refl
no_keyed_set which (IntegersByText x) none = refl
no_keyed_set which (TextsByInteger x) none = refl
no_keyed_set which (TextsByText x) none = refl
no_keyed_set which (IntegerTree x) none = refl
no_keyed_set which (TextTree x) none = refl
no_keyed_set which (IntegerHolder x) none = refl
no_keyed_set which (TextHolder x) none = refl
no_keyed_set which (Queue x) none = refl

pub no_integer_tree : (s : Object) → ((x : _) → s ≡ IntegerTree x → ⊥) → rows_in (a_tree Integer) (Some (held_of s)) ≡ None
unfolding memory_of
no_integer_tree (Integers x) none = refl
no_integer_tree (Texts x) none = refl
no_integer_tree (IntegerSet x) none = refl
no_integer_tree (TextSet x) none = refl
no_integer_tree (KeyedSet x) none = refl
no_integer_tree (IntegersByInteger x) none = refl
no_integer_tree (IntegersByText x) none = refl
no_integer_tree (TextsByInteger x) none = refl
no_integer_tree (TextsByText x) none = refl
no_integer_tree (IntegerTree x) none = absurd (none x refl)
no_integer_tree (TextTree x) none = refl
no_integer_tree (IntegerHolder x) none = refl
no_integer_tree (TextHolder x) none = refl
no_integer_tree (Queue x) none = refl

pub no_text_tree : (s : Object) → ((x : _) → s ≡ TextTree x → ⊥) → rows_in (a_tree Str) (Some (held_of s)) ≡ None
unfolding memory_of
no_text_tree (Integers x) none = refl
no_text_tree (Texts x) none = refl
no_text_tree (IntegerSet x) none = refl
no_text_tree (TextSet x) none = refl
no_text_tree (KeyedSet x) none = refl
no_text_tree (IntegersByInteger x) none = refl
no_text_tree (IntegersByText x) none = refl
no_text_tree (TextsByInteger x) none = refl
no_text_tree (TextsByText x) none = refl
no_text_tree (IntegerTree x) none = refl
no_text_tree (TextTree x) none = absurd (none x refl)
no_text_tree (IntegerHolder x) none = refl
no_text_tree (TextHolder x) none = refl
no_text_tree (Queue x) none = refl

pub no_integer_holder : (s : Object) → ((x : _) → s ≡ IntegerHolder x → ⊥) → holder_in Integer (Some (held_of s)) ≡ None
unfolding memory_of
no_integer_holder (Integers x) none = refl
no_integer_holder (Texts x) none = refl
no_integer_holder (IntegerSet x) none = refl
no_integer_holder (TextSet x) none = refl
no_integer_holder (KeyedSet x) none = refl
no_integer_holder (IntegersByInteger x) none = refl
no_integer_holder (IntegersByText x) none = refl
no_integer_holder (TextsByInteger x) none = refl
no_integer_holder (TextsByText x) none = refl
no_integer_holder (IntegerTree x) none = refl
no_integer_holder (TextTree x) none = refl
no_integer_holder (IntegerHolder x) none = absurd (none x refl)
no_integer_holder (TextHolder x) none = refl
no_integer_holder (Queue x) none = refl

pub no_text_holder : (s : Object) → ((x : _) → s ≡ TextHolder x → ⊥) → holder_in Str (Some (held_of s)) ≡ None
unfolding memory_of
no_text_holder (Integers x) none = refl
no_text_holder (Texts x) none = refl
no_text_holder (IntegerSet x) none = refl
no_text_holder (TextSet x) none = refl
no_text_holder (KeyedSet x) none = refl
no_text_holder (IntegersByInteger x) none = refl
no_text_holder (IntegersByText x) none = refl
no_text_holder (TextsByInteger x) none = refl
no_text_holder (TextsByText x) none = refl
no_text_holder (IntegerTree x) none = refl
no_text_holder (TextTree x) none = refl
no_text_holder (IntegerHolder x) none = refl
no_text_holder (TextHolder x) none = absurd (none x refl)
no_text_holder (Queue x) none = refl
