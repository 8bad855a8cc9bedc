-- An object in memory with other counts of guards. A queue has none.
use Rattle.std.specs.Prelude.{◌≡◌, refl}
use Rattle.ac_base.specs.Guards.{GuardCounts}
use Rattle.ac_model.specs.Containers.{with_guards}
use Rattle.ac_forms.specs.HolderFields.{with_guards as holder_with}
use Rattle.ac_calls.specs.Elements.{Text}
use Rattle.ac_calls.specs.Holdings.{a_keyed_set}
use Rattle.ac_sequence_calls.specs.Sequences.{with_guards_by}
use Rattle.ac_sequence_calls.specs.declared.sequence.Sequence.TheVariants.{List, Vector}
use Rattle.ac_objects.specs.declared.object.Object.{Object}
use Rattle.ac_objects.specs.declared.object.Object.TheVariants.{Integers, Texts, IntegerSet, TextSet, KeyedSet, IntegersByInteger, IntegersByText, TextsByInteger, TextsByText, IntegerTree, TextTree, IntegerHolder, TextHolder, Queue}
use Rattle.ac_keyed_calls.specs.declared.map.Map.TheVariants as map
use Rattle.ac_keyed_calls.specs.declared.set.Set.{Set}
use Rattle.ac_keyed_calls.specs.declared.set.Set.TheVariants as set
use Rattle.ac_keyed_calls.specs.KeyedSets.{keyed_set_with}
use Rattle.ac_keyed_calls.specs.Maps.{map_with}
use Rattle.ac_objects.specs.Sequences.{Sequence}
use Rattle.ac_keyed_calls.specs.Sets.{items_of, set_kind_of, set_with}
use Rattle.ac_objects.specs.World.{InMemory, in_rows, in_holder, in_queue, memory_of}

-- with this number and these counts

abbrev pub sequence_with : {T : Type 0} → Sequence T → GuardCounts → Sequence T
sequence_with s counts = with_guards_by (λ l given. with_guards l given) (λ v given. with_guards v given) s counts

abbrev pub with_counts : Object → GuardCounts → Object
with_counts (Integers s) counts = Integers (sequence_with s counts)
with_counts (Texts s) counts = Texts (sequence_with s counts)
with_counts (IntegerSet s) counts = IntegerSet (set_with s counts)
with_counts (TextSet s) counts = TextSet (set_with s counts)
with_counts (KeyedSet s) counts = KeyedSet (keyed_set_with s counts)
with_counts (IntegersByInteger m) counts = IntegersByInteger (map_with m counts)
with_counts (IntegersByText m) counts = IntegersByText (map_with m counts)
with_counts (TextsByInteger m) counts = TextsByInteger (map_with m counts)
with_counts (TextsByText m) counts = TextsByText (map_with m counts)
with_counts (IntegerTree t) counts = IntegerTree (with_guards t counts)
with_counts (TextTree t) counts = TextTree (with_guards t counts)
with_counts (IntegerHolder h) counts = IntegerHolder (holder_with h counts)
with_counts (TextHolder h) counts = TextHolder (holder_with h counts)
with_counts (Queue q) counts = Queue q

-- in memory

abbrev pub counted_in : InMemory → GuardCounts → InMemory
counted_in (in_rows kind l) counts = in_rows kind (with_guards l counts)
counted_in (in_holder e h) counts = in_holder e (holder_with h counts)
counted_in (in_queue number q) counts = in_queue number q

keyed_counted : {H O I J : Type 0} (s : Set Text H O Text I J) (counts : GuardCounts) →
    in_rows (a_keyed_set (set_kind_of (set_with s counts))) (items_of (set_with s counts)) ≡ in_rows (a_keyed_set (set_kind_of s)) (with_guards (items_of s) counts)
keyed_counted (set.Hashed s) counts = refl
keyed_counted (set.Ordered s) counts = refl

pub memory_counted : (o : Object) (counts : GuardCounts) → memory_of (with_counts o counts) ≡ counted_in (memory_of o) counts
unfolding memory_of
memory_counted (Integers (List l)) counts = refl
memory_counted (Integers (Vector v)) counts = refl
memory_counted (Texts (List l)) counts = refl
memory_counted (Texts (Vector v)) counts = refl
memory_counted (IntegerSet (set.Hashed s)) counts = refl
memory_counted (IntegerSet (set.Ordered s)) counts = refl
memory_counted (TextSet (set.Hashed s)) counts = refl
memory_counted (TextSet (set.Ordered s)) counts = refl
memory_counted (KeyedSet s) counts = keyed_counted s.set counts
memory_counted (IntegersByInteger (map.Hashed m)) counts = refl
memory_counted (IntegersByInteger (map.Ordered m)) counts = refl
memory_counted (IntegersByText (map.Hashed m)) counts = refl
memory_counted (IntegersByText (map.Ordered m)) counts = refl
memory_counted (TextsByInteger (map.Hashed m)) counts = refl
memory_counted (TextsByInteger (map.Ordered m)) counts = refl
memory_counted (TextsByText (map.Hashed m)) counts = refl
memory_counted (TextsByText (map.Ordered m)) counts = refl
memory_counted (IntegerTree t) counts = refl
memory_counted (TextTree t) counts = refl
memory_counted (IntegerHolder h) counts = refl
memory_counted (TextHolder h) counts = refl
memory_counted (Queue q) counts = refl
