-- What the names in scope hold in memory, and the environment that it is.
use Rattle.std.specs.Prelude.{◌<◌, ⊤, ℕ, List, All, map}
use Rattle.ac_base.specs.declared.cursor.Cursor.{Cursor}
use Rattle.ac_base.specs.declared.cursor.Cursor.TheVariants as cursor
use Rattle.ac_model.specs.Containers.{Container}
use Rattle.ac_model.specs.Objects.{plain}
use Rattle.ac_model.specs.Cursors.{plain_mark}
use Rattle.ac_model.specs.Holders.{Holder}
use Rattle.ac_model.specs.Queues.{TaskQueue}
use Rattle.ac_queue.specs.Shared.{shared}
use Rattle.ac_syntax.specs.declared.kind.ElemKind.{ElemKind}
use Rattle.ac_syntax.specs.declared.kind.ElemKind.TheVariants.{Integer, Str}
use Rattle.ac_calls.specs.Holdings.{RowKind, RowOf, Held, of_rows, of_holder, of_queue, a_sequence, a_map, a_set, a_keyed_set, a_tree}
use Rattle.ac_calls.specs.Elements.{ElementOf}
use Rattle.ac_meaning.specs.Environment as meant
use Rattle.ac_meaning.specs.Numbers.{NumbersDiffer}
use Rattle.ac_objects.specs.declared.object.Object.{Object}
use Rattle.ac_objects.specs.declared.object.Object.TheVariants.{Integers, Texts, IntegerSet, TextSet, KeyedSet, IntegersByInteger, IntegersByText, TextsByInteger, TextsByText, IntegerTree, TextTree, IntegerHolder, TextHolder, Queue}
use Rattle.ac_calls.specs.Arguments.{SlotAgrees}
use Rattle.ac_objects.specs.Sequences.{rows_of, kind_of}
use Rattle.ac_keyed_calls.specs.Sets.{items_of, set_kind_of}
use Rattle.ac_keyed_calls.specs.KeyedSets.{keyed_items, keyed_kind}
use Rattle.ac_keyed_calls.specs.Maps.{entries_of, map_kind_of}
use Rattle.ac_objects.specs.declared.bound.Bound.{Bound}
use Rattle.ac_objects.specs.declared.bound.Bound.TheVariants as bound

-- the number of the next object, and how many blocks of tasks have begun
pub record Counters : Type 0 where
  pub next : ℕ
  pub blocks : ℕ

abbrev pub counted : (next blocks : ℕ) → Counters
counted next blocks = record { next = next; blocks = blocks }

-- where numbers run from this one
abbrev pub counted_from : ℕ → Counters
counted_from first = counted first 0

-- by the places of their names
pub record World : Type 0 where
  pub bounds : List Bound
  pub counters : Counters

abbrev pub world : List Bound → Counters → World
world bounds counters = record { bounds = bounds; counters = counters }

-- an object in memory: its kind, and its rows with the slots of their names, or a holder or a queue, which have no names
pub data InMemory : Type 0 where
  in_rows : (kind : RowKind) → Container (RowOf kind) → InMemory
  in_holder : (element : ElemKind) → Holder (ElementOf element) → InMemory
  in_queue : (number : ℕ) → TaskQueue → InMemory

unfoldable pub memory_of : Object → InMemory
memory_of (Integers s) = in_rows (a_sequence (kind_of s) Integer) (rows_of s)
memory_of (Texts s) = in_rows (a_sequence (kind_of s) Str) (rows_of s)
memory_of (IntegerSet s) = in_rows (a_set (set_kind_of s) Integer) (items_of s)
memory_of (TextSet s) = in_rows (a_set (set_kind_of s) Str) (items_of s)
memory_of (KeyedSet s) = in_rows (a_keyed_set (keyed_kind s)) (keyed_items s)
memory_of (IntegersByInteger m) = in_rows (a_map (map_kind_of m) Integer Integer) (entries_of m)
memory_of (IntegersByText m) = in_rows (a_map (map_kind_of m) Str Integer) (entries_of m)
memory_of (TextsByInteger m) = in_rows (a_map (map_kind_of m) Integer Str) (entries_of m)
memory_of (TextsByText m) = in_rows (a_map (map_kind_of m) Str Str) (entries_of m)
memory_of (IntegerTree t) = in_rows (a_tree Integer) t
memory_of (TextTree t) = in_rows (a_tree Str) t
memory_of (IntegerHolder h) = in_holder Integer h
memory_of (TextHolder h) = in_holder Str h
memory_of (Queue q) = in_queue q.tag (shared q.queue)

-- without the slots of names: as the meaning of scripts has them

abbrev pub held_in : InMemory → Held
held_in (in_rows kind l) = of_rows kind (plain l.object)
held_in (in_holder e h) = of_holder e h
held_in (in_queue number q) = of_queue number q

abbrev pub held_of : Object → Held
held_of o = held_in (memory_of o)

abbrev pub bound_of : Bound → meant.Bound
bound_of bound.Type = meant.binds_type
bound_of (bound.Object o) = meant.binds_object (held_of o)
bound_of (bound.Cursor c) = meant.binds_cursor (plain_mark c)
bound_of (bound.Value v) = meant.binds_value v
bound_of (bound.Element object at) = meant.binds_element object (plain_mark at)

abbrev pub state_of : World → meant.State
state_of w = record { bounds = map bound_of w.bounds; next = w.counters.next; blocks = w.counters.blocks }

-- Cursors

-- the slot of the cursor is the one that the object would find
abbrev pub AgreesIn : InMemory → Cursor → Type 0
AgreesIn (in_rows kind l) c = SlotAgrees l.object c
AgreesIn (in_holder e h) c = ⊤
AgreesIn (in_queue number q) c = ⊤

abbrev pub ObjectAgrees : Object → Cursor → Type 0
ObjectAgrees o c = AgreesIn (memory_of o) c

abbrev pub BoundAgrees : Bound → Cursor → Type 0
BoundAgrees bound.Type c = ⊤
BoundAgrees (bound.Object o) c = ObjectAgrees o c
BoundAgrees (bound.Cursor _) c = ⊤
BoundAgrees (bound.Value _) c = ⊤
BoundAgrees (bound.Element _ _) c = ⊤

-- its object was made
abbrev pub IsMade : ℕ → Cursor → Type 0
IsMade next cursor.NoElement = ⊤
IsMade next (cursor.At object name) = object < next

-- a cursor that a script can have: the one of an object that was made, with the slot that this one would find, if it is in scope
pub record IsKnown (w : World) (c : Cursor) : Type 0 where
  pub made : IsMade w.counters.next c
  pub agrees : All (λ b. BoundAgrees b c) w.bounds

-- the cursor that a name holds, or at which its element stands
abbrev pub cursor_in : Bound → Cursor
cursor_in bound.Type = cursor.NoElement
cursor_in (bound.Object _) = cursor.NoElement
cursor_in (bound.Cursor c) = c
cursor_in (bound.Value _) = cursor.NoElement
cursor_in (bound.Element object at) = at

-- numbers differ, and the cursors in scope are known
pub record IsSound (w : World) : Type 0 where
  pub numbers_differ : NumbersDiffer (state_of w)
  pub cursors_known : All (λ b. IsKnown w (cursor_in b)) w.bounds

-- cursors that were known are known
abbrev pub Persists : World → World → Type 0
Persists old new = (c : Cursor) → IsKnown old c → IsKnown new c
