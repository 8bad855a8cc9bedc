-- The objects of a script, of every kind and element type in one type, and the guards on them.
use Rattle.std.specs.Prelude.{◌≡◌, ℕ, ℤ, ◌+◌, Bool, true, false, not, ◌&&◌, ◌==◌, if◌then◌else◌, List, [], ◌∷◌, Option, Some, None, is_none, option_map, refl}
use Rattle.ac_base.specs.Key.{key_of_text}
use Rattle.ac_base.specs.declared.limit.Limit.{Limit}
use Rattle.ac_base.specs.declared.limit.Limit.TheVariants.{Unbounded, Bounded}
use Rattle.ac_base.specs.declared.value.Value.{Value}
use Rattle.ac_base.specs.declared.reason.Reason.{Reason}
use Rattle.ac_base.specs.declared.reason.Reason.TheVariants.{NoElement}
use Rattle.ac_base.specs.declared.guard.GuardKind.{GuardKind}
use Rattle.ac_base.specs.declared.guard.GuardKind.TheVariants as guard
use Rattle.ac_base.specs.Guards.{GuardCounts, HeldGuard, raised_kind}
use Rattle.ac_base.specs.Rows.{names}
use Rattle.ac_model.specs.Rows.{Entry, Node}
use Rattle.ac_model.specs.Objects.{Object, empty_object, length_of}
use Rattle.ac_model.specs.Holders.{Holder, empty_holder}
use Rattle.ac_model.specs.Queues.{Discipline, by_arrival, by_priority, empty_queue, TaskQueue}
use Rattle.ac_model.specs.Letters.{Mark}
use Rattle.ac_model.specs.Calls.{Call, Look, look}
use Rattle.ac_model.specs.Common.{under_guards}
use Rattle.ac_model.specs.KeyedSets as by_key
use Rattle.ac_model.specs.Cursors.{seen}
use Rattle.ac_model.specs.Trees.{seen_in_tree}
use Rattle.ac_syntax.specs.declared.kind.ElemKind.{ElemKind}
use Rattle.ac_syntax.specs.declared.kind.ElemKind.TheVariants.{Integer, Str}
use Rattle.ac_syntax.specs.declared.kind.Kind.{Kind}
use Rattle.ac_syntax.specs.declared.kind.Kind.TheVariants as kinds
use Rattle.ac_syntax.specs.declared.type_def.TypeDef.{TypeDef}
use Rattle.ac_syntax.specs.declared.operation.Operation.{Operation}
use Rattle.ac_syntax.specs.Kinds.{is_holder, is_queue}
use Rattle.ac_calls.specs.Elements.{Tools, ElementOf, tools_of, Text, text_in, texts, keyed_texts}
use Rattle.ac_calls.specs.Replies.{Arguments, Source, arguments_seen, source_in, Reply, carried}
use Rattle.ac_calls.specs.SequenceReplies.{OwnCalls, sequence_own}
use Rattle.ac_calls.specs.ListReplies.{list_reply}
use Rattle.ac_calls.specs.VectorReplies.{vector_reply}
use Rattle.ac_calls.specs.KeyedReplies.{KeyedKind, of_hashed, of_ordered, order_by}
use Rattle.ac_calls.specs.KeyedSetReplies.{keyed_set_reply}
use Rattle.ac_calls.specs.MapReplies.{map_own, map_reply}
use Rattle.ac_calls.specs.SetReplies.{set_own, set_reply}
use Rattle.ac_calls.specs.TreeReplies.{tree_own, tree_reply}
use Rattle.ac_calls.specs.HolderReplies.{holder_source, holder_element, holder_write, holder_listing, holder_reply}
use Rattle.ac_calls.specs.QueueReplies.{queue_listing, queue_reply}

-- the kinds whose objects are rows in an order that the program makes
pub data SequenceKind : Type 0 where
  of_list : SequenceKind
  of_vector : SequenceKind

-- the kinds whose objects have rows, with the types of their elements
pub data RowKind : Type 0 where
  a_sequence : SequenceKind → ElemKind → RowKind
  a_map : KeyedKind → (key element : ElemKind) → RowKind
  a_set : KeyedKind → ElemKind → RowKind
  -- of texts with keys
  a_keyed_set : KeyedKind → RowKind
  a_tree : ElemKind → RowKind

-- what a row holds
abbrev pub RowOf : RowKind → Type 0
RowOf (a_sequence _ e) = ElementOf e
RowOf (a_map _ k e) = Entry (ElementOf k) (ElementOf e)
RowOf (a_set _ e) = ElementOf e
RowOf (a_keyed_set _) = Text
RowOf (a_tree e) = Node (ElementOf e)

-- of any kind
pub data Held : Type 0 where
  of_rows : (kind : RowKind) → Object ℕ (RowOf kind) → Held
  of_holder : (element : ElemKind) → Holder (ElementOf element) → Held
  -- with its number
  of_queue : (number : ℕ) → TaskQueue → Held

-- a holder as an object: its number, its limit and its guards, and no rows
abbrev pub as_object : {T : Type 0} → Holder T → Object ℕ T
as_object h = record (empty_object false h.number h.limit) { cursor_guards = h.cursor_guards; element_guards = h.element_guards }

-- and the holder with such an object's counts of guards
abbrev pub counted_as : {T : Type 0} → Holder T → Object ℕ T → Holder T
counted_as h o = record h { cursor_guards = o.cursor_guards; element_guards = o.element_guards }

-- a queue as an object: its number and its limit alone. Guards are held on none
abbrev pub queue_object : ℕ → TaskQueue → Object ℕ ℤ
queue_object number q = empty_object false number q.queue.limit

-- what is told of objects with rows, whatever stands in them
module _ {A : Type 0} (f : (V : Type 0) → Object ℕ V → A) where
  abbrev pub from_rows : Held → A
  from_rows (of_rows kind o) = f _ o
  from_rows (of_holder e h) = f _ (as_object h)
  from_rows (of_queue number q) = f _ (queue_object number q)

-- and what is changed in them: of a holder its counts of guards, of a queue nothing
module _ (f : (V : Type 0) → Object ℕ V → Object ℕ V) where
  abbrev pub with_rows_by : Held → Held
  with_rows_by (of_rows kind o) = of_rows kind (f _ o)
  with_rows_by (of_holder e h) = of_holder e (counted_as h (f _ (as_object h)))
  with_rows_by (of_queue number q) = of_queue number q

-- the number that guards and cursors know an object by
abbrev pub number_of : Held → ℕ
number_of h = from_rows (λ V o. o.number) h

-- the names that a loop goes over
abbrev pub names_of : Held → List ℕ
names_of h = from_rows (λ V o. names o.rows) h

-- how many elements it has in rows
abbrev pub nodes_of : Held → ℕ
nodes_of h = from_rows (λ V o. length_of o) h

-- a holder with an element
abbrev pub holds_element : Held → Bool
holds_element (of_rows kind o) = false
holds_element (of_holder e h) = not (is_none h.element)
holds_element (of_queue number q) = false

abbrev pub are_sets : RowKind → Bool
are_sets (a_sequence _ _) = false
are_sets (a_map _ _ _) = false
are_sets (a_set _ _) = true
are_sets (a_keyed_set _) = true
are_sets (a_tree _) = false

-- a set has cursor guards alone
abbrev pub is_a_set : Held → Bool
is_a_set (of_rows kind o) = are_sets kind
is_a_set (of_holder e h) = false
is_a_set (of_queue number q) = false

-- trees have a root, at which something stands that is no element
abbrev pub have_root : RowKind → Bool
have_root (a_sequence _ _) = false
have_root (a_map _ _ _) = false
have_root (a_set _ _) = false
have_root (a_keyed_set _) = false
have_root (a_tree _) = true

abbrev pub has_root : Held → Bool
has_root (of_rows kind o) = have_root kind
has_root (of_holder e h) = false
has_root (of_queue number q) = false

-- guards are held on every object but a queue
abbrev pub takes_guards : Held → Bool
takes_guards (of_rows kind o) = true
takes_guards (of_holder e h) = true
takes_guards (of_queue number q) = false

-- Guards

abbrev pub Guards : Type 0
Guards = List HeldGuard

abbrev pub is_kind : GuardKind → GuardKind → Bool
is_kind guard.Cursors guard.Cursors = true
is_kind guard.Cursors guard.Elements = false
is_kind guard.Elements guard.Cursors = false
is_kind guard.Elements guard.Elements = true

abbrev pub is_on : HeldGuard → ℕ → GuardKind → Bool
is_on g number kind = (g.object == number) && is_kind g.kind kind

-- how many guards of the kind are held on the object with this number
abbrev pub held_on : Guards → ℕ → GuardKind → ℕ
held_on [] number kind = 0
held_on (g ∷ guards) number kind = (if is_on g number kind then 1 else 0) + held_on guards number kind

abbrev pub counts_on : Guards → ℕ → GuardCounts
counts_on guards number =
    record { number = number; cursor_guards = held_on guards number guard.Cursors; element_guards = held_on guards number guard.Elements }

-- an object as its calls find it while these guards are held
abbrev pub guarded : Guards → (V : Type 0) → Object ℕ V → Object ℕ V
guarded guards V o = under_guards o (counts_on guards o.number)

-- and as the environment keeps it: which guards are held is told by the blocks alone
abbrev pub at_rest : (V : Type 0) → Object ℕ V → Object ℕ V
at_rest V o = guarded [] V o

abbrev pub held_under : Guards → Held → Held
held_under guards h = with_rows_by (guarded guards) h

abbrev pub held_at_rest : Held → Held
held_at_rest h = with_rows_by at_rest h

-- the guard of a block on an object
abbrev pub guard_on : Held → GuardKind → HeldGuard
guard_on h kind = record { object = number_of h; kind = raised_kind (is_a_set h) kind }

-- Calls

-- whether two kinds are one

abbrev pub both_same : {A B C : Type 0} → (A → B → C) → Option A → Option B → Option C
both_same f None b = None
both_same f (Some a) None = None
both_same f (Some a) (Some b) = Some (f a b)

abbrev pub all_same : {A B C D : Type 0} → (A → B → C → D) → Option A → Option B → Option C → Option D
all_same f None b c = None
all_same f (Some a) b c = both_same (f a) b c

abbrev pub same_element : (a b : ElemKind) → Option (a ≡ b)
same_element Integer Integer = Some refl
same_element Integer Str = None
same_element Str Integer = None
same_element Str Str = Some refl

abbrev pub same_sequence : (a b : SequenceKind) → Option (a ≡ b)
same_sequence of_list of_list = Some refl
same_sequence of_list of_vector = None
same_sequence of_vector of_list = None
same_sequence of_vector of_vector = Some refl

abbrev pub same_keyed : (a b : KeyedKind) → Option (a ≡ b)
same_keyed of_hashed of_hashed = Some refl
same_keyed of_hashed of_ordered = None
same_keyed of_ordered of_hashed = None
same_keyed of_ordered of_ordered = Some refl

abbrev pub same_kind : (a b : RowKind) → Option (a ≡ b)
same_kind (a_sequence which e) (a_sequence other f) =
    both_same (λ p q i. a_sequence (q i) (p i)) (same_element e f) (same_sequence which other)
same_kind (a_map which k e) (a_map other l f) =
    all_same (λ p q r i. a_map (r i) (p i) (q i)) (same_element k l) (same_element e f) (same_keyed which other)
same_kind (a_set which e) (a_set other f) = both_same (λ p q i. a_set (q i) (p i)) (same_element e f) (same_keyed which other)
same_kind (a_keyed_set which) (a_keyed_set other) = option_map (λ p i. a_keyed_set (p i)) (same_keyed which other)
same_kind (a_tree e) (a_tree f) = option_map (λ p i. a_tree (p i)) (same_element e f)
same_kind _ _ = None

-- a held object as one of this kind
abbrev pub rows_in : (kind : RowKind) → Option Held → Option (Object ℕ (RowOf kind))
rows_in kind None = None
rows_in kind (Some (of_rows other o)) = option_map (λ p. coe 0 1 (i. Object ℕ (RowOf (p i))) o) (same_kind other kind)
rows_in kind (Some (of_holder e h)) = None
rows_in kind (Some (of_queue number q)) = None

-- and as a holder of such elements
abbrev pub holder_in : (e : ElemKind) → Option Held → Option (Holder (ElementOf e))
holder_in e None = None
holder_in e (Some (of_rows kind o)) = None
holder_in e (Some (of_queue number q)) = None
holder_in e (Some (of_holder other h)) = option_map (λ p. coe 0 1 (i. Holder (ElementOf (p i))) h) (same_element other e)

-- the operation on a list or a vector
module _ {T : Type 0} (tools : Tools T) (o : Object ℕ T) (source : Source (Object ℕ T)) (args : Arguments) where
  abbrev pub reply_by : SequenceKind → Operation → Reply (Object ℕ T)
  reply_by of_list operation = list_reply tools o source args operation
  reply_by of_vector operation = vector_reply tools o source args operation

-- and on an object of any of these kinds
abbrev pub rows_reply : (kind : RowKind) → Object ℕ (RowOf kind) → Source (Object ℕ (RowOf kind)) → Arguments → Operation →
    Reply (Object ℕ (RowOf kind))
rows_reply (a_sequence which e) o source args operation = reply_by (tools_of e) o source args which operation
rows_reply (a_map which k e) o source args operation = map_reply (tools_of k) (tools_of e) o source args which operation
rows_reply (a_set which e) o source args operation = set_reply (tools_of e) o source args which operation
rows_reply (a_keyed_set which) o source args operation = keyed_set_reply o source args which operation
rows_reply (a_tree e) o source args operation = tree_reply (tools_of e) o source args operation

-- what a cursor is to an object: where it is a tree, something stands at the root too, though no row has it
abbrev pub seen_by_root : {V : Type 0} → Bool → Object ℕ V → Mark → Mark
seen_by_root false o c = seen o c
seen_by_root true o c = seen_in_tree o c

abbrev pub seen_in : {V : Type 0} → RowKind → Object ℕ V → Mark → Mark
seen_in kind o c = seen_by_root (have_root kind) o c

-- and of any kind, with the object among the arguments, if there is one
abbrev pub reply_of : Held → Option Held → Operation → Arguments → Reply Held
reply_of (of_rows kind o) source operation args =
    carried (of_rows kind)
    (rows_reply kind o (source_in (seen_in kind) o (rows_in kind source) args) (arguments_seen (seen_in kind o) args) operation)
reply_of (of_holder e h) source operation args =
    carried (of_holder e) (holder_reply (tools_of e) h (holder_source h (holder_in e source) args) args operation)
reply_of (of_queue number q) source operation args = carried (of_queue number) (queue_reply q args operation)

-- The element that a name stands for

-- what each kind means in its own way
abbrev pub own_calls : (kind : RowKind) → Object ℕ (RowOf kind) → OwnCalls (RowOf kind)
own_calls (a_sequence which e) o = sequence_own (tools_of e) o
own_calls (a_map which k e) o = map_own (tools_of k) (tools_of e) which o
own_calls (a_set which e) o = set_own (tools_of e) (order_by (tools_of e) which) o
own_calls (a_keyed_set which) o = set_own keyed_texts (order_by keyed_texts which) o
own_calls (a_tree e) o = tree_own (tools_of e) o

-- Element (C), as a value. A holder has one element, and no cursor designates it; no name stands for an item of a queue
abbrev pub element_value : Held → Mark → Look (Option Value)
element_value (of_rows kind o) c = (own_calls kind o).element (seen_in kind o c)
element_value (of_holder e h) c = holder_element (tools_of e) h
element_value (of_queue number q) c = look (Some NoElement) None

-- a write through a name that stands for an element
pub record Written : Type 0 where
  pub reason : Option Reason
  pub after : Held

abbrev pub written : {S A : Type 0} → (S → Held) → Call S A → Written
written hold c = record { reason = c.reason; after = hold c.after }

abbrev pub write : Held → Mark → Value → Written
write (of_rows kind o) c v = written (of_rows kind) ((own_calls kind o).write (seen_in kind o c) v)
write (of_holder e h) c v = written (of_holder e) (holder_write (tools_of e) h v)
write (of_queue number q) c v = record { reason = Some NoElement; after = of_queue number q }

-- the text that Print answers
abbrev pub listing_of : Held → List ℕ
listing_of (of_rows kind o) = (own_calls kind o).listing
listing_of (of_holder e h) = holder_listing (tools_of e) h
listing_of (of_queue number q) = queue_listing q

-- The update of a key: why its head is refused, and its end, with the copy. Only a keyed set has one
abbrev pub key_update_reason : Held → Mark → Option Reason
key_update_reason (of_rows (a_keyed_set which) o) c = by_key.update_key_reason o (seen o c)
key_update_reason (of_rows _ o) c = Some NoElement
key_update_reason (of_holder e h) c = Some NoElement
key_update_reason (of_queue number q) c = Some NoElement

abbrev pub key_updated : Held → Mark → Value → Written
key_updated (of_rows (a_keyed_set which) o) c v =
    written (of_rows (a_keyed_set which)) (by_key.end_update_key_call key_of_text (order_by texts which) o (seen o c) (text_in v))
key_updated (of_rows kind o) c v = record { reason = None; after = of_rows kind o }
key_updated (of_holder e h) c v = record { reason = None; after = of_holder e h }
key_updated (of_queue number q) c v = record { reason = None; after = of_queue number q }

-- A new object

abbrev pub limit_by : Option ℕ → Limit
limit_by None = Unbounded
limit_by (Some most) = Bounded most

-- which have a Capacity
abbrev pub is_vector : SequenceKind → Bool
is_vector of_list = false
is_vector of_vector = true

abbrev pub is_hashed : KeyedKind → Bool
is_hashed of_hashed = true
is_hashed of_ordered = false

abbrev pub have_capacity : RowKind → Bool
have_capacity (a_sequence which e) = is_vector which
have_capacity (a_map which k e) = is_hashed which
have_capacity (a_set which e) = is_hashed which
have_capacity (a_keyed_set which) = is_hashed which
have_capacity (a_tree e) = false

abbrev pub element_or : ElemKind → Option ElemKind → ElemKind
element_or first None = first
element_or first (Some second) = second

abbrev pub set_by : KeyedKind → ElemKind → (keyed : Bool) → RowKind
set_by which first false = a_set which first
set_by which first true = a_keyed_set which

-- of the kinds with rows whose objects scripts can have
abbrev pub kind_by : Kind → (first : ElemKind) → (second : Option ElemKind) → (keyed : Bool) → RowKind
kind_by kinds.Vector first second keyed = a_sequence of_vector first
kind_by kinds.HashedMap first second keyed = a_map of_hashed first (element_or first second)
kind_by kinds.OrderedMap first second keyed = a_map of_ordered first (element_or first second)
kind_by kinds.HashedSet first second keyed = set_by of_hashed first keyed
kind_by kinds.OrderedSet first second keyed = set_by of_ordered first keyed
kind_by kinds.Tree first second keyed = a_tree first
kind_by _ first second keyed = a_sequence of_list first

abbrev pub discipline_by : Kind → Discipline
discipline_by kinds.PriorityQueue = by_priority
discipline_by _ = by_arrival

-- a new object of the type, of this number and within this limit
abbrev pub new_within : TypeDef → ℕ → Limit → Held
new_within def number limit =
    let kind = kind_by def.kind def.first def.second def.keyed in
    if is_holder def.kind then of_holder def.first (empty_holder number limit)
    else if is_queue def.kind then of_queue number (record { discipline = discipline_by def.kind; queue = empty_queue limit })
    else of_rows kind (empty_object (have_capacity kind) number limit)

-- a holder's capacity is a limit in bytes
abbrev pub new_held : TypeDef → ℕ → Option ℕ → Held
new_held def number capacity = new_within def number (limit_by capacity)
