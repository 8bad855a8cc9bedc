-- The variables and objects of an environment as plain values, each with its name. A type or a cursor variable is none.
use Rattle.std.specs.Prelude.{◌≡◌, ℕ, Bool, true, false, List, Option, Some, None, unwrap_or, is_some}
use Rattle.std.specs.List.{filter_map, zip}
use Rattle.ac_base.specs.declared.limit.Limit.{Limit}
use Rattle.ac_base.specs.declared.limit.Limit.TheVariants.{Unbounded, Bounded}
use Rattle.ac_base.specs.declared.value.Value.{Value}
use Rattle.ac_base.specs.declared.value.Value.TheVariants as value
use Rattle.ac_model.specs.Queues.{Discipline, by_arrival, by_priority}
use Rattle.ac_syntax.specs.declared.kind.ElemKind.{ElemKind}
use Rattle.ac_syntax.specs.declared.kind.ElemKind.TheVariants.{Integer, Str}
use Rattle.ac_syntax.specs.declared.kind.Kind.{Kind}
use Rattle.ac_syntax.specs.declared.kind.Kind.TheVariants as kinds
use Rattle.ac_syntax.specs.declared.type_def.TypeDef.{TypeDef}
use Rattle.ac_rules.specs.Rules.{is_type}
use Rattle.ac_calls.specs.Holdings.{SequenceKind, of_list, of_vector, RowKind, a_sequence, a_map, a_set, a_keyed_set, a_tree, Held, of_rows, of_holder, of_queue, have_capacity, new_held}
use Rattle.ac_calls.specs.KeyedReplies.{KeyedKind, of_hashed, of_ordered}
use Rattle.ac_calls.specs.PlainRows.{plain_rows}
use Rattle.ac_calls.specs.declared.plains.Plain.{Plain}
use Rattle.ac_calls.specs.declared.plains.Plain.TheVariants as plain
use Rattle.ac_meaning.specs.AsDeclared.{limit_of}
use Rattle.ac_meaning.specs.Environment.{Bound, binds_type, binds_object, binds_cursor, binds_value, binds_element, State}

abbrev pub is_bounded : Limit → Bool
is_bounded Unbounded = false
is_bounded (Bounded most) = true

abbrev pub limit_number : Limit → Option ℕ
limit_number Unbounded = None
limit_number (Bounded most) = Some most

-- The type of an object, as its kind and its limit tell it

abbrev pub a_def : (bounded : Bool) → Kind → (first : ElemKind) → (second : Option ElemKind) → (keyed : Bool) → TypeDef
a_def bounded kind first second keyed = record { bounded = bounded; kind = kind; first = first; second = second; keyed = keyed }

abbrev pub sequence_kind : SequenceKind → Kind
sequence_kind of_list = kinds.List
sequence_kind of_vector = kinds.Vector

abbrev pub map_kind : KeyedKind → Kind
map_kind of_hashed = kinds.HashedMap
map_kind of_ordered = kinds.OrderedMap

abbrev pub set_kind : KeyedKind → Kind
set_kind of_hashed = kinds.HashedSet
set_kind of_ordered = kinds.OrderedSet

abbrev pub queue_kind : Discipline → Kind
queue_kind by_arrival = kinds.Queue
queue_kind by_priority = kinds.PriorityQueue

abbrev pub rows_def : (bounded : Bool) → RowKind → TypeDef
rows_def bounded (a_sequence which e) = a_def bounded (sequence_kind which) e None false
rows_def bounded (a_map which k e) = a_def bounded (map_kind which) k (Some e) false
rows_def bounded (a_set which e) = a_def bounded (set_kind which) e None false
rows_def bounded (a_keyed_set which) = a_def bounded (set_kind which) Str None true
rows_def bounded (a_tree e) = a_def bounded kinds.Tree e None false

abbrev pub def_of : Held → TypeDef
def_of (of_rows kind o) = rows_def (is_bounded o.limit) kind
def_of (of_holder e h) = a_def (is_bounded h.limit) kinds.Holder e None false
def_of (of_queue number q) = a_def (is_bounded q.queue.limit) (queue_kind q.discipline) Integer None false

-- The Capacity of an unbounded vector or hashed container, and the greatest use of a queue

abbrev pub unless_bounded : Limit → ℕ → Option ℕ
unless_bounded Unbounded capacity = Some capacity
unless_bounded (Bounded most) capacity = None

abbrev pub shown_capacity : (has : Bool) → Limit → Option ℕ → Option ℕ
shown_capacity false limit capacity = None
shown_capacity true limit capacity = unless_bounded limit (unwrap_or capacity 0)

abbrev pub capacity_in : Held → Option ℕ
capacity_in (of_rows kind o) = shown_capacity (have_capacity kind) o.limit o.capacity
capacity_in (of_holder e h) = None
capacity_in (of_queue number q) = None

abbrev pub peak_in : Held → Option ℕ
peak_in (of_rows kind o) = None
peak_in (of_holder e h) = None
peak_in (of_queue number q) = Some q.queue.peak

-- What a name holds

abbrev pub plain_object : (name : List ℕ) → Held → Plain
plain_object name h = plain.Object name (def_of h) (limit_number (limit_of h)) (capacity_in h) (peak_in h) (plain_rows h)

abbrev pub plain_value : (name : List ℕ) → Value → Plain
plain_value name (value.Int n) = plain.Int name n
plain_value name (value.Text bytes) = plain.Str name bytes

abbrev pub plain_in : (name : List ℕ) → Bound → Option Plain
plain_in name binds_type = None
plain_in name (binds_object h) = Some (plain_object name h)
plain_in name (binds_cursor mark) = None
plain_in name (binds_value v) = Some (plain_value name v)
plain_in name (binds_element object at) = None

-- each name in its place, in order
abbrev pub plains_of : (names : List (List ℕ)) → State → List Plain
plains_of names e = filter_map (λ (named : List ℕ × Bound). plain_in named.0 named.1) (zip names e.bounds)

-- the type that is told of a new object is the one that it was declared with
pub record TypesTold : Type 0 where
  pub declared : (def : TypeDef) (number : ℕ) (capacity : Option ℕ) → is_type def ≡ true → is_some capacity ≡ def.bounded →
      def_of (new_held def number capacity) ≡ def
