-- What is told of a sound object that is as it was declared is valid.
use Rattle.std.proofs.Common.{◌≡◌, ◌≤◌, ℕ, ℤ, Bool, true, false, not, ◌&&◌, List, map, length, Option, Some, None, refl, sym, ap, ap₂, subst, ◌∙◌, true≢false}
use Rattle.std.specs.Prelude.{if◌then◌else◌, nat_le, is_some, IfSome, unwrap_or}
use Rattle.std.specs.List.{list_all}
use Rattle.std.proofs.lemmas.Bool.{and_from, le-leb, ltb-false}
use Rattle.std.proofs.lemmas.List.{length-map}
use Rattle.ac_base.specs.declared.limit.Limit.{Limit}
use Rattle.ac_base.specs.declared.limit.Limit.TheVariants.{Unbounded, Bounded}
use Rattle.ac_base.specs.declared.limit.TheConstants.{GREATEST_LENGTH}
use Rattle.ac_base.specs.Limits.{is_past}
use Rattle.ac_model.specs.Holders.{empty_holder}
use Rattle.ac_model.specs.Objects.{empty_object, CapacityFits}
use Rattle.ac_model.specs.Queues.{Discipline, by_arrival, by_priority, LimitInRange, Queue, IsValidQueue, empty_queue}
use Rattle.ac_syntax.specs.Kinds.{is_holder, is_queue, has_capacity}
use Rattle.ac_syntax.specs.declared.kind.Kind.TheVariants as kinds
use Rattle.ac_syntax.specs.declared.kind.ElemKind.TheVariants.{Integer}
use Rattle.ac_syntax.specs.declared.type_def.TypeDef.{TypeDef}
use Rattle.ac_rules.specs.Rules.{is_type, is_object_of}
use Rattle.ac_calls.specs.Holdings.{of_list, of_vector, RowKind, a_sequence, a_map, a_set, a_keyed_set, a_tree, Held, of_rows, of_holder, of_queue, have_capacity, discipline_by, kind_by, limit_by, new_held}
use Rattle.ac_calls.specs.KeyedReplies.{of_hashed, of_ordered}
use Rattle.ac_calls.specs.PlainRows.{item_form, row_form, plain_rows}
use Rattle.ac_calls.specs.declared.plains.PlainRow.{PlainRow}
use Rattle.ac_meaning.specs.AsDeclared.{limit_of, capacity_of, has_capacity as shape_has_capacity, IsCapacityIn, IsObjectOf, declared_shape}
use Rattle.ac_meaning.specs.HoldsTypes.{Shape, has_rows, has_place, has_line, shape_of}
use Rattle.ac_meaning.specs.Plains.{a_def, is_bounded, limit_number, queue_kind, rows_def, def_of, shown_capacity, capacity_in, peak_in}
use Rattle.ac_meaning.proofs.TypesTold.{type_told}
use Rattle.ac_snapshot.specs.Representable.{is_row_representable}
use Rattle.ac_snapshot.specs.RowValidity.{is_given, are_valid_rows}
use Rattle.ac_snapshot.specs.Validity.{is_step, is_limit_of, is_capacity_of, is_peak_of, is_valid_object}
use Rattle.ac_snapshot.proofs.Decided.{step_decided}
use Rattle.ac_plains.specs.ValidStates.{IsSoundHeld}
use Rattle.ac_plains.proofs.SoundRows.{sound_object, length_held, holder_def, queue_def, kind_rows, holder_rows, queue_rows}

-- The type that is told is the one that was declared

abbrev shape_def : (bounded : Bool) → Shape → TypeDef
shape_def bounded (has_rows kind) = rows_def bounded kind
shape_def bounded (has_place e) = a_def bounded kinds.Holder e None false
shape_def bounded (has_line d) = a_def bounded (queue_kind d) Integer None false

def_by_shape : (h : Held) → def_of h ≡ shape_def (is_bounded (limit_of h)) (shape_of h)
def_by_shape (of_rows kind o) = refl
def_by_shape (of_holder e h) = refl
def_by_shape (of_queue number q) = refl

same_def : (h other : Held) → limit_of h ≡ limit_of other → shape_of h ≡ shape_of other → def_of h ≡ def_of other
same_def h other limit shape =
    def_by_shape h ∙ ap₂ (λ l s. shape_def (is_bounded l) s) limit shape ∙ sym (def_by_shape other)

-- by whether it is a holder, and whether a queue
abbrev made : TypeDef → Limit → (holder queue : Bool) → Held
made def limit holder queue =
    let kind = kind_by def.kind def.first def.second def.keyed in
    if holder then of_holder def.first (empty_holder 0 limit)
    else if queue then of_queue 0 (record { discipline = discipline_by def.kind; queue = empty_queue limit })
    else of_rows kind (empty_object (have_capacity kind) 0 limit)

limit_made : (def : TypeDef) (limit : Limit) (holder queue : Bool) → limit_of (made def limit holder queue) ≡ limit
limit_made def limit true queue = refl
limit_made def limit false true = refl
limit_made def limit false false = refl

shape_made : (def : TypeDef) (limit other : Limit) (holder queue : Bool) → shape_of (made def limit holder queue) ≡ shape_of (made def other holder queue)
shape_made def limit other true queue = refl
shape_made def limit other false true = refl
shape_made def limit other false false = refl

bounded_by : (bounded : Bool) (def : TypeDef) (capacity : Option ℕ) → def.bounded ≡ bounded → is_object_of (Some def) capacity ≡ true → is_some capacity ≡ bounded
bounded_by true def None is h = absurd (true≢false (sym h ∙ ap not is))
bounded_by true def (Some most) is h = refl
bounded_by false def None is h = refl
bounded_by false def (Some most) is h = absurd (true≢false (sym h ∙ is))

def_declared : (def : TypeDef) (capacity : Option ℕ) (h : Held) → is_type def ≡ true → is_object_of (Some def) capacity ≡ true →
    IsObjectOf (declared_shape def) (limit_by capacity) h → def_of h ≡ def
def_declared def capacity h is alike own =
    let holder = is_holder def.kind in
    let queue = is_queue def.kind in
    same_def h (new_held def 0 capacity) (own.within ∙ sym (limit_made def (limit_by capacity) holder queue))
    (own.of_shape ∙ shape_made def Unbounded (limit_by capacity) holder queue)
    ∙ type_told def 0 capacity is (bounded_by def.bounded def capacity refl alike)

-- Its limit

limit_given : (limit : Limit) → LimitInRange limit → is_given (is_bounded limit) (λ most. nat_le most GREATEST_LENGTH) (limit_number limit) ≡ true
limit_given Unbounded h = refl
limit_given (Bounded most) h = le-leb most GREATEST_LENGTH h

bounded_told : (bounded : Bool) (kind : RowKind) → (rows_def bounded kind).bounded ≡ bounded
bounded_told bounded (a_sequence _ _) = refl
bounded_told bounded (a_map _ _ _) = refl
bounded_told bounded (a_set _ _) = refl
bounded_told bounded (a_keyed_set _) = refl
bounded_told bounded (a_tree _) = refl

-- Its Capacity

capacity_given : (has : Bool) (limit : Limit) (capacity : Option ℕ) (n : ℕ) → is_some capacity ≡ has → IfSome capacity (IsCapacityIn limit) →
    IfSome capacity (λ c. CapacityFits limit n c) →
    is_given (not (is_bounded limit) && has) (λ c. is_step c && nat_le n c) (shown_capacity has limit capacity) ≡ true
capacity_given false Unbounded capacity n has own fits = refl
capacity_given false (Bounded most) capacity n has own fits = refl
capacity_given true Unbounded None n has own fits = absurd (true≢false (sym has))
capacity_given true Unbounded (Some c) n has own fits = and_from (is_step c) (nat_le n c) ((step_decided c).1 own) (le-leb n c fits)
capacity_given true (Bounded most) capacity n has own fits = refl

capacity_told : (bounded : Bool) (kind : RowKind) → has_capacity (rows_def bounded kind).kind ≡ have_capacity kind
capacity_told bounded (a_sequence of_list _) = refl
capacity_told bounded (a_sequence of_vector _) = refl
capacity_told bounded (a_map of_hashed _ _) = refl
capacity_told bounded (a_map of_ordered _ _) = refl
capacity_told bounded (a_set of_hashed _) = refl
capacity_told bounded (a_set of_ordered _) = refl
capacity_told bounded (a_keyed_set of_hashed) = refl
capacity_told bounded (a_keyed_set of_ordered) = refl
capacity_told bounded (a_tree _) = refl

none_wanted : (bounded : Bool) → not (not bounded && false) ≡ true
none_wanted true = refl
none_wanted false = refl

-- Its greatest use

no_queue : (bounded : Bool) (kind : RowKind) → is_queue (rows_def bounded kind).kind ≡ false
no_queue bounded (a_sequence of_list _) = refl
no_queue bounded (a_sequence of_vector _) = refl
no_queue bounded (a_map of_hashed _ _) = refl
no_queue bounded (a_map of_ordered _ _) = refl
no_queue bounded (a_set of_hashed _) = refl
no_queue bounded (a_set of_ordered _) = refl
no_queue bounded (a_keyed_set of_hashed) = refl
no_queue bounded (a_keyed_set of_ordered) = refl
no_queue bounded (a_tree _) = refl

peak_below : (limit : Limit) (peak : ℕ) → peak ≤ GREATEST_LENGTH → is_past limit peak ≡ false → nat_le peak (unwrap_or (limit_number limit) GREATEST_LENGTH) ≡ true
peak_below Unbounded peak most within = le-leb peak GREATEST_LENGTH most
peak_below (Bounded limit) peak most within = le-leb peak limit (ltb-false limit peak within)

peak_given : (limit : Limit) (peak : ℕ) (items : List ℤ) → length items ≤ peak → peak ≤ GREATEST_LENGTH → is_past limit peak ≡ false →
    (nat_le (length (map item_form items)) peak && nat_le peak (unwrap_or (limit_number limit) GREATEST_LENGTH)) ≡ true
peak_given limit peak items few most within =
    and_from (nat_le (length (map item_form items)) peak) (nat_le peak (unwrap_or (limit_number limit) GREATEST_LENGTH))
    (le-leb (length (map item_form items)) peak (subst (λ n. n ≤ peak) (sym (length-map items item_form)) few)) (peak_below limit peak most within)

-- All of it

module _ (def : TypeDef) (limit capacity peak : Option ℕ) (rows : List PlainRow) where
  in_parts : is_type def ≡ true → is_limit_of def limit ≡ true → is_capacity_of def rows capacity ≡ true → is_peak_of def limit rows peak ≡ true →
      are_valid_rows def limit rows ≡ true → is_valid_object def limit capacity peak rows ≡ true
  in_parts typed bound room used stand =
      let behind_use = is_peak_of def limit rows peak && are_valid_rows def limit rows in
      let behind_room = is_capacity_of def rows capacity && behind_use in
      and_from (is_type def) (is_limit_of def limit && behind_room) typed
      (and_from (is_limit_of def limit) behind_room bound
      (and_from (is_capacity_of def rows capacity) behind_use room (and_from (is_peak_of def limit rows peak) (are_valid_rows def limit rows) used stand)))

queue_valid : (d : Discipline) (q : Queue) → IsValidQueue d q → q.peak ≤ GREATEST_LENGTH → LimitInRange q.limit →
    list_all is_row_representable (map item_form q.items) ≡ true →
    is_valid_object (queue_def q.limit d) (limit_number q.limit) None (Some q.peak) (map item_form q.items) ≡ true
queue_valid by_arrival q valid most range held =
    in_parts (queue_def q.limit by_arrival) (limit_number q.limit) None (Some q.peak) (map item_form q.items) refl (limit_given q.limit range)
    (none_wanted (is_bounded q.limit)) (peak_given q.limit q.peak q.items valid.within_peak most valid.peak_within) (queue_rows by_arrival q valid held)
queue_valid by_priority q valid most range held =
    in_parts (queue_def q.limit by_priority) (limit_number q.limit) None (Some q.peak) (map item_form q.items) refl (limit_given q.limit range)
    (none_wanted (is_bounded q.limit)) (peak_given q.limit q.peak q.items valid.within_peak most valid.peak_within) (queue_rows by_priority q valid held)

-- an object as it was declared, whatever its shape
record IsTold (h : Held) : Type 0 where
  in_range : LimitInRange (limit_of h)
  has : is_some (capacity_of h) ≡ shape_has_capacity (shape_of h)
  capacity : IfSome (capacity_of h) (IsCapacityIn (limit_of h))

object_valid : (h : Held) → is_type (def_of h) ≡ true → IsTold h → IsSoundHeld h → list_all is_row_representable (plain_rows h) ≡ true →
    is_valid_object (def_of h) (limit_number (limit_of h)) (capacity_in h) (peak_in h) (plain_rows h) ≡ true
object_valid (of_rows kind o) is told sound held =
    let valid = sound_object kind o sound in
    let bounded = is_bounded o.limit in
    let def = rows_def bounded kind in
    let limit = limit_number o.limit in
    let own = capacity_in (of_rows kind o) in
    let rows = plain_rows (of_rows kind o) in
    let bound : is_limit_of def limit ≡ true =
    ap (λ b. is_given b (λ most. nat_le most GREATEST_LENGTH) limit) (bounded_told bounded kind) ∙ limit_given o.limit told.in_range in
    let room : is_capacity_of def rows own ≡ true =
    ap₂ (λ b has. is_given (not b && has) (λ c. is_step c && nat_le (length rows) c) own) (bounded_told bounded kind) (capacity_told bounded kind)
    ∙ ap (λ n. is_given (not bounded && have_capacity kind) (λ c. is_step c && nat_le n c) own) (length_held (row_form kind) o)
    ∙ capacity_given (have_capacity kind) o.limit o.capacity (length o.rows) told.has told.capacity valid.capacity_fits in
    in_parts def limit own None rows is bound room (ap not (no_queue bounded kind)) (kind_rows kind o is sound held)
object_valid (of_holder e h) is told sound held =
    in_parts (holder_def h.limit e) (limit_number h.limit) None None (plain_rows (of_holder e h)) is (limit_given h.limit told.in_range)
    (none_wanted (is_bounded h.limit)) refl (holder_rows e h sound held)
object_valid (of_queue number q) is told sound held = queue_valid q.discipline q.queue sound.valid sound.peak_within told.in_range held

-- within the limit of what it was declared with
range_by : (capacity : Option ℕ) → unwrap_or capacity 0 ≤ GREATEST_LENGTH → LimitInRange (limit_by capacity)
range_by None few = tt
range_by (Some most) few = few

pub declared_valid : (def : TypeDef) (capacity : Option ℕ) (h : Held) → is_type def ≡ true → is_object_of (Some def) capacity ≡ true →
    unwrap_or capacity 0 ≤ GREATEST_LENGTH → IsObjectOf (declared_shape def) (limit_by capacity) h → IsSoundHeld h →
    list_all is_row_representable (plain_rows h) ≡ true →
    is_valid_object (def_of h) (limit_number (limit_of h)) (capacity_in h) (peak_in h) (plain_rows h) ≡ true
declared_valid def capacity h is alike few own sound held =
    object_valid h (ap is_type (def_declared def capacity h is alike own) ∙ is)
    (record {
      in_range = subst LimitInRange (sym own.within) (range_by capacity few);
      has = own.has ∙ ap shape_has_capacity (sym own.of_shape);
      capacity = subst (λ limit. IfSome (capacity_of h) (IsCapacityIn limit)) (sym own.within) own.capacity;
    })
    sound held

-- and its room is its limit
pub room_by_limit : (capacity : Option ℕ) (limit : Limit) → limit ≡ limit_by capacity → unwrap_or (limit_number limit) 0 ≡ unwrap_or capacity 0
room_by_limit None limit is = ap (λ l. unwrap_or (limit_number l) 0) is
room_by_limit (Some most) limit is = ap (λ l. unwrap_or (limit_number l) 0) is
