-- The operation of each row of the table is one of the kind's objects.
use Rattle.std.proofs.Common.{◌≡◌, Bool, true, false, ◌++◌, refl, sym, true≢false}
use Rattle.std.specs.Prelude.{Contains}
use Rattle.std.specs.List.{list_all}
use Rattle.std.proofs.lemmas.List.Elements.{All-contains}
use Rattle.std.proofs.lemmas.List.Sums.{AllPass-from_list_all}
use Rattle.ac_model.specs.Queues.{by_arrival, by_priority}
use Rattle.ac_syntax.specs.Kinds.{has_capacity}
use Rattle.ac_syntax.specs.declared.kind.ElemKind.{ElemKind}
use Rattle.ac_syntax.specs.declared.kind.Kind.{Kind}
use Rattle.ac_syntax.specs.declared.kind.Kind.TheVariants as kind
use Rattle.ac_syntax.specs.declared.operation.Operation.TheVariants as operation
use Rattle.ac_syntax.specs.declared.operation.QueueCall.TheVariants as queue_call
use Rattle.ac_syntax.specs.declared.type_def.TypeDef.{TypeDef}
use Rattle.ac_rules.specs.Scopes.{element_of}
use Rattle.ac_rules.specs.Table.{Row, rows_by, rows_if, rows_of, common_rows, counted_rows, sequence_rows, capacity_rows, vector_rows, list_rows, keyed_walk_rows, map_rows, set_rows, keyed_rows, ordered_keyed_rows, ordered_rows, ordered_map_rows, ordered_set_rows, tree_rows, tree_change_rows, holder_rows, queue_rows, priority_queue_rows}
use Rattle.ac_calls.specs.Holdings.{a_sequence, a_map, a_set, a_keyed_set, a_tree}
use Rattle.ac_meaning.specs.HoldsTypes.{Shape, has_rows, has_place, has_line, shape_by, shape_of_type}
use Rattle.ac_meaning.specs.Suits.{is_own}

abbrev is_own_row : Shape → Row → Bool
is_own_row s row = is_own s row.operation

own_by : (k : Kind) (first element : ElemKind) (keyed : Bool) →
    list_all (is_own_row (shape_by k first element keyed)) (rows_by k keyed ++ rows_if (has_capacity k) capacity_rows) ≡ true
unfolding common_rows counted_rows sequence_rows capacity_rows vector_rows list_rows keyed_walk_rows map_rows set_rows keyed_rows ordered_keyed_rows ordered_rows ordered_map_rows ordered_set_rows tree_rows tree_change_rows holder_rows queue_rows priority_queue_rows
own_by kind.Vector first element keyed = refl
own_by kind.List first element keyed = refl
own_by kind.HashedMap first element keyed = refl
own_by kind.OrderedMap first element keyed = refl
own_by kind.HashedSet first element true = refl
own_by kind.HashedSet first element false = refl
own_by kind.OrderedSet first element true = refl
own_by kind.OrderedSet first element false = refl
own_by kind.Tree first element keyed = refl
own_by kind.Holder first element keyed = refl
own_by kind.Queue first element keyed = refl
own_by kind.PriorityQueue first element keyed = refl

all_own : (def : TypeDef) → list_all (is_own_row (shape_of_type def)) (rows_of def) ≡ true
unfolding rows_of
all_own def = own_by def.kind def.first (element_of def) def.keyed

pub row_own : (def : TypeDef) (row : Row) → Contains (rows_of def) row → is_own (shape_of_type def) row.operation ≡ true
row_own def row there =
    All-contains (λ (other : Row). is_own_row (shape_of_type def) other ≡ true) (rows_of def) row
    (AllPass-from_list_all (is_own_row (shape_of_type def)) (rows_of def) (all_own def)) there

-- what is asked for priorities is a queue by priority
pub high_line : (s : Shape) → is_own s (operation.Queue queue_call.DequeueOnlyHighPriority) ≡ true → s ≡ has_line by_priority
high_line (has_rows (a_sequence which e)) h = absurd (true≢false (sym h))
high_line (has_rows (a_map which k e)) h = absurd (true≢false (sym h))
high_line (has_rows (a_set which e)) h = absurd (true≢false (sym h))
high_line (has_rows (a_keyed_set which)) h = absurd (true≢false (sym h))
high_line (has_rows (a_tree e)) h = absurd (true≢false (sym h))
high_line (has_place e) h = absurd (true≢false (sym h))
high_line (has_line by_arrival) h = absurd (true≢false (sym h))
high_line (has_line by_priority) h = refl
