-- Objects for the examples.
use Rattle.std.specs.Prelude.{◌/◌, ◌==◌, ◌∷◌, [], nat_eq, nat_lt, ℕ, ℤ, true, false, List, length, Option}
use Rattle.ac_base.specs.declared.limit.Limit.TheVariants.{Unbounded, Bounded}
use Rattle.ac_base.specs.declared.name.Name.{Name}
use Rattle.ac_model.specs.Maps as maps
use Rattle.ac_model.specs.Keyed.{Order, by_arrival, ascending, on_key}
use Rattle.ac_model.specs.Rows.{Entry, Node, node, fresh}
use Rattle.ac_model.specs.Holders.{Holder}
use Rattle.ac_model.specs.Queues.{Queue}
use Rattle.ac_model.specs.Objects.{Object, grown, empty_object}

-- the object with this number that holds the values under the names from 1 on: with no Capacity, and with one
abbrev pub holding : {V : Type 0} → ℕ → List V → Object ℕ V
holding number vs = grown (empty_object false number Unbounded) (fresh 1 vs) (length vs)

abbrev pub vector_holding : {V : Type 0} → ℕ → List V → Object ℕ V
vector_holding number vs = grown (empty_object true number Unbounded) (fresh 1 vs) (length vs)

-- the same with a limit
abbrev pub bounded_holding : {V : Type 0} → ℕ → ℕ → List V → Object ℕ V
bounded_holding number most vs = grown (empty_object true number (Bounded most)) (fresh 1 vs) (length vs)

-- the object under so many cursor guards and so many element guards
abbrev pub guarded : {N V : Type 0} → ℕ → ℕ → Object N V → Object N V
guarded cursor_guards element_guards o = record o { cursor_guards = cursor_guards; element_guards = element_guards }

-- the object with only so many names left
abbrev pub with_next : {N V : Type 0} → ℕ → Object N V → Object N V
with_next next o = record o { next = next }

abbrev pub name_in_slot : ℕ → ℕ → Name
name_in_slot slot serial = record { slot = slot; serial = serial }

-- a list, a vector and a bounded vector of numbers
abbrev pub list_of : ℕ → List ℕ → Object ℕ ℕ
list_of number vs = holding number vs

abbrev pub vector_of : ℕ → List ℕ → Object ℕ ℕ
vector_of number vs = vector_holding number vs

abbrev pub bounded_vector_of : ℕ → ℕ → List ℕ → Object ℕ ℕ
bounded_vector_of number most vs = bounded_holding number most vs

-- maps from numbers to numbers: a hashed and an ordered one, of these entries in this order
abbrev pub hashed_map_of : ℕ → List (Entry ℕ ℕ) → Object ℕ (Entry ℕ ℕ)
hashed_map_of number entries = vector_holding number entries

abbrev pub ordered_map_of : ℕ → List (Entry ℕ ℕ) → Object ℕ (Entry ℕ ℕ)
ordered_map_of number entries = holding number entries

-- numbers with a key, which is all their digits but the last
abbrev pub tens : ℕ → ℕ
tens n = n / 10

-- how numbers are told apart as keys: in order of arrival, and ascending
abbrev pub by_arrived : Order ℕ
by_arrived = by_arrival nat_eq

abbrev pub by_number : Order ℕ
by_number = ascending nat_lt

-- how the examples' maps and sets of numbers are ordered
abbrev pub hashed_entries : Order (Entry ℕ ℕ)
hashed_entries = maps.order_of by_arrived

abbrev pub ordered_entries : Order (Entry ℕ ℕ)
ordered_entries = maps.order_of by_number

-- keys that are equivalent where all their digits but the last are the same
abbrev pub in_tens : Order ℕ
in_tens = by_arrival (λ k l. tens k == tens l)

abbrev pub by_tens : Order (Entry ℕ ℕ)
by_tens = maps.order_of in_tens

abbrev pub hashed_numbers : Order ℕ
hashed_numbers = by_arrival nat_eq

abbrev pub ordered_numbers : Order ℕ
ordered_numbers = ascending nat_lt

abbrev pub hashed_tens : Order ℕ
hashed_tens = on_key tens by_arrived

abbrev pub ordered_tens : Order ℕ
ordered_tens = on_key tens by_number

-- a bounded holder of bytes, and one under an element guard
abbrev pub holder_of : ℕ → ℕ → Option (List ℕ) → Holder (List ℕ)
holder_of number most element = record { number = number; limit = Bounded most; element = element; cursor_guards = 0; element_guards = 0 }

abbrev pub holder_guarded : Holder (List ℕ) → Holder (List ℕ)
holder_guarded h = record h { element_guards = 1 }

-- an unbounded queue of these items
abbrev pub queue_of : List ℤ → Queue
queue_of items = record { limit = Unbounded; items = items; peak = length items }

-- a tree of numbers with this outline
abbrev pub tree_of : ℕ → List (Node ℕ) → Object ℕ (Node ℕ)
tree_of number nodes = holding number nodes

-- the trees [1 [2]], [1 [2, 3], 4] and [1 [2, 3 [5]], 4], with their names in preorder
abbrev pub tree_one_two : Object ℕ (Node ℕ)
tree_one_two = tree_of 1 (node 2 1 ∷ node 3 2 ∷ [])

abbrev pub tree_of_four : Object ℕ (Node ℕ)
tree_of_four = tree_of 1 (node 2 1 ∷ node 3 2 ∷ node 3 3 ∷ node 2 4 ∷ [])

abbrev pub tree_of_five : Object ℕ (Node ℕ)
tree_of_five = tree_of 1 (node 2 1 ∷ node 3 2 ∷ node 3 3 ∷ node 4 5 ∷ node 2 4 ∷ [])
