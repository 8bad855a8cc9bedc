-- The outline of a multiway tree (A.18.10): its rows in preorder, each with its depth. The root stands before them all, with depth 1 and name 0, and is no row.
use Rattle.std.specs.Prelude.{◌≡◌, ◌==◌, ◌+◌, ◌-◌, ℕ, suc, Bool, true, ◌&&◌, ◌||◌, nat_lt, nat_le, List, [], ◌∷◌, length, take, drop, map, reverse, filter, find, take_while, Option, Some, None, option_map, unwrap_or, slice_get, if◌then◌else◌}
use Rattle.std.specs.List.{list_any}
use Rattle.ac_base.specs.Rows.{Row, row}
use Rattle.ac_model.specs.Rows.{Node, node}
use Rattle.ac_model.specs.Objects.{Object, IsValid}

-- where a node stands: its depth and its name
pub record Spot : Type 0 where
  pub depth : ℕ
  pub name : ℕ

abbrev pub root : Spot
root = record { depth = 1; name = 0 }

abbrev pub spot : {T : Type 0} → Row ℕ (Node T) → Spot
spot r = record { depth = r.value.depth; name = r.name }

-- the root, and then the rows in preorder
abbrev pub spots : {T : Type 0} → List (Row ℕ (Node T)) → List Spot
spots rows = root ∷ map spot rows

-- the first depth is 2, and each later one is from 2 to one more than the one before
abbrev pub follows : ℕ → List ℕ → Bool
follows before [] = true
follows before (depth ∷ depths) = nat_le 2 depth && nat_le depth (before + 1) && follows depth depths

abbrev pub depths : {T : Type 0} → List (Row ℕ (Node T)) → List ℕ
depths rows = map (λ r. r.value.depth) rows

abbrev pub is_outline : {T : Type 0} → List (Row ℕ (Node T)) → Bool
is_outline rows = follows 1 (depths rows)

-- what holds of a tree
pub record IsValidTree {T : Type 0} (o : Object ℕ (Node T)) : Type 0 where
  pub as_object : IsValid o
  pub outline : is_outline o.rows ≡ true

-- the place of a name, the root's being 0, or past the end
abbrev pub spot_place : List Spot → ℕ → ℕ
spot_place [] name = 0
spot_place (s ∷ all) name = if s.name == name then 0 else suc (spot_place all name)

abbrev pub depth_at : List Spot → ℕ → ℕ
depth_at all place = unwrap_or (option_map (λ s. s.depth) (slice_get all place)) 0

-- the longest part right after a place in which all depths are greater than its own: what is below it
abbrev pub run_at : List Spot → ℕ → List Spot
run_at all place = take_while (λ s. nat_lt (depth_at all place) s.depth) (drop (place + 1) all)

-- the nodes right below a place, in order
abbrev pub children_at : List Spot → ℕ → List Spot
children_at all place = filter (λ s. s.depth == depth_at all place + 1) (run_at all place)

-- the last place before with a depth one less: nothing for the root
abbrev pub parent_at : List Spot → ℕ → Option Spot
parent_at all place = find (λ s. s.depth + 1 == depth_at all place) (reverse (take place all))

abbrev pub depth_of : {T : Type 0} → List (Row ℕ (Node T)) → ℕ → ℕ
depth_of rows name = depth_at (spots rows) (spot_place (spots rows) name)

abbrev pub run_of : {T : Type 0} → List (Row ℕ (Node T)) → ℕ → List Spot
run_of rows name = run_at (spots rows) (spot_place (spots rows) name)

abbrev pub children_of : {T : Type 0} → List (Row ℕ (Node T)) → ℕ → List Spot
children_of rows name = children_at (spots rows) (spot_place (spots rows) name)

abbrev pub parent_of : {T : Type 0} → List (Row ℕ (Node T)) → ℕ → Option Spot
parent_of rows name = parent_at (spots rows) (spot_place (spots rows) name)

abbrev pub is_in : ℕ → List Spot → Bool
is_in name some = list_any (λ s. s.name == name) some

-- the second is the first, or below it
abbrev pub is_in_subtree : {T : Type 0} → List (Row ℕ (Node T)) → ℕ → ℕ → Bool
is_in_subtree rows top name = (name == top) || is_in name (run_of rows top)

-- the node, and those above it, from the root down
abbrev pub path_to : {T : Type 0} → List (Row ℕ (Node T)) → ℕ → List Spot
path_to rows name = filter (λ s. is_in_subtree rows s.name name) (spots rows)

-- the children of the same parent
abbrev pub siblings_by : {T : Type 0} → List (Row ℕ (Node T)) → Option Spot → List Spot
siblings_by rows None = []
siblings_by rows (Some parent) = children_of rows parent.name

abbrev pub siblings_of : {T : Type 0} → List (Row ℕ (Node T)) → ℕ → List Spot
siblings_of rows name = siblings_by rows (parent_of rows name)

-- what stands after the name in a list, and before it
abbrev pub next_after : List Spot → ℕ → Option Spot
next_after some name = slice_get some (spot_place some name + 1)

abbrev pub last_before : List Spot → ℕ → Option Spot
last_before some name = slice_get (reverse (take (spot_place some name) some)) 0

-- the rows of a run, and of a subtree: a node with its run. The root's place among the rows would be right before the first
abbrev pub run_start : {T : Type 0} → List (Row ℕ (Node T)) → ℕ → ℕ
run_start rows name = spot_place (spots rows) name

abbrev pub run_rows : {T : Type 0} → List (Row ℕ (Node T)) → ℕ → List (Row ℕ (Node T))
run_rows rows name = take (length (run_of rows name)) (drop (run_start rows name) rows)

-- how many rows a subtree has, for a node that isn't the root, and where they begin
abbrev pub subtree_length : {T : Type 0} → List (Row ℕ (Node T)) → ℕ → ℕ
subtree_length rows name = 1 + length (run_of rows name)

abbrev pub subtree_start : {T : Type 0} → List (Row ℕ (Node T)) → ℕ → ℕ
subtree_start rows name = run_start rows name - 1

abbrev pub subtree_rows : {T : Type 0} → List (Row ℕ (Node T)) → ℕ → List (Row ℕ (Node T))
subtree_rows rows name = take (subtree_length rows name) (drop (subtree_start rows name) rows)

-- the rows with all depths changed by one amount, so that a depth `from` becomes `to`
abbrev pub moved_to_depth : {T : Type 0} → ℕ → ℕ → List (Row ℕ (Node T)) → List (Row ℕ (Node T))
moved_to_depth from to rows = map (λ r. row r.name (node (r.value.depth + to - from) r.value.element)) rows

-- the node at a place has a parent, which stands before it with a depth one less
pub record HasParent (all : List Spot) (place : ℕ) : Type 0 where
  pub parent : Spot
  pub is : parent_at all place ≡ Some parent
  pub one_less : parent.depth + 1 ≡ depth_at all place
  pub before : is_in parent.name (take place all) ≡ true
