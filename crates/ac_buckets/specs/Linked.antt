-- How nodes are linked bucket by bucket, from the last node to the first. A link is the number of a node, counted from 1, or 0.
use Rattle.std.specs.Prelude.{◌≡◌, ◌≢◌, ℕ, zero, suc, ◌-◌, ◌%◌, ◌<◌, ◌≤◌, List, length, map, get_or, slice_set, Option, Some, None}
use Rattle.ac_base.specs.declared.name.Name.{Name}
use Rattle.ac_base.specs.Rows.{Row, row}
use Rattle.ac_buckets.specs.declared.linked.Node.{Node}

-- what stands for a node past the last one
abbrev pub blank_node : Node
blank_node = record { hash = 0; next = 0; slot = 0; serial = 0 }

-- the name that the node keeps
abbrev pub name_of : Node → Name
name_of n = record { slot = n.slot; serial = n.serial }

abbrev pub blank_row : Row Name ℕ
blank_row = row (name_of blank_node) blank_node.hash

abbrev pub rows_of : List Node → List (Row Name ℕ)
rows_of nodes = map (λ (n : Node). row (name_of n) n.hash) nodes

abbrev pub links_of : List Node → List ℕ
links_of nodes = map (λ (n : Node). n.next) nodes

-- the bucket of each node
abbrev pub buckets_of : ℕ → List (Row Name ℕ) → List ℕ
buckets_of size rows = map (λ (r : Row Name ℕ). r.value % size) rows

abbrev pub marks_of : ℕ → List Node → List ℕ
marks_of size nodes = buckets_of size (rows_of nodes)

-- the link leads to the last of the first n nodes that is in the bucket
pub record IsLastLink (marks : List ℕ) (bucket n link : ℕ) : Type 0 where
  pub within : link ≤ n
  pub there : 0 < link → get_or marks (link - 1) 0 ≡ bucket
  pub last : (k : ℕ) → link ≤ k → k < n → get_or marks k 0 ≢ bucket

-- each bucket's first link, and the link behind each node. A node whose mark is no bucket isn't linked
pub record IsLinked (marks links heads : List ℕ) : Type 0 where
  pub firsts : (bucket : ℕ) → bucket < length heads → IsLastLink marks bucket (length marks) (get_or heads bucket 0)
  pub nexts : (k : ℕ) → k < length marks → get_or marks k 0 < length heads → IsLastLink marks (get_or marks k 0) k (get_or links k 0)

-- how many nodes are below the node, or at none how many there are
abbrev pub end_of : List ℕ → Option ℕ → ℕ
end_of marks None = length marks
end_of marks (Some i) = i

-- the bucket's nearest node above the index
pub record IsAbove (marks : List ℕ) (bucket index : ℕ) (above : Option ℕ) : Type 0 where
  pub there : (i : ℕ) → above ≡ Some i → (index < i) × (i < length marks) × (get_or marks i 0 ≡ bucket)
  pub nearest : (k : ℕ) → index < k → k < end_of marks above → get_or marks k 0 ≢ bucket

abbrev pub link_below : List ℕ → List ℕ → ℕ → Option ℕ → ℕ
link_below heads links bucket None = get_or heads bucket 0
link_below heads links bucket (Some i) = get_or links i 0

abbrev pub heads_below : List ℕ → ℕ → Option ℕ → ℕ → List ℕ
heads_below heads bucket None link = slice_set heads bucket link
heads_below heads bucket (Some i) link = heads

abbrev pub links_below : List ℕ → Option ℕ → ℕ → List ℕ
links_below links None link = links
links_below links (Some i) link = slice_set links i link

-- the nodes are linked by these marks
pub record AreLinked (marks : List ℕ) (nodes : List Node) (heads : List ℕ) : Type 0 where
  pub all : length marks ≡ length nodes
  pub linked : IsLinked marks (links_of nodes) heads

-- by marks of which the one at the index is this
abbrev pub IsLinkedAs : ℕ → ℕ → List Node → List ℕ → Type 0
IsLinkedAs index mark nodes heads = (marks : List ℕ) × AreLinked marks nodes heads × (get_or marks index 0 ≡ mark)

-- where the index had one mark it has another, and all else is linked as it was
abbrev pub Remarks : ℕ → ℕ → ℕ → List Node → List ℕ → List Node → List ℕ → Type 0
Remarks index mark other nodes heads nodes_after heads_after =
    (marks : List ℕ) → AreLinked marks nodes heads → get_or marks index 0 ≡ mark → AreLinked (slice_set marks index other) nodes_after heads_after

-- the name of the node to which the link leads
abbrev pub name_behind : List Node → ℕ → Option Name
name_behind nodes zero = None
name_behind nodes (suc i) = Some (name_of (get_or nodes i blank_node))

-- the nodes are linked but for those at the two indices
abbrev pub Unlinks : ℕ → ℕ → List Node → List Node → List ℕ → Type 0
Unlinks i j nodes nodes_after heads = AreLinked (slice_set (slice_set (marks_of (length heads) nodes) i (length heads)) j (length heads)) nodes_after heads

-- the nodes are linked but for the one at the index
abbrev pub Relinks : ℕ → List Node → List ℕ → Type 0
Relinks i nodes heads = AreLinked (slice_set (marks_of (length heads) nodes) i (length heads)) nodes heads

-- the node is in the bucket of the hash
abbrev pub IsInBucket : ℕ → ℕ → Node → Type 0
IsInBucket size hash n = n.hash % size ≡ hash % size

-- no node in the bucket of the hash has the name
abbrev pub IsNotInBucket : ℕ → ℕ → Name → List Node → Type 0
IsNotInBucket size hash name nodes = (k : ℕ) → k < length nodes → IsInBucket size hash (get_or nodes k blank_node) → name_of (get_or nodes k blank_node) ≢ name

-- its bucket's number, as the mark of the node at the index
abbrev pub bucket_at : ℕ → List Node → ℕ → ℕ
bucket_at size nodes index = get_or (marks_of size nodes) index 0

-- the node is out of its bucket, and in it again
abbrev pub TakesOut : ℕ → List Node → List ℕ → List Node → List ℕ → Type 0
TakesOut i nodes heads nodes_after heads_after = Remarks i (bucket_at (length heads) nodes i) (length heads) nodes heads nodes_after heads_after

abbrev pub PutsIn : ℕ → List Node → List ℕ → List Node → List ℕ → Type 0
PutsIn i nodes heads nodes_after heads_after = Remarks i (length heads) (bucket_at (length heads) nodes i) nodes heads nodes_after heads_after
