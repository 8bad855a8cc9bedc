-- Nodes whose links stand for a forest. What the writes of links leave.
use Rattle.std.specs.Prelude.{◌≡◌, ℕ, zero, suc, List, [], ◌∷◌, Option, Some, None}
use Rattle.ac_base.specs.declared.name.Name.{Name}
use Rattle.ac_base.specs.Rows.{row}
use Rattle.ac_pool.specs.Contents.{Contents, value_of, with_value, swapped, no_values, IsLive, live_count, IsSound}
use Rattle.ac_pool.specs.Link.{link_of, name_in}
use Rattle.ac_tree.specs.declared.links.TreeNode.{TreeNode}
use Rattle.ac_tree.specs.declared.links.Links.{Links}
use Rattle.ac_tree.specs.declared.links.NodeLinks.{NodeLinks}
use Rattle.ac_tree.specs.Forests.{Forest, bare, grove, size, first_in, or_name, last_in, Has, Once, Step, under, after, parent_in, prev_in}

module _ {X : Type 0} where
  -- a node with these slots as its links, and one that is linked with these names
  abbrev pub node_with : X → ℕ → ℕ → ℕ → ℕ → ℕ → TreeNode X
  node_with v parent first last prev next = record { value = v; parent = parent; first = first; last = last; prev = prev; next = next }

  abbrev pub linked : X → Option Name → Option Name → Option Name → Option Name → Option Name → TreeNode X
  linked v parent first last prev next = node_with v (link_of parent) (link_of first) (link_of last) (link_of prev) (link_of next)

  abbrev pub links : Contents (TreeNode X) → Option Name → Option Name → Links X
  links nodes first last = record { nodes = nodes; first = first; last = last }

  -- the nodes under the forest's names are linked as it says, the topmost with the parent p, and the first of them with q before it
  abbrev pub Stands : (Name → Option (TreeNode X)) → Option Name → Option Name → Forest X → Type 0
  Stands f p q bare = Unit {0}
  Stands f p q (grove x below rest) = (f x.name ≡ Some (linked x.value p (first_in below) (last_in below) q (first_in rest))) × Stands f (Some x.name) None below × Stands f p (Some x.name) rest

  -- the nodes round a place are linked, with o as the first and e as the last of what stands there
  abbrev pub Framed : Links X → List (Step X) → Option Name → Option Name → Type 0
  Framed l [] o e = (l.first ≡ o) × (l.last ≡ e)
  Framed l (under x rest ∷ steps) o e =
      (value_of l.nodes x.name ≡ Some (linked x.value (parent_in steps) o e (prev_in steps) (first_in rest)))
      × Stands (value_of l.nodes) (parent_in steps) (Some x.name) rest
      × Framed l steps (Some x.name) (Some (or_name x.name (last_in rest)))
  Framed l (after x below ∷ steps) o e =
      (value_of l.nodes x.name ≡ Some (linked x.value (parent_in steps) (first_in below) (last_in below) (prev_in steps) o))
      × Stands (value_of l.nodes) (Some x.name) None below
      × Framed l steps (Some x.name) (Some (or_name x.name e))

  -- the links are the forest's, and all nodes stand in it
  pub record StandsFor (l : Links X) (t : Forest X) : Type 0 where
    pub framed : Framed l [] (first_in t) (last_in t)
    pub stands : Stands (value_of l.nodes) None None t
    pub once : Once t
    pub all : (a : Name) → IsLive l.nodes a → Has a t
    pub count : size t ≡ live_count l.nodes
    pub sound : IsSound l.nodes

  abbrev pub read_on : Contents (TreeNode X) → Name → Option (TreeNode X) → (Option Name → Forest X) → Forest X
  read_on c a None rest = bare
  read_on c a (Some n) rest = grove (row a n.value) (rest (name_in c n.first)) (rest (name_in c n.next))

  -- the forest that the links from the name on stand for, at most so large
  abbrev pub read : ℕ → Contents (TreeNode X) → Option Name → Forest X
  read zero c o = bare
  read (suc many) c None = bare
  read (suc many) c (Some a) = read_on c a (value_of c a) (λ o. read many c o)

  unfoldable pub forest_in : Links X → Forest X
  forest_in l = read (live_count l.nodes) l.nodes l.first

  abbrev pub IsForest : Links X → Type 0
  IsForest l = StandsFor l (forest_in l)

  abbrev pub parent_link : Option (TreeNode X) → ℕ
  parent_link None = link_of None
  parent_link (Some n) = n.parent

  abbrev pub first_link : Option (TreeNode X) → ℕ
  first_link None = link_of None
  first_link (Some n) = n.first

  abbrev pub last_link : Option (TreeNode X) → ℕ
  last_link None = link_of None
  last_link (Some n) = n.last

  abbrev pub prev_link : Option (TreeNode X) → ℕ
  prev_link None = link_of None
  prev_link (Some n) = n.prev

  abbrev pub next_link : Option (TreeNode X) → ℕ
  next_link None = link_of None
  next_link (Some n) = n.next

  -- the names to which the links lead
  abbrev pub parent_of : Links X → Name → Option Name
  parent_of l a = name_in l.nodes (parent_link (value_of l.nodes a))

  abbrev pub prev_of : Links X → Name → Option Name
  prev_of l a = name_in l.nodes (prev_link (value_of l.nodes a))

  abbrev pub next_of : Links X → Name → Option Name
  next_of l a = name_in l.nodes (next_link (value_of l.nodes a))

  -- of a node, or of the root
  abbrev pub first_of : Links X → Option Name → Option Name
  first_of l None = l.first
  first_of l (Some a) = name_in l.nodes (first_link (value_of l.nodes a))

  abbrev pub last_of : Links X → Option Name → Option Name
  last_of l None = l.last
  last_of l (Some a) = name_in l.nodes (last_link (value_of l.nodes a))

  -- the node after which one before a child, or behind the last, is linked
  abbrev pub prev_before : Links X → Option Name → Option Name → Option Name
  prev_before l parent None = last_of l parent
  prev_before l parent (Some b) = prev_of l b

  -- the node with one of its links changed
  abbrev pub first_put : Option Name → TreeNode X → TreeNode X
  first_put to n = node_with n.value n.parent (link_of to) n.last n.prev n.next

  abbrev pub last_put : Option Name → TreeNode X → TreeNode X
  last_put to n = node_with n.value n.parent n.first (link_of to) n.prev n.next

  abbrev pub prev_put : Option Name → TreeNode X → TreeNode X
  prev_put to n = node_with n.value n.parent n.first n.last (link_of to) n.next

  abbrev pub next_put : Option Name → TreeNode X → TreeNode X
  next_put to n = node_with n.value n.parent n.first n.last n.prev (link_of to)

  abbrev pub parent_put : Option Name → TreeNode X → TreeNode X
  parent_put to n = node_with n.value (link_of to) n.first n.last n.prev n.next

  -- with another parent and other siblings
  abbrev pub place_put : Option Name → Option Name → Option Name → TreeNode X → TreeNode X
  place_put parent prev next n = node_with n.value (link_of parent) n.first n.last (link_of prev) (link_of next)

  -- and with another value
  abbrev pub value_put : X → TreeNode X → TreeNode X
  value_put w n = node_with w n.parent n.first n.last n.prev n.next

  abbrev pub written : Contents (TreeNode X) → Name → (TreeNode X → TreeNode X) → Option (TreeNode X) → Contents (TreeNode X)
  written c a w None = c
  written c a w (Some n) = with_value c a (w n)

  unfoldable pub written_at : Contents (TreeNode X) → Name → (TreeNode X → TreeNode X) → Contents (TreeNode X)
  written_at c a w = written c a w (value_of c a)

  -- all links of a node, and the node with others
  abbrev pub links_in : Option (TreeNode X) → NodeLinks
  links_in o = record { parent = parent_link o; first = first_link o; last = last_link o; prev = prev_link o; next = next_link o }

  abbrev pub links_put : NodeLinks → TreeNode X → TreeNode X
  links_put to n = node_with n.value to.parent to.first to.last to.prev to.next

  -- the values of two nodes change places, and their links stay
  unfoldable pub exchanged_in : Links X → Name → Name → Links X
  exchanged_in l a b =
      links (written_at (written_at (swapped l.nodes a b) a (links_put (links_in (value_of l.nodes a)))) b (links_put (links_in (value_of l.nodes b)))) l.first l.last

  -- the node before a place, or the parent where there is none, leads to another node there
  unfoldable pub with_next : Links X → Option Name → Option Name → Option Name → Links X
  with_next l p (Some q) to = links (written_at l.nodes q (next_put to)) l.first l.last
  with_next l (Some p) None to = links (written_at l.nodes p (first_put to)) l.first l.last
  with_next l None None to = links l.nodes to l.last

  -- and the node behind it, or the parent
  unfoldable pub with_prev : Links X → Option Name → Option Name → Option Name → Links X
  with_prev l p (Some n) to = links (written_at l.nodes n (prev_put to)) l.first l.last
  with_prev l (Some p) None to = links (written_at l.nodes p (last_put to)) l.first l.last
  with_prev l None None to = links l.nodes l.first to

  -- the name's node between the two
  abbrev pub tied : Links X → Option Name → Option Name → Option Name → Name → Links X
  tied l parent prev next a = with_prev (with_next l parent prev (Some a)) parent next (Some a)

  -- no node between the two
  abbrev pub closed : Links X → Option Name → Option Name → Option Name → Links X
  closed l parent prev next = with_prev (with_next l parent prev next) parent next prev

  -- no nodes, and so many slots
  pub record IsEmptied (l : Links X) (spare : ℕ) : Type 0 where
    pub nodes : l.nodes ≡ no_values 1 spare
    pub first : l.first ≡ None
    pub last : l.last ≡ None
    pub sound : IsSound l.nodes
