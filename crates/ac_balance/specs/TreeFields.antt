-- Nodes whose links stand for a tree. What the writes of links leave.
use Rattle.std.specs.Prelude.{◌≡◌, ℕ, zero, suc, ◌+◌, ◌-◌, ◌^◌, max, min, Bool, true, false, Option, Some, None, nat_eq, nat_le, nat_lt, if◌then◌else◌}
use Rattle.ac_base.specs.declared.name.Name.{Name}
use Rattle.ac_base.specs.Rows.{row}
use Rattle.ac_pool.specs.Contents.{Contents, value_of, with_value, live_count}
use Rattle.ac_balance.specs.declared.links.Node.{Node}
use Rattle.ac_balance.specs.declared.links.Links.{Links}
use Rattle.ac_balance.specs.declared.places.Place.{Place}
use Rattle.ac_pool.specs.Link.{link_of, name_in}
use Rattle.ac_balance.specs.Trees.{Tree, leaf, node, height}

abbrev pub place : Option Name → Bool → Option Name → Place
place parent on_left top = record { parent = parent; is_left = on_left; top = top }

-- the height above two sides that are h and k high
abbrev pub above : ℕ → ℕ → ℕ
above h k = min (max h k + 1) (2 ^ 32 - 1)

-- nodes after a turn, and the name that is the topmost then
pub record Made (X : Type 0) : Type 0 where
  pub nodes : Contents (Node X)
  pub top : Name

-- and how high it is
pub record Measured (X : Type 0) : Type 0 where
  pub nodes : Contents (Node X)
  pub top : Name
  pub high : ℕ

module _ {X : Type 0} where
  -- a node with these slots as its links, and one that is linked with these names
  abbrev pub node_with : X → ℕ → ℕ → ℕ → ℕ → Node X
  node_with v parent left right high = record { value = v; parent = parent; left = left; right = right; height = high }

  abbrev pub linked : X → Option Name → Option Name → Option Name → ℕ → Node X
  linked v parent left right high = node_with v (link_of parent) (link_of left) (link_of right) high

  -- a node with no links
  abbrev pub alone : X → Node X
  alone v = linked v None None None 1

  abbrev pub root : Tree X → Option Name
  root leaf = None
  root (node l x r) = Some x.name

  -- the nodes under the tree's names are linked as the tree says, the topmost with the parent p
  abbrev pub Stands : (Name → Option (Node X)) → Option Name → Tree X → Type 0
  Stands f p leaf = Unit {0}
  Stands f p (node l x r) = (f x.name ≡ Some (linked x.value p (root l) (root r) (max (height l) (height r) + 1))) × Stands f (Some x.name) l × Stands f (Some x.name) r

  abbrev pub parent_link : Option (Node X) → ℕ
  parent_link None = link_of None
  parent_link (Some n) = n.parent

  abbrev pub left_link : Option (Node X) → ℕ
  left_link None = link_of None
  left_link (Some n) = n.left

  abbrev pub right_link : Option (Node X) → ℕ
  right_link None = link_of None
  right_link (Some n) = n.right

  -- the names to which the links of the name's node lead
  abbrev pub parent_of : Contents (Node X) → Name → Option Name
  parent_of c a = name_in c (parent_link (value_of c a))

  abbrev pub left_of : Contents (Node X) → Name → Option Name
  left_of c a = name_in c (left_link (value_of c a))

  abbrev pub right_of : Contents (Node X) → Name → Option Name
  right_of c a = name_in c (right_link (value_of c a))

  abbrev pub height_of : Option (Node X) → ℕ
  height_of None = 0
  height_of (Some n) = n.height

  abbrev pub high : Contents (Node X) → Option Name → ℕ
  high c None = 0
  high c (Some a) = height_of (value_of c a)

  abbrev pub parent_written : Contents (Node X) → Name → Option Name → Option (Node X) → Contents (Node X)
  parent_written c a to None = c
  parent_written c a to (Some n) = with_value c a (node_with n.value (link_of to) n.left n.right n.height)

  abbrev pub sides_written : Contents (Node X) → Name → Option Name → Option Name → ℕ → Option (Node X) → Contents (Node X)
  sides_written c a l r h None = c
  sides_written c a l r h (Some n) = with_value c a (node_with n.value n.parent (link_of l) (link_of r) h)

  abbrev pub links_written : Contents (Node X) → Name → Name → Option Name → Option Name → ℕ → Option (Node X) → Contents (Node X)
  links_written c a p l r h None = c
  links_written c a p l r h (Some n) = with_value c a (linked n.value (Some p) l r h)

  unfoldable pub with_parent : Contents (Node X) → Option Name → Option Name → Contents (Node X)
  with_parent c None to = c
  with_parent c (Some a) to = parent_written c a to (value_of c a)

  unfoldable pub with_sides : Contents (Node X) → Name → Option Name → Option Name → ℕ → Contents (Node X)
  with_sides c a l r h = sides_written c a l r h (value_of c a)

  unfoldable pub with_links : Contents (Node X) → Name → Name → Option Name → Option Name → ℕ → Contents (Node X)
  with_links c a p l r h = links_written c a p l r h (value_of c a)

  -- the name's node has these two sides, and is h high
  unfoldable pub fastened_at : Contents (Node X) → Name → Option Name → Option Name → ℕ → Contents (Node X)
  fastened_at c a l r h = with_sides (with_parent (with_parent c l (Some a)) r (Some a)) a l r h

  -- the name's node has these two sides
  unfoldable pub fastened : Contents (Node X) → Name → Option Name → Option Name → Contents (Node X)
  fastened c a l r = fastened_at c a l r (above (high c l) (high (with_parent c l (Some a)) r))

  abbrev pub made : Contents (Node X) → Name → Made X
  made c a = record { nodes = c; top = a }

  abbrev pub made_at : Contents (Node X) → Name → ℕ → Measured X
  made_at c a h = record { nodes = c; top = a; high = h }

  abbrev pub measured : Made X → Measured X
  measured m = made_at m.nodes m.top (high m.nodes (Some m.top))

  -- these two have the node as their parent
  abbrev pub adopted : Contents (Node X) → Name → Option Name → Option Name → Contents (Node X)
  adopted c x p q = with_parent (with_parent c p (Some x)) q (Some x)

  -- the node between two sides, h high itself, of which p and q get it as their parent
  abbrev pub laid : Contents (Node X) → Option Name → Name → Option Name → Option Name → Option Name → ℕ → Measured X
  laid c l x r p q h = made_at (with_sides (adopted c x p q) x l r h) x h

  -- the turns of `Trees`, by names
  unfoldable pub twice_left_in : Contents (Node X) → Option Name → Name → Option Name → Name → Option Name → Made X
  twice_left_in c a y None x r = made (fastened (fastened c y a None) x (Some y) r) x
  twice_left_in c a y (Some z) x r = made (fastened (fastened (fastened c y a (left_of c z)) x (right_of c z) r) z (Some y) (Some x)) z

  -- y, which has its outer side already, comes above x
  unfoldable pub turned_right : Contents (Node X) → Option Name → Name → Option Name → Name → Option Name → Option Name → Measured X
  turned_right c a y b x r q =
      let low = above (high c b) (high c r) in let h = above (high c a) low in
      made_at (with_sides (with_links (adopted c x b q) x y b r low) y a (Some x) h) y h

  unfoldable pub from_left_in : Contents (Node X) → Option Name → Name → Option Name → Option Name → Measured X
  from_left_in c None x r q = measured (made (fastened c x None r) x)
  from_left_in c (Some y) x r q =
      if nat_le (high c (right_of c y)) (high c (left_of c y)) then turned_right c (left_of c y) y (right_of c y) x r q
      else measured (twice_left_in c (left_of c y) y (right_of c y) x r)

  unfoldable pub twice_right_in : Contents (Node X) → Option Name → Name → Option Name → Name → Option Name → Made X
  twice_right_in c l x None y b = made (fastened (fastened c y None b) x l (Some y)) x
  twice_right_in c l x (Some z) y b = made (fastened (fastened (fastened c x l (left_of c z)) y (right_of c z) b) z (Some x) (Some y)) z

  unfoldable pub turned_left : Contents (Node X) → Option Name → Name → Option Name → Name → Option Name → Option Name → Measured X
  turned_left c l x a y b p =
      let low = above (high c l) (high c a) in let h = above low (high c b) in
      made_at (with_sides (with_links (adopted c x p a) x y l a low) y (Some x) b h) y h

  unfoldable pub from_right_in : Contents (Node X) → Option Name → Name → Option Name → Option Name → Measured X
  from_right_in c l x None p = measured (made (fastened c x l None) x)
  from_right_in c l x (Some y) p =
      if nat_le (high c (left_of c y)) (high c (right_of c y)) then turned_left c l x (left_of c y) y (right_of c y) p
      else measured (twice_right_in c l x (left_of c y) y (right_of c y))

  -- p and q are the sides whose parent isn't the node yet
  unfoldable pub balanced_in : Contents (Node X) → Option Name → Name → Option Name → Option Name → Option Name → Measured X
  balanced_in c l x r p q =
      if nat_lt 1 (high c l - high c r) then from_left_in c l x r q
      else if nat_lt 1 (high c r - high c l) then from_right_in c l x r p
      else laid c l x r p q (above (high c l) (high c r))

  abbrev pub is_left_in : Contents (Node X) → Option Name → Name → Bool
  is_left_in c None a = false
  is_left_in c (Some b) a = nat_eq (left_link (value_of c b)) a.slot

  -- the link to the side beside the left one, or beside the right one
  abbrev pub beside_link : Bool → Option (Node X) → ℕ
  beside_link on_left None = link_of None
  beside_link on_left (Some n) = if on_left then n.right else n.left

  unfoldable pub settled_with : Contents (Node X) → Name → Bool → Option Name → Option Name → Measured X
  settled_with c x on_left o beside = if on_left then balanced_in c o x beside o None else balanced_in c beside x o None o

  unfoldable pub settled_in : Contents (Node X) → Name → Bool → Option Name → Measured X
  settled_in c x on_left o = settled_with c x on_left o (name_in c (beside_link on_left (value_of c x)))

  abbrev pub risen : Contents (Node X) → Name → Bool → Option Name → Place
  risen c x on_left o = let up = parent_of c x in place up (is_left_in c up x) (Some (settled_in c x on_left o).top)

  -- the place at which the name's node is
  abbrev pub place_in : Contents (Node X) → Name → Option Name → Place
  place_in c a o = let up = parent_of c a in place up (is_left_in c up a) o

  abbrev pub read_on : Contents (Node X) → Name → Option (Node X) → (Option Name → Tree X) → Tree X
  read_on c a None rest = leaf
  read_on c a (Some n) rest = node (rest (name_in c n.left)) (row a n.value) (rest (name_in c n.right))

  -- the tree that the links from the name down stand for, at most so high
  abbrev pub read : ℕ → Contents (Node X) → Option Name → Tree X
  read zero c o = leaf
  read (suc many) c None = leaf
  read (suc many) c (Some a) = read_on c a (value_of c a) (λ o. read many c o)

  unfoldable pub tree_in : Links X → Tree X
  tree_in l = read (live_count l.nodes) l.nodes l.root

  abbrev pub links : Contents (Node X) → Option Name → Links X
  links nodes o = record { nodes = nodes; root = o }

  abbrev pub side_written : Contents (Node X) → Name → Bool → Option Name → Option (Node X) → Contents (Node X)
  side_written c a b to None = c
  side_written c a true to (Some n) = with_value c a (node_with n.value n.parent (link_of to) n.right n.height)
  side_written c a false to (Some n) = with_value c a (node_with n.value n.parent n.left (link_of to) n.height)

  unfoldable pub with_side : Contents (Node X) → Name → Bool → Option Name → Contents (Node X)
  with_side c a b to = side_written c a b to (value_of c a)

  abbrev pub hung_under : Links X → Option Name → Bool → Option Name → Links X
  hung_under l None b o = links l.nodes o
  hung_under l (Some a) b o = links (with_side l.nodes a b o) l.root

  unfoldable pub attached : Links X → Option Name → Bool → Option Name → Links X
  attached l parent b o = let m = hung_under l parent b o in links (with_parent m.nodes o parent) m.root
