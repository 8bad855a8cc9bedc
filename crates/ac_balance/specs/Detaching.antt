-- What is left of a tree once a node is taken out.
use Rattle.std.specs.Prelude.{◌≡◌, ◌+◌, ◌≤◌, ◌^◌, max, List, ◌∷◌, ◌++◌, length, Option, Some}
use Rattle.ac_base.specs.declared.name.Name.{Name}
use Rattle.ac_base.specs.Rows.{Row}
use Rattle.ac_pool.specs.Contents.{Contents, value_of, IsSound}
use Rattle.ac_balance.specs.declared.links.Node.{Node}
use Rattle.ac_balance.specs.declared.links.Links.{Links}
use Rattle.ac_balance.specs.Trees.{Tree, in_order, height, Level, Balanced}
use Rattle.ac_balance.specs.TreeFields.{root}
use Rattle.ac_balance.specs.Climbing.{Has, Once, Hangs, Relinks, Closed}
use Rattle.ac_pool.specs.NamedRows.{HasName}
use Rattle.ac_balance.specs.Indexed.{without}
use Rattle.ac_balance.specs.Walking.{first_name}

module _ {X : Type 0} where
  -- a balanced tree that stands, wherever it hangs
  pub record Part (c : Contents (Node X)) (o : Option Name) (t : Tree X) : Type 0 where
    pub top : o ≡ root t
    pub hangs : Hangs (value_of c) t
    pub balanced : Balanced t
    pub once : Once t
    pub few : length (in_order t) ≤ 2 ^ 30
    pub sound : IsSound c

  -- the name's node keeps this row's value
  pub record KeepsValue (c : Contents (Node X)) (x : Row Name X) : Type 0 where
    pub node : Node X
    pub found : value_of c x.name ≡ Some node
    pub value : node.value ≡ x.value

  -- the whole is a tree without its first row
  pub record CutOff (l m : Links X) (t : Tree X) (first : Name) : Type 0 where
    pub row : Row Name X
    pub rest : List (Row Name X)
    pub are : in_order t ≡ row ∷ rest
    pub name : row.name ≡ first
    pub kept : KeepsValue m.nodes row
    pub closed : Closed m rest
    pub relinks : Relinks (in_order t) l.nodes m.nodes
    pub near : Level (height t) (height closed.tree)

  pub record IsCut (l : Links X) (top first : Name) : Type 0 where
    pub tree : Tree X
    pub part : Part l.nodes (Some top) tree
    pub is_first : first_name (in_order tree) ≡ Some first

  abbrev pub Cuts : Links X → Name → Name → Links X → Type 0
  Cuts l top first m = (t : Tree X) → Part l.nodes (Some top) t → first_name (in_order t) ≡ Some first → CutOff l m t first

  -- two trees beside each other, whose heights differ by at most one
  pub record Beside (c : Contents (Node X)) (o p : Option Name) (t u : Tree X) : Type 0 where
    pub left : Part c o t
    pub right : Part c p u
    pub level : Level (height t) (height u)
    pub apart : (a : Name) → Has a t → Has a u → ⊥
    pub few : length (in_order t ++ in_order u) ≤ 2 ^ 30

  pub record IsJoined (l : Links X) (o p : Option Name) : Type 0 where
    pub left : Tree X
    pub right : Tree X
    pub beside : Beside l.nodes o p left right

  -- one tree with the rows of both
  pub record Joined (l m : Links X) (t u : Tree X) (top : Option Name) : Type 0 where
    pub tree : Tree X
    pub is_top : top ≡ root tree
    pub hangs : Hangs (value_of m.nodes) tree
    pub balanced : Balanced tree
    pub ordered : in_order tree ≡ in_order t ++ in_order u
    pub near : Level (max (height t) (height u) + 1) (height tree)
    pub relinks : Relinks (in_order t ++ in_order u) l.nodes m.nodes

  abbrev pub Joins : Links X → Option Name → Option Name → Links X → Option Name → Type 0
  Joins l o p m top = (t u : Tree X) → Beside l.nodes o p t u → Joined l m t u top

  -- the tree has the other rows
  pub record Detached (l m : Links X) (rows : List (Row Name X)) : Type 0 where
    pub closed : Closed m rows
    pub relinks : Relinks rows l.nodes m.nodes

  pub record IsDetached (l : Links X) (a : Name) : Type 0 where
    pub rows : List (Row Name X)
    pub closed : Closed l rows
    pub has : HasName a rows

  abbrev pub Detaches : Links X → Name → Links X → Type 0
  Detaches l a m = (rows : List (Row Name X)) → Closed l rows → HasName a rows → Detached l m (without rows a)
