-- A node at its place in a tree, and the ends of a list of rows.
use Rattle.std.specs.Prelude.{◌≡◌, ◌≤◌, ◌^◌, ◌++◌, List, length, Option, Some, None}
use Rattle.ac_base.specs.declared.name.Name.{Name}
use Rattle.ac_base.specs.Rows.{Row}
use Rattle.ac_pool.specs.Contents.{Contents, value_of, IsSound}
use Rattle.ac_balance.specs.declared.links.Node.{Node}
use Rattle.ac_balance.specs.Trees.{Tree, node, in_order, Step, plugged, before, after}
use Rattle.ac_balance.specs.TreeFields.{root, Stands}
use Rattle.ac_balance.specs.Climbing.{Once}
use Rattle.ac_pool.specs.NamedRows.{name_at, name_before}

-- the first of the two names that there is
abbrev pub or_else : Option Name → Option Name → Option Name
or_else None o = o
or_else (Some a) o = Some a

module _ {X : Type 0} where
  abbrev pub first_name : List (Row Name X) → Option Name
  first_name rows = name_at rows 0

  abbrev pub last_name : List (Row Name X) → Option Name
  last_name rows = name_before rows (length rows)

  -- the part under the name stands at a place of the whole tree
  pub record Placed (c : Contents (Node X)) (a : Name) (steps : List (Step X)) (t : Tree X) : Type 0 where
    pub top : root t ≡ Some a
    pub stands : Stands (value_of c) None (plugged steps t)
    pub once : Once (plugged steps t)
    pub few : length (in_order (plugged steps t)) ≤ 2 ^ 30
    pub sound : IsSound c

  pub record IsPlaced (c : Contents (Node X)) (a : Name) : Type 0 where
    pub steps : List (Step X)
    pub part : Tree X
    pub placed : Placed c a steps part

  abbrev pub AtNode : Contents (Node X) → Name → List (Step X) → Tree X → Row Name X → Tree X → Type 0
  AtNode c a steps l x r = Placed c a steps (node l x r)

  pub record IsAtNode (c : Contents (Node X)) (a : Name) : Type 0 where
    pub steps : List (Step X)
    pub left : Tree X
    pub row : Row Name X
    pub right : Tree X
    pub placed : AtNode c a steps left row right

  -- the name of the row behind a node's, and of the one before it
  abbrev pub ComesNext : Contents (Node X) → Name → Option Name → Type 0
  ComesNext c a o = (steps : List (Step X)) (l : Tree X) (x : Row Name X) (r : Tree X) → AtNode c a steps l x r → o ≡ first_name (in_order r ++ after steps)

  abbrev pub ComesBefore : Contents (Node X) → Name → Option Name → Type 0
  ComesBefore c a o = (steps : List (Step X)) (l : Tree X) (x : Row Name X) (r : Tree X) → AtNode c a steps l x r → o ≡ last_name (before steps ++ in_order l)
