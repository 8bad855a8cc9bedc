-- A tree whose links stand but for one place, above which it may lean: what holds on the way up.
use Rattle.std.specs.Prelude.{◌≡◌, ℕ, ◌+◌, ◌^◌, ◌≤◌, ◌⊎◌, max, Bool, true, false, List, [], ◌∷◌, length, Option, Some, None, is_some}
use Rattle.ac_base.specs.declared.name.Name.{Name}
use Rattle.ac_base.specs.Rows.{Row}
use Rattle.ac_pool.specs.Contents.{Contents, value_of, live_count, IsSound}
use Rattle.ac_pool.specs.NamedRows.{HasName}
use Rattle.ac_balance.specs.declared.links.Node.{Node}
use Rattle.ac_balance.specs.declared.links.Links.{Links}
use Rattle.ac_balance.specs.declared.places.Place.{Place}
use Rattle.ac_balance.specs.Trees.{Tree, leaf, node, in_order, height, Level, Balanced, Step, on_left, on_right, plugged, tall, Fits}
use Rattle.ac_balance.specs.TreeFields.{linked, root, Stands}

module _ {X : Type 0} where
  abbrev pub Has : Name → Tree X → Type 0
  Has a leaf = ⊥
  Has a (node l x r) = (a ≡ x.name) ⊎ (Has a l ⊎ Has a r)

  -- each name stands once
  abbrev pub Once : Tree X → Type 0
  Once leaf = Unit {0}
  Once (node l x r) = (Has x.name l → ⊥) × (Has x.name r → ⊥) × ((a : Name) → Has a l → Has a r → ⊥) × Once l × Once r

  pub record Hangs (f : Name → Option (Node X)) (t : Tree X) : Type 0 where
    pub parent : Option Name
    pub stands : Stands f parent t

  -- the same names are live, and nothing but their nodes has changed
  pub record Keeps (c d : Contents (Node X)) : Type 0 where
    pub live : (a : Name) → is_some (value_of d a) ≡ is_some (value_of c a)
    pub count : live_count d ≡ live_count c
    pub next : d.next_serial ≡ c.next_serial
    pub spare : d.spare ≡ c.spare

  -- only the nodes of these rows have changed
  pub record Relinks (rows : List (Row Name X)) (c d : Contents (Node X)) : Type 0 where
    pub aside : (a : Name) → (HasName a rows → ⊥) → value_of d a ≡ value_of c a
    pub keeps : Keeps c d

  abbrev pub name_of : Step X → Name
  name_of (on_left x r) = x.name
  name_of (on_right l x) = x.name

  abbrev pub above_in : List (Step X) → Option Name
  above_in [] = None
  above_in (s ∷ steps) = Some (name_of s)

  -- the nodes above a place that was h high are linked; the lowest has the link o there
  abbrev pub Framed : (Name → Option (Node X)) → List (Step X) → Option Name → ℕ → Type 0
  Framed f [] o h = Unit {0}
  Framed f (on_left x r ∷ steps) o h = (f x.name ≡ Some (linked x.value (above_in steps) o (root r) (max h (height r) + 1))) × Stands f (Some x.name) r × Framed f steps (Some x.name) (max h (height r) + 1)
  Framed f (on_right l x ∷ steps) o h = (f x.name ≡ Some (linked x.value (above_in steps) (root l) o (max h (height l) + 1))) × Stands f (Some x.name) l × Framed f steps (Some x.name) (max h (height l) + 1)

  abbrev pub IsSide : Bool → List (Step X) → Type 0
  IsSide b [] = Unit {0}
  IsSide b (on_left x r ∷ steps) = b ≡ true
  IsSide b (on_right l x ∷ steps) = b ≡ false

  -- the topmost row over a place whose own is o
  abbrev pub top_of : List (Step X) → Option Name → Option Name
  top_of [] o = o
  top_of (s ∷ steps) o = top_of steps (Some (name_of s))

  -- the root is the topmost row above the place, if there is one
  abbrev pub IsRooted : Option Name → List (Step X) → Type 0
  IsRooted base [] = Unit {0}
  IsRooted base (s ∷ steps) = base ≡ top_of steps (Some (name_of s))

  -- the part hangs under no node yet, and is at the place
  pub record Open (c : Contents (Node X)) (p : Place) (base : Option Name) (rows : List (Row Name X)) (steps : List (Step X)) (t : Tree X) (h : ℕ) : Type 0 where
    pub link : Option Name
    pub parent : p.parent ≡ above_in steps
    pub rooted : IsRooted base steps
    pub side : IsSide p.is_left steps
    pub top : p.top ≡ root t
    pub framed : Framed (value_of c) steps link h
    pub hangs : Hangs (value_of c) t
    pub ordered : in_order (plugged steps t) ≡ rows
    pub once : Once (plugged steps t)
    pub few : length rows ≤ 2 ^ 30
    pub sound : IsSound c

  -- the part is balanced, and its height is h but for one
  pub record Climbing (c : Contents (Node X)) (p : Place) (base : Option Name) (rows : List (Row Name X)) : Type 0 where
    pub steps : List (Step X)
    pub part : Tree X
    pub was : ℕ
    pub stands : Open c p base rows steps part was
    pub fits : Fits steps was
    pub balanced : Balanced part
    pub near : Level was (height part)

  -- the whole is balanced, and its height was high, but for one
  pub record Climbed (c : Contents (Node X)) (p : Place) (base : Option Name) (rows : List (Row Name X)) (high : ℕ) : Type 0 where
    pub steps : List (Step X)
    pub part : Tree X
    pub stands : Open c p base rows steps part (height part)
    pub balanced : Balanced (plugged steps part)
    pub near : Level high (height (plugged steps part))

  pub record IsClimbing (c : Contents (Node X)) (p : Place) : Type 0 where
    pub base : Option Name
    pub rows : List (Row Name X)
    pub climbing : Climbing c p base rows

  abbrev pub Climbs : Contents (Node X) → Place → Contents (Node X) → Place → Type 0
  Climbs c p d q = (base : Option Name) (rows : List (Row Name X)) → (k : Climbing c p base rows) → Climbed d q base rows (tall k.steps k.was) × Relinks rows c d

  -- the links are the tree's, and the tree is balanced and has these rows
  pub record Closed (l : Links X) (rows : List (Row Name X)) : Type 0 where
    pub tree : Tree X
    pub top : l.root ≡ root tree
    pub stands : Stands (value_of l.nodes) None tree
    pub balanced : Balanced tree
    pub ordered : in_order tree ≡ rows
    pub once : Once tree
    pub few : length rows ≤ 2 ^ 30
    pub sound : IsSound l.nodes

  -- what is linked together again, and what that leaves as it was
  pub record Closes (l m : Links X) (rows : List (Row Name X)) (high : ℕ) : Type 0 where
    pub closed : Closed m rows
    pub relinks : Relinks rows l.nodes m.nodes
    pub near : Level high (height closed.tree)

  pub record IsMendable (l : Links X) (p : Place) : Type 0 where
    pub rows : List (Row Name X)
    pub climbing : Climbing l.nodes p l.root rows

  abbrev pub Mends : Links X → Place → Links X → Type 0
  Mends l p m = (rows : List (Row Name X)) → (k : Climbing l.nodes p l.root rows) → Closes l m rows (tall k.steps k.was)
