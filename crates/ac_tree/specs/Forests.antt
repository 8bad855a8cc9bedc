-- Forests of rows: what is below the root of a tree, or below a node. A place in one is the list of steps from there upwards.
use Rattle.std.specs.Prelude.{◌≡◌, ℕ, suc, ◌+◌, ◌⊎◌, List, [], ◌∷◌, ◌++◌, Option, Some, None}
use Rattle.ac_base.specs.declared.name.Name.{Name}
use Rattle.ac_base.specs.Rows.{Row, row}
use Rattle.ac_model.specs.Rows.{Node, node}

-- none, or a first row with what is below it, and its later siblings
pub data Forest (X : Type 0) : Type 0 where
  bare : Forest X
  grove : Row Name X → Forest X → Forest X → Forest X

-- one step up from a place: the place is all that is below the row, or all that stands after it among its siblings
pub data Step (X : Type 0) : Type 0 where
  under : Row Name X → Forest X → Step X
  after : Row Name X → Forest X → Step X

abbrev pub or_name : Name → Option Name → Name
or_name a None = a
or_name a (Some b) = b

module _ {X : Type 0} where
  -- the rows in preorder, the first ones at this depth
  abbrev pub outline : ℕ → Forest X → List (Row Name (Node X))
  outline depth bare = []
  outline depth (grove x below rest) = row x.name (node depth x.value) ∷ outline (depth + 1) below ++ outline depth rest

  abbrev pub size : Forest X → ℕ
  size bare = 0
  size (grove x below rest) = suc (size below + size rest)

  -- the topmost rows of one forest, and then those of another
  abbrev pub beside : Forest X → Forest X → Forest X
  beside bare t = t
  beside (grove x below rest) t = grove x below (beside rest t)

  -- the names of the first and the last of the topmost rows
  abbrev pub first_in : Forest X → Option Name
  first_in bare = None
  first_in (grove x below rest) = Some x.name

  abbrev pub last_in : Forest X → Option Name
  last_in bare = None
  last_in (grove x below rest) = Some (or_name x.name (last_in rest))

  abbrev pub Has : Name → Forest X → Type 0
  Has a bare = ⊥
  Has a (grove x below rest) = (a ≡ x.name) ⊎ (Has a below ⊎ Has a rest)

  -- each name stands once
  abbrev pub Once : Forest X → Type 0
  Once bare = Unit {0}
  Once (grove x below rest) = (Has x.name below → ⊥) × (Has x.name rest → ⊥) × ((a : Name) → Has a below → Has a rest → ⊥) × Once below × Once rest

  abbrev pub joined : Step X → Forest X → Forest X
  joined (under x rest) t = grove x t rest
  joined (after x below) t = grove x below t

  -- the forest whose place is taken by t, from the place up
  abbrev pub plugged : List (Step X) → Forest X → Forest X
  plugged [] t = t
  plugged (s ∷ steps) t = plugged steps (joined s t)

  -- the node above a place, where none is the root, and the one before it among the siblings
  abbrev pub parent_in : List (Step X) → Option Name
  parent_in [] = None
  parent_in (under x rest ∷ steps) = Some x.name
  parent_in (after x below ∷ steps) = parent_in steps

  abbrev pub prev_in : List (Step X) → Option Name
  prev_in [] = None
  prev_in (under x rest ∷ steps) = None
  prev_in (after x below ∷ steps) = Some x.name

  abbrev pub name_of : Step X → Name
  name_of (under x rest) = x.name
  name_of (after x below) = x.name

  abbrev pub side_of : Step X → Forest X
  side_of (under x rest) = rest
  side_of (after x below) = below

  -- the depth at a place
  abbrev pub depth_in : List (Step X) → ℕ
  depth_in [] = 2
  depth_in (under x rest ∷ steps) = depth_in steps + 1
  depth_in (after x below ∷ steps) = depth_in steps

  -- the rows before a place in preorder, and those after all that stands there
  abbrev pub before_in : List (Step X) → List (Row Name (Node X))
  before_in [] = []
  before_in (under x rest ∷ steps) = before_in steps ++ row x.name (node (depth_in steps) x.value) ∷ []
  before_in (after x below ∷ steps) = before_in steps ++ row x.name (node (depth_in steps) x.value) ∷ outline (depth_in steps + 1) below

  abbrev pub after_in : List (Step X) → List (Row Name (Node X))
  after_in [] = []
  after_in (under x rest ∷ steps) = outline (depth_in steps) rest ++ after_in steps
  after_in (after x below ∷ steps) = after_in steps
