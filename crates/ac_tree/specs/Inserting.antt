-- A value that is put into a forest as a new node without children.
use Rattle.std.specs.Prelude.{◌≡◌, ℕ, ◌+◌, List, ◌++◌, length, map, replicate, Option, None, Result, IfOk}
use Rattle.ac_base.specs.declared.fault.NoMemory.{NoMemory}
use Rattle.ac_base.specs.declared.name.Name.{Name}
use Rattle.ac_base.specs.Rows.{row}
use Rattle.ac_chain.specs.Rows.{IsFresh, inserted, reserved}
use Rattle.ac_chain.specs.ChainFields.{first_or}
use Rattle.ac_chain.specs.Put.{IsPut, IsFirst, HasFirst}
use Rattle.ac_model.specs.Rows.{Node, node}
use Rattle.ac_tree.specs.declared.links.Links.{Links}
use Rattle.ac_tree.specs.Forests.{Forest, bare, grove, first_in, outline, Step, plugged, parent_in, depth_in, after_in}
use Rattle.ac_tree.specs.TreeFields.{StandsFor, IsForest}
use Rattle.ac_tree.specs.TreeRows.{rows_of}

module _ {X : Type 0} where
  -- where a new child of the parent goes: before a child, or behind the last one
  pub record Hole (l : Links X) (parent before : Option Name) : Type 0 where
    pub steps : List (Step X)
    pub rest : Forest X
    pub stands : StandsFor l (plugged steps rest)
    pub parent_is : parent ≡ parent_in steps
    pub before_is : before ≡ first_in rest

  abbrev pub depth_at : {l : Links X} {parent before : Option Name} → Hole l parent before → ℕ
  depth_at h = depth_in h.steps

  -- the row before which the new one stands in preorder
  abbrev pub place_at : {l : Links X} {parent before : Option Name} → Hole l parent before → Option Name
  place_at h = first_or (outline (depth_in h.steps) h.rest ++ after_in h.steps) None

  pub record Inserted (l : Links X) (parent before : Option Name) (h : Hole l parent before) (v : X) (m : Links X) (a : Name) : Type 0 where
    pub hole : Hole m parent before
    pub stands : StandsFor m (plugged h.steps (grove (row a v) bare h.rest))
    pub place : place_at hole ≡ place_at h
    pub depth : depth_at hole ≡ depth_at h
    pub rows : rows_of m ≡ inserted (rows_of l) (place_at h) (row a (node (depth_at h) v))
    pub fresh : IsFresh (rows_of l) a

  abbrev pub Inserts : Links X → Option Name → Option Name → X → Links X → Name → Type 0
  Inserts l parent before v m a = (h : Hole l parent before) → Inserted l parent before h v m a

  -- the same forest, with room for so many more
  pub record Reserved (l : Links X) (n : ℕ) (m : Links X) (t : Forest X) : Type 0 where
    pub stands : StandsFor m t
    pub rows : rows_of m ≡ reserved (rows_of l) n

  abbrev pub Reserves : Links X → ℕ → Links X → Type 0
  Reserves l n m = (t : Forest X) → StandsFor l t → Reserved l n m t

  -- values as what rows of this depth hold
  abbrev pub nodes_at : ℕ → List X → List (Node X)
  nodes_at depth vs = map (λ v. node depth v) vs

  -- so many values were put into the hole, the first under this name
  pub record PutEach (l : Links X) (parent before : Option Name) (h : Hole l parent before) (vs : List (Node X)) (m : Links X) (a : Name) : Type 0 where
    pub forest : IsForest m
    pub put : IsPut (rows_of l).rows (rows_of l).next_serial (place_at h) vs (rows_of m)
    pub first : IsFirst (rows_of l).next_serial (rows_of m) a
    pub spare : m.nodes.spare + length vs ≡ l.nodes.spare

  -- so many copies, the first under the name, if there is one
  abbrev pub PutCopies : (l : Links X) (parent before : Option Name) → X → ℕ → Links X → Result (Option Name) NoMemory → Type 0
  PutCopies l parent before e n m result =
      (h : Hole l parent before) → IfOk result (λ first. IsPut (rows_of l).rows (rows_of l).next_serial (place_at h) (replicate n (node (depth_at h) e)) (rows_of m) × HasFirst (rows_of l).next_serial n (rows_of m) first)
