-- Nodes that are copied with their depths, and put as the nodes of another tree, or below one of its nodes.
use Rattle.std.specs.Prelude.{◌≡◌, ◌+◌, ℕ, zero, suc, List, ◌++◌, length, map, reverse, Option, Some, None}
use Rattle.ac_base.specs.declared.name.Name.{Name}
use Rattle.ac_base.specs.Rows.{Row, values}
use Rattle.ac_chain.specs.ChainFields.{first_or}
use Rattle.ac_chain.specs.Put.{IsPut, HasFirst, HasGrown}
use Rattle.ac_model.specs.Rows.{Node, node}
use Rattle.ac_model.specs.Letters.{mark_at}
use Rattle.ac_model.specs.Objects.{plains}
use Rattle.ac_model.specs.Outline.{depth_of}
use Rattle.ac_model.specs.Trees.{subtree_at_depth, run_at_depth}
use Rattle.ac_tree.specs.declared.copying.Leveled.{Leveled}
use Rattle.ac_tree.specs.declared.links.Links.{Links}
use Rattle.ac_tree.specs.Forests.{Forest, outline}
use Rattle.ac_tree.specs.Inserting.{Hole, depth_at, place_at}
use Rattle.ac_tree.specs.TreeCursors.{serial_in}
use Rattle.ac_tree.specs.TreeFields.{parent_of, IsForest}
use Rattle.ac_tree.specs.TreeRows.{rows_of}

module _ {X : Type 0} where
  -- the depth of a node
  abbrev pub level_of : Links X → Name → ℕ
  level_of l a = depth_of (plains (rows_of l).rows) a.serial

  -- a value with its depth, as what a row holds
  abbrev pub in_node : Leveled X → Node X
  in_node i = node i.depth i.value

  abbrev pub nodes_in : List (Leveled X) → List (Node X)
  nodes_in items = map in_node items

  abbrev pub levels_in : List (Leveled X) → List ℕ
  levels_in items = map (λ (i : Leveled X). i.depth) items

  -- the node so many levels above one, where none is the root
  abbrev pub up_of : Links X → Option Name → Option Name
  up_of l None = None
  up_of l (Some a) = parent_of l a

  abbrev pub raised_by : Links X → ℕ → Option Name → Option Name
  raised_by l zero o = o
  raised_by l (suc n) o = up_of l (raised_by l n o)

  -- so many rows in a row, from a node of this depth on
  pub record Part (l : Links X) (from : Name) (level count : ℕ) : Type 0 where
    pub before : List (Row Name (Node X))
    pub rows : List (Row Name (Node X))
    pub after : List (Row Name (Node X))
    pub is : (rows_of l).rows ≡ before ++ (rows ++ after)
    pub from_is : Some from ≡ first_or (rows ++ after) None
    pub count_is : count ≡ length rows
    pub level_is : level ≡ level_of l from

  -- what the rows of a subtree hold, its top at this depth, and those below a node, or below the root at none
  abbrev pub subtree_nodes : Links X → Name → ℕ → List (Node X)
  subtree_nodes l top depth = values (subtree_at_depth depth (plains (rows_of l).rows) (mark_at 0 top.serial))

  abbrev pub run_nodes : Links X → Option Name → ℕ → List (Node X)
  run_nodes l parent depth = values (run_at_depth depth (plains (rows_of l).rows) (mark_at 0 (serial_in parent)))

  -- the values of a forest whose topmost rows have this depth, the last one first
  pub record IsForestOf (depth : ℕ) (items : List (Leveled X)) : Type 0 where
    pub forest : Forest X
    pub nodes : nodes_in (reverse items) ≡ values (outline depth forest)

  -- a place for children of this depth
  pub record HoleAt (l : Links X) (parent before : Option Name) (depth : ℕ) : Type 0 where
    pub hole : Hole l parent before
    pub deep : depth_at hole ≡ depth

  -- these were put into the hole as a forest, and this is the first one's name, if there is one
  pub record Grafted (l : Links X) (parent before : Option Name) (h : Hole l parent before) (vs : List (Node X)) (m : Links X) (made : Option Name) : Type 0 where
    pub forest : IsForest m
    pub put : IsPut (rows_of l).rows (rows_of l).next_serial (place_at h) vs (rows_of m)
    pub first : HasFirst (rows_of l).next_serial (length vs) (rows_of m) made
    pub spare : m.nodes.spare + length vs ≡ l.nodes.spare

  -- the same, with memory taken before
  pub record Planted (l : Links X) (parent before : Option Name) (h : Hole l parent before) (vs : List (Node X)) (m : Links X) (made : Option Name) : Type 0 where
    pub put : IsPut (rows_of l).rows (rows_of l).next_serial (place_at h) vs (rows_of m)
    pub first : HasFirst (rows_of l).next_serial (length vs) (rows_of m) made
    pub grown : HasGrown (rows_of l) (length vs) (rows_of m)
