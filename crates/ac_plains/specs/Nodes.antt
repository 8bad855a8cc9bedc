-- A tree that gets its nodes in preorder: the path from its root to its last node, and what the next node needs.
use Rattle.std.specs.Prelude.{◌≡◌, ◌≤◌, ◌+◌, ◌-◌, ℕ, false, List, length, Some, None, slice_get}
use Rattle.ac_model.specs.Letters.{Mark}
use Rattle.ac_syntax.specs.declared.kind.ElemKind.{ElemKind}
use Rattle.ac_syntax.specs.declared.operation.Operation.{Operation}
use Rattle.ac_syntax.specs.declared.operation.Operation.TheVariants as operation
use Rattle.ac_syntax.specs.declared.operation.TreeChangeCall.TheVariants as tree_change_call
use Rattle.ac_calls.specs.Holdings.{Held, of_rows, a_tree, RowOf, reply_of}
use Rattle.ac_calls.specs.Replies.{Reply, placed}
use Rattle.ac_calls.specs.declared.plains.PlainRow.{PlainRow}
use Rattle.ac_meaning.specs.Environment.{State, object_at}
use Rattle.ac_model.specs.Objects.{Object}
use Rattle.ac_snapshot.specs.Filled.{child_arguments}

abbrev pub put_child : Operation
put_child = operation.TreeChange tree_change_call.InsertChildPos

-- a tree stands at the place
pub record HasTree (e : State) (place : ℕ) : Type 0 where
  pub elements : ElemKind
  pub tree : Object ℕ (RowOf (a_tree elements))
  pub there : object_at e place ≡ Some (of_rows (a_tree elements) tree)

-- the call that puts it isn't refused, and tells its position
pub record NodePut (r : Reply Held) (next : Mark) : Type 0 where
  pub goes : r.stalls ≡ false
  pub allowed : r.reason ≡ None
  pub position : r.variable ≡ placed 3 next

-- the node goes behind the last child of its parent, which is on the path: the node at place k of the path has depth k + 1
pub record IsNextNode (r : PlainRow) (path : List Mark) (next : Mark) (e : State) (place : ℕ) : Type 0 where
  pub held : Held
  pub there : object_at e place ≡ Some held
  pub deep : 2 ≤ r.depth
  pub below : r.depth ≤ length path + 1
  pub goes : (parent : Mark) → slice_get path (r.depth - 2) ≡ Some parent → NodePut (reply_of held None put_child (child_arguments parent r.value)) next
