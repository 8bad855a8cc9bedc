-- At which node a cursor is, where none is the root.
use Rattle.std.specs.Prelude.{◌==◌, ℕ, Bool, false, Option, Some, None, if◌then◌else◌}
use Rattle.ac_base.specs.declared.cursor.Cursor.{Cursor}
use Rattle.ac_base.specs.declared.cursor.Cursor.TheVariants.{NoElement, At}
use Rattle.ac_base.specs.declared.name.Name.{Name}
use Rattle.ac_model.specs.Trees.{root_name}

-- the name of the node at which a cursor is: none for the root, and for No_Element
abbrev pub node_of : Name → Option Name
node_of name = if name.serial == 0 then None else Some name

abbrev pub node_in : Cursor → Option Name
node_in NoElement = None
node_in (At object name) = node_of name

-- the cursor at a node, where none is the root
abbrev pub cursor_of_node : ℕ → Option Name → Cursor
cursor_of_node number None = At number root_name
cursor_of_node number (Some name) = At number name

abbrev pub is_root_cursor : Cursor → Bool
is_root_cursor NoElement = false
is_root_cursor (At object name) = name.serial == 0

-- the serial of a node, where none is the root
abbrev pub serial_in : Option Name → ℕ
serial_in None = 0
serial_in (Some name) = name.serial
