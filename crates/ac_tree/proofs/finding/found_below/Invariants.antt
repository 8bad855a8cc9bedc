use Rattle.std.proofs.Common.{◌-◌, length}
use Rattle.ac_pool.specs.Link.{name_in}
use Rattle.ac_chain.specs.Rows.{place_of}
use Rattle.ac_tree.specs.Searching.{found_in, rows_below}
use Rattle.ac_tree.specs.TreeCursors.{serial_in}
use Rattle.ac_tree.specs.TreeRows.{rows_of}
use Rattle.ac_tree.proofs.Searching.{Running}
use Rattle.ac_tree.proofs.finding.found_below.Given as goal

abbrev pub invariant-loop-node : goal.invariant-loop-node
invariant-loop-node g l =
    Running l.fn.links l.fn.top g.T.Elem.is_same l.fn.e (found_in g.T.Elem.is_same l.fn.e (rows_below (rows_of l.fn.links).rows (serial_in l.fn.top)))
    l.place l.run

abbrev pub decreases-loop-node : goal.decreases-loop-node
decreases-loop-node g l = length (rows_of l.fn.links).rows - place_of (name_in l.fn.links.nodes l.place) (rows_of l.fn.links).rows
