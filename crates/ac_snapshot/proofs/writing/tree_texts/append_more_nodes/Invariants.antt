use Rattle.std.proofs.Common.{◌≡◌, ◌++◌, map, drop}
use Rattle.ac_syntax.specs.Canonical.{literal_text}
use Rattle.ac_calls.specs.Listings.{nodes_after}
use Rattle.ac_snapshot.specs.StateTexts.{node_of}
use Rattle.ac_snapshot.proofs.writing.tree_texts.append_more_nodes.Given as goal

abbrev pub invariant-loop-row : goal.invariant-loop-row
invariant-loop-row l =
    l.text.items ++ nodes_after literal_text l.level (map node_of (drop l.row-index l.rows))
    ≡ l.initial.text.items ++ nodes_after literal_text l.depth (map node_of l.rows)
