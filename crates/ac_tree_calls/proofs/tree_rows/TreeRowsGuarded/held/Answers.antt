use Rattle.std.proofs.Common.{ap, ◌∙◌}
use Rattle.ac_base.specs.Guards.{count_of}
use Rattle.ac_tree_calls.proofs.Guarding.{same_counts}
use Rattle.ac_tree_calls.proofs.tree_rows.TreeRowsGuarded.held.Goals as goal

pub returns : goal.returns
returns g c =
    let tree = c.self.inside.tree in
    let same = same_counts g.C.TreeLike.seen g.C.Guarded.guards g.met.C.TreeLike.guards_seen tree c.args.self.now c.self.view_is in
    c.held.ensures ∙ ap (count_of c.args.kind) same
