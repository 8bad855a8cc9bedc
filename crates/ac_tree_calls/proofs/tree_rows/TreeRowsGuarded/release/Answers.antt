use Rattle.std.proofs.Common.{◌≡◌, ◌<◌, sym, subst}
use Rattle.ac_base.specs.Guards.{GuardCounts, count_of, one_less}
use Rattle.ac_tree_calls.proofs.Guarding.{same_counts, counts_changed}
use Rattle.ac_tree_calls.proofs.tree_rows.TreeRowsGuarded.release.Goals as goal

pub release-requires-clause-own : goal.release-requires-clause-own
release-requires-clause-own g c =
    let tree = c.self.inside.tree in
    let same = same_counts g.C.TreeLike.seen g.C.Guarded.guards g.met.C.TreeLike.guards_seen tree c.args.self.now c.self.view_is in
    subst (λ (k : GuardCounts). c.args.key.object ≡ k.number) (sym same) c.requires.own

pub release-requires-clause-held : goal.release-requires-clause-held
release-requires-clause-held g c =
    let tree = c.self.inside.tree in
    let same = same_counts g.C.TreeLike.seen g.C.Guarded.guards g.met.C.TreeLike.guards_seen tree c.args.self.now c.self.view_is in
    subst (λ (k : GuardCounts). 0 < count_of c.args.key.kind k) (sym same) c.requires.held

pub returns : goal.returns
returns g c =
    counts_changed g.C.TreeLike.seen g.C.Guarded.guards g.met.C.TreeLike.guards_seen g.C.Guarded.with_guards g.met.C.TreeLike.given_seen
    (one_less c.args.key.kind) c.self.inside.tree c.release.new.self c.args.self.now c.self.view_is c.release.ensures
