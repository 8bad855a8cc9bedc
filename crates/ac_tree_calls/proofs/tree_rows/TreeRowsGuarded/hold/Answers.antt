use Rattle.std.proofs.Common.{ap, ◌∙◌}
use Rattle.ac_base.specs.Guards.{GuardCounts, one_more, raised_kind}
use Rattle.ac_tree_calls.proofs.Guarding.{same_counts, counts_changed, may_hold}
use Rattle.ac_tree_calls.proofs.tree_rows.TreeRowsGuarded.hold.Goals as goal

pub hold-requires : goal.hold-requires
hold-requires g c =
    let tree = c.self.inside.tree in
    let same = same_counts g.C.TreeLike.seen g.C.Guarded.guards g.met.C.TreeLike.guards_seen tree c.args.self.now c.self.view_is in
    may_hold c.args.kind _ _ _ (g.met.C.TreeLike.no_set tree) same c.requires

pub returns-clause-object : goal.returns-clause-object
returns-clause-object g c =
    let tree = c.self.inside.tree in
    let same = same_counts g.C.TreeLike.seen g.C.Guarded.guards g.met.C.TreeLike.guards_seen tree c.args.self.now c.self.view_is in
    c.hold.ensures.object ∙ ap (λ (k : GuardCounts). k.number) same

pub returns-clause-kind : goal.returns-clause-kind
returns-clause-kind g c = c.hold.ensures.kind ∙ ap (λ b. raised_kind b c.args.kind) (g.met.C.TreeLike.no_set c.self.inside.tree)

pub returns-clause-held : goal.returns-clause-held
returns-clause-held g c =
    counts_changed g.C.TreeLike.seen g.C.Guarded.guards g.met.C.TreeLike.guards_seen g.C.Guarded.with_guards g.met.C.TreeLike.given_seen
    (one_more c.hold.result.kind) c.self.inside.tree c.hold.new.self c.args.self.now c.self.view_is c.hold.ensures.held
