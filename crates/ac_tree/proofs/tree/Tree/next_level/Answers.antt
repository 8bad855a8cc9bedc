use Rattle.std.proofs.Common.{sym, ap}
use Rattle.ac_model.specs.Containers.{Container}
use Rattle.ac_tree.proofs.Meeting.{met_live, met_level, meets_next}
use Rattle.ac_tree.proofs.tree.Tree.next_level.Goals as goal

pub after_level-next-requires-clause-live : goal.after_level-next-requires-clause-live
after_level-next-requires-clause-live g c =
    let i = c.self.inside in let o = c.args.self.now.object in let rows = ap (λ (x : Container _). x.object.rows) (sym c.self.view_is) in
    met_live i.links c.self.invariant.forest o rows c.args.c c.args.depth c.requires c.name_in.result c.name_in.ensures

pub after_level-next-requires-clause-depth : goal.after_level-next-requires-clause-depth
after_level-next-requires-clause-depth g c =
    let i = c.self.inside in let o = c.args.self.now.object in let rows = ap (λ (x : Container _). x.object.rows) (sym c.self.view_is) in
    met_level i.links c.self.invariant.forest o rows c.args.c c.args.depth c.requires c.name_in.result c.name_in.ensures

pub returns : goal.returns
returns g c =
    let i = c.self.inside in let o = c.args.self.now.object in let rows = ap (λ (x : Container _). x.object.rows) (sym c.self.view_is) in
    meets_next i.links c.self.invariant.forest o rows c.name_in.result c.after_level-next.result c.after_level-next.new.depth c.after_level-next.ensures.follows
    c.after_level-next.ensures.level c.args.c c.named.result c.name_in.ensures c.named.ensures
