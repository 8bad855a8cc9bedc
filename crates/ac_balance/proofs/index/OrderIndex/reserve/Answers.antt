use Rattle.std.proofs.Common.{◌≡◌, ap, ◌∙◌, subst}
use Rattle.ac_pool.specs.Contents as pool
use Rattle.ac_balance.specs.Indexed.{indexed, reserved}
use Rattle.ac_balance.specs.TreeFields.{links}
use Rattle.ac_balance.specs.IndexFields.{rows_in}
use Rattle.ac_balance.proofs.Indexes.{view_of, grown_index, entries_either, reserved_view, sound_of, on_ok}
use Rattle.ac_balance.proofs.index.OrderIndex.reserve.Goals as goal

pub invariant_of-self : goal.invariant_of-self
invariant_of-self g c =
    let l = c.self.inside.links in let d = c.reserve.new.self in
    (grown_index g.K.Rank.is_less l c.self.invariant d (entries_either c.reserve.result l.nodes d c.args.n c.reserve.ensures.ok c.reserve.ensures.err) c.reserve.ensures.sound).0

pub returns-clause-ok : goal.returns-clause-ok
returns-clause-ok g c =
    let l = c.self.inside.links in let d = c.reserve.new.self in let n = c.args.n in let m = links d l.root in
    let grown = grown_index g.K.Rank.is_less l c.self.invariant d (entries_either c.reserve.result l.nodes d n c.reserve.ensures.ok c.reserve.ensures.err) c.reserve.ensures.sound in
    on_ok c.reserve.result (d ≡ pool.reserved l.nodes n) (view_of m ≡ reserved c.args.self.now n)
    (λ is. subst (λ x. view_of m ≡ reserved x n) c.self.view_is
    (grown.1 ∙ ap (λ (e : pool.Contents _). indexed (rows_in l) e.next_serial e.spare) is ∙ reserved_view (rows_in l) l.nodes n c.self.invariant.count))
    c.reserve.ensures.ok

pub returns-clause-sound : goal.returns-clause-sound
returns-clause-sound g c =
    let l = c.self.inside.links in let d = c.reserve.new.self in
    sound_of g.K.Rank.is_less (links d l.root) (grown_index g.K.Rank.is_less l c.self.invariant d (entries_either c.reserve.result l.nodes d c.args.n c.reserve.ensures.ok c.reserve.ensures.err) c.reserve.ensures.sound).0
