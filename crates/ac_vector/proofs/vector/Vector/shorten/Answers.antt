use Rattle.std.proofs.Common.{◌-◌, Some, refl, sym, ap, ◌∙◌}
use Rattle.ac_chain.specs.Rows.{slots_in}
use Rattle.ac_chain.proofs.SequenceDeletes.{cut_at}
use Rattle.ac_chain.proofs.SequenceRefills.{source_is}
use Rattle.ac_model.specs.Containers.{Container}
use Rattle.ac_model.specs.Objects.{length_of, plain}
use Rattle.ac_vector.proofs.Capacities.{kept}
use Rattle.ac_vector.proofs.vector.Vector.shorten.Goals as goal

pub returns-clause-cut : goal.returns-clause-cut
returns-clause-cut g c =
    let i = c.self.inside in let o = c.args.self.now.object in let cut = c.cut.ensures.cut in
    let count = c.len.ensures.count ∙ sym (source_is i.guards i.limit (Some (slots_in i.rows)) i.rows o (ap (λ (x : Container _). x.object) c.self.view_is)).1 in
    kept i.guards i.limit i.rows c.cut.new.self o _ cut.slots
    (cut_at i.guards i.limit (Some (slots_in i.rows)) i.rows c.cut.new.self o (ap (λ (x : Container _). x.object) c.self.view_is) c.args.count c.args.count _ (length_of (plain o) - c.args.count) refl (ap (λ n. n - c.args.count) count) cut)
