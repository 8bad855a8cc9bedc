use Rattle.std.proofs.Common.{None, ◌∷◌, [], refl, sym, ap, ◌∙◌, to_z-of_z, w64}
use Rattle.ac_base.specs.FirstReason.{first_reason}
use Rattle.ac_model.specs.Letters.{tampers_cursors, in_range, count_of}
use Rattle.ac_model.specs.Objects.{plain}
use Rattle.ac_model.specs.Containers.{Container}
use Rattle.ac_chain.proofs.SequenceLooks.{live_name}
use Rattle.ac_chain.proofs.Deletes.{first_place}
use Rattle.ac_chain.proofs.SequenceDeletes.{cut_at}
use Rattle.ac_model.proofs.Reasons.{passed}
use Rattle.ac_list.proofs.list.List.delete_first.Goals as goal

pub remove_from-requires-clause-place : goal.remove_from-requires-clause-place
remove_from-requires-clause-place g c = λ a e.
    let i = c.self.inside in
    live_name i.guards i.limit None i.chain c.args.self.now.object (ap (λ (x : Container _). x.object) c.self.view_is) 0 a c.self.invariant.sound (sym e ∙ c.first-first.ensures.name)

pub returns-clause-changed : goal.returns-clause-changed
returns-clause-changed g c =
    let i = c.self.inside in let o = c.args.self.now.object in
    let same = to_z-of_z {w = w64} {z = c.args.n} c.ranges.n in (
      ap (λ n. first_reason (tampers_cursors (plain o) ∷ in_range n ∷ [])) (sym same) ∙ sym (passed _ _ c.in_ok-allowed.ensures c.refuses_count.ensures),
      cut_at i.guards i.limit None i.chain c.remove_from.new.chain o (ap (λ (x : Container _). x.object) c.self.view_is) _ 0 c.count_of.result (count_of c.args.n)
          (first_place i.chain.rows c.first-first.result c.first-first.ensures.name) (c.count_of.ensures ∙ ap count_of same) c.remove_from.ensures.cut,
      refl,
    )
