use Rattle.std.proofs.Common.{None, ◌∷◌, [], refl, sym, ap, ◌∙◌, to_z-of_z, w64}
use Rattle.ac_base.specs.FirstReason.{first_reason}
use Rattle.ac_base.proofs.FirstReason.{none_found}
use Rattle.ac_model.specs.Letters.{tampers_cursors, in_range, count_of}
use Rattle.ac_model.specs.Objects.{plain}
use Rattle.ac_model.specs.Cursors.{needs_cursor}
use Rattle.ac_model.specs.Containers.{Container}
use Rattle.ac_chain.proofs.SequenceDeletes.{cursor_place, cut_at}
use Rattle.ac_model.proofs.Reasons.{passed}
use Rattle.ac_list.proofs.list.List.delete.Goals as goal

pub remove_from-requires-clause-place : goal.remove_from-requires-clause-place
remove_from-requires-clause-place g c =
    let i = c.self.inside in let o = c.args.self.now.object in
    let reason = ap (λ n. first_reason (tampers_cursors (plain o) ∷ needs_cursor o c.args.q.now ∷ in_range n ∷ [])) (sym (to_z-of_z {w = w64} {z = c.args.n} c.ranges.n)) ∙ sym (passed _ _ c.in_ok-allowed.ensures c.refuses_deletion.ensures) in
    let none = none_found (tampers_cursors (plain o) ∷ needs_cursor o c.args.q.now ∷ in_range c.args.n ∷ []) reason in
    (cursor_place i.guards i.limit None i.chain o (ap (λ (x : Container _). x.object) c.self.view_is) c.self.invariant.sound c.args.q.now c.place_in.result c.place_in.ensures none.1.0).0

pub returns-clause-changed : goal.returns-clause-changed
returns-clause-changed g c =
    let i = c.self.inside in let o = c.args.self.now.object in let view = ap (λ (x : Container _). x.object) c.self.view_is in
    let same = to_z-of_z {w = w64} {z = c.args.n} c.ranges.n in
    let reason = ap (λ n. first_reason (tampers_cursors (plain o) ∷ needs_cursor o c.args.q.now ∷ in_range n ∷ [])) (sym same) ∙ sym (passed _ _ c.in_ok-allowed.ensures c.refuses_deletion.ensures) in
    let none = none_found (tampers_cursors (plain o) ∷ needs_cursor o c.args.q.now ∷ in_range c.args.n ∷ []) reason in (
      (
        reason,
        cut_at i.guards i.limit None i.chain c.remove_from.new.chain o view _ _ c.count_of.result (count_of c.args.n)
            (cursor_place i.guards i.limit None i.chain o view c.self.invariant.sound c.args.q.now c.place_in.result c.place_in.ensures none.1.0).1 (c.count_of.ensures ∙ ap count_of same) c.remove_from.ensures.cut,
        refl,
      ),
      tt,
    )
