use Rattle.std.proofs.Common.{None, ◌∷◌, [], refl, sym, ap}
use Rattle.ac_base.proofs.FirstReason.{none_found}
use Rattle.ac_model.specs.Letters.{tampers_cursors}
use Rattle.ac_model.specs.Objects.{plain}
use Rattle.ac_model.specs.Cursors.{needs_cursor, may_cursor}
use Rattle.ac_model.specs.Containers.{Container}
use Rattle.ac_chain.proofs.SequenceLooks.{live_needed}
use Rattle.ac_chain.proofs.SequenceStanding.{placed_live}
use Rattle.ac_chain.proofs.SequenceLinks.{list_moved, moved_after, moved_mark}
use Rattle.ac_model.proofs.Reasons.{passed}
use Rattle.ac_list.proofs.list.List.splice_within.Goals as goal

pub move_before-requires-clause-place : goal.move_before-requires-clause-place
move_before-requires-clause-place g c =
    let i = c.self.inside in let o = c.args.self.now.object in
    let none = none_found (tampers_cursors (plain o) ∷ may_cursor o c.args.b ∷ needs_cursor o c.args.c ∷ []) (sym (passed _ _ c.in_ok-allowed.ensures c.refuses_splice.ensures)) in
    placed_live i.guards i.limit None i.chain o (ap (λ (x : Container _). x.object) c.self.view_is) c.args.b c.place_in.result c.place_in.ensures none.1.0

pub move_before-requires-clause-name : goal.move_before-requires-clause-name
move_before-requires-clause-name g c =
    let i = c.self.inside in let o = c.args.self.now.object in
    let none = none_found (tampers_cursors (plain o) ∷ may_cursor o c.args.b ∷ needs_cursor o c.args.c ∷ []) (sym (passed _ _ c.in_ok-allowed.ensures c.refuses_splice.ensures)) in
    live_needed i.guards i.limit None i.chain o (ap (λ (x : Container _). x.object) c.self.view_is) c.args.c c.name_in.result c.name_in.ensures none.1.1.0

pub invariant_of-self : goal.invariant_of-self
invariant_of-self g c =
    let i = c.self.inside in let o = c.args.self.now.object in let view = ap (λ (x : Container _). x.object) c.self.view_is in
    let none = none_found (tampers_cursors (plain o) ∷ may_cursor o c.args.b ∷ needs_cursor o c.args.c ∷ []) (sym (passed _ _ c.in_ok-allowed.ensures c.refuses_splice.ensures)) in
    list_moved i.limit i.chain c.move_before.new.self c.place_in.result c.name_in.result c.self.invariant (placed_live i.guards i.limit None i.chain o view c.args.b c.place_in.result c.place_in.ensures none.1.0)
    (live_needed i.guards i.limit None i.chain o view c.args.c c.name_in.result c.name_in.ensures none.1.1.0) c.move_before.ensures.moved c.move_before.ensures.sound

pub returns-clause-kept : goal.returns-clause-kept
returns-clause-kept g c =
    let i = c.self.inside in let o = c.args.self.now.object in let view = ap (λ (x : Container _). x.object) c.self.view_is in
    let none = none_found (tampers_cursors (plain o) ∷ may_cursor o c.args.b ∷ needs_cursor o c.args.c ∷ []) (sym (passed _ _ c.in_ok-allowed.ensures c.refuses_splice.ensures)) in
    moved_mark i.guards i.limit i.chain c.move_before.new.self o view c.args.c c.place_in.result c.name_in.result c.name_in.ensures (placed_live i.guards i.limit None i.chain o view c.args.b c.place_in.result c.place_in.ensures none.1.0)
    none.1.1.0 c.move_before.ensures.moved

pub returns-clause-changed : goal.returns-clause-changed
returns-clause-changed g c =
    let i = c.self.inside in let o = c.args.self.now.object in let view = ap (λ (x : Container _). x.object) c.self.view_is in
    let none = none_found (tampers_cursors (plain o) ∷ may_cursor o c.args.b ∷ needs_cursor o c.args.c ∷ []) (sym (passed _ _ c.in_ok-allowed.ensures c.refuses_splice.ensures)) in (
      sym (passed _ _ c.in_ok-allowed.ensures c.refuses_splice.ensures),
      moved_after i.guards i.limit i.chain c.move_before.new.self o view c.self.invariant.sound c.args.b c.args.c
          c.place_in.result c.name_in.result c.place_in.ensures c.name_in.ensures none.1.0 none.1.1.0 c.move_before.ensures.moved,
      refl,
    )
