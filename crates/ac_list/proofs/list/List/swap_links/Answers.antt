use Rattle.std.proofs.Common.{None, ◌∷◌, [], refl, sym, ap}
use Rattle.ac_base.proofs.FirstReason.{none_found}
use Rattle.ac_model.specs.Letters.{tampers_cursors}
use Rattle.ac_model.specs.Objects.{plain}
use Rattle.ac_model.specs.Cursors.{needs_cursor}
use Rattle.ac_model.specs.Containers.{Container}
use Rattle.ac_chain.proofs.SequenceLooks.{live_needed}
use Rattle.ac_chain.proofs.SequenceLinks.{links_swapped_after}
use Rattle.ac_model.proofs.Reasons.{passed}
use Rattle.ac_list.proofs.list.List.swap_links.Goals as goal

pub swap_links-requires-clause-a : goal.swap_links-requires-clause-a
swap_links-requires-clause-a g c =
    let i = c.self.inside in let o = c.args.self.now.object in
    let none = none_found (tampers_cursors (plain o) ∷ needs_cursor o c.args.first ∷ needs_cursor o c.args.second ∷ []) (sym (passed _ _ c.in_ok-allowed.ensures c.refuses_swap_links.ensures)) in
    live_needed i.guards i.limit None i.chain o (ap (λ (x : Container _). x.object) c.self.view_is) c.args.first c.name_in.result c.name_in.ensures none.1.0

pub swap_links-requires-clause-b : goal.swap_links-requires-clause-b
swap_links-requires-clause-b g c =
    let i = c.self.inside in let o = c.args.self.now.object in
    let none = none_found (tampers_cursors (plain o) ∷ needs_cursor o c.args.first ∷ needs_cursor o c.args.second ∷ []) (sym (passed _ _ c.in_ok-allowed.ensures c.refuses_swap_links.ensures)) in
    live_needed i.guards i.limit None i.chain o (ap (λ (x : Container _). x.object) c.self.view_is) c.args.second c.name_in-2.result c.name_in-2.ensures none.1.1.0

pub returns-clause-changed : goal.returns-clause-changed
returns-clause-changed g c =
    let i = c.self.inside in let o = c.args.self.now.object in
    let none = none_found (tampers_cursors (plain o) ∷ needs_cursor o c.args.first ∷ needs_cursor o c.args.second ∷ []) (sym (passed _ _ c.in_ok-allowed.ensures c.refuses_swap_links.ensures)) in (
      sym (passed _ _ c.in_ok-allowed.ensures c.refuses_swap_links.ensures),
      links_swapped_after i.guards i.limit i.chain c.swap_links.new.self o (ap (λ (x : Container _). x.object) c.self.view_is) c.self.invariant.sound c.args.first c.args.second
          c.name_in.result c.name_in-2.result c.name_in.ensures c.name_in-2.ensures none.1.0 none.1.1.0 c.swap_links.ensures.swapped,
      refl,
    )
