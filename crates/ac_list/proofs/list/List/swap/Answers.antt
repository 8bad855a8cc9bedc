use Rattle.std.proofs.Common.{None, ◌∷◌, [], refl, sym, ap}
use Rattle.ac_base.proofs.FirstReason.{none_found}
use Rattle.ac_model.specs.Letters.{tampers_elements}
use Rattle.ac_model.specs.Objects.{plain}
use Rattle.ac_model.specs.Cursors.{needs_cursor}
use Rattle.ac_model.specs.Containers.{Container}
use Rattle.ac_chain.proofs.SequenceLooks.{live_needed}
use Rattle.ac_chain.proofs.SequenceSwaps.{swapped_after}
use Rattle.ac_model.proofs.Reasons.{passed}
use Rattle.ac_list.proofs.list.List.swap.Goals as goal

pub swap_values-requires-clause-a : goal.swap_values-requires-clause-a
swap_values-requires-clause-a g c =
    let i = c.self.inside in let o = c.args.self.now.object in
    let none = none_found (tampers_elements (plain o) ∷ needs_cursor o c.args.first ∷ needs_cursor o c.args.second ∷ []) (sym (passed _ _ c.in_ok-allowed.ensures c.refuses_swap.ensures)) in
    live_needed i.guards i.limit None i.chain o (ap (λ (x : Container _). x.object) c.self.view_is) c.args.first c.name_in.result c.name_in.ensures none.1.0

pub swap_values-requires-clause-b : goal.swap_values-requires-clause-b
swap_values-requires-clause-b g c =
    let i = c.self.inside in let o = c.args.self.now.object in
    let none = none_found (tampers_elements (plain o) ∷ needs_cursor o c.args.first ∷ needs_cursor o c.args.second ∷ []) (sym (passed _ _ c.in_ok-allowed.ensures c.refuses_swap.ensures)) in
    live_needed i.guards i.limit None i.chain o (ap (λ (x : Container _). x.object) c.self.view_is) c.args.second c.name_in-2.result c.name_in-2.ensures none.1.1.0

pub returns-clause-changed : goal.returns-clause-changed
returns-clause-changed g c =
    let i = c.self.inside in let o = c.args.self.now.object in
    let none = none_found (tampers_elements (plain o) ∷ needs_cursor o c.args.first ∷ needs_cursor o c.args.second ∷ []) (sym (passed _ _ c.in_ok-allowed.ensures c.refuses_swap.ensures)) in (
      sym (passed _ _ c.in_ok-allowed.ensures c.refuses_swap.ensures),
      swapped_after i.guards i.limit None i.chain c.swap_values.new.self o (ap (λ (x : Container _). x.object) c.self.view_is) c.self.invariant.sound c.args.first c.args.second
          c.name_in.result c.name_in-2.result c.name_in.ensures c.name_in-2.ensures none.1.0 none.1.1.0 c.swap_values.ensures.swapped,
      refl,
    )
