use Rattle.std.proofs.Common.{None, length, sym, ap, ◌∙◌, subst}
use Rattle.ac_model.specs.Objects.{plain}
use Rattle.ac_model.specs.Calls.{Changing, Same}
use Rattle.ac_model.specs.Common.{assign_call}
use Rattle.ac_model.specs.Containers.{Container}
use Rattle.ac_chain.specs.Sequence.{object_of}
use Rattle.ac_chain.proofs.SequenceRefills.{refill_sequence, refill_changes, refill_reason, refill_within}
use Rattle.ac_chain.proofs.SequenceGrows.{widens_none}
use Rattle.ac_model.proofs.Reasons.{passed}
use Rattle.ac_tree.proofs.Children.{if_err_rows}
use Rattle.ac_tree.specs.TreeRows.{rows_of}
use Rattle.ac_tree.proofs.Objects.{sound_of}
use Rattle.ac_tree.specs.TreeFields.{forest_in}
use Rattle.ac_tree.proofs.tree.Tree.assign.Goals as goal

pub invariant_of-self : goal.invariant_of-self
invariant_of-self g c =
    let i = c.self.inside in let s = c.source.inside in let f = c.refill in
    let count = c.live_nodes.ensures.count ∙ ap (λ (x : Container _). length x.object.rows) (sym c.source.view_is) in
    record {
      forest = f.ensures.forest;
      sequence = refill_sequence i.limit (rows_of i.links) (rows_of f.new.links) (rows_of s.links).rows f.result c.self.invariant.sequence c.source.invariant.sequence.within_greatest
          (refill_within i.guards i.limit None (rows_of i.links) c.args.self.now.object (ap (λ (x : Container _). x.object) c.self.view_is) c.live_nodes.result (length (rows_of s.links).rows) count (sym (passed _ _ c.in_ok-allowed.ensures c.refuses_refill.ensures)))
          f.ensures.put (if_err_rows f.result i.links f.new.links f.ensures.refused) f.ensures.slots (sound_of f.new.links (forest_in f.new.links) f.ensures.forest);
    }

pub returns-clause-changed : goal.returns-clause-changed
returns-clause-changed g c =
    let i = c.self.inside in let s = c.source.inside in let f = c.refill in let o = c.args.self.now.object in let from = c.args.source.now.object in
    let count = c.live_nodes.ensures.count ∙ ap (λ (x : Container _). length x.object.rows) (sym c.source.view_is) in
    let seen = ap (λ (x : Container _). x.object) c.source.view_is in
    subst (λ r. Changing Same (assign_call (plain o) (plain from)) o (object_of i.guards i.limit None (rows_of f.new.links)) r) (sym c.as_fault.ensures)
    (refill_changes i.guards i.limit None None (rows_of i.links) (rows_of f.new.links) o (ap (λ (x : Container _). x.object) c.self.view_is) s.guards s.limit None (rows_of s.links) from seen f.result
    (sym (refill_reason s.guards s.limit None (rows_of s.links) o from seen c.live_nodes.result count) ∙ sym (passed _ _ c.in_ok-allowed.ensures c.refuses_refill.ensures)) (widens_none f.result i.limit (length (rows_of f.new.links).rows)) f.ensures.put (if_err_rows f.result i.links f.new.links f.ensures.refused))

pub refill-requires-clause-few : goal.refill-requires-clause-few
refill-requires-clause-few g c = c.source.invariant.sequence.within_greatest
