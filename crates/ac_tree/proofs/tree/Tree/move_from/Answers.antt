use Rattle.std.proofs.Common.{length, None, refl, ap}
use Rattle.ac_model.specs.Objects.{plain}
use Rattle.ac_model.specs.Common as common
use Rattle.ac_model.specs.Containers.{Container}
use Rattle.ac_chain.proofs.SequenceRefills.{refill_sequence}
use Rattle.ac_chain.proofs.Moved.{cleared_fewer, cleared_slots}
use Rattle.ac_chain.proofs.SequenceMoves.{sequence_less, more_slots, less_slots, transferred, emptied, move_fits, moved}
use Rattle.ac_chain.proofs.SequenceGrows.{widens_none}
use Rattle.ac_model.proofs.Reasons.{passed}
use Rattle.ac_tree.specs.TreeFields.{forest_in}
use Rattle.ac_tree.specs.TreeRows.{rows_of}
use Rattle.ac_tree.proofs.Children.{if_err_rows}
use Rattle.ac_tree.proofs.Objects.{sound_of}
use Rattle.ac_tree.proofs.tree.Tree.move_from.Goals as goal

pub take_over-requires-clause-few : goal.take_over-requires-clause-few
take_over-requires-clause-few g c = c.source.invariant.sequence.within_greatest

pub take_over-requires-clause-unspent : goal.take_over-requires-clause-unspent
take_over-requires-clause-unspent g c =
    let i = c.self.inside in let j = c.source.inside in let o = c.args.self.now.object in let p = c.args.source.now.object in let view = ap (λ (x : Container _). x.object) c.self.view_is in let seen = ap (λ (x : Container _). x.object) c.source.view_is in
    (move_fits i.guards j.guards i.limit j.limit None None (rows_of i.links) (rows_of j.links) o p view seen (passed _ _ c.in_ok-allowed.ensures c.refuses_move.ensures)).unspent

pub invariant_of-self : goal.invariant_of-self
invariant_of-self g c =
    let i = c.self.inside in let j = c.source.inside in let o = c.args.self.now.object in let p = c.args.source.now.object in let view = ap (λ (x : Container _). x.object) c.self.view_is in let seen = ap (λ (x : Container _). x.object) c.source.view_is in
    let f = move_fits i.guards j.guards i.limit j.limit None None (rows_of i.links) (rows_of j.links) o p view seen (passed _ _ c.in_ok-allowed.ensures c.refuses_move.ensures) in let t = c.take_over in
    record {
      forest = t.ensures.target;
      sequence = refill_sequence i.limit (rows_of i.links) (rows_of t.new.links) (rows_of j.links).rows t.result c.self.invariant.sequence f.few f.within
          t.ensures.put (if_err_rows t.result i.links t.new.links t.ensures.refused_target) t.ensures.slots (sound_of t.new.links (forest_in t.new.links) t.ensures.target);
    }

pub invariant_of-source : goal.invariant_of-source
invariant_of-source g c =
    let j = c.source.inside in let t = c.take_over in let k = rows_of j.links in let now = rows_of t.new.source in
    record {
      forest = t.ensures.source;
      sequence = sequence_less j.limit k now t.result c.source.invariant.sequence (cleared_fewer k now) (cleared_slots k now) t.ensures.cleared
          (if_err_rows t.result j.links t.new.source t.ensures.refused_source) (sound_of t.new.source (forest_in t.new.source) t.ensures.source);
    }

pub returns-clause-changed : goal.returns-clause-changed
returns-clause-changed g c =
    let i = c.self.inside in let j = c.source.inside in let o = c.args.self.now.object in let p = c.args.source.now.object in let view = ap (λ (x : Container _). x.object) c.self.view_is in let seen = ap (λ (x : Container _). x.object) c.source.view_is in
    let t = c.take_over in let none = (passed _ _ c.in_ok-allowed.ensures c.refuses_move.ensures) in
    let k = rows_of i.links in let from = rows_of j.links in let now = rows_of t.new.links in let left = rows_of t.new.source in
    transferred i.guards j.guards i.limit j.limit None None k from o p view seen now left None (common.move_from_call (plain o) (plain p)) t.result c.as_fault.result c.as_fault.ensures refl none (widens_none t.result i.limit (length now.rows))
    (moved i.guards j.guards i.limit j.limit None None k from o p view seen now None) (emptied i.guards j.guards i.limit j.limit None None k from o p view seen left) t.ensures.put t.ensures.cleared
    (if_err_rows t.result i.links t.new.links t.ensures.refused_target) (if_err_rows t.result j.links t.new.source t.ensures.refused_source)

pub returns-clause-slots : goal.returns-clause-slots
returns-clause-slots g c =
    let i = c.self.inside in let t = c.take_over in
    more_slots i.guards i.limit None None (rows_of i.links) (rows_of t.new.links) c.args.self.now c.self.view_is t.result c.as_fault.result c.as_fault.ensures (λ h. h) t.ensures.grown (if_err_rows t.result i.links t.new.links t.ensures.refused_target)

pub returns-clause-source : goal.returns-clause-source
returns-clause-source g c =
    let j = c.source.inside in let t = c.take_over in
    less_slots j.guards j.limit None (rows_of j.links) (rows_of t.new.source) c.args.source.now c.source.view_is t.result (cleared_slots (rows_of j.links) (rows_of t.new.source)) t.ensures.cleared
    (if_err_rows t.result j.links t.new.source t.ensures.refused_source)
