use Rattle.std.proofs.Common.{length, Some, refl, sym, ap, subst}
use Rattle.ac_model.specs.Objects.{plain}
use Rattle.ac_model.specs.Sequences as sequences
use Rattle.ac_model.specs.Containers.{Container}
use Rattle.ac_model.specs.Calls.{ChangingBoth, Same, both}
use Rattle.ac_chain.specs.Rows.{slots_in}
use Rattle.ac_chain.specs.Sequence.{object_of}
use Rattle.ac_chain.proofs.Merges.{merged_length}
use Rattle.ac_chain.proofs.Moved.{cleared_fewer, cleared_slots}
use Rattle.ac_chain.proofs.SequenceMerges.{merge_fits, merged_after}
use Rattle.ac_chain.proofs.SequenceMoves.{sequence_more, sequence_less, more_slots, less_slots, transferred, emptied}
use Rattle.ac_model.proofs.Reasons.{passed}
use Rattle.ac_vector.proofs.Drains.{emptied_slots}
use Rattle.ac_vector.proofs.Merges.{merge_grown, merge_widens}
use Rattle.ac_vector.proofs.vector.Vector.merge.Goals as goal

pub merge_all-requires-clause-few : goal.merge_all-requires-clause-few
merge_all-requires-clause-few g c =
    let i = c.self.inside in let j = c.source.inside in let o = c.args.self.now.object in let p = c.args.source.now.object in let view = ap (λ (x : Container _). x.object) c.self.view_is in let seen = ap (λ (x : Container _). x.object) c.source.view_is in
    (merge_fits g.T.Rank.is_less i.guards j.guards i.limit j.limit (Some (slots_in i.rows)) (Some (slots_in j.rows)) i.rows j.rows o p view seen (passed _ _ c.in_ok-allowed.ensures c.refuses_merge.ensures)).few

pub merge_all-requires-clause-unspent : goal.merge_all-requires-clause-unspent
merge_all-requires-clause-unspent g c =
    let i = c.self.inside in let j = c.source.inside in let o = c.args.self.now.object in let p = c.args.source.now.object in let view = ap (λ (x : Container _). x.object) c.self.view_is in let seen = ap (λ (x : Container _). x.object) c.source.view_is in
    (merge_fits g.T.Rank.is_less i.guards j.guards i.limit j.limit (Some (slots_in i.rows)) (Some (slots_in j.rows)) i.rows j.rows o p view seen (passed _ _ c.in_ok-allowed.ensures c.refuses_merge.ensures)).unspent

pub invariant_of-self : goal.invariant_of-self
invariant_of-self g c =
    let i = c.self.inside in let j = c.source.inside in let o = c.args.self.now.object in let p = c.args.source.now.object in let view = ap (λ (x : Container _). x.object) c.self.view_is in let seen = ap (λ (x : Container _). x.object) c.source.view_is in
    let t = c.merge_all in
    let fits = merge_fits g.T.Rank.is_less i.guards j.guards i.limit j.limit (Some (slots_in i.rows)) (Some (slots_in j.rows)) i.rows j.rows o p view seen (passed _ _ c.in_ok-allowed.ensures c.refuses_merge.ensures) in
    sequence_more i.limit i.rows t.new.target (length j.rows.rows) t.result c.self.invariant fits (merged_length g.T.Rank.is_less i.rows t.new.target j.rows) t.ensures.merged
    (merge_grown t.result g.T.Rank.is_less i.rows t.new.target j.rows t.ensures.merged t.ensures.slots) t.ensures.refused_target t.ensures.target

pub invariant_of-source : goal.invariant_of-source
invariant_of-source g c =
    let j = c.source.inside in let t = c.merge_all in
    sequence_less j.limit j.rows t.new.source t.result c.source.invariant (cleared_fewer j.rows t.new.source) (cleared_slots j.rows t.new.source) t.ensures.cleared t.ensures.refused_source t.ensures.source

pub returns-clause-changed : goal.returns-clause-changed
returns-clause-changed g c =
    let i = c.self.inside in let j = c.source.inside in let o = c.args.self.now.object in let p = c.args.source.now.object in let view = ap (λ (x : Container _). x.object) c.self.view_is in let seen = ap (λ (x : Container _). x.object) c.source.view_is in
    let t = c.merge_all in let none = passed _ _ c.in_ok-allowed.ensures c.refuses_merge.ensures in
    let fits = merge_fits g.T.Rank.is_less i.guards j.guards i.limit j.limit (Some (slots_in i.rows)) (Some (slots_in j.rows)) i.rows j.rows o p view seen (passed _ _ c.in_ok-allowed.ensures c.refuses_merge.ensures) in
    let risen = merge_widens t.result g.T.Rank.is_less i.rows t.new.target j.rows i.limit c.self.invariant fits.within t.ensures.merged t.ensures.slots t.ensures.refused_target in
    subst (λ n. ChangingBoth Same (sequences.merge_call g.T.Rank.is_less (plain o) (plain p)) (both o p) (both (object_of i.guards i.limit (Some (slots_in t.new.target)) t.new.target) (object_of j.guards j.limit (Some n) t.new.source)) c.as_fault.result)
    (sym (emptied_slots t.result j.rows t.new.source t.ensures.cleared t.ensures.refused_source))
    (transferred i.guards j.guards i.limit j.limit (Some (slots_in i.rows)) (Some (slots_in j.rows)) i.rows j.rows o p view seen t.new.target t.new.source (Some (slots_in t.new.target)) (sequences.merge_call g.T.Rank.is_less (plain o) (plain p)) t.result c.as_fault.result c.as_fault.ensures refl none risen
    (merged_after g.T.Rank.is_less i.guards j.guards i.limit j.limit (Some (slots_in i.rows)) (Some (slots_in j.rows)) i.rows j.rows o p view seen t.new.target (Some (slots_in t.new.target)))
    (emptied i.guards j.guards i.limit j.limit (Some (slots_in i.rows)) (Some (slots_in j.rows)) i.rows j.rows o p view seen t.new.source) t.ensures.merged t.ensures.cleared t.ensures.refused_target t.ensures.refused_source)

pub returns-clause-slots : goal.returns-clause-slots
returns-clause-slots g c =
    let i = c.self.inside in let j = c.source.inside in let t = c.merge_all in
    more_slots i.guards i.limit (Some (slots_in i.rows)) (Some (slots_in t.new.target)) i.rows t.new.target c.args.self.now c.self.view_is t.result c.as_fault.result c.as_fault.ensures (λ h. h.most)
    (merge_grown t.result g.T.Rank.is_less i.rows t.new.target j.rows t.ensures.merged t.ensures.slots) t.ensures.refused_target

pub returns-clause-source : goal.returns-clause-source
returns-clause-source g c =
    let j = c.source.inside in let t = c.merge_all in
    less_slots j.guards j.limit (Some (slots_in j.rows)) j.rows t.new.source c.args.source.now c.source.view_is t.result (cleared_slots j.rows t.new.source) t.ensures.cleared t.ensures.refused_source
