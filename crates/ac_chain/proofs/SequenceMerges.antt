-- What a merge of one chain's values into another's rows has done so far, and what it leaves of the two sequences.
use Rattle.std.proofs.Common.{◌≡◌, ℕ, ◌+◌, Bool, length, Option, None, sym, ap, ◌∙◌, subst}
use Rattle.std.proofs.lemmas.List.{length-map}
use Rattle.ac_base.specs.declared.limit.Limit.{Limit}
use Rattle.ac_base.specs.declared.name.Name.{Name}
use Rattle.ac_base.specs.Guards.{GuardCounts}
use Rattle.ac_chain.specs.Rows.{Chained}
use Rattle.ac_pool.proofs.Cuts.{live_has, has_live}
use Rattle.ac_base.specs.Rows.{Row}
use Rattle.ac_model.specs.Rows.{fresh, merged}
use Rattle.ac_model.specs.Objects.{Object, plain, length_of, contents, grown, capacity_after}
use Rattle.ac_model.specs.Letters.{tampers_cursors, room}
use Rattle.ac_model.specs.Calls.{IsAfter}
use Rattle.ac_model.specs.Sequences.{merge_call}
use Rattle.ac_model.proofs.Reasons.{after_two}
use Rattle.ac_chain.specs.Merging.{IsMerged}
use Rattle.ac_model.specs.Objects.{plains}
use Rattle.ac_base.specs.Rows.{values}
use Rattle.ac_chain.specs.Sequence.{object_of}
use Rattle.ac_chain.proofs.SequenceGrows.{grown_after}
use Rattle.ac_chain.proofs.SequenceRefills.{source_is}
use Rattle.ac_chain.proofs.Moved.{Fits}
use Rattle.ac_chain.proofs.SequenceMoves.{room_fits, both_lengths}

module _ {X : Type 0} (less : X → X → Bool) where
  module _ (g h : GuardCounts) (l m : Limit) (capacity other : Option ℕ) (k from : Chained X) (o p : Object Name X) (view : object_of g l capacity k ≡ o) (source : object_of h m other from ≡ p) where
    pub merge_fits : None ≡ (merge_call less (plain o) (plain p)).reason → Fits l k (length k.rows + length from.rows) (length from.rows)
    merge_fits e =
        let n = length_of (plain p) in let all = length_of (plain o) + n in
        room_fits g l capacity k o view all n (length k.rows + length from.rows) (length from.rows) (both_lengths g h l m capacity other k from o p view source) (source_is h m other from p source).1
        (after_two (tampers_cursors (plain o)) (tampers_cursors (plain p)) (room (plain o) all n) (sym e))

    pub merged_after : (now : Chained X) (wider : Option ℕ) → capacity_after l capacity (length now.rows) ≡ wider → IsMerged less k (values from.rows) now → IsAfter o (object_of g l wider now) (merge_call less (plain o) (plain p)).after.target
    merged_after now wider risen f =
        let is = source_is h m other from p source in
        subst (λ (q : Object Name X). IsAfter q (object_of g l wider now) (grown (plain q) (merged less (plain q).rows (fresh (plain q).next (contents (plain p)))) (length_of (plain p)))) view
        (grown_after g l capacity wider k now (merged less (plains k.rows) (fresh k.next_serial (contents (plain p)))) (length_of (plain p)) risen (f.rows ∙ ap (λ vs. merged less (plains k.rows) (fresh k.next_serial vs)) (sym is.0))
        (f.next ∙ ap (λ n. k.next_serial + n) (length-map from.rows (λ (r : Row Name X). r.value) ∙ sym is.1)) (λ a t lt. live_has a k.rows (f.names a (has_live a now.rows t) lt)))
