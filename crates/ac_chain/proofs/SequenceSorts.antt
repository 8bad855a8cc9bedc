-- The names of a chain's rows in the order of their values, and the list after a sort.
use Rattle.std.proofs.Common.{◌≡◌, Bool, List, length, None, ap, ◌∙◌, subst}
use Rattle.std.proofs.lemmas.List.Sorted.{length_permutation}
use Rattle.ac_base.specs.declared.limit.Limit.{Limit}
use Rattle.ac_base.specs.declared.name.Name.{Name}
use Rattle.ac_base.specs.Guards.{GuardCounts}
use Rattle.ac_base.specs.Rows.{names}
use Rattle.ac_chain.specs.Rows.{Chained, IsSound, Reorders}
use Rattle.ac_pool.specs.NamedRows.{HasName}
use Rattle.ac_model.specs.Rows as model
use Rattle.ac_model.specs.Objects.{plains}
use Rattle.ac_chain.specs.Sorting.{IsSortedOrder}
use Rattle.ac_model.specs.Objects.{Object, plain, with_rows}
use Rattle.ac_model.specs.Calls.{IsAfter}
use Rattle.ac_chain.specs.Sequence.{object_of, IsSequence}
use Rattle.ac_chain.proofs.SequenceRows.{rows_after, sequence_same}
use Rattle.ac_chain.proofs.Sorts.{moved_had, relinked_rows}

module _ {X : Type 0} where
  module _ (less : X → X → Bool) (k : Chained X) (sound : IsSound k) (order : List Name) (s : IsSortedOrder less k.rows order) where
    pub list_sorted : (l : Limit) (now : Chained X) → IsSequence l k → IsSound now → names now.rows ≡ order → Reorders k now → IsSequence l now
    list_sorted l now list t e same = sequence_same l k now list (ap length (relinked_rows less k sound order s now t e same) ∙ length_permutation k.rows s.to s.moves) same.spare t

    pub sort_after : (g : GuardCounts) (l : Limit) (now : Chained X) → IsSound now → names now.rows ≡ order → Reorders k now
        → IsAfter (object_of g l None k) (object_of g l None now) (with_rows (plain (object_of g l None k)) (model.sorted less (plains k.rows)))
    sort_after g l now t e same =
        let rows = relinked_rows less k sound order s now t e same in
        rows_after g l None k now (model.sorted less (plains k.rows)) same.next (ap plains rows ∙ s.sorted) (λ a h. moved_had k.rows s.to s.moves a (subst (λ zs. HasName a zs) rows h))

  pub sorted_after : (less : X → X → Bool) (g : GuardCounts) (l : Limit) (k now : Chained X) (o : Object Name X) → object_of g l None k ≡ o → IsSound k → (order : List Name) → IsSortedOrder less k.rows order
      → IsSound now → names now.rows ≡ order → Reorders k now → IsAfter o (object_of g l None now) (with_rows (plain o) (model.sorted less (plain o).rows))
  sorted_after less g l k now o view sound order s t e same =
      subst (λ (p : Object Name X). IsAfter p (object_of g l None now) (with_rows (plain p) (model.sorted less (plain p).rows))) view (sort_after less k sound order s g l now t e same)
