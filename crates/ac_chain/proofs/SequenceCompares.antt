-- What a comparison of a sequence's elements has found so far: of two sequences one by one, and of each element with the one before it.
use Rattle.std.proofs.Common.{◌≡◌, ℕ, Bool, true, List, ◌∷◌, Option, None, refl, ap, ◌∙◌, []}
use Rattle.std.proofs.lemmas.Option.{none-some}
use Rattle.ac_base.specs.declared.limit.Limit.{Limit}
use Rattle.ac_base.specs.declared.name.Name.{Name}
use Rattle.ac_base.specs.Guards.{GuardCounts}
use Rattle.ac_chain.specs.Rows.{Chained}
use Rattle.ac_pool.specs.NamedRows.{name_at}
use Rattle.ac_base.specs.Rows.{Row, values}
use Rattle.ac_model.specs.Rows.{is_ascending}
use Rattle.ac_model.specs.Objects.{Object, plain}
use Rattle.ac_model.specs.Sequences as sequences
use Rattle.ac_chain.specs.Sequence.{object_of}
use Rattle.ac_model.proofs.Plains.{values-plains}

module _ {X : Type 0} (g : GuardCounts) (l : Limit) (capacity : Option ℕ) (k : Chained X) (o : Object Name X) (view : object_of g l capacity k ≡ o) where
  pub contents_are : values k.rows ≡ values (plain o).rows
  contents_are = values-plains k.rows ∙ ap (λ (p : Object Name X). values (plain p).rows) view

  pub none_ascends : (less : X → X → Bool) → None ≡ name_at k.rows 0 → true ≡ sequences.is_sorted_call less (plain o)
  none_ascends less e = none k.rows e ∙ ap (is_ascending less) contents_are
    where
      none : (rows : List (Row Name X)) → None ≡ name_at rows 0 → true ≡ is_ascending less (values rows)
      none [] e = refl
      none (r ∷ rows) e = absurd (none-some r.name e)
