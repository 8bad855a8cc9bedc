-- What holds of each name in memory holds of each by its meaning.
use Rattle.std.proofs.Common.{◌≡◌, ◌<◌, ◌≤◌, ℕ, List, map, length, slice_get, Option, Some, None, refl, sym, ap, subst, ◌∙◌, arith, option_map, All}
use Rattle.std.proofs.lemmas.Option.{none-some, same_Some, slice_get_within, slice_get-map}
use Rattle.ac_meaning.proofs.Places.{all_by}
use Rattle.ac_meaning.specs.Environment.{Bound}
use Rattle.ac_objects.specs.declared.bound.Bound as memory
use Rattle.ac_objects.specs.World.{bound_of}
use Rattle.ac_plains.specs.ValidStates.{IsSoundBound}

sound_at : (items : List memory.Bound) (k : ℕ) (b : Bound) (found : Option memory.Bound) → slice_get items k ≡ found → slice_get (map bound_of items) k ≡ Some b →
    ((x : memory.Bound) → slice_get items k ≡ Some x → IsSoundBound (bound_of x)) → IsSoundBound b
sound_at items k b None is there sound = absurd (none-some b (sym (slice_get-map bound_of items k ∙ ap (option_map bound_of) is) ∙ there))
sound_at items k b (Some x) is there sound =
    subst IsSoundBound (same_Some (bound_of x) b (sym (slice_get-map bound_of items k ∙ ap (option_map bound_of) is) ∙ there)) (sound x is)

pub all_sound : (items bounds : List memory.Bound) (n : ℕ) → items ≡ bounds → length items ≤ n →
    ((k : ℕ) (x : memory.Bound) → k < n → slice_get items k ≡ Some x → IsSoundBound (bound_of x)) → All IsSoundBound (map bound_of bounds)
all_sound items bounds n same past sound =
    subst (λ xs. All IsSoundBound (map bound_of xs)) same
    (all_by IsSoundBound (map bound_of items)
    (λ k b there. sound_at items k b (slice_get items k) refl there (λ x is. sound k x (omega (arith, slice_get_within items k x is, past)) is)))
