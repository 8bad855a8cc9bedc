-- The counts of guards of the objects that were in scope before declarations.
use Rattle.std.proofs.Common.{◌≡◌, map, take, length, ap, ◌∙◌}
use Rattle.std.proofs.lemmas.List.{take-map}
use Rattle.ac_meaning.specs.Environment.{State, leaving}
use Rattle.ac_objects.specs.Standing.{counts_in, counts_of}
use Rattle.ac_objects.specs.World.{World, bound_of, state_of}

pub counts_before : (old now : World) → take (length old.bounds) now.bounds ≡ old.bounds →
    take (length old.bounds) (counts_of (state_of now)) ≡ counts_of (state_of old)
counts_before old now e =
    take-map counts_in (length old.bounds) (map bound_of now.bounds)
    ∙ (ap (map counts_in) (take-map bound_of (length old.bounds) now.bounds) ∙ ap (λ bs. map counts_in (map bound_of bs)) e)

-- and where the names that came go, they are all
pub counts_back : (old now : World) (after : State) → take (length old.bounds) now.bounds ≡ old.bounds →
    after ≡ leaving (length old.bounds) (state_of now) → counts_of after ≡ counts_of (state_of old)
counts_back old now after e left =
    ap counts_of left
    ∙ (ap (map counts_in) (take-map bound_of (length old.bounds) now.bounds) ∙ ap (λ bs. map counts_in (map bound_of bs)) e)
