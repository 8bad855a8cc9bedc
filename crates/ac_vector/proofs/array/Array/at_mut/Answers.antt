use Rattle.std.proofs.Common.{Some, refl, ap, ◌∙◌}
use Rattle.ac_vector.proofs.Rewrites.{place_seen, written_array, value_got}
use Rattle.ac_vector.proofs.Slots.{slotted}
use Rattle.ac_vector.proofs.array.Array.at_mut.Goals as goal

pub invariant_of-self-lent : goal.invariant_of-self-lent
invariant_of-self-lent g c = λ w.
    let at = place_seen c.self.invariant.array c.self.view_is c.args.name c.index_of-place.result c.index_of-place.ensures.index in
    (slotted (written_array c.self.invariant.array c.self.view_is c.args.name c.index_of-place.result w at c.requires) _ c.self.invariant.slots).invariant

pub returns : goal.returns
returns g c =
    let at = place_seen c.self.invariant.array c.self.view_is c.args.name c.index_of-place.result c.index_of-place.ensures.index in (
      (refl, λ w. (slotted (written_array c.self.invariant.array c.self.view_is c.args.name c.index_of-place.result w at c.requires) _ c.self.invariant.slots).view),
      record { writes_back = tt; value = ap Some c.index_mut.ensures.value ∙ value_got c.self.invariant.array c.self.view_is c.args.name c.requires c.index_of-place.result c.index_mut.result.now at },
    )
