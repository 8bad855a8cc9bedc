use Rattle.ac_objects.specs.World.{counted}
use Rattle.ac_objects.proofs.Counted.{release_sound, release_state, release_persists}
use Rattle.ac_objects.proofs.objects.Objects.release.Goals as goal

pub invariant_of-self : goal.invariant_of-self
invariant_of-self c =
    release_sound c.args.self.now c.self.inside.bounds.items (counted c.self.inside.mint c.self.inside.blocks) c.args.place _ c.in-Object.object c.self.view_is c.self.invariant
    c.index_mut.ensures.value c.in-Object.is c.requires.held c.requires.there c.args.key c.release.new.self c.requires c.release.ensures

pub returns-clause-released : goal.returns-clause-released
returns-clause-released c =
    release_state c.args.self.now c.self.inside.bounds.items (counted c.self.inside.mint c.self.inside.blocks) c.args.place _ c.in-Object.object c.self.view_is c.self.invariant
    c.index_mut.ensures.value c.in-Object.is c.requires.held c.requires.there c.args.key c.release.new.self c.requires c.release.ensures

pub returns-clause-persists : goal.returns-clause-persists
returns-clause-persists c =
    release_persists c.args.self.now c.self.inside.bounds.items (counted c.self.inside.mint c.self.inside.blocks) c.args.place _ c.in-Object.object c.self.view_is c.self.invariant
    c.index_mut.ensures.value c.in-Object.is c.requires.held c.requires.there c.args.key c.release.new.self c.requires c.release.ensures
