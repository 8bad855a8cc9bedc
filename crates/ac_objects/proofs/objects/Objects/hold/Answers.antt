use Rattle.ac_objects.specs.World.{counted}
use Rattle.ac_objects.proofs.Counted.{hold_sound, hold_state, hold_persists}
use Rattle.ac_objects.proofs.objects.Objects.hold.Goals as goal

pub invariant_of-self : goal.invariant_of-self
invariant_of-self c =
    hold_sound c.args.self.now c.self.inside.bounds.items (counted c.self.inside.mint c.self.inside.blocks) c.args.place _ c.in-Object.object c.self.view_is c.self.invariant
    c.index_mut.ensures.value c.in-Object.is c.requires.held c.requires.there c.args.kind c.hold.result c.hold.new.self
    c.hold.ensures.object c.hold.ensures.kind c.hold.ensures.held

pub returns-clause-held : goal.returns-clause-held
returns-clause-held c =
    hold_state c.args.self.now c.self.inside.bounds.items (counted c.self.inside.mint c.self.inside.blocks) c.args.place _ c.in-Object.object c.self.view_is c.self.invariant
    c.index_mut.ensures.value c.in-Object.is c.requires.held c.requires.there c.args.kind c.hold.result c.hold.new.self
    c.hold.ensures.object c.hold.ensures.kind c.hold.ensures.held

pub returns-clause-persists : goal.returns-clause-persists
returns-clause-persists c =
    hold_persists c.args.self.now c.self.inside.bounds.items (counted c.self.inside.mint c.self.inside.blocks) c.args.place _ c.in-Object.object c.self.view_is c.self.invariant
    c.index_mut.ensures.value c.in-Object.is c.requires.held c.requires.there c.args.kind c.hold.result c.hold.new.self
    c.hold.ensures.object c.hold.ensures.kind c.hold.ensures.held
