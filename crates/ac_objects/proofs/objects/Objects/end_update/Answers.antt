use Rattle.ac_model.specs.Cursors.{plain_mark}
use Rattle.ac_objects.specs.World.{counted}
use Rattle.ac_objects.proofs.Updating.{end_agrees, end_element, end_own, end_held, end_sound, end_persists, end_state, end_counts}
use Rattle.ac_objects.proofs.objects.Objects.end_update.Goals as goal

pub end_update-requires-clause-agrees : goal.end_update-requires-clause-agrees
end_update-requires-clause-agrees c =
    end_agrees c.args.self.now c.self.inside.bounds.items (counted c.self.inside.mint c.self.inside.blocks) c.args.place _ c.in-Object.object c.self.view_is c.self.invariant
    c.index_mut.ensures.value c.in-Object.is c.requires.guard.held c.requires.guard.there
    c.args.at c.requires.known

pub end_update-requires-clause-element : goal.end_update-requires-clause-element
end_update-requires-clause-element c =
    end_element c.args.self.now c.self.inside.bounds.items (counted c.self.inside.mint c.self.inside.blocks) c.args.place _ c.in-Object.object c.self.view_is c.self.invariant
    c.index_mut.ensures.value c.in-Object.is c.requires.guard.held c.requires.guard.there
    (plain_mark c.args.at) c.requires.element

pub end_update-requires-clause-own : goal.end_update-requires-clause-own
end_update-requires-clause-own c =
    end_own c.args.self.now c.self.inside.bounds.items (counted c.self.inside.mint c.self.inside.blocks) c.args.place _ c.in-Object.object c.self.view_is c.self.invariant
    c.index_mut.ensures.value c.in-Object.is c.requires.guard.held c.requires.guard.there
    c.args.guard c.requires.guard c.requires.cursors

pub end_update-requires-clause-held : goal.end_update-requires-clause-held
end_update-requires-clause-held c =
    end_held c.args.self.now c.self.inside.bounds.items (counted c.self.inside.mint c.self.inside.blocks) c.args.place _ c.in-Object.object c.self.view_is c.self.invariant
    c.index_mut.ensures.value c.in-Object.is c.requires.guard.held c.requires.guard.there
    c.args.guard c.requires.guard c.requires.cursors

pub invariant_of-self : goal.invariant_of-self
invariant_of-self c =
    end_sound c.args.self.now c.self.inside.bounds.items (counted c.self.inside.mint c.self.inside.blocks) c.args.place _ c.in-Object.object c.self.view_is c.self.invariant
    c.index_mut.ensures.value c.in-Object.is c.requires.guard.held c.requires.guard.there
    c.args.guard c.requires.guard c.requires.cursors c.end_update.new.self c.end_update.ensures.number c.end_update.ensures.cursors

pub returns-clause-ended : goal.returns-clause-ended
returns-clause-ended c =
    end_state c.args.self.now c.self.inside.bounds.items (counted c.self.inside.mint c.self.inside.blocks) c.args.place _ c.in-Object.object c.self.view_is c.self.invariant
    c.index_mut.ensures.value c.in-Object.is c.requires.guard.held c.requires.guard.there
    c.args.guard c.requires.guard c.requires.cursors c.end_update.new.self c.end_update.ensures.number c.end_update.ensures.cursors
    (plain_mark c.args.at) c.args.copy c.end_update.result c.end_update.ensures.ended

pub returns-clause-persists : goal.returns-clause-persists
returns-clause-persists c =
    end_persists c.args.self.now c.self.inside.bounds.items (counted c.self.inside.mint c.self.inside.blocks) c.args.place _ c.in-Object.object c.self.view_is c.self.invariant
    c.index_mut.ensures.value c.in-Object.is c.requires.guard.held c.requires.guard.there
    c.args.guard c.requires.guard c.requires.cursors c.end_update.new.self c.end_update.ensures.number c.end_update.ensures.cursors

pub returns-clause-counts : goal.returns-clause-counts
returns-clause-counts c =
    end_counts c.args.self.now c.self.inside.bounds.items (counted c.self.inside.mint c.self.inside.blocks) c.args.place _ c.in-Object.object c.self.view_is c.self.invariant
    c.index_mut.ensures.value c.in-Object.is c.requires.guard.held c.requires.guard.there
    c.args.guard c.requires.guard c.requires.cursors c.end_update.new.self c.end_update.ensures.number c.end_update.ensures.cursors
    (plain_mark c.args.at) c.args.copy c.end_update.result c.end_update.ensures.ended
