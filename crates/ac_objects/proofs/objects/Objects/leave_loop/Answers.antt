use Rattle.std.proofs.Common.{ap, ◌∙◌}
use Rattle.ac_meaning.specs.Environment.{objects_by}
use Rattle.ac_meaning.specs.UnderGuards.{held_without}
use Rattle.ac_objects.specs.Blocks.{releasing, guard_if}
use Rattle.ac_objects.specs.World.{state_of}
use Rattle.ac_objects.proofs.Counted.{held_left, any_held_left, objects_leaving}
use Rattle.ac_objects.proofs.objects.Objects.leave_loop.Goals as goal

pub release-requires : goal.release-requires
release-requires c =
    held_left (state_of c.args.self.now) (state_of c.leave_scope.new.self) c.args.key.names c.args.key.object c.args.key.cursors
    c.leave_scope.ensures.left c.requires.inner c.requires.cursors

pub release_any-requires : goal.release_any-requires
release_any-requires c =
    let without = held_without c.args.key.cursors in
    any_held_left (objects_by without (state_of c.args.self.now)) (state_of c.release.new.self) c.args.key.names c.args.key.object c.args.key.elements
    (c.release.ensures.released
    ∙ (ap (objects_by without) c.leave_scope.ensures.left ∙ objects_leaving without c.args.key.names (state_of c.args.self.now)))
    c.requires.inner c.requires.elements

pub returns-clause-left : goal.returns-clause-left
returns-clause-left c =
    c.release_any.ensures.released
    ∙ (ap (releasing (guard_if c.args.key.elements)) c.release.ensures.released
    ∙ ap (λ e. releasing (guard_if c.args.key.elements) (objects_by (held_without c.args.key.cursors) e)) c.leave_scope.ensures.left)

pub returns-clause-persists : goal.returns-clause-persists
returns-clause-persists c k known = c.release_any.ensures.persists k (c.release.ensures.persists k (c.leave_scope.ensures.persists k known))
