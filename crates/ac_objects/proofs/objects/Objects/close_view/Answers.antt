use Rattle.std.proofs.Common.{ap, ◌∙◌}
use Rattle.ac_meaning.specs.Environment.{objects_by}
use Rattle.ac_meaning.specs.UnderGuards.{held_without}
use Rattle.ac_objects.specs.World.{state_of}
use Rattle.ac_objects.proofs.Counted.{held_left}
use Rattle.ac_objects.proofs.objects.Objects.close_view.Goals as goal

pub release-requires : goal.release-requires
release-requires c =
    held_left (state_of c.args.self.now) (state_of c.leave_scope.new.self) c.args.key.names c.args.key.object c.args.key.guard
    c.leave_scope.ensures.left c.requires.inner c.requires.guard

pub returns-clause-left : goal.returns-clause-left
returns-clause-left c = c.release.ensures.released ∙ ap (objects_by (held_without c.args.key.guard)) c.leave_scope.ensures.left

pub returns-clause-persists : goal.returns-clause-persists
returns-clause-persists c k known = c.release.ensures.persists k (c.leave_scope.ensures.persists k known)
