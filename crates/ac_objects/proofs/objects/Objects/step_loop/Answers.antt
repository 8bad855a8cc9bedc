use Rattle.std.proofs.Common.{take, ap, ◌∙◌}
use Rattle.ac_objects.specs.Standing.{counts_of}
use Rattle.ac_objects.specs.World.{state_of}
use Rattle.ac_objects.proofs.InScope.{counts_left}
use Rattle.ac_objects.proofs.objects.Objects.step_loop.Goals as goal

pub returns-then-eq-clause-counts : goal.returns-then-eq-clause-counts
returns-then-eq-clause-counts c =
    let names = c.args.key.now.names in
    ap (λ e. take names (counts_of e)) c.leave_scope.ensures.left ∙ counts_left names (state_of c.args.self.now)
