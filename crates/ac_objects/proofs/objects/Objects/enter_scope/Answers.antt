use Rattle.std.proofs.Common.{length, take, ap, ◌∙◌, arith}
use Rattle.std.proofs.lemmas.List.{take_all, length-map}
use Rattle.ac_meaning.specs.Environment.{leaving}
use Rattle.ac_objects.specs.Standing.{counts_in, counts_of}
use Rattle.ac_objects.specs.World.{bound_of, state_of}
use Rattle.ac_objects.proofs.Declaring.{counts_before, counts_back}
use Rattle.ac_objects.proofs.objects.Objects.enter_scope.Goals as goal

pub returns-in-Ok-clause-counts : goal.returns-in-Ok-clause-counts
returns-in-Ok-clause-counts c = counts_before c.args.self.now c.declare_all.new.self c.in-Ok.ensures.before

pub returns-in-Err-clause-counts : goal.returns-in-Err-clause-counts
returns-in-Err-clause-counts c =
    let old = c.args.self.now in
    let back = counts_back old c.declare_all.new.self (state_of c.leave_scope.new.self) c.in-Err.ensures.before
    (c.leave_scope.ensures.left ∙ ap (λ n. leaving n (state_of c.declare_all.new.self)) c.names-names.ensures) in
    ap (take (length old.bounds)) back ∙ take_all (length old.bounds) (counts_of (state_of old)) (omega (arith, length-map (state_of old).bounds counts_in, length-map old.bounds bound_of))

pub returns-in-Err-clause-fault : goal.returns-in-Err-clause-fault
returns-in-Err-clause-fault c =
    counts_back c.args.self.now c.declare_all.new.self (state_of c.leave_scope.new.self) c.in-Err.ensures.before
    (c.leave_scope.ensures.left ∙ ap (λ n. leaving n (state_of c.declare_all.new.self)) c.names-names.ensures)
