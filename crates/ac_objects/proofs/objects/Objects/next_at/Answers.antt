use Rattle.std.proofs.Common.{subst}
use Rattle.ac_calls.specs.Holdings.{names_of, number_of}
use Rattle.ac_objects.specs.Given.{StepsOn}
use Rattle.ac_objects.specs.World.{IsSound}
use Rattle.ac_objects.proofs.Found.{holds_there, found_agrees}
use Rattle.ac_objects.proofs.Given.{found_known}
use Rattle.ac_objects.proofs.objects.Objects.next_at.Goals as goal

pub next_of-requires : goal.next_of-requires
next_of-requires c = found_agrees c.args.self.now c.args.place c.in-Some.object.now c.args.at c.in-Some.ensures c.requires

pub returns-in-Some-clause-next : goal.returns-in-Some-clause-next
returns-in-Some-clause-next c =
    holds_there (λ h. StepsOn c.args.backward (number_of h) (names_of h) c.args.at c.next_of.result)
    c.args.self.now c.args.place c.in-Some.object.now c.in-Some.ensures c.next_of.ensures.next

pub returns-in-Some-clause-known : goal.returns-in-Some-clause-known
returns-in-Some-clause-known c =
    found_known c.args.self.now c.args.place c.in-Some.object.now c.next_of.result c.in-Some.ensures
    (subst IsSound c.self.view_is c.self.invariant) c.next_of.ensures.given
