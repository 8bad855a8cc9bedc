use Rattle.std.proofs.Common.{◌≡◌, subst}
use Rattle.ac_model.specs.Cursors.{plain_mark}
use Rattle.ac_meaning.specs.Execution.{in_order}
use Rattle.ac_calls.specs.Holdings.{names_of, number_of}
use Rattle.ac_meaning.specs.Walks.{first_mark}
use Rattle.ac_objects.specs.RootFree.{NoRootAmong}
use Rattle.ac_objects.specs.World.{IsSound}
use Rattle.ac_objects.proofs.Found.{holds_there}
use Rattle.ac_objects.proofs.Given.{found_known}
use Rattle.ac_objects.proofs.objects.Objects.first_at.Goals as goal

pub returns-in-Some-clause-first : goal.returns-in-Some-clause-first
returns-in-Some-clause-first c =
    holds_there (λ h. plain_mark c.first_of.result ≡ first_mark (number_of h) (in_order c.args.backward (names_of h)))
    c.args.self.now c.args.place c.in-Some.object.now c.in-Some.ensures c.first_of.ensures.first

pub returns-in-Some-clause-named : goal.returns-in-Some-clause-named
returns-in-Some-clause-named c =
    holds_there (λ h. NoRootAmong (names_of h)) c.args.self.now c.args.place c.in-Some.object.now c.in-Some.ensures c.first_of.ensures.named

pub returns-in-Some-clause-known : goal.returns-in-Some-clause-known
returns-in-Some-clause-known c =
    found_known c.args.self.now c.args.place c.in-Some.object.now c.first_of.result c.in-Some.ensures
    (subst IsSound c.self.view_is c.self.invariant) c.first_of.ensures.given
