use Rattle.std.proofs.Common.{Some, subst}
use Rattle.ac_meaning.specs.Commands.{answer_from, assigned}
use Rattle.ac_objects.specs.Shown.{Shows}
use Rattle.ac_objects.specs.World.{state_of}
use Rattle.ac_objects.proofs.Performing.{sets_given, given_untouched}
use Rattle.ac_objects.proofs.objects.Objects.set.Goals as goal

pub give-requires-clause-known : goal.give-requires-clause-known
give-requires-clause-known c = c.said_of.ensures.known c.args.self.now c.in-Ok.ensures.known

pub returns-in-Ok-clause-performed : goal.returns-in-Ok-clause-performed
returns-in-Ok-clause-performed c =
    let old = c.args.self.now in
    let e = state_of old in
    let target = c.args.target in
    let answer = answer_from e c.args.from.now in
    let said = c.said_of.result in
    let shows = subst (λ a. Shows e target said a) c.in-Ok.ensures.said (c.said_of.ensures.says e target) in
    sets_given target said answer old c.give.new.self c.give.result shows (c.give.ensures.given target answer shows)

pub returns-in-Ok-clause-untouched : goal.returns-in-Ok-clause-untouched
returns-in-Ok-clause-untouched c =
    let old = c.args.self.now in
    let e = state_of old in
    let target = c.args.target in
    let answer = answer_from e c.args.from.now in
    let shows = subst (λ a. Shows e target c.said_of.result a) c.in-Ok.ensures.said (c.said_of.ensures.says e target) in
    given_untouched (assigned e (Some target) answer) old c.give.new.self c.give.result (c.give.ensures.given target answer shows)
