use Rattle.std.proofs.Common.{◌≡◌, Some, rules, sym, ap, subst, to_z, of_z, w64}
use Rattle.ac_base.specs.declared.value.Value.TheVariants as value
use Rattle.ac_calls.specs.Answers.{answers_integer}
use Rattle.ac_meaning.specs.Commands.{assigned}
use Rattle.ac_calls.specs.declared.reply.Said.TheVariants as said
use Rattle.ac_objects.specs.Performs.{Performs, answered}
use Rattle.ac_objects.specs.Shown.{Shows}
use Rattle.ac_objects.specs.Steps.{sum_given}
use Rattle.ac_objects.specs.World.{state_of}
use Rattle.ac_objects.proofs.Performing.{sets_given, given_untouched}
use Rattle.ac_objects.proofs.objects.Objects.put_sum.Goals as goal

pub returns-in-Some-clause-untouched : goal.returns-in-Some-clause-untouched
returns-in-Some-clause-untouched c =
    let old = c.args.self.now in
    let a = c.args in
    let n = c.in-Some.sum in
    let same : to_z w64 (of_z w64 n) ≡ n = search rules in
    let answer = answers_integer n in
    given_untouched (assigned (state_of old) (Some a.target) answer) old c.give.new.self c.give.result
    (c.give.ensures.given a.target answer (subst (λ s. Shows (state_of old) a.target s answer) (sym c.say.ensures) (ap answers_integer (sym same))))

pub returns-in-Some-clause-performed : goal.returns-in-Some-clause-performed
returns-in-Some-clause-performed c =
    let old = c.args.self.now in
    let e = state_of old in
    let a = c.args in
    let n = c.in-Some.sum in
    let same : to_z w64 (of_z w64 n) ≡ n = search rules in
    let says = c.say.new.held in
    let answer = answers_integer n in
    let shows : Shows e a.target says answer = subst (λ s. Shows e a.target s answer) (sym c.say.ensures) (ap answers_integer (sym same)) in
    subst (λ s. Performs (sum_given e a.target s) a.target old c.give.new.self (answered says c.give.result)) (sym c.in-Some.is)
    (sets_given a.target says answer old c.give.new.self c.give.result shows (c.give.ensures.given a.target answer shows))
