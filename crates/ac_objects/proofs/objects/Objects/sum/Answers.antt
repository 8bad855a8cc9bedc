use Rattle.std.proofs.Common.{ap, subst, ◌∙◌, rules, to_z-of_z, w64}
use mir.Val.{SFits}
use Rattle.ac_meaning.specs.Commands.{sum_of}
use Rattle.ac_calls.specs.Elements.{integer_in}
use Rattle.ac_meaning.specs.Environment.{value_at}
use Rattle.ac_objects.specs.Performs.{Performs, answered}
use Rattle.ac_objects.specs.Steps.{if_integer, sum_given}
use Rattle.ac_objects.specs.World.{state_of}
use Rattle.ac_objects.proofs.Performing.{sum_is}
use Rattle.ac_objects.proofs.objects.Objects.sum.Goals as goal

pub returns-in-Ok-clause-performed : goal.returns-in-Ok-clause-performed
returns-in-Ok-clause-performed c =
    let old = c.args.self.now in
    let e = state_of old in
    let a = c.args in
    let fits : SFits w64 c.in-Ok.base = search rules in
    let number = to_z-of_z {w = w64} {z = c.in-Ok.base} fits ∙ c.in-Ok.ensures in
    let is = ap (sum_given e a.target) (c.total.ensures ∙ ap (λ n. if_integer (sum_of a.minus n a.number)) number)
    ∙ sum_is e a.target (sum_of a.minus (integer_in (value_at e a.from)) a.number) in
    subst (λ p. Performs p a.target old c.put_sum.new.self (answered c.put_sum.new.frame.reply.said c.put_sum.result)) is c.put_sum.ensures.performed
