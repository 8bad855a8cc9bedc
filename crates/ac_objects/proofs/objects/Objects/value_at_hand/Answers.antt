use Rattle.std.proofs.Common.{◌≡◌, IfSome, sym, subst}
use Rattle.ac_meaning.specs.Commands.{argument}
use Rattle.ac_meaning.specs.Environment.{bound_at}
use Rattle.ac_calls.specs.Replies.{value_argument}
use Rattle.ac_objects.specs.Given.{IsAtHand}
use Rattle.ac_objects.specs.World.{state_of}
use Rattle.ac_objects.proofs.Names.{variable_argument}
use Rattle.ac_objects.proofs.objects.Objects.value_at_hand.Goals as goal

pub returns-in-At-clause-argument : goal.returns-in-At-clause-argument
returns-in-At-clause-argument c =
    let e = state_of c.args.self.now in
    subst (λ x. IfSome c.variable_at.result (λ value. argument e x ≡ value_argument value.now)) (sym c.in-At.is)
    (variable_argument e (bound_at e c.in-At.place) c.variable_at.result c.variable_at.ensures)

pub returns-in-At-clause-at_hand : goal.returns-in-At-clause-at_hand
returns-in-At-clause-at_hand c = subst (λ x. IsAtHand (state_of c.args.self.now) x c.variable_at.result) (sym c.in-At.is) c.variable_at.ensures
