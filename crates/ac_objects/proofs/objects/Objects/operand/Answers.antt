use Rattle.std.proofs.Common.{ap, subst, ◌∙◌, rules, to_z-of_z, w64}
use mir.Val.{SFits}
use Rattle.ac_calls.specs.Elements.{integer_in}
use Rattle.ac_meaning.specs.Environment.{bound_at}
use Rattle.ac_calls.specs.Replies.{Argument}
use Rattle.ac_objects.specs.Given.{IsVariable}
use Rattle.ac_objects.specs.World.{state_of}
use Rattle.ac_objects.proofs.Names.{value_read, variable_integer}
use Rattle.ac_objects.proofs.objects.Objects.operand.Goals as goal

pub returns-in-Some : goal.returns-in-Some
returns-in-Some c =
    let e = state_of c.args.self.now in
    let fits : SFits w64 c.integer_in.result = search rules in
    to_z-of_z {w = w64} {z = c.integer_in.result} fits ∙ c.integer_in.ensures ∙ variable_integer e (bound_at e c.args.from) c.in-Some.value (subst (λ r. IsVariable (bound_at e c.args.from) r) c.in-Some.is c.variable_at.ensures)

pub returns : goal.returns
returns c =
    let e = state_of c.args.self.now in
    let fits : SFits w64 c.integer_in-2.result = search rules in
    to_z-of_z {w = w64} {z = c.integer_in-2.result} fits ∙ c.integer_in-2.ensures ∙ ap integer_in (c.into_value.ensures ∙ (ap (λ (x : Argument). x.value) c.in_ok-read.ensures.read ∙ value_read e (bound_at e c.args.from)))
