use Rattle.std.proofs.Common.{sym, ap, ◌∙◌}
use Rattle.ac_syntax.specs.Tokens.{tokens}
use Rattle.ac_syntax.specs.declared.token.Placed.{Placed}
use Rattle.ac_aggregate.proofs.Lefts.{next_left, none_left}
use Rattle.ac_aggregate.proofs.question.bare.Goals as goal

pub loop-one-init : goal.loop-one-init
loop-one-init c =
    let gives = c.into_iter-one-iterator.ensures.into_iter_gives in
    rw c.new-made.ensures.items (ap tokens gives.0)

pub loop-one-preserved : goal.loop-one-preserved
loop-one-preserved c =
    let steps = c.in-Some.ensures.steps in
    next_left (λ (p : Placed). p.token) c.loop-one.made.items c.push.new.self.items c.loop-one.one-iterator.rest.items c.next.new.self.rest.items c.in-Some.one c.token_of.result (tokens c.args.placed.items)
    steps.0 c.in_ok-push.ensures.items c.token_of.ensures c.loop-one.invariant

pub returns : goal.returns
returns c = none_left (λ (p : Placed). p.token) c.loop-one.made.items c.loop-one.one-iterator.rest.items (tokens c.args.placed.items) (sym c.loop-one.one-iterator.rest.ok.0 ∙ c.in-None.ensures.steps.0) c.loop-one.invariant
