use Rattle.std.proofs.Common.{sym, ◌∙◌}
use Rattle.ac_host.proofs.Handlers.{this_takes, later_takes, none_takes}
use Rattle.ac_host.proofs.handling.handler_of.Goals as goal

pub returns-then-takes : goal.returns-then-takes
returns-then-takes c =
    let l = c.loop-handler in
    sym (this_takes c.args.handlers.now c.args.raised l.handler-index c.handler-item.result c.loop-handler-test.true c.handler-item.is
    (sym c.takes.ensures ∙ c.if-takes.true)) ∙ l.invariant

pub loop-handler-preserved : goal.loop-handler-preserved
loop-handler-preserved c =
    let l = c.loop-handler in
    sym (later_takes c.args.handlers.now c.args.raised l.handler-index c.handler-item.result c.loop-handler-test.true c.handler-item.is
    (sym c.takes.ensures ∙ c.if-takes.false)) ∙ l.invariant

pub returns : goal.returns
returns c =
    sym (none_takes c.args.handlers.now c.args.raised c.loop-handler.handler-index c.loop-handler-test.false) ∙ c.loop-handler.invariant
