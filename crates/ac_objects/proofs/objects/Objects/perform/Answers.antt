use Rattle.std.proofs.Common.{subst, Ok}
use Rattle.ac_meaning.specs.Commands.{arguments, source_of}
use Rattle.ac_calls.specs.Holdings.{reply_of}
use Rattle.ac_calls.specs.Arguments.{arguments_of}
use Rattle.ac_objects.specs.Steps.{CalledAt, reply_in}
use Rattle.ac_objects.specs.World.{state_of}
use Rattle.ac_objects.proofs.Performing.{is_performed, sets_known}
use Rattle.ac_objects.proofs.objects.Objects.perform.Goals as goal

pub set_variable-requires : goal.set_variable-requires
set_variable-requires c =
    let e = state_of c.args.self.now in
    let source = c.source_place-source.result in
    let o = c.requires.object in
    sets_known (reply_of o.held (source_of e source) c.args.operation (arguments_of c.read_arguments.new.read)) c.args.object source c.args.self.now
    c.call_at.new.self c.call_at.new.frame.reply (c.in-Ok-call_at.ensures.called o.held o.there)

pub returns-in-Ok-call_at-clause-performed : goal.returns-in-Ok-call_at-clause-performed
returns-in-Ok-call_at-clause-performed c h there =
    let old = c.args.self.now in
    let e = state_of old in
    let args = c.args.args.now in
    let source = c.source_place-source.result in
    let mid = c.call_at.new.self in
    let reply = c.call_at.new.frame.reply in
    let read = subst (λ a. CalledAt (reply_of h (source_of e source) c.args.operation a) c.args.object source old mid (Ok reply)) c.in-Ok.ensures.read
    (c.in-Ok-call_at.ensures.called h there) in
    let placed = subst (λ s. CalledAt (reply_of h (source_of e s) c.args.operation (arguments e args)) c.args.object source old mid (Ok reply))
    c.source_place-source.ensures.place read in
    is_performed (reply_in e h c.args.operation args) c.args.object source args old mid c.set_variable.new.self reply c.source_place-source.ensures.place placed
    c.set_variable.ensures.set c.set_variable.ensures.persists
