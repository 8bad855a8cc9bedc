use Rattle.std.proofs.Common.{Some}
use Rattle.ac_calls.specs.Replied.{told}
use Rattle.ac_objects.proofs.InPlaces.{object_ready, source_ready, numbers_apart, calls_self, calls_with}
use Rattle.ac_objects.proofs.calling.call_source.Goals as goal

pub call_alone-requires : goal.call_alone-requires
call_alone-requires c = object_ready c.args.bounds.now.items c.args.object (Some c.args.other) c.args.frame.now.arguments c.requires

pub returns-then-other-object : goal.returns-then-other-object
returns-then-other-object c =
    calls_self c.args.operation c.args.frame.now.arguments c.args.bounds.now.items c.call_alone.new.bounds.items c.args.object c.args.other (told c.call_alone.new.frame.reply c.call_alone.result) c.requires c.if-other-object.true
    c.call_alone.ensures

pub call_with-requires-clause-object : goal.call_with-requires-clause-object
call_with-requires-clause-object c = object_ready c.args.bounds.now.items c.args.object (Some c.args.other) c.args.frame.now.arguments c.requires

pub call_with-requires-clause-source : goal.call_with-requires-clause-source
call_with-requires-clause-source c = source_ready c.args.bounds.now.items c.args.object c.args.other c.args.frame.now.arguments c.requires

pub call_with-requires-clause-apart : goal.call_with-requires-clause-apart
call_with-requires-clause-apart c =
    numbers_apart c.args.bounds.now.items c.args.object c.args.other (Some c.args.other) c.args.frame.now.arguments c.requires c.if-other-object.false

pub returns : goal.returns
returns c =
    calls_with c.args.operation c.args.frame.now.arguments c.args.bounds.now.items c.call_with.new.bounds.items c.args.object c.args.other (told c.call_with.new.frame.reply c.call_with.result) c.requires c.if-other-object.false
    c.call_with.ensures
