use Rattle.std.proofs.Common.{sym, subst}
use Rattle.ac_calls.specs.Replied.{told}
use Rattle.ac_objects.specs.Steps.{CanCallIn, CallsIn}
use Rattle.ac_objects.proofs.InPlaces.{object_ready, calls_without}
use Rattle.ac_objects.proofs.calling.call_in.Goals as goal

pub call_alone-requires : goal.call_alone-requires
call_alone-requires c = object_ready c.args.bounds.now.items c.args.object c.args.source c.args.frame.now.arguments c.requires

pub returns-in-None : goal.returns-in-None
returns-in-None c =
    let bs = c.args.bounds.now.items in
    subst (λ s. CallsIn c.args.operation c.args.frame.now.arguments c.args.object s bs c.call_alone.new.bounds.items (told c.call_alone.new.frame.reply c.call_alone.result)) (sym c.in-None.is)
    (calls_without c.args.operation c.args.frame.now.arguments bs c.call_alone.new.bounds.items c.args.object (told c.call_alone.new.frame.reply c.call_alone.result)
    (subst (λ s. CanCallIn bs c.args.object s c.args.frame.now.arguments) c.in-None.is c.requires) c.call_alone.ensures)
