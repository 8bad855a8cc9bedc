use Rattle.std.proofs.Common.{rules, ◌≡◌, min, sym, ap, subst, ◌∙◌}
use Rattle.ac_base.specs.declared.limit.TheConstants.{GREATEST_LENGTH}
use Rattle.ac_syntax.specs.declared.operation.CapacityCall.TheVariants.{ReserveCapacity}
use Rattle.ac_syntax.specs.declared.operation.Operation.TheVariants.{Capacity}
use Rattle.ac_calls.specs.Arguments.{arguments_of}
use Rattle.ac_objects.specs.World.{state_of}
use Rattle.ac_snapshot.specs.Filled.{count_arguments}
use Rattle.ac_plains.specs.Filling.{GoesThrough}
use Rattle.ac_plains.proofs.FillingReserved.{none_reserved, reserve_goes, reserved_if}
use Rattle.ac_plains.proofs.filling.reserve.Goals as goal

pub make_call-requires-clause-goes : goal.make_call-requires-clause-goes
make_call-requires-clause-goes c =
    let counted : c.min.result ≡ min c.in-Some.capacity GREATEST_LENGTH = search rules in
    subst (λ args. GoesThrough (Capacity ReserveCapacity) args (state_of c.args.objects.now) c.args.place)
    (sym (c.put_count.ensures.put ∙ ap count_arguments counted)) (reserve_goes c.requires c.in-Some.capacity c.in-Some.is)

pub returns-in-None : goal.returns-in-None
returns-in-None c r = none_reserved r c.in-None.is

pub returns-in-Some : goal.returns-in-Some
returns-in-Some c =
    let counted : c.min.result ≡ min c.in-Some.capacity GREATEST_LENGTH = search rules in
    reserved_if c.args.capacity (state_of c.args.objects.now) c.args.place c.in-Some.capacity (arguments_of c.put_count.new.args) c.make_call.result (state_of c.make_call.new.objects) c.in-Some.is
    (c.put_count.ensures.put ∙ ap count_arguments counted) c.make_call.ensures
