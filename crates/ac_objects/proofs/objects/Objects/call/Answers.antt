use Rattle.std.proofs.Common.{refl, sym, ◌∙◌}
use Rattle.ac_meaning.proofs.CallsStay.{none_some}
use Rattle.ac_objects.specs.Steps.{reply_in}
use Rattle.ac_objects.specs.World.{state_of}
use Rattle.ac_objects.proofs.Performing.{answer_known, call_given, call_refused, none_refused, refused_untouched, stand_after}
use Rattle.ac_objects.proofs.objects.Objects.call.Goals as goal

pub give-requires-clause-stand : goal.give-requires-clause-stand
give-requires-clause-stand c =
    let o = c.if-not-is_object.ensures.yes refl in
    stand_after c.args.object c.args.operation c.args.args.now o.held c.args.self.now c.perform.new.self c.perform.new.frame.reply.said o.there
    (c.in-Ok.ensures.performed o.held o.there) c.requires.stand

pub give-requires-clause-known : goal.give-requires-clause-known
give-requires-clause-known c =
    let a = c.args in
    let o = c.if-not-is_object.ensures.yes refl in
    answer_known (reply_in (state_of a.self.now) o.held a.operation a.args.now) a.object a.args.now a.self.now c.perform.new.self c.perform.new.frame.reply.said
    (c.in-Ok.ensures.performed o.held o.there)

pub returns-in-Ok-clause-performed : goal.returns-in-Ok-clause-performed
returns-in-Ok-clause-performed c =
    let old = c.args.self.now in
    let a = c.args in
    let said = c.perform.new.frame.reply.said in
    let o = c.if-not-is_object.ensures.yes refl in
    call_given a.target a.object a.operation a.args.now o.held old c.perform.new.self c.give.new.self said c.give.result o.there
    (c.in-Ok.ensures.performed o.held o.there) c.give.ensures.given c.give.ensures.integers

pub returns-in-Err-clause-performed : goal.returns-in-Err-clause-performed
returns-in-Err-clause-performed c =
    let a = c.args in
    let o = c.if-not-is_object.ensures.yes refl in
    call_refused a.target a.object a.operation a.args.now o.held a.self.now c.perform.new.self c.in-Err.fault o.there (c.in-Err.ensures.performed o.held o.there)

pub returns-in-Ok-clause-untouched : goal.returns-in-Ok-clause-untouched
returns-in-Ok-clause-untouched c h reason there refused =
    let a = c.args in
    let none = none_refused (reply_in (state_of a.self.now) h a.operation a.args.now) a.object a.args.now a.self.now c.perform.new.self c.perform.new.frame.reply.said
    (c.in-Ok.ensures.performed h there) in
    none_some reason (sym none ∙ refused)

pub returns-in-Err-clause-untouched : goal.returns-in-Err-clause-untouched
returns-in-Err-clause-untouched c h reason there refused =
    let a = c.args in
    refused_untouched (reply_in (state_of a.self.now) h a.operation a.args.now) a.object a.args.now a.self.now c.perform.new.self c.in-Err.fault
    (c.in-Err.ensures.performed h there)
