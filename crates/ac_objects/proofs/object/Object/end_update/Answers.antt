use Rattle.std.proofs.Common.{◌<◌, sym, ap, subst}
use Rattle.ac_base.specs.Guards.{HeldGuard, count_of}
use Rattle.ac_base.specs.declared.guard.GuardKind.{GuardKind}
use Rattle.ac_model.specs.Cursors.{plain_mark}
use Rattle.ac_objects.specs.Standing.{counts_in_held}
use Rattle.ac_objects.specs.World.{held_of}
use Rattle.ac_objects.proofs.Updating.{keyed_needs, keyed_own, keyed_held, keyed_ended, keyed_number, keyed_cursors, other_ended, other_goes}
use Rattle.ac_objects.proofs.object.Object.end_update.Goals as goal

pub end_update-requires-clause-there : goal.end_update-requires-clause-there
end_update-requires-clause-there c =
    keyed_needs c.args.self.now c.in-KeyedSet.set c.args.at c.in-KeyedSet.is c.requires.agrees c.requires.element

pub end_update-requires-clause-own : goal.end_update-requires-clause-own
end_update-requires-clause-own c = keyed_own c.args.self.now c.in-KeyedSet.set c.args.guard c.in-KeyedSet.is c.requires.own

pub end_update-requires-clause-held : goal.end_update-requires-clause-held
end_update-requires-clause-held c = keyed_held c.args.self.now c.in-KeyedSet.set c.in-KeyedSet.is c.requires.held

pub release-requires-clause-own : goal.release-requires-clause-own
release-requires-clause-own c = ap (λ (g : HeldGuard). g.object) c.requires.own

pub release-requires-clause-held : goal.release-requires-clause-held
release-requires-clause-held c =
    subst (λ (kind : GuardKind). 0 < count_of kind (counts_in_held (held_of c.args.self.now))) (sym (ap (λ (g : HeldGuard). g.kind) c.requires.own)) c.requires.held

pub returns-in-KeyedSet-clause-ended : goal.returns-in-KeyedSet-clause-ended
returns-in-KeyedSet-clause-ended c =
    let call = c.end_update in
    keyed_ended c.args.self.now c.in-KeyedSet.set c.args.at c.in-KeyedSet.is c.requires.agrees call.new.self c.args.copy call.result call.ensures.kind
    call.ensures.ended.1 call.ensures.ended.0

pub returns-in-KeyedSet-clause-number : goal.returns-in-KeyedSet-clause-number
returns-in-KeyedSet-clause-number c =
    let call = c.end_update in
    keyed_number c.args.self.now c.in-KeyedSet.set c.args.at c.in-KeyedSet.is c.requires.agrees call.new.self c.args.copy call.result call.ensures.kind
    call.ensures.ended.1

pub returns-in-KeyedSet-clause-cursors : goal.returns-in-KeyedSet-clause-cursors
returns-in-KeyedSet-clause-cursors c =
    let call = c.end_update in
    keyed_cursors c.args.self.now c.in-KeyedSet.set c.args.at c.in-KeyedSet.is c.requires.agrees call.new.self c.args.copy call.result call.ensures.kind
    call.ensures.ended.1 call.ensures.valid

pub returns-in_default-clause-ended : goal.returns-in_default-clause-ended
returns-in_default-clause-ended c =
    other_ended c.args.self.now c.release.new.self c.args.guard c.release.ensures (ap (λ (g : HeldGuard). g.kind) c.requires.own) (plain_mark c.args.at) c.args.copy
    c.in_default.not-KeyedSet

pub returns-in_default-clause-number : goal.returns-in_default-clause-number
returns-in_default-clause-number c =
    (other_goes c.args.self.now c.release.new.self c.args.guard c.release.ensures (ap (λ (g : HeldGuard). g.kind) c.requires.own)).number

pub returns-in_default-clause-cursors : goal.returns-in_default-clause-cursors
returns-in_default-clause-cursors c =
    (other_goes c.args.self.now c.release.new.self c.args.guard c.release.ensures (ap (λ (g : HeldGuard). g.kind) c.requires.own)).agrees
