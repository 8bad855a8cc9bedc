use Rattle.std.proofs.Common.{◌≡◌, sym, ap, subst, ◌∙◌}
use Rattle.std.specs.Prelude.{IfSome}
use Rattle.ac_base.specs.declared.reason.Reason.TheVariants.{KeyChanged}
use Rattle.ac_model.specs.Cursors.{plain_mark}
use Rattle.ac_meaning.specs.Environment.{objects_by, object_at, with_bound, binds_object}
use Rattle.ac_meaning.specs.UnderGuards.{held_without}
use Rattle.ac_objects.specs.Standing.{counts_of}
use Rattle.ac_objects.specs.World.{state_of}
use Rattle.ac_calls.specs.Elements.{text_in}
use Rattle.ac_objects.specs.KeyUpdates.{key_ended}
use Rattle.ac_objects.proofs.Counted.{held_left}
use Rattle.ac_objects.proofs.InScope.{left_object}
use Rattle.ac_objects.proofs.Updating.{only_changed, stands_left, update_ends}
use Rattle.ac_objects.proofs.objects.Objects.close_update.Goals as goal

pub end_update-requires-clause-guard : goal.end_update-requires-clause-guard
end_update-requires-clause-guard c =
    held_left (state_of c.args.self.now) (state_of c.take_value-value.new.self) c.args.key.names c.args.key.object c.args.key.guard
    c.take_value-value.ensures.left c.requires.inner c.requires.guard

pub end_update-requires-clause-known : goal.end_update-requires-clause-known
end_update-requires-clause-known c = c.take_value-value.ensures.persists c.args.key.at c.requires.known

pub end_update-requires-clause-element : goal.end_update-requires-clause-element
end_update-requires-clause-element c =
    stands_left (state_of c.args.self.now) (state_of c.take_value-value.new.self) c.args.key.names c.args.key.object (plain_mark c.args.key.at)
    c.take_value-value.ensures.left c.requires.inner c.requires.element

pub returns-clause-ended : goal.returns-clause-ended
returns-clause-ended c =
    let key = c.args.key in
    let left = c.take_value-value.ensures.left in
    update_ends key (state_of c.args.self.now) (state_of c.end_update.new.self) c.keyed_text-copy.result c.end_update.result c.requires.guard c.requires.cursors c.requires.inner (c.keyed_text-copy.ensures ∙ ap text_in c.take_value-value.ensures.value)
    (λ h there.
    let end = c.end_update.ensures.ended h (ap (λ e. object_at e key.object) left ∙ there) in (
      end.0,
      end.1 ∙ ap (λ e. with_bound (objects_by (held_without key.guard) e) key.object (binds_object (key_ended h (plain_mark key.at) c.keyed_text-copy.result).after)) left,
    ))

pub returns-clause-only : goal.returns-clause-only
returns-clause-only c =
    let key = c.args.key in
    let held = c.requires.guard in
    let there = ap (λ e. object_at e key.object) c.take_value-value.ensures.left
    ∙ (left_object (state_of c.args.self.now) key.names key.object c.requires.inner ∙ held.there) in
    subst (λ r. IfSome r (λ reason. reason ≡ KeyChanged)) (sym (c.end_update.ensures.ended held.held there).0)
    (only_changed held.held (plain_mark key.at) c.keyed_text-copy.result)

pub returns-clause-persists : goal.returns-clause-persists
returns-clause-persists c k known = c.end_update.ensures.persists k (c.take_value-value.ensures.persists k known)

pub returns-clause-counts : goal.returns-clause-counts
returns-clause-counts c = c.end_update.ensures.counts ∙ ap (λ e. counts_of (objects_by (held_without c.args.key.guard) e)) c.take_value-value.ensures.left
