use Rattle.std.proofs.Common.{[], ◌∷◌, sym, ap, ◌∙◌}
use Rattle.ac_base.specs.declared.guard.GuardKind.TheVariants as guard
use Rattle.ac_base.specs.Guards.{HeldGuard}
use Rattle.ac_model.specs.Cursors.{plain_mark}
use Rattle.ac_model.proofs.Reasons.{passed}
use Rattle.ac_syntax.specs.declared.view_kind.ViewKind.TheVariants.{UpdateKey}
use Rattle.ac_meaning.specs.Environment.{binds_value, mark_at, objects_by, object_at, value_or_zero, with_name}
use Rattle.ac_meaning.specs.Execution.{head_reason, guards_of_view}
use Rattle.ac_calls.specs.Holdings.{element_value, guard_on, is_a_set, key_update_reason}
use Rattle.ac_meaning.specs.UnderGuards.{held_with}
use Rattle.ac_meaning.proofs.GuardedPlaces.{guarded_is_there}
use Rattle.ac_objects.specs.Blocks.{holding}
use Rattle.ac_objects.specs.World.{state_of}
use Rattle.ac_objects.proofs.InScope.{named_object, value_named}
use Rattle.ac_objects.proofs.Updating.{passed_stands, raised_cursors}
use Rattle.ac_objects.proofs.objects.Objects.open_update.Goals as goal

pub copy_at-requires-clause-element : goal.copy_at-requires-clause-element
copy_at-requires-clause-element c =
    let e = state_of c.args.self.now in
    let at = plain_mark c.cursor_at-at.result in
    let object = c.requires.object in
    let there = guarded_is_there e c.args.object object.held object.there in
    passed_stands e c.args.object object.held at there
    (sym (passed c.refuses_update.result (key_update_reason object.held at) (sym c.in_ok-allowed.was ∙ c.allowed.ensures) (c.refuses_update.ensures object.held there)))

pub returns-clause-guard : goal.returns-clause-guard
returns-clause-guard c =
    let e = state_of c.args.self.now in
    let object = c.requires.object in
    let there = guarded_is_there e c.args.object object.held object.there in
    let held = c.hold-guard.ensures.held object.held
    (ap (λ s. object_at s c.args.object) c.in_ok-add.ensures.named ∙ named_object e (binds_value c.in_ok-copy.copy) c.args.object object.held there) in
    ap (λ (g : HeldGuard). g.kind) held.0 ∙ raised_cursors (is_a_set object.held)

pub returns-clause-opened : goal.returns-clause-opened
returns-clause-opened c h at =
    let e = state_of c.args.self.now in
    let place = c.args.object in
    let mark = plain_mark c.cursor_at-at.result in
    let marks = c.cursor_at-at.ensures.mark in
    let copy = c.in_ok-copy.copy in
    let value = c.in_ok-copy.ensures h at ∙ ap (λ m. value_or_zero (element_value h m).answer) marks in
    let named = c.in_ok-add.ensures.named in
    let held = c.hold-guard.ensures.held h (ap (λ s. object_at s place) named ∙ named_object e (binds_value copy) place h at) in
    let state =
    held.1
    ∙ (ap (objects_by (held_with (guard_on h guard.Cursors))) named
    ∙ (value_named (held_with (guard_on h guard.Cursors)) e copy
    ∙ ap (λ v. with_name (holding (guards_of_view UpdateKey h) e) (binds_value v)) value)) in (
      sym (passed c.refuses_update.result (head_reason UpdateKey h (mark_at e c.args.at)) (sym c.in_ok-allowed.was ∙ c.allowed.ensures)
          (c.refuses_update.ensures h at ∙ ap (key_update_reason h) marks)),
      ap (λ g. g ∷ []) held.0,
      state,
    )
