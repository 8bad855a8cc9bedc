use Rattle.std.proofs.Common.{◌∷◌, ap, ◌∙◌}
use Rattle.ac_base.specs.declared.guard.GuardKind.TheVariants as guard
use Rattle.ac_calls.specs.Holdings.{guard_on}
use Rattle.ac_meaning.specs.Environment.{binds_cursor, objects_by, object_at, with_name}
use Rattle.ac_meaning.specs.Execution.{guards_of_loop}
use Rattle.ac_meaning.specs.UnderGuards.{held_with}
use Rattle.ac_model.specs.Letters.{no_mark}
use Rattle.ac_objects.specs.Blocks.{guard_if, holding}
use Rattle.ac_objects.specs.World.{state_of}
use Rattle.ac_objects.proofs.InScope.{named_object, cursor_named}
use Rattle.ac_objects.proofs.objects.Objects.enter_loop.Goals as goal

pub returns-clause-opened : goal.returns-clause-opened
returns-clause-opened c h at =
    let e = state_of c.args.self.now in
    let place = c.args.object in
    let guards = guard_if c.hold_elements-elements.result in
    let named = c.in_ok-add.ensures.named in
    let there = ap (λ s. object_at s place) named ∙ named_object e (binds_cursor no_mark) place h at in
    let elements = c.hold_elements-elements.ensures.held h there in
    let k = c.hold_elements-elements.ensures.cursors h there in
    let held = c.hold-cursors.ensures.held k.0 k.1 in
    let all = ap (λ g. g ∷ guards) k.2 ∙ elements.0 in (
      c.first_at-coming.ensures.first h at,
      ap (λ g. g ∷ guards) held.0 ∙ all,
      held.1
          ∙ (ap (objects_by (held_with (guard_on k.0 guard.Cursors))) (elements.1 ∙ ap (holding guards) named)
          ∙ (ap (λ gs. holding gs (with_name e (binds_cursor no_mark))) all
          ∙ cursor_named (guards_of_loop c.args.elements h) e no_mark)),
    )
