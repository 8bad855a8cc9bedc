use Rattle.std.proofs.Common.{[], ◌∷◌, sym, ap, ◌∙◌}
use Rattle.ac_model.specs.Cursors.{plain_mark}
use Rattle.ac_model.proofs.Reasons.{passed}
use Rattle.ac_meaning.specs.Environment.{binds_element, mark_at, objects_by, object_at, with_name}
use Rattle.ac_meaning.specs.Execution.{head_reason, guards_of_view}
use Rattle.ac_calls.specs.Holdings.{guard_on}
use Rattle.ac_meaning.specs.UnderGuards.{held_with}
use Rattle.ac_objects.specs.Blocks.{holding}
use Rattle.ac_objects.specs.World.{state_of}
use Rattle.ac_objects.proofs.InScope.{named_object, named_by}
use Rattle.ac_objects.proofs.objects.Objects.open_view.Goals as goal

pub returns-clause-opened : goal.returns-clause-opened
returns-clause-opened c h at =
    let e = state_of c.args.self.now in
    let place = c.args.object in
    let kind = c.guarded_kind-guarded.result in
    let mark = plain_mark c.cursor_at-at.result in
    let guards = c.guarded_kind-guarded.ensures h in
    let marks = c.cursor_at-at.ensures.mark in
    let named = c.in_ok-add.ensures.named in
    let held = c.hold-guard.ensures.held h (ap (λ s. object_at s place) named ∙ named_object e (binds_element place mark) place h at) in
    let state =
    held.1
    ∙ (ap (objects_by (held_with (guard_on h kind))) named
    ∙ (named_by (held_with (guard_on h kind)) e place mark
    ∙ (ap (λ gs. with_name (holding gs e) (binds_element place mark)) guards
    ∙ ap (λ m. with_name (holding (guards_of_view c.args.kind h) e) (binds_element place m)) marks))) in (
      sym (passed c.refuses_view.result (head_reason c.args.kind h (mark_at e c.args.at)) (sym c.in_ok-allowed.was ∙ c.allowed.ensures)
          (c.refuses_view.ensures h at ∙ ap (head_reason c.args.kind h) marks)),
      ap (λ g. g ∷ []) held.0 ∙ guards,
      state,
    )
