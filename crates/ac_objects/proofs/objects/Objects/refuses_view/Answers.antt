use Rattle.std.proofs.Common.{◌≡◌, refl, ◌∙◌}
use Rattle.ac_model.specs.Cursors.{plain_mark}
use Rattle.ac_model.specs.Letters.{Mark}
use Rattle.ac_syntax.specs.declared.view_kind.ViewKind.{ViewKind}
use Rattle.ac_syntax.specs.declared.view_kind.ViewKind.TheVariants.{Query, Update, Reference, UpdateKey}
use Rattle.ac_meaning.specs.Execution.{head_reason}
use Rattle.ac_calls.specs.Holdings.{Held, element_value}
use Rattle.ac_objects.specs.World.{held_of}
use Rattle.ac_objects.proofs.Found.{holds_there, found_agrees}
use Rattle.ac_objects.proofs.objects.Objects.refuses_view.Goals as goal

as_element : (kind : ViewKind) (h : Held) (at : Mark) → (kind ≡ UpdateKey → ⊥) → (element_value h at).reason ≡ head_reason kind h at
as_element Query h at other = refl
as_element Update h at other = refl
as_element Reference h at other = refl
as_element UpdateKey h at other = absurd (other refl)

pub refused_view-requires : goal.refused_view-requires
refused_view-requires c = found_agrees c.args.self.now c.args.place c.in-Some.object.now c.args.at c.in-Some.ensures c.requires.known

pub returns-in-Some : goal.returns-in-Some
returns-in-Some c =
    let at = plain_mark c.args.at in
    holds_there (λ h. c.refused_view.result ≡ head_reason c.args._kind h at) c.args.self.now c.args.place c.in-Some.object.now c.in-Some.ensures
    (c.refused_view.ensures ∙ as_element c.args._kind (held_of c.in-Some.object.now) at c.requires.view)
