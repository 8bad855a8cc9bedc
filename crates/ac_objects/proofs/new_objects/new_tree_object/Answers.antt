use Rattle.std.proofs.Common.{ap, ◌∙◌}
use Rattle.ac_model.specs.Objects.{plain}
use Rattle.ac_syntax.specs.declared.kind.ElemKind.TheVariants.{Integer, Str}
use Rattle.ac_syntax.specs.Kinds.{has_cursors}
use Rattle.ac_calls.specs.Holdings.{a_tree, kind_by}
use Rattle.ac_objects.specs.World.{held_in}
use Rattle.ac_objects.proofs.Families.{integer_tree, text_tree}
use Rattle.ac_objects.proofs.NewObjects.{of_type}
use Rattle.ac_objects.proofs.new_objects.new_tree_object.Goals as goal

pub returns-in_ok-made-in-Integer : goal.returns-in_ok-made-in-Integer
returns-in_ok-made-in-Integer c =
    let made = c.in_ok-made-in-Integer in
    let def = c.args.def.now in
    ap held_in (integer_tree made.made) ∙
    of_type (a_tree Integer) (plain made.made.object) def c.args.tag c.args.limit (ap has_cursors c.requires.kind)
    (ap (λ k. kind_by k def.first def.second def.keyed) c.requires.kind ∙ ap a_tree c.in-Integer.is) made.ensures

pub returns-in_ok-made-in-Str : goal.returns-in_ok-made-in-Str
returns-in_ok-made-in-Str c =
    let made = c.in_ok-made-in-Str in
    let def = c.args.def.now in
    ap held_in (text_tree made.made) ∙
    of_type (a_tree Str) (plain made.made.object) def c.args.tag c.args.limit (ap has_cursors c.requires.kind)
    (ap (λ k. kind_by k def.first def.second def.keyed) c.requires.kind ∙ ap a_tree c.in-Str.is) made.ensures
