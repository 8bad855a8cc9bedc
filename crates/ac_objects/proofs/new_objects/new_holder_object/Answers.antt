use Rattle.std.proofs.Common.{ap, ◌∙◌}
use Rattle.ac_syntax.specs.declared.kind.ElemKind.TheVariants.{Integer, Str}
use Rattle.ac_syntax.specs.Kinds.{is_holder}
use Rattle.ac_objects.specs.World.{held_in}
use Rattle.ac_objects.proofs.CalledHolders.{integer_holder, text_holder}
use Rattle.ac_objects.proofs.NewObjects.{of_holder_type}
use Rattle.ac_objects.proofs.new_objects.new_holder_object.Goals as goal

pub returns-in_ok-made-in-Integer : goal.returns-in_ok-made-in-Integer
returns-in_ok-made-in-Integer c =
    let made = c.in_ok-made-in-Integer in
    ap held_in (integer_holder made.made) ∙
    of_holder_type Integer made.made c.args.def.now c.args.tag c.args.limit (ap is_holder c.requires.kind) c.in-Integer.is made.ensures

pub returns-in_ok-made-in-Str : goal.returns-in_ok-made-in-Str
returns-in_ok-made-in-Str c =
    let made = c.in_ok-made-in-Str in
    ap held_in (text_holder made.made) ∙
    of_holder_type Str made.made c.args.def.now c.args.tag c.args.limit (ap is_holder c.requires.kind) c.in-Str.is made.ensures
