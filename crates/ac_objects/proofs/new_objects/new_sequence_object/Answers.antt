use Rattle.std.proofs.Common.{ap, ◌∙◌}
use Rattle.ac_model.specs.Objects.{plain}
use Rattle.ac_syntax.specs.declared.kind.ElemKind.TheVariants.{Integer, Str}
use Rattle.ac_calls.specs.Holdings.{a_sequence}
use Rattle.ac_objects.specs.Sequences.{rows_of, kind_of}
use Rattle.ac_objects.specs.World.{held_in}
use Rattle.ac_objects.proofs.Families.{integers, texts}
use Rattle.ac_objects.proofs.NewObjects.{of_type}
use Rattle.ac_objects.proofs.new_objects.new_sequence_object.Goals as goal

pub returns-in_ok-made-in-Integer : goal.returns-in_ok-made-in-Integer
returns-in_ok-made-in-Integer c =
    let made = c.in_ok-made-in-Integer in
    ap held_in (integers made.made) ∙
    of_type (a_sequence (kind_of made.made) Integer) (plain (rows_of made.made).object) c.args.def.now c.args.tag c.args.limit made.ensures.rows
    (made.ensures.kind c.args.def.now.first c.args.def.now.second c.args.def.now.keyed ∙ ap (a_sequence (kind_of made.made)) c.in-Integer.is) made.ensures.empty

pub returns-in_ok-made-in-Str : goal.returns-in_ok-made-in-Str
returns-in_ok-made-in-Str c =
    let made = c.in_ok-made-in-Str in
    ap held_in (texts made.made) ∙
    of_type (a_sequence (kind_of made.made) Str) (plain (rows_of made.made).object) c.args.def.now c.args.tag c.args.limit made.ensures.rows
    (made.ensures.kind c.args.def.now.first c.args.def.now.second c.args.def.now.keyed ∙ ap (a_sequence (kind_of made.made)) c.in-Str.is) made.ensures.empty
