use Rattle.std.proofs.Common.{ap, ◌∙◌}
use Rattle.ac_model.specs.Objects.{plain}
use Rattle.ac_syntax.specs.declared.kind.ElemKind.TheVariants.{Integer, Str}
use Rattle.ac_calls.specs.Holdings.{a_set, kind_by}
use Rattle.ac_keyed_calls.specs.Sets.{items_of, set_kind_of}
use Rattle.ac_objects.specs.World.{held_in}
use Rattle.ac_objects.proofs.Families.{integer_set, text_set}
use Rattle.ac_objects.proofs.NewObjects.{of_type}
use Rattle.ac_objects.proofs.new_objects.new_plain_set_object.Goals as goal

pub returns-in_ok-made-in-Integer : goal.returns-in_ok-made-in-Integer
returns-in_ok-made-in-Integer c =
    let made = c.in_ok-made-in-Integer in
    let def = c.args.def.now in
    ap held_in (integer_set made.made) ∙
    of_type (a_set (set_kind_of made.made) Integer) (plain (items_of made.made).object) def c.args.tag c.args.limit made.ensures.rows
    (ap (kind_by def.kind def.first def.second) c.requires.plain ∙ ((made.ensures.kind def.first def.second).0 ∙ ap (a_set (set_kind_of made.made)) c.in-Integer.is)) made.ensures.empty

pub returns-in_ok-made-in-Str : goal.returns-in_ok-made-in-Str
returns-in_ok-made-in-Str c =
    let made = c.in_ok-made-in-Str in
    let def = c.args.def.now in
    ap held_in (text_set made.made) ∙
    of_type (a_set (set_kind_of made.made) Str) (plain (items_of made.made).object) def c.args.tag c.args.limit made.ensures.rows
    (ap (kind_by def.kind def.first def.second) c.requires.plain ∙ ((made.ensures.kind def.first def.second).0 ∙ ap (a_set (set_kind_of made.made)) c.in-Str.is)) made.ensures.empty
