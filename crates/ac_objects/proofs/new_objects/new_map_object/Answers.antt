use Rattle.std.proofs.Common.{ap, sym, ◌∙◌}
use Rattle.ac_model.specs.Objects.{plain}
use Rattle.ac_syntax.specs.declared.kind.ElemKind.TheVariants.{Integer, Str}
use Rattle.ac_calls.specs.Holdings.{a_map}
use Rattle.ac_keyed_calls.specs.Maps.{entries_of, map_kind_of}
use Rattle.ac_objects.specs.World.{held_in}
use Rattle.ac_objects.proofs.Families.{integers_by_integer, texts_by_integer, integers_by_text, texts_by_text}
use Rattle.ac_objects.proofs.NewObjects.{of_type}
use Rattle.ac_objects.proofs.new_objects.new_map_object.Goals as goal

pub returns-in_ok-made-in-Integer-element : goal.returns-in_ok-made-in-Integer-element
returns-in_ok-made-in-Integer-element c =
    let made = c.in_ok-made-in-Integer-element in
    let def = c.args.def.now in
    let which = map_kind_of made.made in
    ap held_in (integers_by_integer made.made) ∙
    of_type (a_map which Integer Integer) (plain (entries_of made.made).object) def c.args.tag c.args.limit made.ensures.rows
    (made.ensures.kind def.first def.second def.keyed ∙ (λ i. a_map which (c.in-Integer.is i) ((sym c.element_or-element.ensures ∙ c.in-Integer-element.is) i))) made.ensures.empty

pub returns-in_ok-made-in-Str-element : goal.returns-in_ok-made-in-Str-element
returns-in_ok-made-in-Str-element c =
    let made = c.in_ok-made-in-Str-element in
    let def = c.args.def.now in
    let which = map_kind_of made.made in
    ap held_in (texts_by_integer made.made) ∙
    of_type (a_map which Integer Str) (plain (entries_of made.made).object) def c.args.tag c.args.limit made.ensures.rows
    (made.ensures.kind def.first def.second def.keyed ∙ (λ i. a_map which (c.in-Integer.is i) ((sym c.element_or-element.ensures ∙ c.in-Str-element.is) i))) made.ensures.empty

pub returns-in_ok-made-in-Integer-element-2 : goal.returns-in_ok-made-in-Integer-element-2
returns-in_ok-made-in-Integer-element-2 c =
    let made = c.in_ok-made-in-Integer-element-2 in
    let def = c.args.def.now in
    let which = map_kind_of made.made in
    ap held_in (integers_by_text made.made) ∙
    of_type (a_map which Str Integer) (plain (entries_of made.made).object) def c.args.tag c.args.limit made.ensures.rows
    (made.ensures.kind def.first def.second def.keyed ∙ (λ i. a_map which (c.in-Str.is i) ((sym c.element_or-element.ensures ∙ c.in-Integer-element-2.is) i))) made.ensures.empty

pub returns-in_ok-made-in-Str-element-2 : goal.returns-in_ok-made-in-Str-element-2
returns-in_ok-made-in-Str-element-2 c =
    let made = c.in_ok-made-in-Str-element-2 in
    let def = c.args.def.now in
    let which = map_kind_of made.made in
    ap held_in (texts_by_text made.made) ∙
    of_type (a_map which Str Str) (plain (entries_of made.made).object) def c.args.tag c.args.limit made.ensures.rows
    (made.ensures.kind def.first def.second def.keyed ∙ (λ i. a_map which (c.in-Str.is i) ((sym c.element_or-element.ensures ∙ c.in-Str-element-2.is) i))) made.ensures.empty
