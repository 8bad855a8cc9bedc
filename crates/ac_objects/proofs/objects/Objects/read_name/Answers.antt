use Rattle.std.proofs.Common.{length, sym, ap, ◌∙◌}
use Rattle.std.proofs.lemmas.Bool.{ltb-false}
use Rattle.ac_model.specs.Cursors.{plain_mark}
use Rattle.ac_meaning.specs.Environment.{value_in, binds_element}
use Rattle.ac_calls.specs.Answers.{answers_value}
use Rattle.ac_calls.specs.Replies.{value_argument}
use Rattle.ac_objects.specs.World.{counted, state_of}
use Rattle.ac_objects.specs.declared.bound.Bound.TheVariants as bound
use Rattle.ac_meaning.proofs.Places.{seen_there, seen_past}
use Rattle.ac_objects.proofs.Names.{read_found, read_past, say_found, say_past, can_read_in}
use Rattle.ac_objects.proofs.objects.Objects.read_name.Goals as goal

pub copy_element-requires : goal.copy_element-requires
copy_element-requires c =
    let here = c.in-Some-Element in
    let bs = c.self.inside.bounds.items in
    can_read_in c.args.self.now bs (counted c.self.inside.mint c.self.inside.blocks) c.args.place here.object here.at c.self.view_is c.self.invariant c.requires
    (seen_there c.deref.result.now bs c.args.place here.field-0.now _ c.deref.ensures.value here.ensures.lookup.3.0 here.ensures.lookup.1 here.field-0-is)

pub returns-in-Some-Type-clause-read : goal.returns-in-Some-Type-clause-read
returns-in-Some-Type-clause-read c =
    let here = c.in-Some-Type in
    let bs = c.self.inside.bounds.items in
    read_found c.args.self.now bs (counted c.self.inside.mint c.self.inside.blocks) c.args.place _ c.self.view_is
    (seen_there c.deref.result.now bs c.args.place here.field-0.now _ c.deref.ensures.value here.ensures.lookup.3.0 here.ensures.lookup.1 here.field-0-is)

pub returns-in-Some-Object-clause-read : goal.returns-in-Some-Object-clause-read
returns-in-Some-Object-clause-read c =
    let here = c.in-Some-Object in
    let bs = c.self.inside.bounds.items in
    read_found c.args.self.now bs (counted c.self.inside.mint c.self.inside.blocks) c.args.place (bound.Object here.field-0-0) c.self.view_is
    (seen_there c.deref.result.now bs c.args.place here.field-0.now _ c.deref.ensures.value here.ensures.lookup.3.0 here.ensures.lookup.1 here.field-0-is)

pub returns-in_ok-copy_value-in-Some-Value-clause-read : goal.returns-in_ok-copy_value-in-Some-Value-clause-read
returns-in_ok-copy_value-in-Some-Value-clause-read c =
    let here = c.in-Some-Value in
    let bs = c.self.inside.bounds.items in
    ap value_argument c.in_ok-copy_value-in-Some-Value.ensures
    ∙ read_found c.args.self.now bs (counted c.self.inside.mint c.self.inside.blocks) c.args.place (bound.Value here.value) c.self.view_is
    (seen_there c.deref.result.now bs c.args.place here.field-0.now _ c.deref.ensures.value here.ensures.lookup.3.0 here.ensures.lookup.1 here.field-0-is)

pub returns-in_ok-value-in-Some-Element-clause-read : goal.returns-in_ok-value-in-Some-Element-clause-read
returns-in_ok-value-in-Some-Element-clause-read c =
    let here = c.in-Some-Element in
    let bs = c.self.inside.bounds.items in
    ap value_argument
    (c.in_ok-value-in-Some-Element.ensures (counted c.self.inside.mint c.self.inside.blocks) ∙ ap (λ w. value_in (state_of w) (binds_element here.object (plain_mark here.at))) c.self.view_is)
    ∙ read_found c.args.self.now bs (counted c.self.inside.mint c.self.inside.blocks) c.args.place (bound.Element here.object here.at) c.self.view_is
    (seen_there c.deref.result.now bs c.args.place here.field-0.now _ c.deref.ensures.value here.ensures.lookup.3.0 here.ensures.lookup.1 here.field-0-is)

pub returns-in-Some-Type-clause-said : goal.returns-in-Some-Type-clause-said
returns-in-Some-Type-clause-said c =
    let here = c.in-Some-Type in
    let bs = c.self.inside.bounds.items in
    say_found c.args.self.now bs (counted c.self.inside.mint c.self.inside.blocks) c.args.place _ c.self.view_is
    (seen_there c.deref.result.now bs c.args.place here.field-0.now _ c.deref.ensures.value here.ensures.lookup.3.0 here.ensures.lookup.1 here.field-0-is)

pub returns-in-Some-Object-clause-said : goal.returns-in-Some-Object-clause-said
returns-in-Some-Object-clause-said c =
    let here = c.in-Some-Object in
    let bs = c.self.inside.bounds.items in
    say_found c.args.self.now bs (counted c.self.inside.mint c.self.inside.blocks) c.args.place (bound.Object here.field-0-0) c.self.view_is
    (seen_there c.deref.result.now bs c.args.place here.field-0.now _ c.deref.ensures.value here.ensures.lookup.3.0 here.ensures.lookup.1 here.field-0-is)

pub returns-in_ok-copy_value-in-Some-Value-clause-said : goal.returns-in_ok-copy_value-in-Some-Value-clause-said
returns-in_ok-copy_value-in-Some-Value-clause-said c =
    let here = c.in-Some-Value in
    let bs = c.self.inside.bounds.items in
    ap answers_value c.in_ok-copy_value-in-Some-Value.ensures
    ∙ say_found c.args.self.now bs (counted c.self.inside.mint c.self.inside.blocks) c.args.place (bound.Value here.value) c.self.view_is
    (seen_there c.deref.result.now bs c.args.place here.field-0.now _ c.deref.ensures.value here.ensures.lookup.3.0 here.ensures.lookup.1 here.field-0-is)

pub returns-in_ok-value-in-Some-Element-clause-said : goal.returns-in_ok-value-in-Some-Element-clause-said
returns-in_ok-value-in-Some-Element-clause-said c =
    let here = c.in-Some-Element in
    let bs = c.self.inside.bounds.items in
    ap answers_value
    (c.in_ok-value-in-Some-Element.ensures (counted c.self.inside.mint c.self.inside.blocks) ∙ ap (λ w. value_in (state_of w) (binds_element here.object (plain_mark here.at))) c.self.view_is)
    ∙ say_found c.args.self.now bs (counted c.self.inside.mint c.self.inside.blocks) c.args.place (bound.Element here.object here.at) c.self.view_is
    (seen_there c.deref.result.now bs c.args.place here.field-0.now _ c.deref.ensures.value here.ensures.lookup.3.0 here.ensures.lookup.1 here.field-0-is)

pub returns-in-None-clause-read : goal.returns-in-None-clause-read
returns-in-None-clause-read c =
    let bs = c.self.inside.bounds.items in
    read_past c.args.self.now bs (counted c.self.inside.mint c.self.inside.blocks) c.args.place c.self.view_is (seen_past c.deref.result.now bs c.args.place c.deref.ensures.value
    (ltb-false c.args.place (length c.deref.result.now) (sym c.in-None.ensures.lookup.0)))

pub returns-in-Some-Cursor-clause-read : goal.returns-in-Some-Cursor-clause-read
returns-in-Some-Cursor-clause-read c =
    let here = c.in-Some-Cursor in
    let bs = c.self.inside.bounds.items in
    read_found c.args.self.now bs (counted c.self.inside.mint c.self.inside.blocks) c.args.place (bound.Cursor here.cursor) c.self.view_is
    (seen_there c.deref.result.now bs c.args.place here.field-0.now _ c.deref.ensures.value here.ensures.lookup.3.0 here.ensures.lookup.1 here.field-0-is)

pub returns-in-None-clause-said : goal.returns-in-None-clause-said
returns-in-None-clause-said c =
    let bs = c.self.inside.bounds.items in
    say_past c.args.self.now bs (counted c.self.inside.mint c.self.inside.blocks) c.args.place c.self.view_is (seen_past c.deref.result.now bs c.args.place c.deref.ensures.value
    (ltb-false c.args.place (length c.deref.result.now) (sym c.in-None.ensures.lookup.0)))

pub returns-in-Some-Cursor-clause-said : goal.returns-in-Some-Cursor-clause-said
returns-in-Some-Cursor-clause-said c =
    let here = c.in-Some-Cursor in
    let bs = c.self.inside.bounds.items in
    say_found c.args.self.now bs (counted c.self.inside.mint c.self.inside.blocks) c.args.place (bound.Cursor here.cursor) c.self.view_is
    (seen_there c.deref.result.now bs c.args.place here.field-0.now _ c.deref.ensures.value here.ensures.lookup.3.0 here.ensures.lookup.1 here.field-0-is)
