use Rattle.std.proofs.Common.{refl}
use Rattle.ac_objects.specs.declared.bound.Bound.TheVariants as bound
use Rattle.ac_meaning.proofs.Places.{seen_there, seen_past}
use Rattle.ac_objects.proofs.Names.{can_read, sets_nothing, sets_past, sets_variable, sets_element}
use Rattle.ac_objects.proofs.assigning.put_value.Goals as goal

pub put_element-requires : goal.put_element-requires
put_element-requires c =
    let here = c.in-Some-Element in
    let bs = c.args.bounds.now.items in
    can_read bs c.requires.counters c.args.place here.object here.at c.requires.sound c.requires.stand
    (seen_there c.deref.result.now bs c.args.place here.field-0.now _ c.deref.ensures.value here.ensures.lookup.3.0 here.ensures.lookup.1 here.field-0-is)

pub put_variable-requires : goal.put_variable-requires
put_variable-requires c =
    let here = c.in-Some-Value in (
      here.field-0-0,
      seen_there c.deref.result.now c.args.bounds.now.items c.args.place here.field-0.now _ c.deref.ensures.value here.ensures.lookup.3.0
          here.ensures.lookup.1 here.field-0-is,
    )

pub returns-in-None-clause-set : goal.returns-in-None-clause-set
returns-in-None-clause-set c =
    let bs = c.args.bounds.now.items in
    sets_past bs c.args.place c.args.value (seen_past c.deref.result.now bs c.args.place c.deref.ensures.value c.in-None.ensures.lookup.3)

pub returns-in-Some-Type-clause-set : goal.returns-in-Some-Type-clause-set
returns-in-Some-Type-clause-set c =
    let here = c.in-Some-Type in
    let bs = c.args.bounds.now.items in
    sets_nothing bs c.args.place c.args.value bound.Type
    (seen_there c.deref.result.now bs c.args.place here.field-0.now _ c.deref.ensures.value here.ensures.lookup.3.0 here.ensures.lookup.1 here.field-0-is)
    (λ e. refl)

pub returns-in-Some-Object-clause-set : goal.returns-in-Some-Object-clause-set
returns-in-Some-Object-clause-set c =
    let here = c.in-Some-Object in
    let bs = c.args.bounds.now.items in
    sets_nothing bs c.args.place c.args.value (bound.Object here.field-0-0)
    (seen_there c.deref.result.now bs c.args.place here.field-0.now _ c.deref.ensures.value here.ensures.lookup.3.0 here.ensures.lookup.1 here.field-0-is)
    (λ e. refl)

pub returns-in-Some-Cursor-clause-set : goal.returns-in-Some-Cursor-clause-set
returns-in-Some-Cursor-clause-set c =
    let here = c.in-Some-Cursor in
    let bs = c.args.bounds.now.items in
    sets_nothing bs c.args.place c.args.value (bound.Cursor here.field-0-0)
    (seen_there c.deref.result.now bs c.args.place here.field-0.now _ c.deref.ensures.value here.ensures.lookup.3.0 here.ensures.lookup.1 here.field-0-is)
    (λ e. refl)

pub returns-in-Some-Value-clause-set : goal.returns-in-Some-Value-clause-set
returns-in-Some-Value-clause-set c =
    let here = c.in-Some-Value in
    let bs = c.args.bounds.now.items in
    sets_variable bs c.put_variable.new.bounds.items c.args.place c.args.value here.field-0-0
    (seen_there c.deref.result.now bs c.args.place here.field-0.now _ c.deref.ensures.value here.ensures.lookup.3.0 here.ensures.lookup.1 here.field-0-is)
    c.put_variable.ensures

pub returns-in-Some-Element-clause-set : goal.returns-in-Some-Element-clause-set
returns-in-Some-Element-clause-set c =
    let here = c.in-Some-Element in
    let bs = c.args.bounds.now.items in
    sets_element bs c.put_element.new.bounds.items c.args.place here.object here.at c.args.value c.put_element.result c.requires
    (seen_there c.deref.result.now bs c.args.place here.field-0.now _ c.deref.ensures.value here.ensures.lookup.3.0 here.ensures.lookup.1 here.field-0-is)
    c.put_element.ensures.written
