use Rattle.std.proofs.Common.{◌≡◌, None, Some, sym, subst}
use Rattle.ac_model.specs.Cursors.{plain_mark}
use Rattle.ac_calls.specs.Holdings.{element_value}
use Rattle.ac_objects.specs.World.{held_of, ObjectAgrees}
use Rattle.ac_objects.proofs.Names.{read_object, reads_value}
use Rattle.ac_objects.proofs.reading.copy_element.Goals as goal

pub element_of-requires-clause-agree : goal.element_of-requires-clause-agree
element_of-requires-clause-agree c =
    subst (λ o. ObjectAgrees o c.args.at)
    (sym (read_object c.args.bounds.now.items c.args.object c.args.at c.index.result.now (Some c.in-Some.held) c.requires c.index.ensures c.in-Some.ensures)) c.requires.agrees

pub element_of-requires-clause-stands : goal.element_of-requires-clause-stands
element_of-requires-clause-stands c =
    subst (λ o. (element_value (held_of o) (plain_mark c.args.at)).reason ≡ None)
    (sym (read_object c.args.bounds.now.items c.args.object c.args.at c.index.result.now (Some c.in-Some.held) c.requires c.index.ensures c.in-Some.ensures)) c.requires.stands

pub unreachable-requires : goal.unreachable-requires
unreachable-requires c =
    read_object c.args.bounds.now.items c.args.object c.args.at c.index.result.now None c.requires c.index.ensures c.in-None.ensures

pub returns : goal.returns
returns c =
    let bs = c.args.bounds.now.items in
    reads_value bs c.args.object c.args.at c.requires c.in-Some.held.now
    (read_object bs c.args.object c.args.at c.index.result.now (Some c.in-Some.held) c.requires c.index.ensures c.in-Some.ensures) c.element_of.result c.element_of.ensures
