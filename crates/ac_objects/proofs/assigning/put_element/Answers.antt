use Rattle.std.proofs.Common.{◌∙◌}
use Rattle.ac_objects.specs.declared.bound.Bound.TheVariants as bound
use Rattle.ac_meaning.proofs.Places.{found_or}
use Rattle.ac_objects.proofs.Names.{takes_integer, writes_at}
use Rattle.ac_objects.proofs.assigning.put_element.Goals as goal

pub unreachable-requires : goal.unreachable-requires
unreachable-requires c =
    let r = c.requires in
    c.in_default.not-Object r.held
    (c.index_mut.ensures.value ∙ found_or c.args.bounds.now.items c.args.object (bound.Object r.held) c.index_mut.result.now r.there)

pub returns-clause-written : goal.returns-clause-written
returns-clause-written c o there =
    let call = c.write_element in
    writes_at c.args.bounds.now.items c.args.object c.args.at c.args.value o c.in-Object.held call.new.object c.index_mut.result.now call.result
    c.index_mut.ensures.value c.in-Object.is there call.ensures.written call.ensures.lasts

pub returns-clause-integers : goal.returns-clause-integers
returns-clause-integers c =
    let call = c.write_element in
    takes_integer c.args.bounds.now.items c.args.object c.args.at c.args.value c.in-Object.held call.new.object c.index_mut.result.now call.result c.requires
    c.index_mut.ensures.value c.in-Object.is c.law.ensures call.ensures.written
