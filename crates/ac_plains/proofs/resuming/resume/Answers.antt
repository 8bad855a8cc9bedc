use Rattle.std.proofs.Common.{◌≡◌, ◌+◌, ap, Err}
use Rattle.ac_objects.specs.World.{state_of}
use Rattle.ac_plains.proofs.EntriesTaken.{next_entry, not_taken, one_taken}
use Rattle.ac_plains.proofs.resuming.resume.Goals as goal

pub fill-requires-clause-elements : goal.fill-requires-clause-elements
fill-requires-clause-elements c =
    (next_entry c.args.script.now (state_of c.args.objects.now) c.items-entries.result.now c.args.state.now c.items-entries.ensures c.loop-i.i (state_of c.loop-i.objects)
    c.index-entries-i.result c.requires.valid c.requires.elements c.requires.fresh c.requires.no_more c.index-entries-i.is c.loop-i-test.true c.loop-i.invariant).elements

pub fill-requires-clause-fresh : goal.fill-requires-clause-fresh
fill-requires-clause-fresh c =
    (next_entry c.args.script.now (state_of c.args.objects.now) c.items-entries.result.now c.args.state.now c.items-entries.ensures c.loop-i.i (state_of c.loop-i.objects)
    c.index-entries-i.result c.requires.valid c.requires.elements c.requires.fresh c.requires.no_more c.index-entries-i.is c.loop-i-test.true c.loop-i.invariant).fresh

pub returns-in-Err-Mismatch-clause-mismatch : goal.returns-in-Err-Mismatch-clause-mismatch
returns-in-Err-Mismatch-clause-mismatch c line e =
    let next = next_entry c.args.script.now (state_of c.args.objects.now) c.items-entries.result.now c.args.state.now c.items-entries.ensures c.loop-i.i (state_of c.loop-i.objects)
    c.index-entries-i.result c.requires.valid c.requires.elements c.requires.fresh c.requires.no_more c.index-entries-i.is c.loop-i-test.true c.loop-i.invariant in
    let at : line ≡ c.loop-i.i + 1 = cc e in
    not_taken c.args.script.now (state_of c.args.objects.now) c.args.state.now c.loop-i.i (state_of c.loop-i.objects) c.index-entries-i.result next line
    (c.in-Err-Mismatch.ensures.mismatch (ap Err c.in-Err-Mismatch.field-0-is)) at

pub loop-i-preserved : goal.loop-i-preserved
loop-i-preserved c =
    let next = next_entry c.args.script.now (state_of c.args.objects.now) c.items-entries.result.now c.args.state.now c.items-entries.ensures c.loop-i.i (state_of c.loop-i.objects)
    c.index-entries-i.result c.requires.valid c.requires.elements c.requires.fresh c.requires.no_more c.index-entries-i.is c.loop-i-test.true c.loop-i.invariant in
    one_taken c.args.script.now (state_of c.args.objects.now) c.args.state.now c.loop-i.i (state_of c.loop-i.objects) c.index-entries-i.result next (state_of c.fill.new.objects)
    c.in-Ok.ensures.matched c.in-Ok.ensures.filled
