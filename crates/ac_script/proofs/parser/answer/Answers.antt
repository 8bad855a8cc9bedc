use Rattle.std.proofs.Common.{refl}
use Rattle.ac_syntax.specs.Tokens.{cut_of}
use Rattle.ac_syntax.specs.Keywords.{begins_propagating}
use Rattle.ac_script.specs.Behind.{StandWithin}
use Rattle.ac_script.proofs.Refusals.{ends_past}
use Rattle.ac_script.proofs.Written.{cut_written}
use Rattle.ac_script.proofs.parser.answer.Goals as goal

pub returns-in-Some : goal.returns-in-Some
returns-in-Some c =
    let stand : StandWithin c.within-count.result c.deref-in-Some.result.now = rw (c.deref-in-Some.ensures.value, ← c.deref.ensures.value) c.within-count.ensures in
    c.fault_at_limit.ensures c.args.bytes.now
    (ends_past c.args.bytes.now c.deref-in-Some.result.now c.within-count.result c.in-Some.past.now (rw (c.deref-in-Some.ensures.value, c.in_ok-placed.ensures.placed) refl)
    (rw (c.deref-in-Some.ensures.value, ← c.deref-2.ensures.value) c.in-Some.ensures.lookup.3.0)
    (rw (c.deref-in-Some.ensures.value, ← c.deref-2.ensures.value) c.in-Some.ensures.lookup.1) stand)

pub script_within-requires-clause-written : goal.script_within-requires-clause-written
script_within-requires-clause-written c = (begins_propagating (cut_of c.args.bytes.now).placed, rw (c.deref-in-None.ensures.value, c.in_ok-placed.ensures.placed) (cut_written c.args.bytes.now))
