use Rattle.ac_script.proofs.Fits.{fits}
use Rattle.ac_script.proofs.Refusals.{bad_within, early_first, malformed_first, whole_begins}
use Rattle.ac_script.proofs.parser.script_within.Goals as goal

pub build-requires-clause-fits : goal.build-requires-clause-fits
build-requires-clause-fits c =
    let whole = rw c.in-Whole.is at c.in_ok-line.ensures in
    fits c.requires.written.0 _ _ whole.are c.requires.within c.requires.written.1

pub returns-in-Bad : goal.returns-in-Bad
returns-in-Bad c text cut =
    rw c.refused.ensures (bad_within text c.args.placed.now c.args.malformed c.in-Bad.line cut c.requires.within (rw c.in-Bad.is at c.in_ok-line.ensures))

pub returns-in-Early : goal.returns-in-Early
returns-in-Early c text cut =
    let early = rw c.in-Early.is at c.in_ok-line.ensures in
    rw (c.refused-in-Early.ensures, c.unwrap_or-line.ensures)
    (early_first text c.args.placed.now c.args.malformed c.last_line.result cut c.requires.within early c.last_line.ensures)

pub returns-in-Some : goal.returns-in-Some
returns-in-Some c text cut =
    let whole = rw c.in-Whole.is at c.in_ok-line.ensures in
    let here = rw c.in-Some.is at cut in
    rw c.refused-in-Some.ensures (malformed_first text c.args.placed.now c.in-Some.line here c.requires.within (whole_begins _ c.args.placed.now whole))
