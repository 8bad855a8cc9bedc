use Rattle.std.proofs.Common.{to_z-of_z, w64, subst}
use Rattle.ac_base.specs.declared.value.Value.TheVariants.{Int}
use Rattle.ac_io.specs.Pieces.{Adds}
use Rattle.ac_io.proofs.Telling.{adds_then, adds_text}
use Rattle.ac_syntax.specs.Canonical.{literal_text}
use Rattle.ac_queue_calls.proofs.queue_listing.add_item.Goals as goal

pub returns-clause-adds : goal.returns-clause-adds
returns-clause-adds g c =
    let sink = g.K.Sink in
    let call = c.add_literal in
    let written = subst (λ item. Adds sink.held sink.faults sink.room sink.counts_failures c.add.new.sink call.new.sink c.add.new.text.items call.new.text.items
    (literal_text (Int item)) call.result) (to_z-of_z {w = w64} {z = c.args.item} c.ranges.item) call.ensures.adds in
    adds_then (adds_text c.comma.ensures c.in_ok-add.ensures.adds) written
