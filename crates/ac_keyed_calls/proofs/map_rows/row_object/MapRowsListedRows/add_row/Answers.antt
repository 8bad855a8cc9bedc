use Rattle.std.proofs.Common.{subst}
use Rattle.ac_io.specs.Pieces.{Adds}
use Rattle.ac_model.specs.Calls.{Lends}
use Rattle.ac_model.specs.Containers.{Container}
use Rattle.ac_model.specs.Forms.{seen_by}
use Rattle.ac_model.specs.Objects.{plain}
use Rattle.ac_model.specs.Sequences.{element_call}
use Rattle.ac_syntax.specs.Canonical.{literal_text}
use Rattle.ac_calls.specs.Listings.{entry_text}
use Rattle.ac_keyed_calls.proofs.Entries.{entry_is}
use Rattle.ac_keyed_calls.proofs.map_rows.row_object.MapRowsListedRows.add_row.Goals as goal

pub returns-clause-adds : goal.returns-clause-adds
returns-clause-adds g c row is =
    let key = λ (k : g.row.K.Denot). literal_text (g.K.ScriptElement.tools.to_value k) in
    let element = λ (e : g.row.V.Denot). literal_text (g.V.ScriptElement.tools.to_value e) in
    let sink = g.W.Sink in
    let lent = subst (λ (x : Container _). Lends c.in-Ok.row (element_call (plain x.object) (seen_by x c.args.c)).answer) c.self.view_is c.in-Ok.ensures.1 in
    subst (λ r. Adds sink.held sink.faults sink.room sink.counts_failures c.args.sink.now c.add_entry.new.sink
    c.args.text.now.items c.add_entry.new.text.items (entry_text key element r) c.add_entry.result)
    (entry_is (element_call (plain c.args.self.now.object) (seen_by c.args.self.now c.args.c)).answer is lent c.key.ensures c.element.ensures) c.add_entry.ensures.adds
