use Rattle.ac_setwork.specs.TableCalls.{write_call}
use Rattle.ac_keyed_calls.proofs.MapWords.{write_in_words}
use Rattle.ac_keyed_calls.proofs.map_rows.MapRows.write.Goals as goal

pub returns-clause-changed : goal.returns-clause-changed
returns-clause-changed g c =
    write_in_words (λ with_element o mark element. write_call with_element o mark element) c.args.c c.args.element c.write.new.self c.write.result
    g.met.M.MapKind.with_element_is c.self.view_is c.write.ensures.changed
