use Rattle.ac_setwork.specs.TableCalls.{set_element_call}
use Rattle.ac_keyed_calls.proofs.MapWords.{write_in_words}
use Rattle.ac_keyed_calls.proofs.map_rows.MapRows.replace_element.Goals as goal

pub returns-clause-changed : goal.returns-clause-changed
returns-clause-changed g c =
    write_in_words (λ with_element o mark element. set_element_call with_element o mark element) c.args.c c.args.element c.set_element.new.self c.set_element.result
    g.met.M.MapKind.with_element_is c.self.view_is c.set_element.ensures.changed
