use Rattle.ac_base.specs.declared.guard.Class.TheVariants.{Elements}
use Rattle.ac_model.specs.Calls.{Done, Same}
use Rattle.ac_setwork.specs.TableFields.{replace_in_class}
use Rattle.ac_keyed_calls.proofs.MapWords.{put_in_words}
use Rattle.ac_keyed_calls.proofs.map_rows.MapRows.replace.Goals as goal

pub returns-clause-changed : goal.returns-clause-changed
returns-clause-changed g c =
    put_in_words (Same {A = Done}) (λ order o row. replace_in_class Elements order o row) c.replace.new.self c.replace.result
    g.met.M.MapKind.order_is c.new.ensures c.self.view_is c.replace.ensures.changed
