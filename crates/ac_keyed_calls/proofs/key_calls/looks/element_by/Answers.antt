use Rattle.std.proofs.Common.{subst}
use Rattle.ac_model.specs.Calls.{Lends}
use Rattle.ac_model.specs.Forms.{Looks}
use Rattle.ac_setwork.specs.TableCalls.{key_row_call}
use Rattle.ac_keyed_calls.proofs.key_calls.looks.element_by.Goals as goal

pub returns : goal.returns
returns g c = subst (λ test. Looks Lends (key_row_call test) c.args.set.now c.row_by.result) (g.met.I.Keyed.matches_key c.args.key.now) c.row_by.ensures
