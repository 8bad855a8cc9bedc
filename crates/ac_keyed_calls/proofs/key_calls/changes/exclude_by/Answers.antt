use Rattle.std.proofs.Common.{subst}
use Rattle.ac_model.specs.Calls.{Same}
use Rattle.ac_model.specs.Forms.{Does}
use Rattle.ac_model.specs.Keyed.{exclude_call}
use Rattle.ac_keyed_calls.proofs.key_calls.changes.exclude_by.Goals as goal

pub returns-clause-changed : goal.returns-clause-changed
returns-clause-changed g c =
    subst (λ test. Does Same (λ o. exclude_call test o) c.args.set.now c.exclude.new.self c.exclude.result) (g.met.I.Keyed.matches_key c.args.key.now) c.exclude.ensures.changed
