use Rattle.std.proofs.Common.{subst}
use Rattle.ac_model.specs.Calls.{Same}
use Rattle.ac_model.specs.Forms.{Does}
use Rattle.ac_model.specs.Keyed.{exclude_call}
use Rattle.ac_keyed_calls.proofs.Alike.{like_key}
use Rattle.ac_keyed_calls.proofs.set_calls.likeness.exclude.Goals as goal

pub returns-clause-changed : goal.returns-clause-changed
returns-clause-changed g c =
    subst (λ test. Does Same (λ o. exclude_call test o) c.args.set.now c.exclude.new.self c.exclude.result) (like_key g.I.Keyed.key_of g.I.Keyed.keys g.I.Index.order g.met.I.Keyed.order_by_key c.args.element.now c.key.result.now c.key.ensures g.I.Index.matches g.met.I.Keyed.matches_key) c.exclude.ensures.changed
