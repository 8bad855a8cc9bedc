use Rattle.std.proofs.Common.{ap, ◌∙◌}
use Rattle.ac_model.specs.Keyed.{contains_call}
use Rattle.ac_model.specs.Objects.{plain}
use Rattle.ac_keyed_calls.proofs.Alike.{like_key}
use Rattle.ac_keyed_calls.proofs.set_calls.likeness.contains.Goals as goal

pub returns : goal.returns
returns g c = c.contains.ensures ∙ ap (λ test. contains_call test (plain c.args.set.now.object)) (like_key g.I.Keyed.key_of g.I.Keyed.keys g.I.Index.order g.met.I.Keyed.order_by_key c.args.element.now c.key.result.now c.key.ensures g.I.Index.matches g.met.I.Keyed.matches_key)
