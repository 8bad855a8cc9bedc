use Rattle.std.proofs.Common.{ap, ◌∙◌}
use Rattle.ac_model.specs.Keyed.{contains_call}
use Rattle.ac_model.specs.Objects.{plain}
use Rattle.ac_keyed_calls.proofs.key_calls.looks.contains_by.Goals as goal

pub returns : goal.returns
returns g c = c.contains.ensures ∙ ap (λ test. contains_call test (plain c.args.set.now.object)) (g.met.I.Keyed.matches_key c.args.key.now)
