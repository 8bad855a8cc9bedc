use Rattle.std.proofs.Common.{ap, ◌∙◌}
use Rattle.ac_setwork.specs.Indexed.{found}
use Rattle.ac_hashed.specs.Ties.{seen_in}
use Rattle.ac_setwork.proofs.Updates.{as_test}
use Rattle.ac_hashed.proofs.arrivals.ArrivalsIndex.look_like.Goals as goal

pub returns : goal.returns
returns g c =
    c.look.ensures ∙ ap (λ test. found test (seen_in c.args.self.now)) (as_test g.S.Key.Hashed.is_alike g.S.Keys.key_of g.S.Alike.is_alike g.met.S.Alike.alike_by_key c.args.row.now c.key.result.now c.key.ensures)
