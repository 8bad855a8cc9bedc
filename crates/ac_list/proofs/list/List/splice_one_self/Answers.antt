use Rattle.std.proofs.Common.{refl}
use Rattle.ac_model.proofs.Reasons.{on_err}
use Rattle.ac_chain.proofs.Relinked.{position_kept}
use Rattle.ac_list.proofs.list.List.splice_one_self.Goals as goal

pub returns-clause-changed : goal.returns-clause-changed
returns-clause-changed g c = (
  position_kept c.args.self.now.object c.splice_within.new.self.object c.args.b c.args.q.now c.splice_within.result c.splice_within.ensures.kept c.splice_within.ensures.changed,
  on_err c.splice_within.result refl,
)
