use Rattle.ac_calls.specs.Replied.{told}
use Rattle.ac_keyed_calls.specs.declared.set.Set.TheVariants.{Hashed, Ordered}
use Rattle.ac_keyed_calls.proofs.EitherSet.{operated}
use Rattle.ac_keyed_calls.proofs.set.operated_rows.SetOperatedRows.operate.Goals as goal

pub returns-in-Hashed-clause-replied : goal.returns-in-Hashed-clause-replied
returns-in-Hashed-clause-replied g c =
    let call = c.operate_hashed in
    operated g.T.ScriptElement.tools c.args.operation c.args.args.now _ _ g.met.H.SetKind.order_is c.args.self.now (Hashed c.in-Hashed.set)
    g.met.H.HashedSetKind.is_hashed c.in-Hashed.is call.new.set (told call.new.reply call.result) c.requires.agree call.ensures

pub returns-in-Ordered-clause-replied : goal.returns-in-Ordered-clause-replied
returns-in-Ordered-clause-replied g c =
    let call = c.operate_ordered in
    operated g.T.ScriptElement.tools c.args.operation c.args.args.now _ _ g.met.O.SetKind.order_is c.args.self.now (Ordered c.in-Ordered.set)
    g.met.O.OrderedSetKind.is_ordered c.in-Ordered.is call.new.set (told call.new.reply call.result) c.requires.agree call.ensures
