use Rattle.ac_calls.specs.Replied.{told}
use Rattle.ac_keyed_calls.specs.declared.set.Set.TheVariants.{Hashed, Ordered}
use Rattle.ac_keyed_calls.proofs.EitherSet.{operated_with}
use Rattle.ac_keyed_calls.proofs.set.operated_rows.SetOperatedRows.operate_with.Goals as goal

pub returns-in-Hashed-source-clause-replied : goal.returns-in-Hashed-source-clause-replied
returns-in-Hashed-source-clause-replied g c =
    let call = c.operate_hashed_with in
    operated_with g.T.ScriptElement.tools c.args.operation c.args.args.now _ _ g.met.H.SetKind.order_is c.args.self.now (Hashed c.in-Hashed.set)
    g.met.H.HashedSetKind.is_hashed c.in-Hashed.is c.args.source.now (Hashed c.in-Hashed-source.other)
    call.new.set call.new.source (told call.new.reply call.result) c.in-Hashed-source.is c.requires.agree c.requires.agree_with_source call.ensures

pub returns-in-Ordered-source-2-clause-replied : goal.returns-in-Ordered-source-2-clause-replied
returns-in-Ordered-source-2-clause-replied g c =
    let call = c.operate_ordered_with in
    operated_with g.T.ScriptElement.tools c.args.operation c.args.args.now _ _ g.met.O.SetKind.order_is c.args.self.now (Ordered c.in-Ordered.set)
    g.met.O.OrderedSetKind.is_ordered c.in-Ordered.is c.args.source.now (Ordered c.in-Ordered-source-2.other)
    call.new.set call.new.source (told call.new.reply call.result) c.in-Ordered-source-2.is c.requires.agree c.requires.agree_with_source call.ensures
