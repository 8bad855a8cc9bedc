use Rattle.ac_calls.specs.Replied.{told}
use Rattle.ac_keyed_calls.specs.declared.map.Map.TheVariants.{Hashed, Ordered}
use Rattle.ac_keyed_calls.proofs.EitherMap.{operated_with}
use Rattle.ac_keyed_calls.proofs.map.operated_rows.MapMapRowsMapRowsOperatedRows.operate_with.Goals as goal

pub returns-in-Hashed-source-clause-replied : goal.returns-in-Hashed-source-clause-replied
returns-in-Hashed-source-clause-replied g c =
    let call = c.operate_hashed_map_with in
    operated_with g.K.ScriptElement.tools g.V.ScriptElement.tools c.args.operation c.args.args.now
    c.args.self.now (Hashed c.in-Hashed.map) c.args.source.now (Hashed c.in-Hashed-source.other)
    call.new.map call.new.source (told call.new.reply call.result) _ g.met.H.HashedMapKind.is_hashed c.in-Hashed.is c.in-Hashed-source.is
    c.requires.agree c.requires.agree_with_source call.ensures

pub returns-in-Ordered-source-2-clause-replied : goal.returns-in-Ordered-source-2-clause-replied
returns-in-Ordered-source-2-clause-replied g c =
    let call = c.operate_ordered_map_with in
    operated_with g.K.ScriptElement.tools g.V.ScriptElement.tools c.args.operation c.args.args.now
    c.args.self.now (Ordered c.in-Ordered.map) c.args.source.now (Ordered c.in-Ordered-source-2.other)
    call.new.map call.new.source (told call.new.reply call.result) _ g.met.O.OrderedMapKind.is_ordered c.in-Ordered.is c.in-Ordered-source-2.is
    c.requires.agree c.requires.agree_with_source call.ensures
