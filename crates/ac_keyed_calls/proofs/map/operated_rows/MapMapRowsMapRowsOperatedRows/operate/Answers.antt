use Rattle.ac_calls.specs.Replied.{told}
use Rattle.ac_keyed_calls.specs.declared.map.Map.TheVariants.{Hashed, Ordered}
use Rattle.ac_keyed_calls.proofs.EitherMap.{operated}
use Rattle.ac_keyed_calls.proofs.map.operated_rows.MapMapRowsMapRowsOperatedRows.operate.Goals as goal

pub returns-in-Hashed-clause-replied : goal.returns-in-Hashed-clause-replied
returns-in-Hashed-clause-replied g c =
    let call = c.operate_hashed_map in
    operated g.K.ScriptElement.tools g.V.ScriptElement.tools c.args.operation c.args.args.now c.args.self.now (Hashed c.in-Hashed.map)
    call.new.map (told call.new.reply call.result) _ g.met.H.HashedMapKind.is_hashed c.in-Hashed.is c.requires.agree call.ensures

pub returns-in-Ordered-clause-replied : goal.returns-in-Ordered-clause-replied
returns-in-Ordered-clause-replied g c =
    let call = c.operate_ordered_map in
    operated g.K.ScriptElement.tools g.V.ScriptElement.tools c.args.operation c.args.args.now c.args.self.now (Ordered c.in-Ordered.map)
    call.new.map (told call.new.reply call.result) _ g.met.O.OrderedMapKind.is_ordered c.in-Ordered.is c.requires.agree call.ensures
