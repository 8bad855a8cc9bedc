use Rattle.std.proofs.Common.{◌∙◌}
use Rattle.ac_vector.proofs.Appends.{put_fits, turned_put, first_there}
use Rattle.ac_vector.proofs.put.put_values.Goals as goal

pub turn-requires : goal.turn-requires
turn-requires g c =
    put_fits c.args.array.now c.append_each.new.array c.args.place _ c.args.values.items c.index_before-at.result c.len-count.result c.requires.place c.index_before-at.ensures (c.len-count.ensures ∙ c.args.values.ok.0) c.append_each.ensures.put

pub first_of-requires : goal.first_of-requires
first_of-requires g c =
    put_fits c.args.array.now c.turn.new.self c.args.place c.args.place c.args.values.items c.index_before-at.result c.len-count.result c.requires.place c.index_before-at.ensures (c.len-count.ensures ∙ c.args.values.ok.0)
    (turned_put c.args.array.now c.append_each.new.array c.turn.new.self c.args.place c.args.values.items c.index_before-at.result c.len-count.result c.requires.place c.append_each.ensures.put c.index_before-at.ensures (c.len-count.ensures ∙ c.args.values.ok.0) c.turn.ensures.turned)

pub returns-clause-put : goal.returns-clause-put
returns-clause-put g c =
    turned_put c.args.array.now c.append_each.new.array c.turn.new.self c.args.place c.args.values.items c.index_before-at.result c.len-count.result c.requires.place c.append_each.ensures.put c.index_before-at.ensures (c.len-count.ensures ∙ c.args.values.ok.0) c.turn.ensures.turned

pub returns-clause-first : goal.returns-clause-first
returns-clause-first g c =
    first_there c.args.array.now c.turn.new.self c.args.place c.args.values.items c.index_before-at.result c.len-count.result c.first_of.result
    (turned_put c.args.array.now c.append_each.new.array c.turn.new.self c.args.place c.args.values.items c.index_before-at.result c.len-count.result c.requires.place c.append_each.ensures.put c.index_before-at.ensures (c.len-count.ensures ∙ c.args.values.ok.0) c.turn.ensures.turned)
    c.index_before-at.ensures (c.len-count.ensures ∙ c.args.values.ok.0) c.first_of.ensures
