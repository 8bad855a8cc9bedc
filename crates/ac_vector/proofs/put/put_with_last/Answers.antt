use Rattle.std.proofs.Common.{◌∷◌, [], ◌++◌, ◌∙◌, None, subst, length-append}
use Rattle.ac_chain.proofs.Puts.{put_one}
use Rattle.ac_chain.specs.Put.{HasFirst}
use Rattle.ac_vector.proofs.Appends.{put_fits, turned_put, first_there, last_count}
use Rattle.ac_vector.proofs.put.put_with_last.Goals as goal

pub turn-requires : goal.turn-requires
turn-requires g c =
    let from = c.args.array.now in let mid = c.append_each.new.array in let e = c.append_each.ensures in let a = c.append in
    put_fits from a.new.self c.args.place None (c.args.others.items ++ c.args.last ∷ []) c.index_before-at.result _ c.requires.place c.index_before-at.ensures (last_count c.args.others.items c.args.last c.len.result (c.len.ensures ∙ c.args.others.ok.0))
    (put_one from.rows from.next_serial None c.args.others.items mid a.new.self a.result c.args.last e.sound e.put a.ensures.fresh a.ensures.inserted)

pub first_of-requires : goal.first_of-requires
first_of-requires g c =
    let from = c.args.array.now in let mid = c.append_each.new.array in let e = c.append_each.ensures in let a = c.append in
    let count = last_count c.args.others.items c.args.last c.len.result (c.len.ensures ∙ c.args.others.ok.0) in
    put_fits from c.turn.new.self c.args.place c.args.place (c.args.others.items ++ c.args.last ∷ []) c.index_before-at.result _ c.requires.place c.index_before-at.ensures count
    (turned_put from a.new.self c.turn.new.self c.args.place (c.args.others.items ++ c.args.last ∷ []) c.index_before-at.result _ c.requires.place
    (put_one from.rows from.next_serial None c.args.others.items mid a.new.self a.result c.args.last e.sound e.put a.ensures.fresh a.ensures.inserted) c.index_before-at.ensures count c.turn.ensures.turned)

pub returns-clause-put : goal.returns-clause-put
returns-clause-put g c =
    let from = c.args.array.now in let mid = c.append_each.new.array in let e = c.append_each.ensures in let a = c.append in
    turned_put from a.new.self c.turn.new.self c.args.place (c.args.others.items ++ c.args.last ∷ []) c.index_before-at.result _ c.requires.place
    (put_one from.rows from.next_serial None c.args.others.items mid a.new.self a.result c.args.last e.sound e.put a.ensures.fresh a.ensures.inserted) c.index_before-at.ensures (last_count c.args.others.items c.args.last c.len.result (c.len.ensures ∙ c.args.others.ok.0)) c.turn.ensures.turned

pub returns-clause-first : goal.returns-clause-first
returns-clause-first g c =
    let from = c.args.array.now in let mid = c.append_each.new.array in let e = c.append_each.ensures in let a = c.append in
    let count = last_count c.args.others.items c.args.last c.len.result (c.len.ensures ∙ c.args.others.ok.0) in
    subst (λ n. HasFirst from.next_serial n c.turn.new.self c.first_of.result) (length-append c.args.others.items (c.args.last ∷ []))
    (first_there from c.turn.new.self c.args.place (c.args.others.items ++ c.args.last ∷ []) c.index_before-at.result _ c.first_of.result
    (turned_put from a.new.self c.turn.new.self c.args.place (c.args.others.items ++ c.args.last ∷ []) c.index_before-at.result _ c.requires.place
    (put_one from.rows from.next_serial None c.args.others.items mid a.new.self a.result c.args.last e.sound e.put a.ensures.fresh a.ensures.inserted) c.index_before-at.ensures count c.turn.ensures.turned)
    c.index_before-at.ensures count c.first_of.ensures)
