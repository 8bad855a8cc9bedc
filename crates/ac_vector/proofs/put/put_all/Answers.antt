use Rattle.std.proofs.Common.{◌≡◌, ◌≤◌, length, ap, ◌∙◌, subst}
use Rattle.ac_chain.specs.Put.{HasFirst}
use Rattle.ac_chain.specs.Rows.{reserved, slots_in}
use Rattle.ac_chain.proofs.Puts.{reserved_enough, reserved_put}
use Rattle.ac_vector.proofs.Appends.{nothing_put, put_slots}
use Rattle.ac_vector.proofs.put.put_all.Goals as goal

pub put_values-requires-clause-spare : goal.put_values-requires-clause-spare
put_values-requires-clause-spare g c =
    let count : c.len.result ≡ length c.args.values.items = c.len.ensures ∙ c.args.values.ok.0 in
    subst (λ n. n ≤ c.reserve.new.self.spare) count (reserved_enough c.args.array.now c.reserve.new.self c.len.result c.in_ok-reserve.ensures.ok).enough

pub returns-clause-put : goal.returns-clause-put
returns-clause-put g c = reserved_put c.args.array.now c.reserve.new.self c.put_values.new.array c.len.result c.args.place c.args.values.items c.in_ok-reserve.ensures.ok c.put_values.ensures.put

pub returns-clause-first : goal.returns-clause-first
returns-clause-first g c =
    subst (λ next. HasFirst next (length c.args.values.items) c.put_values.new.array c.put_values.result) (reserved_enough c.args.array.now c.reserve.new.self c.len.result c.in_ok-reserve.ensures.ok).next c.put_values.ensures.first

pub returns-clause-none : goal.returns-clause-none
returns-clause-none g c = λ none.
    nothing_put c.args.array.now c.reserve.new.self c.put_values.new.array c.len.result c.args.place c.args.values.items (c.len.ensures ∙ c.args.values.ok.0) c.in_ok-reserve.ensures.ok none c.put_values.ensures.put c.put_values.ensures.spare

pub returns-clause-slots : goal.returns-clause-slots
returns-clause-slots g c =
    let count : c.len.result ≡ length c.args.values.items = c.len.ensures ∙ c.args.values.ok.0 in
    put_slots c.args.array.now c.reserve.new.self c.put_values.new.array c.len.result c.args.place c.args.values.items c.in_ok-reserve.ensures.ok c.put_values.ensures.put c.put_values.ensures.spare ∙ ap (λ n. slots_in (reserved c.args.array.now n)) count
