use Rattle.std.proofs.Common.{◌+◌, ◌-◌, ◌∙◌, arith, length, not, refl, sym, ap, subst}
use Rattle.std.proofs.lemmas.List.{length-map}
use Rattle.ac_model.specs.Keyed.{added, has}
use Rattle.ac_model.specs.Objects.{contents, grown, plain, plain_row}
use Rattle.ac_model.specs.Sets.{additions, own_rows}
use Rattle.ac_model.proofs.Counts.{count-filter}
use Rattle.ac_setwork.specs.SetSeen.{HasAll, TakesAll}
use Rattle.ac_setwork.proofs.Unions.{additions_few, all_after, all_grows, copied_are, own_and_new, refused_room, symmetric_prepared, takes_all, unrefused_room}
use Rattle.ac_setwork.proofs.algebra.symmetric_into.Goals as goal

pub overflow_sub-len : goal.overflow_sub-len
overflow_sub-len g c =
    let order = g.A.SetLike.order in let old = g.A.SetLike.seen c.args.target.now in let source = plain (g.A.SetLike.seen c.args.source.now).object in let more = c.additions-more.result.0 in
    let sum = own_and_new order (plain old.object) source g.met.A.SetLike.closed c.law.ensures c.law-2.ensures in let few = additions_few order (plain old.object) source in let is = c.additions-more.ensures.count in
    let len = c.len.ensures ∙ sym (length-map (g.A.SetLike.seen c.args.source.now).object.rows plain_row) in
    omega (arith, few, is, len)

pub room_for-requires : goal.room_for-requires
room_for-requires g c =
    let order = g.A.SetLike.order in let old = g.A.SetLike.seen c.args.target.now in let source = plain (g.A.SetLike.seen c.args.source.now).object in let more = c.additions-more.result.0 in
    let sum = own_and_new order (plain old.object) source g.met.A.SetLike.closed c.law.ensures c.law-2.ensures in let few = additions_few order (plain old.object) source in let is = c.additions-more.ensures.count in
    let len = c.len.ensures ∙ sym (length-map (g.A.SetLike.seen c.args.source.now).object.rows plain_row) in
    let same = length-map old.object.rows plain_row in
    omega (arith, few, is, len, sum, same)

pub add_each-requires : goal.add_each-requires
add_each-requires g c =
    let order = g.A.SetLike.order in let old = g.A.SetLike.seen c.args.target.now in let source = plain (g.A.SetLike.seen c.args.source.now).object in let more = c.additions-more.result.0 in
    let sum = own_and_new order (plain old.object) source g.met.A.SetLike.closed c.law.ensures c.law-2.ensures in let few = additions_few order (plain old.object) source in let is = c.additions-more.ensures.count in
    let len = c.len.ensures ∙ sym (length-map (g.A.SetLike.seen c.args.source.now).object.rows plain_row) in
    let wide = g.A.SetLike.seen c.room_for.new.target in let fewer = g.A.SetLike.seen c.sift.new.target in let gone = c.len.result - more in let h = c.in-Ok.ensures.changed in
    let kept = own_rows order (plain old.object) source in let vs = additions order (plain old.object) source in
    let p = symmetric_prepared order source old wide fewer gone more sum few (ap (λ n. n - more) len) is h.0 h.1 c.in-Ok.ensures.ok c.sift.ensures in
    let are = copied_are c.additions-more.result.1 (λ made. made.items) c.in-Ok.items.items vs c.in-Ok.ensures.copies c.additions-more.ensures.copies in
    subst (λ us. TakesAll order us fewer) (sym are)
    (takes_all order source old wide fewer kept gone more p g.met.A.SetLike.closed (λ u. count-filter (λ w. order.alike w u) (λ r. not (has order (contents source) r.value)) (plain old.object).rows) c.law.ensures c.law-2.ensures)

pub returns-in-Err-clause-changed : goal.returns-in-Err-clause-changed
returns-in-Err-clause-changed g c =
    let order = g.A.SetLike.order in let old = g.A.SetLike.seen c.args.target.now in let source = plain (g.A.SetLike.seen c.args.source.now).object in let more = c.additions-more.result.0 in
    let sum = own_and_new order (plain old.object) source g.met.A.SetLike.closed c.law.ensures c.law-2.ensures in let few = additions_few order (plain old.object) source in let is = c.additions-more.ensures.count in
    let len = c.len.ensures ∙ sym (length-map (g.A.SetLike.seen c.args.source.now).object.rows plain_row) in
    let kept = own_rows order (plain old.object) source in let vs = additions order (plain old.object) source in
    refused_room old (g.A.SetLike.seen c.room_for.new.target) (c.len.result - more) more (length kept + length vs) (length vs) (grown (plain old.object) (added order kept old.object.next vs) (length vs))
    c.in-Err.fault (omega (arith, few, is, len, sum)) is c.in-Err.ensures.changed

pub returns-in-Ok-clause-changed : goal.returns-in-Ok-clause-changed
returns-in-Ok-clause-changed g c =
    let order = g.A.SetLike.order in let old = g.A.SetLike.seen c.args.target.now in let source = plain (g.A.SetLike.seen c.args.source.now).object in let more = c.additions-more.result.0 in
    let sum = own_and_new order (plain old.object) source g.met.A.SetLike.closed c.law.ensures c.law-2.ensures in let few = additions_few order (plain old.object) source in let is = c.additions-more.ensures.count in
    let len = c.len.ensures ∙ sym (length-map (g.A.SetLike.seen c.args.source.now).object.rows plain_row) in
    let wide = g.A.SetLike.seen c.room_for.new.target in let fewer = g.A.SetLike.seen c.sift.new.target in let gone = c.len.result - more in let h = c.in-Ok.ensures.changed in
    let kept = own_rows order (plain old.object) source in let vs = additions order (plain old.object) source in
    let p = symmetric_prepared order source old wide fewer gone more sum few (ap (λ n. n - more) len) is h.0 h.1 c.in-Ok.ensures.ok c.sift.ensures in
    let are = copied_are c.additions-more.result.1 (λ made. made.items) c.in-Ok.items.items vs c.in-Ok.ensures.copies c.additions-more.ensures.copies in
    let new = g.A.SetLike.seen c.add_each.new.target in let all = subst (λ us. HasAll order us fewer new) are c.add_each.ensures in (
      unrefused_room old wide gone more (length kept + length vs) (length vs) (plain old.object) (omega (arith, few, is, len, sum)) is h.0,
      all_after order source old wide fewer kept gone more p new all,
      refl,
    )

pub returns-in-Ok-clause-slots : goal.returns-in-Ok-clause-slots
returns-in-Ok-clause-slots g c =
    let order = g.A.SetLike.order in let old = g.A.SetLike.seen c.args.target.now in let source = plain (g.A.SetLike.seen c.args.source.now).object in let more = c.additions-more.result.0 in
    let sum = own_and_new order (plain old.object) source g.met.A.SetLike.closed c.law.ensures c.law-2.ensures in let few = additions_few order (plain old.object) source in let is = c.additions-more.ensures.count in
    let len = c.len.ensures ∙ sym (length-map (g.A.SetLike.seen c.args.source.now).object.rows plain_row) in
    let wide = g.A.SetLike.seen c.room_for.new.target in let fewer = g.A.SetLike.seen c.sift.new.target in let gone = c.len.result - more in let h = c.in-Ok.ensures.changed in
    let kept = own_rows order (plain old.object) source in let vs = additions order (plain old.object) source in
    let p = symmetric_prepared order source old wide fewer gone more sum few (ap (λ n. n - more) len) is h.0 h.1 c.in-Ok.ensures.ok c.sift.ensures in
    let are = copied_are c.additions-more.result.1 (λ made. made.items) c.in-Ok.items.items vs c.in-Ok.ensures.copies c.additions-more.ensures.copies in
    let new = g.A.SetLike.seen c.add_each.new.target in let all = subst (λ us. HasAll order us fewer new) are c.add_each.ensures in
    all_grows order source old wide fewer kept gone more p new all
