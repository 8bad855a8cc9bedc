use Rattle.std.proofs.Common.{◌+◌, arith, length, refl, sym, subst}
use Rattle.ac_model.specs.Keyed.{added}
use Rattle.ac_model.specs.Objects.{grown, plain}
use Rattle.ac_model.specs.Sets.{additions}
use Rattle.ac_setwork.specs.SetSeen.{HasAll, TakesAll}
use Rattle.ac_setwork.proofs.Unions.{all_after, all_grows, copied_are, refused_room, takes_all, union_prepared, unrefused_room}
use Rattle.ac_setwork.proofs.algebra.union_into.Goals as goal

pub add_each-requires : goal.add_each-requires
add_each-requires g c =
    let order = g.A.SetLike.order in let old = g.A.SetLike.seen c.args.target.now in let source = plain (g.A.SetLike.seen c.args.source.now).object in let more = c.additions-more.result.0 in
    let wide = g.A.SetLike.seen c.room_for.new.target in let h = c.in-Ok.ensures.changed in
    let p = union_prepared order source old wide more c.additions-more.ensures.count h.0 h.1 c.in-Ok.ensures.ok in
    let are = copied_are c.additions-more.result.1 (λ made. made.items) c.in-Ok.items.items (additions order (plain old.object) source) c.in-Ok.ensures.copies c.additions-more.ensures.copies in
    subst (λ vs. TakesAll order vs wide) (sym are) (takes_all order source old wide wide (plain old.object).rows 0 more p g.met.A.SetLike.closed (λ u. omega arith) c.law.ensures c.law-2.ensures)

pub returns-in-Err-clause-changed : goal.returns-in-Err-clause-changed
returns-in-Err-clause-changed g c =
    let order = g.A.SetLike.order in let old = g.A.SetLike.seen c.args.target.now in let source = plain (g.A.SetLike.seen c.args.source.now).object in let more = c.additions-more.result.0 in
    let vs = additions order (plain old.object) source in let rows = (plain old.object).rows in let is = c.additions-more.ensures.count in
    refused_room old (g.A.SetLike.seen c.room_for.new.target) 0 more (length rows + length vs) (length vs) (grown (plain old.object) (added order rows old.object.next vs) (length vs))
    c.in-Err.fault (omega (arith, is)) is c.in-Err.ensures.changed

pub returns-in-Ok-clause-changed : goal.returns-in-Ok-clause-changed
returns-in-Ok-clause-changed g c =
    let order = g.A.SetLike.order in let old = g.A.SetLike.seen c.args.target.now in let source = plain (g.A.SetLike.seen c.args.source.now).object in let more = c.additions-more.result.0 in
    let wide = g.A.SetLike.seen c.room_for.new.target in let h = c.in-Ok.ensures.changed in
    let p = union_prepared order source old wide more c.additions-more.ensures.count h.0 h.1 c.in-Ok.ensures.ok in
    let are = copied_are c.additions-more.result.1 (λ made. made.items) c.in-Ok.items.items (additions order (plain old.object) source) c.in-Ok.ensures.copies c.additions-more.ensures.copies in
    let vs = additions order (plain old.object) source in let rows = (plain old.object).rows in let is = c.additions-more.ensures.count in (
      unrefused_room old wide 0 more (length rows + length vs) (length vs) (plain old.object) (omega (arith, is)) is h.0,
      all_after order source old wide wide rows 0 more p (g.A.SetLike.seen c.add_each.new.target) (subst (λ us. HasAll order us wide (g.A.SetLike.seen c.add_each.new.target)) are c.add_each.ensures),
      refl,
    )

pub returns-in-Ok-clause-slots : goal.returns-in-Ok-clause-slots
returns-in-Ok-clause-slots g c =
    let order = g.A.SetLike.order in let old = g.A.SetLike.seen c.args.target.now in let source = plain (g.A.SetLike.seen c.args.source.now).object in let more = c.additions-more.result.0 in
    let wide = g.A.SetLike.seen c.room_for.new.target in let h = c.in-Ok.ensures.changed in
    let p = union_prepared order source old wide more c.additions-more.ensures.count h.0 h.1 c.in-Ok.ensures.ok in
    let are = copied_are c.additions-more.result.1 (λ made. made.items) c.in-Ok.items.items (additions order (plain old.object) source) c.in-Ok.ensures.copies c.additions-more.ensures.copies in
    all_grows order source old wide wide (plain old.object).rows 0 more p (g.A.SetLike.seen c.add_each.new.target) (subst (λ vs. HasAll order vs wide (g.A.SetLike.seen c.add_each.new.target)) are c.add_each.ensures)
