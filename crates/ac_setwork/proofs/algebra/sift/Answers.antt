use Rattle.std.proofs.Common.{subst}
use Rattle.ac_model.specs.Objects.{plain}
use Rattle.ac_setwork.specs.SetSeen.{indexed, is_wanted}
use Rattle.ac_setwork.proofs.Sifts.{Sifting, dropped_nearer, sifted_dropped, sifted_kept, sifting_ends, sifting_starts, sifting_there}
use Rattle.ac_setwork.proofs.Walking.{smaller}
use Rattle.ac_setwork.proofs.algebra.sift.Goals as goal

pub loop-place-init : goal.loop-place-init
loop-place-init g c =
    let test = is_wanted g.A.SetLike.order (plain (g.A.SetLike.seen c.args.other.now).object) c.args.present in
    sifting_starts test (g.A.SetLike.seen c.args.target.now) c.first_name-place.result c.law.ensures.as_object c.first_name-place.ensures

pub next_name-place-requires : goal.next_name-place-requires
next_name-place-requires g c =
    let test = is_wanted g.A.SetLike.order (plain (g.A.SetLike.seen c.args.other.now).object) c.args.present in let start = g.A.SetLike.seen c.args.target.now in let now = g.A.SetLike.seen c.loop-place.target in
    sifting_there test start now c.in-Some.name (subst (Sifting test start now) c.in-Some.is c.loop-place.invariant)

pub item-requires : goal.item-requires
item-requires g c =
    let test = is_wanted g.A.SetLike.order (plain (g.A.SetLike.seen c.args.other.now).object) c.args.present in let start = g.A.SetLike.seen c.args.target.now in let now = g.A.SetLike.seen c.loop-place.target in
    sifting_there test start now c.in-Some.name (subst (Sifting test start now) c.in-Some.is c.loop-place.invariant)

pub drop_name-requires : goal.drop_name-requires
drop_name-requires g c =
    let test = is_wanted g.A.SetLike.order (plain (g.A.SetLike.seen c.args.other.now).object) c.args.present in let start = g.A.SetLike.seen c.args.target.now in let now = g.A.SetLike.seen c.loop-place.target in
    sifting_there test start now c.in-Some.name (subst (Sifting test start now) c.in-Some.is c.loop-place.invariant)

pub loop-place-smaller-then-not-is_wanted : goal.loop-place-smaller-then-not-is_wanted
loop-place-smaller-then-not-is_wanted g c =
    let test = is_wanted g.A.SetLike.order (plain (g.A.SetLike.seen c.args.other.now).object) c.args.present in let start = g.A.SetLike.seen c.args.target.now in let now = g.A.SetLike.seen c.loop-place.target in
    dropped_nearer test start now (g.A.SetLike.seen c.drop_name.new.self) c.loop-place.place c.in-Some.name c.next_name-place.result c.item.result.now c.is_wanted.result c.loop-place.invariant c.in-Some.is c.item.ensures c.is_wanted.ensures c.if-not-is_wanted.true c.next_name-place.ensures c.drop_name.ensures.dropped c.drop_name.ensures.spare

pub loop-place-preserved-then-not-is_wanted : goal.loop-place-preserved-then-not-is_wanted
loop-place-preserved-then-not-is_wanted g c =
    let test = is_wanted g.A.SetLike.order (plain (g.A.SetLike.seen c.args.other.now).object) c.args.present in let start = g.A.SetLike.seen c.args.target.now in let now = g.A.SetLike.seen c.loop-place.target in
    sifted_dropped test start now (g.A.SetLike.seen c.drop_name.new.self) c.in-Some.name c.next_name-place.result c.item.result.now c.is_wanted.result (subst (Sifting test start now) c.in-Some.is c.loop-place.invariant) c.item.ensures c.is_wanted.ensures c.if-not-is_wanted.true c.next_name-place.ensures c.drop_name.ensures.dropped c.drop_name.ensures.spare

pub loop-place-smaller : goal.loop-place-smaller
loop-place-smaller g c =
    let i = c.loop-place.invariant in
    smaller (indexed (g.A.SetLike.seen c.loop-place.target)) i.valid.names_differ i.before i.left c.loop-place.place c.next_name-place.result c.in-Some.name i.walk c.in-Some.is c.next_name-place.ensures

pub loop-place-preserved : goal.loop-place-preserved
loop-place-preserved g c =
    let test = is_wanted g.A.SetLike.order (plain (g.A.SetLike.seen c.args.other.now).object) c.args.present in let start = g.A.SetLike.seen c.args.target.now in let now = g.A.SetLike.seen c.loop-place.target in
    sifted_kept test start now c.in-Some.name c.next_name-place.result c.item.result.now c.is_wanted.result (subst (Sifting test start now) c.in-Some.is c.loop-place.invariant) c.item.ensures c.is_wanted.ensures c.if-not-is_wanted.false c.next_name-place.ensures

pub returns : goal.returns
returns g c =
    let test = is_wanted g.A.SetLike.order (plain (g.A.SetLike.seen c.args.other.now).object) c.args.present in let start = g.A.SetLike.seen c.args.target.now in let now = g.A.SetLike.seen c.loop-place.target in
    sifting_ends test start now (subst (Sifting test start now) c.in_default.is c.loop-place.invariant)
