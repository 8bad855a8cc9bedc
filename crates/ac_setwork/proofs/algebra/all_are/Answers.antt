use Rattle.std.proofs.Common.{ap, subst, ◌∙◌}
use Rattle.std.specs.List.{list_all}
use Rattle.ac_model.specs.Objects.{plain}
use Rattle.ac_model.proofs.Plains.{values-plains}
use Rattle.ac_setwork.specs.SetSeen.{indexed, is_wanted}
use Rattle.ac_setwork.proofs.Checks.{Checking, all_checked, checked_more, checking_starts, unchecked}
use Rattle.ac_setwork.proofs.Walking.{smaller, stepped}
use Rattle.ac_setwork.proofs.algebra.all_are.Goals as goal

pub loop-place-init : goal.loop-place-init
loop-place-init g c =
    let test = is_wanted g.A.SetLike.order (plain (g.A.SetLike.seen c.args.other.now).object) c.args.present in
    checking_starts (indexed (g.A.SetLike.seen c.args.set.now)) test c.first_name-place.result c.first_name-place.ensures

pub item-requires : goal.item-requires
item-requires g c =
    let s = indexed (g.A.SetLike.seen c.args.set.now) in let test = is_wanted g.A.SetLike.order (plain (g.A.SetLike.seen c.args.other.now).object) c.args.present in
    let w = subst (Checking s test) c.in-Some.is c.loop-place.invariant in
    (stepped s c.requires.names w.before w.left c.in-Some.name w.walk).there

pub returns-then-not-is_wanted : goal.returns-then-not-is_wanted
returns-then-not-is_wanted g c =
    let o = (g.A.SetLike.seen c.args.set.now).object in let s = indexed (g.A.SetLike.seen c.args.set.now) in let test = is_wanted g.A.SetLike.order (plain (g.A.SetLike.seen c.args.other.now).object) c.args.present in
    unchecked s test c.requires.names c.in-Some.name c.item.result.now c.is_wanted.result (subst (Checking s test) c.in-Some.is c.loop-place.invariant) c.item.ensures c.is_wanted.ensures c.if-not-is_wanted.true
    ∙ ap (list_all test) (values-plains o.rows)

pub next_name-place-requires : goal.next_name-place-requires
next_name-place-requires g c =
    let s = indexed (g.A.SetLike.seen c.args.set.now) in let test = is_wanted g.A.SetLike.order (plain (g.A.SetLike.seen c.args.other.now).object) c.args.present in
    let w = subst (Checking s test) c.in-Some.is c.loop-place.invariant in
    (stepped s c.requires.names w.before w.left c.in-Some.name w.walk).there

pub loop-place-smaller : goal.loop-place-smaller
loop-place-smaller g c =
    let i = c.loop-place.invariant in
    smaller (indexed (g.A.SetLike.seen c.args.set.now)) c.requires.names i.before i.left c.loop-place.place c.next_name-place.result c.in-Some.name i.walk c.in-Some.is c.next_name-place.ensures

pub loop-place-preserved : goal.loop-place-preserved
loop-place-preserved g c =
    let s = indexed (g.A.SetLike.seen c.args.set.now) in let test = is_wanted g.A.SetLike.order (plain (g.A.SetLike.seen c.args.other.now).object) c.args.present in
    checked_more s test c.requires.names c.in-Some.name c.next_name-place.result c.item.result.now c.is_wanted.result (subst (Checking s test) c.in-Some.is c.loop-place.invariant) c.item.ensures c.is_wanted.ensures c.if-not-is_wanted.false c.next_name-place.ensures

pub returns : goal.returns
returns g c =
    let o = (g.A.SetLike.seen c.args.set.now).object in let s = indexed (g.A.SetLike.seen c.args.set.now) in let test = is_wanted g.A.SetLike.order (plain (g.A.SetLike.seen c.args.other.now).object) c.args.present in
    all_checked s test (subst (Checking s test) c.in_default.is c.loop-place.invariant) ∙ ap (list_all test) (values-plains o.rows)
