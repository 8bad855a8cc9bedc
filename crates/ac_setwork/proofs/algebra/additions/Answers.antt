use Rattle.std.proofs.Common.{false, length, ap, subst, ◌≡◌, ◌∙◌, arith, IfOk}
use Rattle.std.specs.Prelude.{filter}
use Rattle.std.proofs.lemmas.List.{length-map}
use Rattle.ac_model.specs.Objects.{plain, plain_row}
use Rattle.ac_model.proofs.Plains.{values-plains}
use Rattle.ac_setwork.specs.SetSeen.{indexed, is_wanted}
use Rattle.ac_setwork.proofs.Checks.{Collecting, all_collected, collected_more, collecting_few, collecting_starts}
use Rattle.ac_setwork.proofs.Walking.{smaller, stepped}
use Rattle.ac_setwork.proofs.algebra.additions.Goals as goal

pub loop-place-init : goal.loop-place-init
loop-place-init g c =
    let s = indexed (g.A.SetLike.seen c.args.source.now) in let test = is_wanted g.A.SetLike.order (plain (g.A.SetLike.seen c.args.target.now).object) false in
    collecting_starts s test (λ made. made.items) c.new.result c.first_name-place.result c.new.ensures.items c.first_name-place.ensures

pub item-item-requires : goal.item-item-requires
item-item-requires g c =
    let s = indexed (g.A.SetLike.seen c.args.source.now) in let test = is_wanted g.A.SetLike.order (plain (g.A.SetLike.seen c.args.target.now).object) false in
    let m = (subst (Collecting s test (λ made. made.items) c.loop-place.found.0 c.loop-place.found.1) c.in-Some.is c.loop-place.invariant) in
    (stepped s c.requires.as_object.names_differ m.before m.left c.in-Some.name m.walk).there

pub next_name-place-requires : goal.next_name-place-requires
next_name-place-requires g c =
    let s = indexed (g.A.SetLike.seen c.args.source.now) in let test = is_wanted g.A.SetLike.order (plain (g.A.SetLike.seen c.args.target.now).object) false in
    let m = (subst (Collecting s test (λ made. made.items) c.loop-place.found.0 c.loop-place.found.1) c.in-Some.is c.loop-place.invariant) in
    (stepped s c.requires.as_object.names_differ m.before m.left c.in-Some.name m.walk).there

pub collect-found-requires : goal.collect-found-requires
collect-found-requires g c =
    let s = indexed (g.A.SetLike.seen c.args.source.now) in let test = is_wanted g.A.SetLike.order (plain (g.A.SetLike.seen c.args.target.now).object) false in
    let few = collecting_few s test (λ made. made.items) c.loop-place.found.0 c.loop-place.found.1 c.in-Some.name (subst (Collecting s test (λ made. made.items) c.loop-place.found.0 c.loop-place.found.1) c.in-Some.is c.loop-place.invariant) in
    let most = c.requires.as_object.within_greatest in let same = length-map (g.A.SetLike.seen c.args.source.now).object.rows plain_row in omega (arith, few, most, same)

pub loop-place-smaller : goal.loop-place-smaller
loop-place-smaller g c =
    let i = c.loop-place.invariant in
    smaller (indexed (g.A.SetLike.seen c.args.source.now)) c.requires.as_object.names_differ i.before i.left c.loop-place.place c.next_name-place.result c.in-Some.name i.walk c.in-Some.is c.next_name-place.ensures

pub loop-place-preserved : goal.loop-place-preserved
loop-place-preserved g c =
    let s = indexed (g.A.SetLike.seen c.args.source.now) in let test = is_wanted g.A.SetLike.order (plain (g.A.SetLike.seen c.args.target.now).object) false in
    collected_more s test (λ made. made.items) c.requires.as_object.names_differ c.in-Some.name c.next_name-place.result c.item-item.result.now c.is_wanted.result c.loop-place.found.0 c.collect-found.result.0 c.loop-place.found.1 c.collect-found.result.1
    (subst (Collecting s test (λ made. made.items) c.loop-place.found.0 c.loop-place.found.1) c.in-Some.is c.loop-place.invariant) c.item-item.ensures c.is_wanted.ensures c.next_name-place.ensures c.collect-found.ensures.count c.collect-found.ensures.copies

pub returns-clause-count : goal.returns-clause-count
returns-clause-count g c =
    let s = indexed (g.A.SetLike.seen c.args.source.now) in let test = is_wanted g.A.SetLike.order (plain (g.A.SetLike.seen c.args.target.now).object) false in
    (all_collected s test (λ made. made.items) c.loop-place.found.0 c.loop-place.found.1 (subst (Collecting s test (λ made. made.items) c.loop-place.found.0 c.loop-place.found.1) c.in_default.is c.loop-place.invariant)).0 ∙ ap (λ vs. length (filter test vs)) (values-plains (g.A.SetLike.seen c.args.source.now).object.rows)

pub returns-clause-copies : goal.returns-clause-copies
returns-clause-copies g c =
    let s = indexed (g.A.SetLike.seen c.args.source.now) in let test = is_wanted g.A.SetLike.order (plain (g.A.SetLike.seen c.args.target.now).object) false in
    subst (λ vs. IfOk c.loop-place.found.1 (λ made. made.items ≡ filter test vs)) (values-plains (g.A.SetLike.seen c.args.source.now).object.rows)
    (all_collected s test (λ made. made.items) c.loop-place.found.0 c.loop-place.found.1 (subst (Collecting s test (λ made. made.items) c.loop-place.found.0 c.loop-place.found.1) c.in_default.is c.loop-place.invariant)).1
