use Rattle.std.proofs.Common.{◌≡◌, ◌+◌, ◌≤◌, ◌<◌, ◌^◌, refl, sym, subst}
use Rattle.ac_vector.proofs.Appends.{appending_start, appending_more, appending_room, appending_end}
use Rattle.ac_vector.proofs.Drains.{back, back_count, back_none, back_step, draining_end, draining_more}
use Rattle.ac_vector.proofs.moving.move_back.Goals as goal

pub loop-value-init : goal.loop-value-init
loop-value-init g c = (appending_start c.args.target.now (back c.args.source.now) (back c.args.source.now) refl c.requires.target, record { next = refl; slots = refl; sound = c.requires.source })

pub append-requires-clause-spare : goal.append-requires-clause-spare
append-requires-clause-spare g c =
    let s = c.args.source.now in let now = c.loop-value.source in let count = back_count s in
    (appending_room c.args.target.now (back s) (back now) (back c.pop.new.self) c.loop-value.target c.in-Some.value c.loop-value.invariant.0 (back_step now c.pop.new.self c.in-Some.value c.in-Some.ensures.popped)
    (subst (λ n. n ≤ c.args.target.now.spare) (sym count) c.requires.spare) (subst (λ n. c.args.target.now.next_serial + n < 2 ^ 64) (sym count) c.requires.unspent)).0

pub append-requires-clause-unspent : goal.append-requires-clause-unspent
append-requires-clause-unspent g c =
    let s = c.args.source.now in let now = c.loop-value.source in let count = back_count s in
    (appending_room c.args.target.now (back s) (back now) (back c.pop.new.self) c.loop-value.target c.in-Some.value c.loop-value.invariant.0 (back_step now c.pop.new.self c.in-Some.value c.in-Some.ensures.popped)
    (subst (λ n. n ≤ c.args.target.now.spare) (sym count) c.requires.spare) (subst (λ n. c.args.target.now.next_serial + n < 2 ^ 64) (sym count) c.requires.unspent)).1

pub loop-value-preserved : goal.loop-value-preserved
loop-value-preserved g c =
    let s = c.args.source.now in let now = c.loop-value.source in let count = back_count s in
    let step = back_step now c.pop.new.self c.in-Some.value c.in-Some.ensures.popped in
    let room = (appending_room c.args.target.now (back s) (back now) (back c.pop.new.self) c.loop-value.target c.in-Some.value c.loop-value.invariant.0 step
    (subst (λ n. n ≤ c.args.target.now.spare) (sym count) c.requires.spare) (subst (λ n. c.args.target.now.next_serial + n < 2 ^ 64) (sym count) c.requires.unspent)).0 in (
      appending_more c.args.target.now (back s) (back now) (back c.pop.new.self) c.loop-value.target c.append.new.self c.append.result c.in-Some.value c.loop-value.invariant.0 step room
          c.append.ensures.fresh c.append.ensures.inserted c.append.ensures.sound,
      draining_more s now c.pop.new.self c.in-Some.value c.loop-value.invariant.1 c.in-Some.ensures.popped c.pop.ensures.sound,
    )

pub returns-clause-put : goal.returns-clause-put
returns-clause-put g c =
    (appending_end c.args.target.now (back c.args.source.now) (back c.loop-value.source) c.loop-value.target c.loop-value.invariant.0 (back_none c.loop-value.source c.pop.new.self c.in_default.ensures.popped)).0

pub returns-clause-spare : goal.returns-clause-spare
returns-clause-spare g c =
    subst (λ n. c.loop-value.target.spare + n ≡ c.args.target.now.spare) (back_count c.args.source.now)
    (appending_end c.args.target.now (back c.args.source.now) (back c.loop-value.source) c.loop-value.target c.loop-value.invariant.0 (back_none c.loop-value.source c.pop.new.self c.in_default.ensures.popped)).1

pub returns-clause-cleared : goal.returns-clause-cleared
returns-clause-cleared g c = draining_end c.args.source.now c.loop-value.source c.pop.new.self c.loop-value.invariant.1 c.in_default.ensures.popped
