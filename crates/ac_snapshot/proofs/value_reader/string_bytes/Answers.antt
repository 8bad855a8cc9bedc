use Rattle.std.proofs.Common.{◌≡◌, ◌-◌, ◌+◌, suc, sym, ap, ◌∙◌, arith}
use Rattle.ac_snapshot.specs.Outcomes.{got, behind}
use Rattle.ac_snapshot.specs.ValueReaders.{string_by}
use Rattle.ac_snapshot.proofs.Loops.{byte_kept, string_ended, byte_failed, string_over}
use Rattle.ac_snapshot.proofs.value_reader.string_bytes.Goals as goal

pub returns-in-Some-None-default : goal.returns-in-Some-None-default
returns-in-Some-None-default c =
    let here = c.in-Some-None-default in
    let m = 1001 - (c.loop.counter + 1) in
    let more : 1001 - c.loop.counter ≡ suc m = omega (arith, c.loop-test.true) in
    string_ended _ (1001 - c.loop.counter) m c.loop.bytes.items c.loop.left.now here.rest.now more c.loop.invariant (here.ensures ∙ ap (λ o. got o here.rest.now) here.field-0-0-is)

pub returns-in-None : goal.returns-in-None
returns-in-None c =
    let m = 1001 - (c.loop.counter + 1) in
    let more : 1001 - c.loop.counter ≡ suc m = omega (arith, c.loop-test.true) in
    byte_failed _ (1001 - c.loop.counter) m c.loop.bytes.items c.loop.left.now more c.loop.invariant c.in-None.ensures

pub loop-preserved : goal.loop-preserved
loop-preserved c =
    let here = c.in-Some-Some-default in
    let m = 1001 - (c.loop.counter + 1) in
    let more : 1001 - c.loop.counter ≡ suc m = omega (arith, c.loop-test.true) in
    byte_kept _ (1001 - c.loop.counter) m c.loop.bytes.items c.loop.left.now here.rest.now here.b more c.loop.invariant (here.ensures ∙ ap (λ o. got o here.rest.now) here.field-0-0-is)
    ∙ ap (λ made. behind made (string_by m here.rest.now)) (sym c.in_ok-push-in-Some-Some-default.ensures.items)

pub returns : goal.returns
returns c =
    let over : 1001 - c.loop.counter ≡ 0 = omega (arith, c.loop-test.false) in
    string_over _ (1001 - c.loop.counter) c.loop.bytes.items c.loop.left.now over c.loop.invariant
