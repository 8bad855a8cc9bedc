use Rattle.std.proofs.Common.{◌≡◌, ◌+◌, ◌-◌, ◌++◌, drop, ap, arith, to_z-of_z}
use Rattle.std.proofs.lemmas.Fmt.{length-decimal-le}
use Rattle.itoa.proofs.Decimal.{minus_first}
use Rattle.ac_host.proofs.short.put_integer.Goals as goal

pub returns-then-value-ge0-clause-start : goal.returns-then-value-ge0-clause-start
returns-then-value-ge0-clause-start c =
    let most = length-decimal-le 19 c.unsigned_abs.result (omega arith) (omega arith) (omega arith) in
    omega (arith, most, c.put_number-start.ensures.start)

pub overflow_sub-start : goal.overflow_sub-start
overflow_sub-start c =
    let most = length-decimal-le 19 c.unsigned_abs.result (omega arith) (omega arith) (omega arith) in
    omega (arith, most, c.put_number-start.ensures.start, c.requires.0)

pub overflow_sub-result : goal.overflow_sub-result
overflow_sub-result c =
    let most = length-decimal-le 19 c.unsigned_abs.result (omega arith) (omega arith) (omega arith) in
    omega (arith, most, c.put_number-start.ensures.start, c.requires.0)

pub returns-clause-start : goal.returns-clause-start
returns-clause-start c =
    let most = length-decimal-le 19 c.unsigned_abs.result (omega arith) (omega arith) (omega arith) in
    omega (arith, most, c.put_number-start.ensures.start, c.requires.0)

pub returns-clause-written : goal.returns-clause-written
returns-clause-written c =
    let w = c.put_number-start in
    let most = length-decimal-le 19 c.unsigned_abs.result (omega arith) (omega arith) (omega arith) in
    let e : w.result - 1 + 1 ≡ w.result = omega (arith, most, w.ensures.start, c.requires.0) in
    let back = to_z-of_z c.ranges.value in
    rw (c.put_byte.ensures.written, e, w.ensures.written, c.unsigned_abs.ensures.value, back)
    (ap (λ digits. digits ++ drop c.args.end c.args.line.now) (minus_first c.args.value (rw back at c.if-value-ge0.false)))
