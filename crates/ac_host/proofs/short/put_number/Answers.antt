use Rattle.std.proofs.Common.{ℕ, ◌+◌, ◌∷◌, [], ◌≡◌, ◌≤◌, ◌<◌, ◌/◌, ◌%◌, ◌++◌, decimal, drop, length, sym, ap, ◌∙◌, arith}
use Rattle.std.proofs.lemmas.Fmt.{decimal_digit, decimal_step, length-decimal-le}
use Rattle.ac_host.proofs.short.put_number.Goals as goal

two : (n : ℕ) → 10 ≤ n → n < 100 → decimal n ≡ (48 + n / 10) ∷ (48 + n % 10) ∷ []
two n low high = rw (decimal_step n low (omega arith), decimal_digit (n / 10) (omega arith))

pub returns-then-number-lt10-clause-written : goal.returns-then-number-lt10-clause-written
returns-then-number-lt10-clause-written c =
    c.put_digit.ensures.written ∙ ap (λ digits. digits ++ drop c.args.end c.args.line.now) (sym (decimal_digit c.args.number (omega (arith, c.if-number-lt10.true))))

pub returns-then-number-lt100-clause-written : goal.returns-then-number-lt100-clause-written
returns-then-number-lt100-clause-written c =
    rw (
      two c.args.number (omega (arith, c.if-number-lt10.false)) (omega (arith, c.if-number-lt100.true)),
      c.put_digit-then-number-lt100.ensures.written,
      c.put_digit-tens.ensures.written,
    )

pub write_digits-requires : goal.write_digits-requires
write_digits-requires c =
    let fits = c.ranges.number.fits in
    let most = length-decimal-le 20 c.args.number (omega arith) (omega (arith, fits)) (omega (arith, fits)) in
    (omega (arith, most, c.requires.0), c.requires.1)

pub returns-then-number-lt10-clause-start : goal.returns-then-number-lt10-clause-start
returns-then-number-lt10-clause-start c = omega (arith, c.put_digit.ensures.start, ap length (decimal_digit c.args.number (omega (arith, c.if-number-lt10.true))))

pub returns-then-number-lt100-clause-start : goal.returns-then-number-lt100-clause-start
returns-then-number-lt100-clause-start c =
    omega (arith, c.put_digit-tens.ensures.start, c.put_digit-then-number-lt100.ensures.start, ap length (two c.args.number (omega (arith, c.if-number-lt10.false)) (omega (arith, c.if-number-lt100.true))))
