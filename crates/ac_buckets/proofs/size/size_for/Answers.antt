use Rattle.std.proofs.Common.{◌≡◌, ◌*◌, ◌^◌, ◌<◌, ◌≤◌, ℕ, suc, nat_le, Bool, true, false, cond, refl, arith}
use Rattle.std.proofs.lemmas.Bool.{leb-true, leb-false}
use Rattle.ac_base.specs.Growth.{pow8}
use Rattle.ac_base.proofs.Powers.{power_more, next_power, pow8-unique}
use Rattle.ac_buckets.proofs.size.size_for.Goals as goal

pub loop-doubled-preserved : goal.loop-doubled-preserved
loop-doubled-preserved c =
    let d = c.loop-doubled.doubled in let h = c.loop-doubled.invariant in let j = h.power.0 in let is = h.power.1 in
    let up : (k : ℕ) → c.args.wanted ≤ 8 * 2 ^ k → d * 2 ≤ 8 * 2 ^ k = λ k enough. omega (arith, next_power j k (omega (arith, c.loop-doubled-test.true))) in
    record {
      power = (suc j, omega (arith, power_more j));
      small = (omega (arith, h.small.0), let u : d * 2 ≤ 8 * 2 ^ 27 = up 27 (omega (arith, c.requires.few)) in omega arith);
      least = λ k enough _. up k enough;
      same = λ few. absurd (omega (arith, c.loop-doubled-test.true, h.small.0));
    }

doubled_is : (size wanted doubled : ℕ) → ((k : ℕ) × (doubled ≡ 8 * 2 ^ k)) → wanted ≤ doubled → ((k : ℕ) → wanted ≤ 8 * 2 ^ k → size < wanted → doubled ≤ 8 * 2 ^ k) → (wanted ≤ size → doubled ≡ size) → (b : Bool) → nat_le wanted size ≡ b → doubled ≡ cond b size (pow8 wanted)
doubled_is size wanted doubled power enough least same true e = same (leb-true wanted size e)
doubled_is size wanted doubled power enough least same false e = pow8-unique wanted doubled (record { power = power; enough = enough; least = λ k h. least k h (leb-false wanted size e) })

pub returns-clause-size : goal.returns-clause-size
returns-clause-size c = let h = c.loop-doubled.invariant in doubled_is c.args.size c.args.wanted c.loop-doubled.doubled h.power c.loop-doubled-test.false h.least h.same _ refl
