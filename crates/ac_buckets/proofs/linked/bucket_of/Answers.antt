use Rattle.std.proofs.Common.{◌-◌, ◌%◌, ap, sym, ◌∙◌, bit_and}
use Rattle.std.proofs.lemmas.Bool.{eqb-true}
use Rattle.std.proofs.lemmas.Nat.{and_mask}
use Rattle.ac_buckets.proofs.Powers.{power_with_one_bit}
use Rattle.ac_buckets.proofs.linked.bucket_of.Goals as goal

pub returns-then-is_power_of_two-clause-bucket : goal.returns-then-is_power_of_two-clause-bucket
returns-then-is_power_of_two-clause-bucket c =
    let power = power_with_one_bit c.args.size (eqb-true _ _ (sym c.is_power_of_two.ensures ∙ c.if-is_power_of_two.true)) in
    ap (λ size. bit_and c.args.hash (size - 1)) power.1 ∙ and_mask c.args.hash power.0 ∙ ap (λ size. c.args.hash % size) (sym power.1)
