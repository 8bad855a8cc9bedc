use Rattle.std.proofs.Common.{◌≡◌, ◌+◌, ◌-◌, arith, ℕ, replicate, ap}
use Rattle.std.proofs.lemmas.Result.{err_from_is_err_and}
use Rattle.ac_io.proofs.Telling.{begins, goes_on, ends, breaks, still, adds_nothing}
use Rattle.ac_tree_calls.proofs.NodesListed.{one_bracket}
use Rattle.ac_tree_calls.proofs.tree_rows.listing.close.Goals as goal

pub loop-place-init : goal.loop-place-init
loop-place-init g c =
    let all : c.args.brackets ≡ c.args.brackets - 0 = omega arith in
    record { adds = still (ap (λ n. replicate {A = ℕ} n 93) all) (begins _ _ _); short = λ h. h }

pub returns-in_err-add-clause-adds : goal.returns-in_err-add-clause-adds
returns-in_err-add-clause-adds g c =
    breaks (err_from_is_err_and c.from_residual.result c.from_residual.ensures.1).1 (replicate (c.args.brackets - (c.loop-place.place + 1)) 93)
    (still (one_bracket c.args.brackets c.loop-place.place (omega (arith, c.loop-place-test.true))) c.loop-place.invariant.adds) c.in_err-add.ensures.adds

pub loop-place-preserved : goal.loop-place-preserved
loop-place-preserved g c = record {
  adds = goes_on (still (one_bracket c.args.brackets c.loop-place.place (omega (arith, c.loop-place-test.true))) c.loop-place.invariant.adds) c.in_ok-add.ensures.adds;
  short = λ h. c.in_ok-add.ensures.short (c.loop-place.invariant.short h);
}

pub returns-clause-adds : goal.returns-clause-adds
returns-clause-adds g c =
    let none : c.args.brackets - c.loop-place.place ≡ 0 = omega (arith, c.loop-place-test.false) in
    ends (still (ap (λ n. replicate {A = ℕ} n 93) none) c.loop-place.invariant.adds) (adds_nothing _ _)
