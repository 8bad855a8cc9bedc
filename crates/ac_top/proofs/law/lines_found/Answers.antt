use Rattle.std.proofs.Common.{refl, arith, inl, inr, [], ◌∷◌, ◌++◌}
use Rattle.std.specs.Prelude.{codes}
use Rattle.ac_top.proofs.LineTests.{has_none, is_first}
use Rattle.ac_top.proofs.law.lines_found.Goals as goal

pub returns-clause-first : goal.returns-clause-first
returns-clause-first c = is_first _ _ 12 (record { starts = inr (11, refl, refl); behind = codes "null;" ++ (10 ∷ (codes "--script" ++ (10 ∷ []))); is = refl; within = omega arith }) refl

pub returns-clause-front : goal.returns-clause-front
returns-clause-front c = is_first _ _ 0 (record { starts = inl refl; behind = codes "null;" ++ (10 ∷ []); is = refl; within = omega arith }) refl

pub returns-clause-middle : goal.returns-clause-middle
returns-clause-middle c = has_none _ _ 100 (omega arith) refl

pub returns-clause-unended : goal.returns-clause-unended
returns-clause-unended c = has_none _ _ 100 (omega arith) refl
