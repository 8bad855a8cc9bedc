use Rattle.std.proofs.Common.{◌≡◌, ◌-◌, ◌≤◌, drop}
use Rattle.ac_snapshot.specs.RowKeys.{each_next, in_turn}
use Rattle.ac_snapshot.proofs.row_test.each_in_turn.Given as goal

abbrev pub invariant-loop-at : goal.invariant-loop-at
invariant-loop-at l = (1 ≤ l.at) × (each_next (in_turn l.fn.turn) l.fn.rows ≡ each_next (in_turn l.fn.turn) (drop (l.at - 1) l.fn.rows))
