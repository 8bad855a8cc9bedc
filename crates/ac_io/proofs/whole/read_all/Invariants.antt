use Rattle.std.proofs.Common.{◌≡◌, ◌≤◌, ◌-◌, List, ℕ, true, Some, length, IfSome, ◌++◌}
use Rattle.ac_io.proofs.whole.read_all.Given as goal

abbrev pub invariant-loop-bytes : goal.invariant-loop-bytes
invariant-loop-bytes g l = record {
  came : IfSome (g.S.Source.left l.fn.source) (λ left. (rest : List ℕ) × (l.bytes.items ++ rest ≡ left) × (g.S.Source.left l.source ≡ Some rest));
  counted : g.S.Source.faults l.fn.source ≤ g.S.Source.faults l.source;
  steady : g.S.Source.is_steady l.fn.source ≡ true → g.S.Source.is_steady l.source ≡ true;
  counts : g.S.Source.counts_failures l.fn.source ≡ true → (g.S.Source.faults l.source ≡ g.S.Source.faults l.fn.source) × (g.S.Source.counts_failures l.source ≡ true);
  within : length l.bytes.items ≤ l.limit;
}

abbrev pub decreases-loop-bytes : goal.decreases-loop-bytes
decreases-loop-bytes g l = l.limit - length l.bytes.items
