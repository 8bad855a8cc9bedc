use Rattle.std.proofs.Common.{◌≡◌, ◌+◌, ◌<◌, ◌≤◌, Contains, length}
use Rattle.ac_base.specs.declared.name.Name.{Name}
use Rattle.ac_base.specs.Rows.{names}
use Rattle.ac_buckets.proofs.tests.fill.Given as goal

abbrev pub invariant-loop-slot : goal.invariant-loop-slot
invariant-loop-slot l = record {
  room : l.count ≤ l.buckets.spare + l.slot;
  many : length l.buckets.pairs ≡ l.slot;
  earlier : (a : Name) → Contains (names l.buckets.pairs) a → a.slot < l.slot;
}
