use Rattle.std.proofs.Common.{◌≡◌}
use Rattle.ac_buckets.specs.Linked.{rows_of}
use Rattle.ac_buckets.proofs.Linking.{IsLinkedBelow}
use Rattle.ac_buckets.proofs.placing.link_all.Given as goal

abbrev pub invariant-loop-index : goal.invariant-loop-index
invariant-loop-index l = record {
  linked : IsLinkedBelow l.nodes l.heads l.index;
  rows : rows_of l.nodes ≡ rows_of l.initial.nodes;
}
