use Rattle.std.proofs.Common.{◌≡◌, ◌≤◌, ◌-◌, ◌+◌, List, ℕ, true, Some, length, IfSome, ◌++◌}
use Rattle.ac_io.proofs.whole.write_all.Given as goal

abbrev pub invariant-loop-rest : goal.invariant-loop-rest
invariant-loop-rest g l = record {
  held : IfSome (g.K.Sink.held l.fn.sink) (λ held. (front : List ℕ) × (front ++ l.rest ≡ l.bytes) × (g.K.Sink.held l.sink ≡ Some (held ++ front)));
  counted : g.K.Sink.faults l.fn.sink ≤ g.K.Sink.faults l.sink;
  within : IfSome (g.K.Sink.room l.fn.sink) (λ room. length l.bytes ≤ room → g.K.Sink.room l.sink ≡ Some ((room + length l.rest) - length l.bytes));
  counts : g.K.Sink.counts_failures l.fn.sink ≡ true → (g.K.Sink.faults l.sink ≡ g.K.Sink.faults l.fn.sink) × (g.K.Sink.counts_failures l.sink ≡ true);
  shorter : length l.rest ≤ length l.bytes;
}

abbrev pub decreases-loop-rest : goal.decreases-loop-rest
decreases-loop-rest g l = length l.rest
