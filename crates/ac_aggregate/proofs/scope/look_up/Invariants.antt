use Rattle.std.proofs.Common.{◌≡◌, drop}
use Rattle.ac_rules.specs.Scopes.{meaning_in}
use Rattle.ac_aggregate.specs.Entries.{entries_view}
use Rattle.ac_aggregate.proofs.scope.look_up.Given as goal

abbrev pub invariant-loop-entry : goal.invariant-loop-entry
invariant-loop-entry l = meaning_in (entries_view (drop l.entry-index l.names)) l.name ≡ meaning_in (entries_view l.names) l.name
