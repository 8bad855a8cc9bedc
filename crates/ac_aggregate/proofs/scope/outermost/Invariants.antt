use Rattle.std.proofs.Common.{◌≡◌, [], drop}
use Rattle.ac_rules.specs.Scopes.{with_decls}
use Rattle.ac_aggregate.specs.Entries.{entries_view}
use Rattle.ac_aggregate.proofs.scope.outermost.Given as goal

abbrev pub invariant-loop-decl : goal.invariant-loop-decl
invariant-loop-decl l = with_decls (entries_view l.names.items) (drop l.decl-index l.decls) ≡ with_decls [] l.decls
