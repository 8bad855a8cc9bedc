use Rattle.std.proofs.Common.{◌≡◌, ◌++◌, drop}
use Rattle.ac_rules.specs.Scopes.{first_task, standing_decls, with_decls}
use Rattle.ac_rules.specs.Resolved.{resolve_decls}
use Rattle.ac_rules.specs.Walks.{outcome}
use Rattle.ac_check.proofs.walk.Walk.walk_decls.Given as goal

abbrev pub invariant-loop-decl : goal.invariant-loop-decl
invariant-loop-decl l =
    (outcome l.self.room (standing_decls l.self.scope (drop l.decl-index l.decls)) ≡ outcome l.initial.self.room (standing_decls l.initial.self.scope l.decls))
    × (with_decls l.self.scope (drop l.decl-index l.decls) ≡ with_decls l.initial.self.scope l.decls)
    × (l.made.items ++ resolve_decls l.self.scope (drop l.decl-index l.decls) ≡ resolve_decls l.initial.self.scope l.decls)
    × (l.task ≡ first_task l.self.scope)
