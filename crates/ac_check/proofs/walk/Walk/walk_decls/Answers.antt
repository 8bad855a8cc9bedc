use Rattle.std.proofs.Common.{ap, sym, ◌∙◌, drop, ◌+◌, List}
use Rattle.ac_syntax.specs.declared.decl.Decl.{Decl}
use Rattle.ac_rules.specs.Scopes.{first_task, standing_decls, with_entry, decl_entry}
use Rattle.ac_rules.specs.Walks.{outcome}
use Rattle.ac_rules.proofs.Outcomes.{passed_on, next_item}
use Rattle.ac_check.proofs.TaskScopes.{decl_first}
use Rattle.ac_check.proofs.Resolving.{outcome_on, scope_on, resolved_on}
use Rattle.ac_check.proofs.walk.Walk.walk_decls.Goals as goal

pub returns-in_err-resolved-clause-refused : goal.returns-in_err-resolved-clause-refused
returns-in_err-resolved-clause-refused c =
    let at = c.loop-decl.self in
    let decls = c.args.decls.now in
    let rest = drop (c.loop-decl.decl-index + 1) decls in
    let scope = with_entry at.scope (decl_entry at.scope c.decl-item.result) in
    passed_on c.from_residual.result c.walk_decl.result c.in_err-resolved.field-0.0 _ c.from_residual.ensures.1 c.in_err-resolved.was
    (λ line kind e.
    sym c.loop-decl.invariant.0
    ∙ ap (λ (l : List Decl). outcome at.room (standing_decls at.scope l)) (next_item decls c.loop-decl.decl-index c.decl-item.result c.loop-decl-test.true c.decl-item.is)
    ∙ c.walk_decl.ensures.refused (standing_decls scope rest) line kind e)

pub loop-decl-preserved : goal.loop-decl-preserved
loop-decl-preserved c =
    let at = c.loop-decl.self in
    let decls = c.args.decls.now in
    let behind = c.in_ok-resolved.ensures in (
      outcome_on at.scope _ decls c.loop-decl.decl-index c.decl-item.result c.loop-decl-test.true c.decl-item.is behind.scope at.room _ behind.ok ∙ c.loop-decl.invariant.0,
      scope_on at.scope _ decls c.loop-decl.decl-index c.decl-item.result c.loop-decl-test.true c.decl-item.is behind.scope ∙ c.loop-decl.invariant.1,
      resolved_on at.scope _ decls c.loop-decl.decl-index c.decl-item.result c.loop-decl-test.true c.decl-item.is behind.scope
          c.loop-decl.made.items c.keep.new.items.items c.in_ok-resolved.resolved c.in_ok-keep.ensures behind.resolved
          ∙ c.loop-decl.invariant.2,
      c.loop-decl.invariant.3 ∙ sym (ap first_task behind.scope ∙ decl_first at.scope c.decl-item.result),
    )
