use Rattle.std.proofs.Common.{◌≡◌, ◌∷◌, ◌++◌, [], ap, sym, subst, ◌∙◌, OnOk}
use Rattle.ac_rules.specs.Resolved.{calls_at, no_statement}
use Rattle.ac_rules.specs.ResolvedStatements.{resolved_before}
use Rattle.ac_rules.specs.declared.resolved.ResolvedStmt.{ResolvedStmt}
use Rattle.ac_meaning.specs.TaskBlocks.{step_of, steps_of}
use Rattle.ac_host.proofs.Gathering.{same_set}
use Rattle.ac_host.proofs.task_code.add_step.Goals as goal

pub returns-in_ok-step-in-Call : goal.returns-in_ok-step-in-Call
returns-in_ok-step-in-Call c =
    let here = c.in-Call in
    let places = c.args.places.now in
    let first = c.args.first in
    let step = c.in_ok-step-in-Call.step in
    let steps : step ∷ [] ≡ steps_of places first (resolved_before c.args.stmt.now no_statement) =
    ap (λ s. s ∷ []) (c.in_ok-step-in-Call.ensures
    ∙ ap (λ args. step_of places first (calls_at here.line here.target here.object here.operation args)) c.items-args.ensures)
    ∙ ap (λ (s : ResolvedStmt). steps_of places first (resolved_before s no_statement)) (sym here.is) in
    subst (λ l. OnOk c.put.result (c.put.new.made.items ≡ c.args.made.now.items ++ l)) steps c.put.ensures

pub returns-in_ok-step-in-Set : goal.returns-in_ok-step-in-Set
returns-in_ok-step-in-Set c =
    let here = c.in-Set in
    let places = c.args.places.now in
    let first = c.args.first in
    let step = c.in_ok-step-in-Set.step in
    let steps : step ∷ [] ≡ steps_of places first (resolved_before c.args.stmt.now no_statement) =
    ap (λ s. s ∷ []) (c.in_ok-step-in-Set.ensures ∙ same_set places first here.line here.target here.from)
    ∙ ap (λ (s : ResolvedStmt). steps_of places first (resolved_before s no_statement)) (sym here.is) in
    subst (λ l. OnOk c.put-in-Set.result (c.put-in-Set.new.made.items ≡ c.args.made.now.items ++ l)) steps c.put-in-Set.ensures
