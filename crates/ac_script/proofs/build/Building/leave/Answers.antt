use Rattle.std.proofs.Common.{[], ◌∷◌, ◌++◌, refl, ap, subst, ◌∙◌}
use Rattle.ac_syntax.specs.Code.{stop, block}
use Rattle.ac_syntax.specs.Statements.{code_of, tasks_of, handlers_of}
use Rattle.ac_syntax.specs.declared.stmt.Stmt.TheVariants.{Handled}
use Rattle.ac_script.specs.Building.{Takes, Enters, full_head, body_by, all_handlers}
use Rattle.ac_script.specs.declared.build.Level.{Level}
use Rattle.ac_script.specs.declared.build.Opening.{Opening}
use Rattle.ac_script.specs.declared.build.Opening.TheVariants.{Awaiting}
use Rattle.ac_script.specs.declared.build.Ended.TheVariants.{Statement}
use Rattle.ac_script.proofs.Buildings.{left_adds, tried_ends, handled_adds}
use Rattle.ac_script.proofs.build.Building.leave.Goals as goal

pub returns-in-Block : goal.returns-in-Block
returns-in-Block c closing =
    let e = c.in-Some.field-0 in
    let h = c.in-Block.head in
    left_adds c.args.self.now _ e.level h c.end_inside.result closing
    (c.in-Some.ensures.items ∙ ap (λ (o : Opening). c.pop.new.self.items ++ record { level = e.level; opening = o } ∷ []) c.in-Block.is) refl
    (subst (λ l. Takes c.end_inside.result l c.take.new.self) c.replace-inside.ensures.after c.in_ok-take-in-Block.ensures)
    (c.end_inside.ensures.block stop ∙ ap (λ (l : Level). block (full_head h l.decls.items) (body_by h (code_of l.stmts.items) (tasks_of l.tasks.items)) stop) c.replace-inside.ensures.value)
    c.end_inside.ensures.content

pub returns-in-Tried : goal.returns-in-Tried
returns-in-Tried c closing =
    let e = c.in-Some.field-0 in
    let line = c.in-Tried.line in
    let tried = c.from_vec-tried.ensures ∙ ap (λ (l : Level). code_of l.stmts.items) c.replace-inside.ensures.value in
    tried_ends c.args.self.now _ e.level c.pop.new.self line closing
    (c.in-Some.ensures.items ∙ ap (λ (o : Opening). c.pop.new.self.items ++ record { level = e.level; opening = o } ∷ []) c.in-Tried.is)
    (subst (λ t. Enters (Awaiting line t) (record { pragma = c.args.self.now.pragma; around = c.pop.new.self; level = e.level }) c.enter.new.self) tried
    (subst (λ (l : Level). Enters (Awaiting line c.from_vec-tried.result) (record { pragma = c.args.self.now.pragma; around = c.pop.new.self; level = l }) c.enter.new.self) c.replace-inside.ensures.after c.in_ok-enter-in-Tried.ensures))

pub returns : goal.returns
returns c closing =
    let e = c.in-Some.field-0 in
    let last = c.in-Handling.last in
    handled_adds c.args.self.now _ e.level c.in-Handling.line c.in-Handling.tried last c.in_ok-end_handlers-in-Handling.field-0 closing
    (c.in-Some.ensures.items ∙ ap (λ (o : Opening). c.pop.new.self.items ++ record { level = e.level; opening = o } ∷ []) c.in-Handling.is) refl
    (subst (λ l. Takes c.in_ok-end_handlers-in-Handling.field-0 l c.take-in-Handling.new.self) c.replace-inside.ensures.after c.in_ok-take-in-Handling.ensures)
    (c.in_ok-end_handlers-in-Handling.ensures ∙ ap (λ (l : Level). Statement (Handled c.in-Handling.line c.in-Handling.tried (handlers_of (all_handlers last l.stmts.items)))) c.replace-inside.ensures.value)
