use Rattle.std.proofs.Common.{[], ◌∷◌, ◌++◌, refl, ap, subst, ◌∙◌}
use Rattle.ac_script.specs.Building.{Enters, all_handlers}
use Rattle.ac_script.specs.declared.build.Catching.{Catching}
use Rattle.ac_script.specs.declared.build.Level.{Level}
use Rattle.ac_script.specs.declared.build.Opening.{Opening}
use Rattle.ac_script.specs.declared.build.Opening.TheVariants.{Handling}
use Rattle.ac_script.proofs.Buildings.{first_catches, next_catches}
use Rattle.ac_script.proofs.build.Building.catch.Goals as goal

pub returns-in-Awaiting : goal.returns-in-Awaiting
returns-in-Awaiting c =
    let e = c.in-Some.field-0 in
    let line = c.in-Awaiting.line in
    let tried = c.in-Awaiting.tried in
    let last : Catching = record { before = c.new.result; line = c.args.own; catches = c.args.exception } in
    first_catches c.args.self.now _ e.level c.pop.new.self line tried last c.args.own c.args.exception
    (c.in-Some.ensures.items ∙ ap (λ (o : Opening). c.pop.new.self.items ++ record { level = e.level; opening = o } ∷ []) c.in-Awaiting.is)
    c.new.ensures.items refl refl
    (subst (λ (l : Level). Enters (Handling line tried last) (record { pragma = c.args.self.now.pragma; around = c.pop.new.self; level = l }) c.enter.new.self) c.replace-inside.ensures.after c.in_ok-enter-in-Awaiting.ensures)

pub returns : goal.returns
returns c =
    let e = c.in-Some.field-0 in
    let line = c.in-Handling.line in
    let tried = c.in-Handling.tried in
    let last = c.in-Handling.last in
    let more = c.in_ok-last-in-Handling.last in
    next_catches c.args.self.now _ e.level c.pop.new.self line tried last more c.args.own c.args.exception
    (c.in-Some.ensures.items ∙ ap (λ (o : Opening). c.pop.new.self.items ++ record { level = e.level; opening = o } ∷ []) c.in-Handling.is)
    (c.in_ok-last-in-Handling.ensures.0 ∙ ap (λ (l : Level). all_handlers last l.stmts.items) c.replace-inside.ensures.value) c.in_ok-last-in-Handling.ensures.1 c.in_ok-last-in-Handling.ensures.2
    (subst (λ (l : Level). Enters (Handling line tried more) (record { pragma = c.args.self.now.pragma; around = c.pop.new.self; level = l }) c.enter-in-Handling.new.self) c.replace-inside.ensures.after c.in_ok-enter-in-Handling.ensures)
