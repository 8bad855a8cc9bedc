-- A statement among others is no larger than all.
use Rattle.std.proofs.Common.{◌≡◌, ◌+◌, ◌<◌, ◌≤◌, ℕ, zero, suc, List, [], ◌∷◌, length, get_or, arith}
use Rattle.ac_rules.specs.Resolved.{ResolvedCode, no_statement, resolved_size}
use Rattle.ac_rules.specs.ResolvedStatements.{resolved_before, resolved_of, resolved_handlers_of}
use Rattle.ac_rules.specs.declared.resolved.ResolvedHandler.{ResolvedHandler}
use Rattle.ac_rules.specs.declared.resolved.ResolvedStmt.{ResolvedStmt}
use Rattle.ac_rules.specs.declared.resolved.ResolvedStmt.TheVariants.{Call, Set, Sum, Loop, View, Stable, Declare, Tasks, Handled}

size_before : (stmt : ResolvedStmt) (rest : ResolvedCode) →
    resolved_size (resolved_before stmt rest) ≡ resolved_size (resolved_before stmt no_statement) + resolved_size rest
size_before (Call _ _ _ _ _) rest = omega arith
size_before (Set _ _ _) rest = omega arith
size_before (Sum _ _ _ _ _) rest = omega arith
size_before (Loop _ _ _ _ _) rest = omega arith
size_before (View _ _ _ _ _) rest = omega arith
size_before (Stable _ _ _) rest = omega arith
size_before (Declare _ _ _) rest = omega arith
size_before (Tasks _ _) rest = omega arith
size_before (Handled _ _) rest = omega arith

-- a statement among others isn't larger than all together
pub size_among : (stmts : List ResolvedStmt) (i : ℕ) (d : ResolvedStmt) → i < length stmts →
    resolved_size (resolved_before (get_or stmts i d) no_statement) ≤ resolved_size (resolved_of stmts)
size_among [] i d within = absurd (omega (arith, within))
size_among (stmt ∷ stmts) zero d within = omega (arith, size_before stmt (resolved_of stmts))
size_among (stmt ∷ stmts) (suc i) d within =
    let further : i < length stmts = omega (arith, within) in
    omega (arith, size_before stmt (resolved_of stmts), size_among stmts i d further)

-- and the statements of a handler among others are fewer
pub handler_among : (handlers : List ResolvedHandler) (i : ℕ) (d : ResolvedHandler) → i < length handlers →
    resolved_size (get_or handlers i d).body < resolved_size (resolved_handlers_of handlers)
handler_among [] i d within = absurd (omega (arith, within))
handler_among (handler ∷ handlers) zero d within = omega arith
handler_among (handler ∷ handlers) (suc i) d within =
    let further : i < length handlers = omega (arith, within) in omega (arith, handler_among handlers i d further)
