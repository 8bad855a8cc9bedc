-- Statements one after another.
use Rattle.std.proofs.Common.{◌≡◌, ◌+◌, ◌<◌, ◌≤◌, ℕ, Bool, true, false, List, [], ◌∷◌, ◌++◌, append-nil, length, drop, get_or, is_some, refl, sym, ap, subst, ◌∙◌, arith, Option, Some, None, Result, true≢false, if◌then◌else◌}
use Rattle.std.proofs.lemmas.List.{at_drop_all}
use Rattle.std.proofs.lemmas.Option.{none-some, same_Some}
use Rattle.ac_base.specs.declared.reason.Exception.{Exception}
use Rattle.ac_rules.specs.Resolved.{ResolvedCode, no_statement, a_command, a_block, resolved_size}
use Rattle.ac_rules.specs.ResolvedStatements.{resolved_before, resolved_of, resolved_handlers_of}
use Rattle.ac_rules.specs.declared.resolved.ResolvedHandler.{ResolvedHandler}
use Rattle.ac_rules.specs.declared.resolved.ResolvedStmt.{ResolvedStmt}
use Rattle.ac_rules.specs.declared.resolved.ResolvedStmt.TheVariants.{Call, Set, Sum, Loop, View, Stable, Declare, Tasks, Handled}
use Rattle.ac_rules.proofs.Outcomes.{next_item}
use Rattle.ac_calls.specs.Holdings.{Guards}
use Rattle.ac_meaning.specs.Environment.{State}
use Rattle.ac_meaning.specs.Execution.{End, Outcome, ending, outcome, Orders, passed_on, followed, takes, resolved_behind, exec_resolved}
use Rattle.ac_meaning.proofs.Ends.{ends_stay_normal}
use Rattle.ac_host.specs.Ready.{Ready}
use Rattle.ac_objects.specs.World.{World}
use Rattle.ac_host.specs.declared.end.HostEnd.{HostEnd}
use Rattle.ac_host.specs.Handling.{handler_in}
use Rattle.ac_host.specs.Running.{RunsByOrders, handled_of, statement_outcome}
use Rattle.ac_host.proofs.Standing.{ready_exec}

statement_then : (propagates : Bool) (orders : Orders) (stmt : ResolvedStmt) (rest : ResolvedCode) (guards : Guards) (e : State) →
    exec_resolved propagates orders (resolved_before stmt rest) guards e
    ≡ followed (passed_on propagates (statement_outcome stmt propagates orders guards e)) (resolved_behind propagates orders rest guards)
statement_then propagates orders (Call _ _ _ _ _) rest guards e = refl
statement_then propagates orders (Set _ _ _) rest guards e = refl
statement_then propagates orders (Sum _ _ _ _ _) rest guards e = refl
statement_then propagates orders (Loop _ _ _ _ _) rest guards e = refl
statement_then propagates orders (View _ _ _ _ _) rest guards e = refl
statement_then propagates orders (Stable _ _ _) rest guards e = refl
statement_then propagates orders (Declare _ _ _) rest guards e = refl
statement_then propagates orders (Tasks _ _) rest guards e = refl
statement_then propagates orders (Handled _ _) rest guards e = refl

pub statements_next : (propagates : Bool) (orders : Orders) (stmts : List ResolvedStmt) (i : ℕ) (stmt : ResolvedStmt) → i < length stmts → stmt ≡ get_or stmts i stmt →
    (guards : Guards) (e : State) →
    exec_resolved propagates orders (resolved_of (drop i stmts)) guards e
    ≡ followed (passed_on propagates (statement_outcome stmt propagates orders guards e)) (resolved_behind propagates orders (resolved_of (drop (i + 1) stmts)) guards)
statements_next propagates orders stmts i stmt within is guards e =
    ap (λ (l : List ResolvedStmt). exec_resolved propagates orders (resolved_of l) guards e) (next_item stmts i stmt within is)
    ∙ statement_then propagates orders stmt (resolved_of (drop (i + 1) stmts)) guards e

pub statements_none : (propagates : Bool) (orders : Orders) (stmts : List ResolvedStmt) (i : ℕ) → length stmts ≤ i → (guards : Guards) (e : State) →
    exec_resolved propagates orders (resolved_of (drop i stmts)) guards e ≡ outcome [] e
statements_none propagates orders stmts i end guards e =
    at_drop_all (λ (l : List ResolvedStmt). exec_resolved propagates orders (resolved_of l) guards e) stmts i end

-- no statement takes an exception of one before it
pub statements_left : (propagates : Bool) (orders : Orders) (stmts : List ResolvedStmt) (guards : Guards) (raised : Exception) (e : State) →
    resolved_behind propagates orders (resolved_of stmts) guards (Some raised) e ≡ ending (Some raised) [] e
statements_left propagates orders [] guards raised e = refl
statements_left propagates orders (Call _ _ _ _ _ ∷ stmts) guards raised e = statements_left propagates orders stmts guards raised e
statements_left propagates orders (Set _ _ _ ∷ stmts) guards raised e = statements_left propagates orders stmts guards raised e
statements_left propagates orders (Sum _ _ _ _ _ ∷ stmts) guards raised e = statements_left propagates orders stmts guards raised e
statements_left propagates orders (Loop _ _ _ _ _ ∷ stmts) guards raised e = statements_left propagates orders stmts guards raised e
statements_left propagates orders (View _ _ _ _ _ ∷ stmts) guards raised e = statements_left propagates orders stmts guards raised e
statements_left propagates orders (Stable _ _ _ ∷ stmts) guards raised e = statements_left propagates orders stmts guards raised e
statements_left propagates orders (Declare _ _ _ ∷ stmts) guards raised e = statements_left propagates orders stmts guards raised e
statements_left propagates orders (Tasks _ _ ∷ stmts) guards raised e = statements_left propagates orders stmts guards raised e
statements_left propagates orders (Handled _ _ ∷ stmts) guards raised e = statements_left propagates orders stmts guards raised e

-- the same of any end that is an exception
pub statements_behind : (propagates : Bool) (orders : Orders) (stmts : List ResolvedStmt) (guards : Guards) (end : End) (e : State) → is_some end ≡ true →
    resolved_behind propagates orders (resolved_of stmts) guards end e ≡ ending end [] e
statements_behind propagates orders stmts guards None e some = absurd (true≢false (sym some))
statements_behind propagates orders stmts guards (Some raised) e some = statements_left propagates orders stmts guards raised e

pub ready_statement : (propagates : Bool) (orders : Orders) (stmt : ResolvedStmt) (guards : Guards) (e : State) → Ready guards e →
    Ready guards (statement_outcome stmt propagates orders guards e).after
ready_statement propagates orders stmt guards e r =
    subst (λ (o : Outcome). Ready guards o.after) (statement_then propagates orders stmt no_statement guards e)
    (ready_exec propagates orders (resolved_before stmt no_statement) guards e r)

-- what is told of a statement is told of what it was taken from
pub statement_told : {K : Type 0} (held : K → Option (List ℕ)) (faults : K → ℕ) (room : K → Option ℕ) (counts : K → Bool) (propagates : Bool)
    {allows : List ℕ → Type 0} {old now : World} {a b : K} {result : Result End HostEnd} {stmt whole : ResolvedStmt} → stmt ≡ whole →
    RunsByOrders allows held faults room counts a b old now (statement_outcome stmt propagates) result →
    RunsByOrders allows held faults room counts a b old now (statement_outcome whole propagates) result
statement_told held faults room counts propagates {allows} {old} {now} {a} {b} {result} is told =
    subst (λ s. RunsByOrders allows held faults room counts a b old now (statement_outcome s propagates) result) is told

-- Handlers

pub no_handler_taken : (propagates : Bool) (orders : Orders) (code : ResolvedCode) (guards : Guards) (raised : Exception) (e : State) →
    handler_in code raised ≡ None → resolved_behind propagates orders code guards (Some raised) e ≡ ending (Some raised) [] e
no_handler_taken propagates orders no_statement guards raised e none = refl
no_handler_taken propagates orders (a_command simple rest) guards raised e none = no_handler_taken propagates orders rest guards raised e none
no_handler_taken propagates orders (a_block head body rest) guards raised e none =
    go (takes head raised) none (no_handler_taken propagates orders rest guards raised e)
  where
    go : (taken : Bool) → (if taken then Some body else handler_in rest raised) ≡ None →
        (handler_in rest raised ≡ None → resolved_behind propagates orders rest guards (Some raised) e ≡ ending (Some raised) [] e) →
        (if taken then resolved_behind propagates orders body guards None e else resolved_behind propagates orders rest guards (Some raised) e)
        ≡ ending (Some raised) [] e
    go true is later = absurd (none-some body (sym is))
    go false is later = later is

pub handler_taken : (propagates : Bool) (orders : Orders) (code body : ResolvedCode) (guards : Guards) (raised : Exception) (e : State) →
    handler_in code raised ≡ Some body → exec_resolved propagates orders body guards e ≡ resolved_behind propagates orders code guards (Some raised) e
handler_taken propagates orders no_statement body guards raised e some = absurd (none-some body some)
handler_taken propagates orders (a_command simple rest) body guards raised e some = handler_taken propagates orders rest body guards raised e some
handler_taken propagates orders (a_block head own rest) body guards raised e some =
    go (takes head raised) some (handler_taken propagates orders rest body guards raised e)
  where
    go : (taken : Bool) → (if taken then Some own else handler_in rest raised) ≡ Some body →
        (handler_in rest raised ≡ Some body → exec_resolved propagates orders body guards e ≡ resolved_behind propagates orders rest guards (Some raised) e) →
        exec_resolved propagates orders body guards e
        ≡ (if taken then resolved_behind propagates orders own guards None e else resolved_behind propagates orders rest guards (Some raised) e)
    go true is later = ap (λ code. exec_resolved propagates orders code guards e) (sym (same_Some own body is))
    go false is later = later is

pub handler_smaller : (code body : ResolvedCode) (raised : Exception) → handler_in code raised ≡ Some body → resolved_size body < resolved_size code
handler_smaller no_statement body raised some = absurd (none-some body some)
handler_smaller (a_command simple rest) body raised some = omega (arith, handler_smaller rest body raised some)
handler_smaller (a_block head own rest) body raised some = go (takes head raised) some (handler_smaller rest body raised)
  where
    go : (taken : Bool) → (if taken then Some own else handler_in rest raised) ≡ Some body →
        (handler_in rest raised ≡ Some body → resolved_size body < resolved_size rest) → resolved_size body < resolved_size (a_block head own rest)
    go true is later = let same : resolved_size own ≡ resolved_size body = ap resolved_size (same_Some own body is) in omega (arith, same)
    go false is later = omega (arith, later is)

-- handlers to which nothing comes
abbrev normal : End
normal = None

either_normal : (b : Bool) → (if b then normal else normal) ≡ normal
either_normal true = refl
either_normal false = refl

handlers_unasked : (propagates : Bool) (orders : Orders) (handlers : List ResolvedHandler) (guards : Guards) (e : State) →
    resolved_behind propagates orders (resolved_handlers_of handlers) guards None e ≡ outcome [] e
handlers_unasked propagates orders [] guards e = refl
handlers_unasked propagates orders (handler ∷ handlers) guards e =
    ap (λ (end : End). resolved_behind propagates orders (resolved_handlers_of handlers) guards end e) (either_normal propagates)
    ∙ handlers_unasked propagates orders handlers guards e

-- where exceptions don't propagate, statements end normally: so to pass their end on changes nothing
pub exec_passed : (propagates : Bool) (orders : Orders) (code : ResolvedCode) (guards : Guards) (e : State) →
    passed_on propagates (exec_resolved propagates orders code guards e) ≡ exec_resolved propagates orders code guards e
exec_passed true orders code guards e = refl
exec_passed false orders code guards e =
    let r = exec_resolved false orders code guards e in ap (λ (end : End). ending end r.lines r.after) (sym (ends_stay_normal orders code guards e))

followed_normal : (r : Outcome) (next : End → State → Outcome) → r.end ≡ None → next None r.after ≡ outcome [] r.after → followed r next ≡ r
followed_normal r next ended same =
    ap (λ (end : End). let second = next end r.after in ending second.end (r.lines ++ second.lines) second.after) ended
    ∙ (ap (λ (second : Outcome). ending second.end (r.lines ++ second.lines) second.after) same
    ∙ (λ i. ending (sym ended i) (append-nil r.lines i) r.after))

-- a block with handlers, where nothing left its body
pub handled_unasked : (propagates : Bool) (orders : Orders) (body : ResolvedCode) (handlers : List ResolvedHandler) (guards : Guards) (e : State) →
    (exec_resolved propagates orders body guards e).end ≡ None →
    exec_resolved propagates orders body guards e ≡ handled_of propagates orders body (resolved_handlers_of handlers) guards e
handled_unasked propagates orders body handlers guards e ended =
    let r = exec_resolved propagates orders body guards e in
    let next = resolved_behind propagates orders (resolved_handlers_of handlers) guards in
    sym (ap (λ first. followed first next) (exec_passed propagates orders body guards e)
    ∙ followed_normal r next ended (handlers_unasked propagates orders handlers guards r.after))

-- how a statement ended, as it counts
pub end_passed : (propagates : Bool) (r : Outcome) (ended passed : End) → ended ≡ r.end → passed ≡ (if propagates then ended else None) →
    (passed_on propagates r).end ≡ passed
end_passed propagates r ended passed same is = ap (λ (end : End). if propagates then end else normal) (sym same) ∙ sym is

pub normal_end : (end : End) → is_some end ≡ false → end ≡ None
normal_end None none = refl
normal_end (Some raised) none = absurd (true≢false none)
