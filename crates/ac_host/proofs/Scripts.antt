-- A whole script: where it begins, and what it comes to.
use Rattle.std.proofs.Common.{◌≡◌, ◌+◌, ℕ, Bool, List, [], ◌∷◌, map, refl, sym, ap, subst, ◌∙◌, Option, None, Result, Ok, Err, IsErrAnd, IfOk}
use Rattle.std.specs.List.{fold}
use Rattle.std.proofs.lemmas.List.Elements.{All-nil}
use Rattle.std.proofs.lemmas.Result.{err_from_is_err_and}
use Rattle.ac_syntax.specs.Canonical.{propagates_in}
use Rattle.ac_syntax.specs.declared.script.Script.{Script}
use Rattle.ac_rules.specs.Scopes.{with_decls}
use Rattle.ac_rules.specs.Resolved.{ResolvedCode, resolve}
use Rattle.ac_rules.specs.declared.resolved.ResolvedDecl.{ResolvedDecl}
use Rattle.ac_calls.specs.Answers.{lines_text}
use Rattle.ac_calls.specs.Holdings.{of_rows, of_holder, of_queue, Guards, held_under}
use Rattle.ac_meaning.specs.Environment.{Bound, binds_type, binds_object, binds_cursor, binds_value, binds_element, bound_by, State, first_state, under, after_decls, nodes_in, nodes}
use Rattle.ac_meaning.specs.Execution.{Outcome, Orders, exec_resolved, no_orders, run, run_from, run_with, text_of, text_with}
use Rattle.ac_meaning.proofs.Resolved.{runs_resolved}
use Rattle.ac_objects.specs.World.{World, state_of}
use Rattle.ac_host.specs.declared.end.HostEnd.{HostEnd}
use Rattle.ac_host.specs.Ready.{IsUnder}
use Rattle.ac_host.specs.Start.{IsAtStart, start_of}
use Rattle.ac_host.specs.Told.{GoBy, Tells, TellsAll}
use Rattle.ac_host.specs.Writing.{Broke, Writes}
use Rattle.ac_host.proofs.Starting.{decls_start}

-- objects on which statements begin
pub start_stands : (w : World) → IsAtStart (state_of w) → IsUnder w [] (state_of w)
start_stands w start = record { is = sym start.rest; ready = start.ready }

pub start_tells : {allows : List ℕ → Type 0} {T : Type 0} {r : Result T HostEnd} {P R : Orders → Type 0} (w : World) {later : World} →
    IsAtStart (state_of w) → Tells allows w later r P → ((orders : Orders) → P orders → R orders) → TellsAll allows R
start_tells w start t then = record {
  told = t.told;
  allowed = t.allowed;
  holds = λ orders g. then orders (t.holds orders (subst (λ n. GoBy t.told n orders) (sym start.no_block) g));
}

-- so they do behind the outermost declarations
pub script_starts : (e : State) (ds : List ResolvedDecl) → e ≡ (after_decls ds first_state).after → IsAtStart e
script_starts e ds declared = subst IsAtStart (sym declared) (decls_start ds)

pub tells_more : {allows : List ℕ → Type 0} {P R : Orders → Type 0} → TellsAll allows P → ((orders : Orders) → P orders → R orders) → TellsAll allows R
tells_more t then = record { told = t.told; allowed = t.allowed; holds = λ orders g. then orders (t.holds orders g) }

pub none_told : {allows : List ℕ → Type 0} {R : Orders → Type 0} → ((orders : Orders) → R orders) → TellsAll allows R
none_told {allows = allows} holds = record { told = []; allowed = All-nil allows; holds = λ orders g. holds orders }

pub if_ok_exit : {T E : Type 0} (P : T → Type 0) (Q : E → Type 0) (r : Result T E) → IsErrAnd r Q → IfOk r P
if_ok_exit P Q (Ok x) exit = absurd exit
if_ok_exit P Q (Err e) exit = tt

pub comes_from : (propagates : Bool) (orders : Orders) (script : Script) (code : ResolvedCode) (e : State) → propagates ≡ propagates_in script →
    code ≡ resolve (with_decls [] script.decls) script.stmts → exec_resolved propagates orders code [] e ≡ run_from orders script e
comes_from propagates orders script code e p c =
    (λ i. exec_resolved (p i) orders (c i) [] e)
    ∙ runs_resolved (propagates_in script) orders script.stmts (with_decls [] script.decls) [] None e

pub script_comes : (orders : Orders) (script : Script) (e : State) → e ≡ start_of script → run_from orders script e ≡ run_with orders script
unfolding run_with
script_comes orders script e is = ap (run_from orders script) is

pub script_text : (orders : Orders) (script : Script) (r : Outcome) → r ≡ run_with orders script → lines_text r.lines ≡ text_with orders script
unfolding text_with
script_text orders script r is = ap (λ (x : Outcome). lines_text x.lines) is

-- where no order tells anything

pub serial_text : (script : Script) → text_with no_orders script ≡ text_of script
unfolding text_with text_of run
serial_text script = refl

pub serial_run : (script : Script) → run_with no_orders script ≡ run script
unfolding run
serial_run script = refl

-- how many elements there are, whatever guards are held

bound_nodes : (guards : Guards) (b : Bound) → nodes_in (bound_by (held_under guards) b) ≡ nodes_in b
bound_nodes guards binds_type = refl
bound_nodes guards (binds_object (of_rows kind o)) = refl
bound_nodes guards (binds_object (of_holder e h)) = refl
bound_nodes guards (binds_object (of_queue number q)) = refl
bound_nodes guards (binds_cursor mark) = refl
bound_nodes guards (binds_value v) = refl
bound_nodes guards (binds_element object at) = refl

all_nodes : (guards : Guards) (bs : List Bound) (count : ℕ) →
    fold (λ (n : ℕ) (b : Bound). n + nodes_in b) count (map (bound_by (held_under guards)) bs) ≡ fold (λ (n : ℕ) (b : Bound). n + nodes_in b) count bs
all_nodes guards [] count = refl
all_nodes guards (b ∷ bs) count =
    all_nodes guards bs (count + nodes_in (bound_by (held_under guards) b))
    ∙ ap (λ m. fold (λ (n : ℕ) (x : Bound). n + nodes_in x) (count + m) bs) (bound_nodes guards b)

pub nodes_under : (guards : Guards) (e : State) → nodes (under guards e) ≡ nodes e
nodes_under guards e = all_nodes guards e.bounds 0

module _ {K T : Type 0} (held : K → Option (List ℕ)) (faults : K → ℕ) (room : K → Option ℕ) (counts : K → Bool) where
  -- a call that failed hands its end on
  pub writes_broke : (a b : K) (text : List ℕ) (end : HostEnd) (result : Result T HostEnd) → IsErrAnd result (λ y. y ≡ end) →
      Broke held faults room counts a b text end → Writes held faults room counts a b text result
  writes_broke a b text end result exit broke =
      let p = err_from_is_err_and result exit in
      let is : Err end ≡ result = ap Err (sym p.2) ∙ sym p.1 in
      subst (Writes held faults room counts a b text) is broke
