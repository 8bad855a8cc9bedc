-- A script without tasks runs the same by all orders.
use Rattle.std.proofs.Common.{◌≡◌, ◌||◌, ◌++◌, ◌∷◌, ℕ, Bool, true, false, List, [], Some, None, refl, sym, ap, append-nil, ◌∙◌, if◌then◌else◌}
use Rattle.ac_syntax.specs.Canonical.{propagates_in}
use Rattle.ac_syntax.specs.declared.script.Script.{Script}
use Rattle.ac_rules.specs.HasTasks.{begins_tasks, has_tasks}
use Rattle.ac_rules.specs.Resolved.{ResolvedHead, loops_at, views_at, stables_at, declares_at, gathers_at, works_at, begins_at, tries_at, handles_at, ResolvedCode, no_statement, a_command, a_block, resolve}
use Rattle.ac_rules.specs.Scopes.{with_decls}
use Rattle.ac_calls.specs.Answers.{lines_text}
use Rattle.ac_calls.specs.Holdings.{Guards}
use Rattle.ac_calls.specs.declared.plains.Plain.{Plain}
use Rattle.ac_meaning.specs.Environment.{State, after_decls, at_rest, guarded_at, under}
use Rattle.ac_meaning.specs.Execution.{End, Outcome, Orders, after_declared, block_on, commanded, passed_on, followed, takes, resolved_behind, no_orders, on_object, run, run_from, run_with, text_of, text_with}
use Rattle.ac_meaning.specs.Meanings.{Meaning, IsMeaningBy, is_too_long, is_refused, is_faulty, is_sound, ran, written}
use Rattle.ac_meaning.proofs.Resolved as resolved
use Rattle.ac_top.specs.declared.mode.Task.{Task}
use Rattle.ac_top.specs.declared.mode.Task.TheVariants.{Run, Check}
use Rattle.ac_top.specs.Asks.{Asking, unasked, refuses, asks, BecomesOf}
use Rattle.ac_top.specs.Beginnings.{Beginning, begins, stops_at, BeginsAs, BeginsOf}
use Rattle.ac_top.specs.Modes.{begun, lines_behind, meant_by, ran_from, started}
use Rattle.ac_top.specs.Settled.{HasNoTasks}
use Rattle.ac_top.specs.Words.{options}

both_none : (a b : Bool) → (a || b) ≡ false → (a ≡ false) × (b ≡ false)
both_none true b e = absurd (cc)
both_none false b e = (refl, e)

module _ (orders others : Orders) where
  block_same : (f h : Guards → State → Outcome) → f ≡ h → (guards : Guards) (tasks : ResolvedCode) (e : State) (head : ResolvedHead) → begins_tasks head ≡ false →
      block_on f guards orders tasks e head ≡ block_on h guards others tasks e head
  block_same f h same guards tasks e (loops_at line elements backward object) none =
      ap (λ b. on_object b guards (loops_at line elements backward object) (guarded_at (under guards e) object) e) same
  block_same f h same guards tasks e (views_at line kind object at) none =
      ap (λ b. on_object b guards (views_at line kind object at) (guarded_at (under guards e) object) e) same
  block_same f h same guards tasks e (stables_at line object) none =
      ap (λ b. on_object b guards (stables_at line object) (guarded_at (under guards e) object) e) same
  block_same f h same guards tasks e (declares_at line decls) none = ap (λ b. after_declared b guards e (after_decls decls e)) same
  block_same f h same guards tasks e (gathers_at line) none = absurd (cc)
  block_same f h same guards tasks e (works_at line name locals) none = refl
  block_same f h same guards tasks e begins_at none = λ i. same i guards e
  block_same f h same guards tasks e tries_at none = λ i. same i guards e
  block_same f h same guards tasks e (handles_at catches) none = refl

  exec_same : (propagates : Bool) (code : ResolvedCode) → has_tasks code ≡ false → (guards : Guards) (end : End) (e : State) →
      resolved_behind propagates orders code guards end e ≡ resolved_behind propagates others code guards end e
  exec_same propagates no_statement none guards end e = refl
  exec_same propagates (a_command simple rest) none guards None e =
      λ i. followed (passed_on propagates (commanded guards e simple)) (λ end now. exec_same propagates rest none guards end now i)
  exec_same propagates (a_command simple rest) none guards (Some raised) e = exec_same propagates rest none guards (Some raised) e
  exec_same propagates (a_block head body rest) none guards None e =
      let later = both_none (begins_tasks head || has_tasks body) (has_tasks rest) none in
      let here = both_none (begins_tasks head) (has_tasks body) later.0 in
      let own : Guards → State → Outcome = λ held. resolved_behind propagates orders body held None in
      let other : Guards → State → Outcome = λ held. resolved_behind propagates others body held None in
      λ i. followed
      (passed_on propagates (block_same own other (λ j held now. exec_same propagates body here.1 held None now j) guards body e head here.0 i))
      (λ end now. exec_same propagates rest later.1 guards end now i)
  exec_same propagates (a_block head body rest) none guards (Some raised) e =
      let later = both_none (begins_tasks head || has_tasks body) (has_tasks rest) none in
      let here = both_none (begins_tasks head) (has_tasks body) later.0 in
      λ i. if takes head raised then exec_same propagates body here.1 guards None e i
      else exec_same propagates rest later.1 guards (Some raised) e i

runs_resolved : (orders : Orders) (script : Script) (e : State) →
    resolved_behind (propagates_in script) orders (resolve (with_decls [] script.decls) script.stmts) [] None e ≡ run_from orders script e
runs_resolved orders script e = resolved.runs_resolved (propagates_in script) orders script.stmts (with_decls [] script.decls) [] None e

pub text_of_run : (orders : Orders) (script : Script) → text_with orders script ≡ lines_text (run_with orders script).lines
unfolding text_with
text_of_run orders script = refl

-- on any environment in which its outermost declarations stand

module _ (orders others : Orders) (script : Script) (none : has_tasks (resolve (with_decls [] script.decls) script.stmts) ≡ false) (e : State) where
  pub from_same : run_from orders script e ≡ run_from others script e
  from_same =
      sym (runs_resolved orders script e)
      ∙ (exec_same orders others (propagates_in script) (resolve (with_decls [] script.decls) script.stmts) none [] None e ∙ runs_resolved others script e)

  pub ran_same : (audit : Bool) (asking : Asking) (save : Bool) → ran_from orders audit asking save script e ≡ ran_from others audit asking save script e
  ran_same audit asking save = λ i. written (lines_text (from_same i).lines ++ lines_behind audit asking save script.decls (at_rest (from_same i).after))

module _ (orders others : Orders) (s : List Plain) (script : Script) (none : has_tasks (resolve (with_decls [] script.decls) script.stmts) ≡ false) where
  begun_same : (audit : Bool) (asking : Asking) (save : Bool) (beginning : Beginning) →
      begun orders audit asking save beginning s script ≡ begun others audit asking save beginning s script
  begun_same audit asking save begins = ran_same orders others script none (started s script) audit asking save
  begun_same audit asking save (stops_at line) = refl

  meant_same : (task : Task) (asking : Asking) (beginning : Beginning) → meant_by orders task asking beginning s script ≡ meant_by others task asking beginning s script
  meant_same (Run options) unasked beginning = begun_same options.audit unasked options.save beginning
  meant_same (Run options) (refuses kind) beginning = refl
  meant_same (Run options) (asks q) beginning = begun_same options.audit (asks q) options.save beginning
  meant_same Check asking beginning = refl

pub means_same : (orders others : Orders) (task : Task) (asking : Asking) (beginning : Beginning) (s : List Plain) (text : List ℕ) (m : Meaning) → HasNoTasks text →
    IsMeaningBy (meant_by orders task asking beginning s) text m → IsMeaningBy (meant_by others task asking beginning s) text m
means_same orders others task asking beginning s text m none (is_too_long long e) = is_too_long long e
means_same orders others task asking beginning s text m none (is_refused line kind short h e) = is_refused line kind short h e
means_same orders others task asking beginning s text m none (is_faulty script line kind short spells h e) = is_faulty script line kind short spells h e
means_same orders others task asking beginning s text m none (is_sound script short spells h e) =
    is_sound script short spells h (e ∙ meant_same orders others s script (none script spells) task asking beginning)

-- by one task

pub serial_text : (script : Script) → text_with no_orders script ≡ text_of script
unfolding text_with text_of run
serial_text script = refl

pub serial_run : (script : Script) → run_with no_orders script ≡ run script
unfolding run
serial_run script = refl

-- without a state, a question and a count

on_nothing : (orders : Orders) (script : Script) → run_from orders script (started [] script) ≡ run_with orders script
unfolding run_with
on_nothing orders script = refl

plain_ran : (script : Script) → meant_by no_orders (Run (options false None)) unasked begins [] script ≡ ran script
plain_ran script =
    ap written
    (append-nil (lines_text (run_from no_orders script (started [] script)).lines)
    ∙ (ap (λ (r : Outcome). lines_text r.lines) (on_nothing no_orders script) ∙ (sym (text_of_run no_orders script) ∙ serial_text script)))

no_entry : (before : List Plain) (entry : Plain) (later : List Plain) → [] ≡ before ++ entry ∷ later → ⊥
no_entry [] entry later is = cc
no_entry (p ∷ before) entry later is = cc

-- a script begins on no state
begins_on_nothing : (script : Script) (beginning : Beginning) → BeginsAs [] script beginning → beginning ≡ begins
begins_on_nothing script begins h = refl
begins_on_nothing script (stops_at line) h = absurd (no_entry h.before h.entry h.later h.is)

pub means_serial : (asking : Asking) (beginning : Beginning) (text : List ℕ) (m : Meaning) → BecomesOf None text asking → BeginsOf [] text beginning →
    IsMeaningBy (meant_by no_orders (Run (options false None)) asking beginning []) text m → IsMeaningBy ran text m
means_serial asking beginning text m becomes starts (is_too_long long e) = is_too_long long e
means_serial asking beginning text m becomes starts (is_refused line kind short h e) = is_refused line kind short h e
means_serial asking beginning text m becomes starts (is_faulty script line kind short s h e) = is_faulty script line kind short s h e
means_serial asking beginning text m becomes starts (is_sound script short s h e) =
    is_sound script short s h
    (e ∙ (λ i. meant_by no_orders (Run (options false None)) (becomes script s h i) (begins_on_nothing script beginning (starts script s h) i) [] script)
    ∙ plain_ran script)
