-- Each script can run, or has a first fault.
use Rattle.std.proofs.Common.{◌≡◌, ℕ, ◌+◌, List, [], ◌∷◌, ◌++◌, Option, Some, None, refl, ap, inl, inr}
use Rattle.std.specs.Prelude.{◌⊎◌}
use Rattle.ac_base.specs.declared.reason.Exception.{Exception}
use Rattle.ac_syntax.specs.Code.{Code, stop, one, block, handled, HandlerCode, no_handler, handler, Simple, call_at, set_at, sum_at, Head, loop_at, view_at, stable_at, declare_at, tasks_at, task_at}
use Rattle.ac_syntax.specs.Items.{item_line, commands, opens, bare}
use Rattle.ac_syntax.specs.declared.decl.Decl.{Decl}
use Rattle.ac_syntax.specs.declared.decl.Decl.TheVariants.{TypeDecl, Object, CursorVar, IntVar, TextVar}
use Rattle.ac_syntax.specs.declared.refusal.RefusalKind.{RefusalKind}
use Rattle.ac_syntax.specs.declared.script.Script.{Script}
use Rattle.ac_rules.specs.Scopes.{Scope, Standing, with_entry, decl_entry, with_decls, decls_in, behind_words, inside, behind_block, with_named, standing_decls, standings_from, handler_standings, standings}
use Rattle.ac_rules.specs.Faults.{capacity, IsFirstFault, IsChecked}
use Rattle.ac_rules.specs.Walks.{Outcome, goes_on, refused, step, outcome, fault_with}
use Rattle.ac_rules.proofs.FirstFaults.{faultless, first_fault}

-- each of these items stands on a line
abbrev AreLined : List Standing → Type 0
AreLined [] = Unit {0}
AreLined (s ∷ all) = (line : ℕ) × (item_line s.item ≡ Some line) × AreLined all

lined-append : (all more : List Standing) → AreLined all → AreLined more → AreLined (all ++ more)
lined-append [] more h k = k
lined-append (s ∷ all) more (line, is, h) k = (line, is, lined-append all more h k)

decls_lined : (scope : Scope) (decls : List Decl) → AreLined (standing_decls scope decls)
decls_lined scope [] = tt
decls_lined scope (TypeDecl line name def ∷ decls) = (line, refl, decls_lined (with_entry scope (decl_entry scope (TypeDecl line name def))) decls)
decls_lined scope (Object line name of room ∷ decls) = (line, refl, decls_lined (with_entry scope (decl_entry scope (Object line name of room))) decls)
decls_lined scope (CursorVar line name of ∷ decls) = (line, refl, decls_lined (with_entry scope (decl_entry scope (CursorVar line name of))) decls)
decls_lined scope (IntVar line name ∷ decls) = (line, refl, decls_lined (with_entry scope (decl_entry scope (IntVar line name))) decls)
decls_lined scope (TextVar line name ∷ decls) = (line, refl, decls_lined (with_entry scope (decl_entry scope (TextVar line name))) decls)

command_lined : (simple : Simple) → (line : ℕ) × (item_line (commands simple) ≡ Some line)
command_lined (call_at line target object word args) = (line, refl)
command_lined (set_at line target from) = (line, refl)
command_lined (sum_at line target from minus number) = (line, refl)

head_lined : (head : Head) → (line : ℕ) × (item_line (opens (bare head)) ≡ Some line)
head_lined (loop_at line name elements backward object) = (line, refl)
head_lined (view_at line view object at name) = (line, refl)
head_lined (stable_at line object) = (line, refl)
head_lined (declare_at line decls) = (line, refl)
head_lined (tasks_at line) = (line, refl)
head_lined (task_at line name locals) = (line, refl)

mutual
  code_lined : (scope : Scope) (code : Code) → AreLined (standings_from scope code)
  code_lined scope stop = tt
  code_lined scope (one simple rest) = let h = command_lined simple in (h.0, h.1, code_lined scope rest)
  code_lined scope (block head body rest) =
      let h = head_lined head in
      let later = standings_from (behind_block scope head) rest in
      let within = lined-append (standings_from (inside scope head) body) later (code_lined (inside scope head) body) (code_lined (behind_block scope head) rest) in (
        h.0,
        h.1,
        lined-append (standing_decls (behind_words scope head) (decls_in head)) (standings_from (inside scope head) body ++ later)
            (decls_lined (behind_words scope head) (decls_in head)) within,
      )
  code_lined scope (handled line body handlers rest) =
      let later = lined-append (handler_standings scope [] handlers) (standings_from scope rest) (handlers_lined scope [] handlers) (code_lined scope rest) in (
        line,
        refl,
        lined-append (standings_from scope body) (handler_standings scope [] handlers ++ standings_from scope rest) (code_lined scope body) later,
      )

  handlers_lined : (scope : Scope) (named : List Exception) (handlers : HandlerCode) → AreLined (handler_standings scope named handlers)
  handlers_lined scope named no_handler = tt
  handlers_lined scope named (handler line own body more) = (
    line,
    refl,
    lined-append (standings_from scope body) (handler_standings scope (with_named named own) more) (code_lined scope body)
        (handlers_lined scope (with_named named own) more),
  )

script_lined : (script : Script) → AreLined (standings script)
unfolding standings
script_lined script =
    lined-append (standing_decls [] script.decls) (standings_from (with_decls [] script.decls) script.stmts)
    (decls_lined [] script.decls) (code_lined (with_decls [] script.decls) script.stmts)

-- where a walk over such items ends
abbrev Ends : Outcome → Type 0
Ends o = ((room : ℕ) × (o ≡ goes_on room)) ⊎ ((line : ℕ) × (kind : RefusalKind) × (o ≡ refused (Some line) kind))

step_ends : (f : Option RefusalKind) (line : ℕ) (at : Option ℕ) (further : Outcome) → at ≡ Some line → Ends further → Ends (step f at further)
step_ends None line at further is ends = ends
step_ends (Some kind) line at further is ends = inr (line, kind, ap (λ l. refused l kind) is)

walk_ends : (room : ℕ) (all : List Standing) → AreLined all → Ends (outcome room all)
walk_ends room [] lined = inl (room, refl)
walk_ends room (s ∷ all) (line, is, lined) =
    step_ends (fault_with room s) line (item_line s.item) (outcome (room + capacity s.item) all) is (walk_ends (room + capacity s.item) all lined)

judged : (script : Script) → Ends (outcome 0 (standings script)) → IsChecked script ⊎ ((line : ℕ) × (kind : RefusalKind) × IsFirstFault script line kind)
judged script (inl (room, on)) = inl (faultless (standings script) room on)
judged script (inr (line, kind, at)) = inr (line, kind, first_fault script line kind at)

pub each_script : (script : Script) → IsChecked script ⊎ ((line : ℕ) × (kind : RefusalKind) × IsFirstFault script line kind)
each_script script = judged script (walk_ends 0 (standings script) (script_lined script))
