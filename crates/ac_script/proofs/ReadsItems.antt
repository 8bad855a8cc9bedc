-- The reader of an item reads the items that may come.
use Rattle.std.proofs.Common.{◌≡◌, Bool, ◌<◌, ◌≤◌, length-append, ℕ, List, [], ◌∷◌, ◌++◌, length, refl, sym, ap, subst, ◌∙◌, Some, None, arith}
use Rattle.ac_syntax.specs.declared.closing.Closing.{Closing}
use Rattle.ac_syntax.specs.declared.closing.Closing.TheVariants.{EndLoop, End, EndTasks, EndTask, EndTried, EndHandlers, EndOthers}
use Rattle.ac_syntax.specs.Code.{Simple, call_at, set_at, sum_at, Head, loop_at, view_at, stable_at, declare_at, tasks_at, task_at}
use Rattle.ac_syntax.specs.Items.{Item, declares, commands, opens, begins, closes, propagates, tries, catches, item_line}
use Rattle.ac_syntax.specs.Order.{Stage, fronting, listing, heading, running, tasking, tasked, preparing, stepping, catching, entered, task_entered, prepared, next_after}
use Rattle.ac_syntax.specs.declared.decl.Decl.{Decl}
use Rattle.ac_syntax.specs.declared.decl.Decl.TheVariants.{TypeDecl, Object, CursorVar, IntVar, TextVar}
use Rattle.ac_syntax.specs.declared.view_kind.ViewKind.TheVariants as view
use Rattle.ac_syntax.specs.declared.token.Placed.{Placed}
use Rattle.ac_syntax.specs.Tokens.{tokens}
use Rattle.ac_syntax.specs.Parts.{item_parts}
use Rattle.ac_syntax.specs.Grammar.{AreParts, BeginsOn, IsItem}
use Rattle.ac_script.specs.Outcomes.{got, stopped}
use Rattle.ac_script.specs.ItemReader.{item_on, item, innermost_of}
use Rattle.ac_script.specs.ExactItems.{MayCome, MayCatch, IsFront, IsBegun, ReadsItems}
use Rattle.ac_script.proofs.Spelled.{Spelled}
use Rattle.ac_script.proofs.Exact.{Found}
use Rattle.ac_script.proofs.Arguments.{spelled_some}
use Rattle.ac_script.proofs.Coming.{decl_on, simple_on, head_on, relined, Coming, item_on_exact}

-- on another line an item has the same parts
decl_parts_on : (line : ℕ) (decl : Decl) → item_parts (declares (decl_on line decl)) ≡ item_parts (declares decl)
unfolding item_parts
decl_parts_on line (TypeDecl _ _ _) = refl
decl_parts_on line (Object _ _ _ _) = refl
decl_parts_on line (CursorVar _ _ _) = refl
decl_parts_on line (IntVar _ _) = refl
decl_parts_on line (TextVar _ _) = refl

simple_parts_on : (line : ℕ) (simple : Simple) → item_parts (commands (simple_on line simple)) ≡ item_parts (commands simple)
unfolding item_parts
simple_parts_on line (call_at _ _ _ _ _) = refl
simple_parts_on line (set_at _ _ _) = refl
simple_parts_on line (sum_at _ _ _ _ _) = refl

head_parts_on : (line : ℕ) (head : Head) → item_parts (opens (head_on line head)) ≡ item_parts (opens head)
unfolding item_parts
head_parts_on line (loop_at _ _ _ _ _) = refl
head_parts_on line (view_at _ _ _ _ _) = refl
head_parts_on line (stable_at _ _) = refl
head_parts_on line (declare_at _ _) = refl
head_parts_on line (tasks_at _) = refl
head_parts_on line (task_at _ _ _) = refl

parts_on : (line : ℕ) (item : Item) → item_parts (relined line item) ≡ item_parts item
unfolding item_parts
parts_on line (declares decl) = decl_parts_on line decl
parts_on line (commands simple) = simple_parts_on line simple
parts_on line (opens head) = head_parts_on line head
parts_on line begins = refl
parts_on line (closes _) = refl
parts_on line (propagates _) = refl
parts_on line (tries _) = refl
parts_on line (catches _ _) = refl

-- and may come where it may
entered_on : (propagating : Bool) (blocks : List Closing) (line : ℕ) (head : Head) → entered propagating blocks (head_on line head) ≡ entered propagating blocks head
entered_on propagating blocks line (loop_at _ _ _ _ _) = refl
entered_on propagating blocks line (view_at _ _ _ _ _) = refl
entered_on propagating blocks line (stable_at _ _) = refl
entered_on propagating blocks line (declare_at _ []) = refl
entered_on propagating blocks line (declare_at _ (_ ∷ _)) = refl
entered_on propagating blocks line (tasks_at _) = refl
entered_on propagating blocks line (task_at _ _ _) = refl

task_entered_on : (propagating : Bool) (blocks : List Closing) (line : ℕ) (head : Head) → task_entered propagating blocks (head_on line head) ≡ task_entered propagating blocks head
task_entered_on propagating blocks line (loop_at _ _ _ _ _) = refl
task_entered_on propagating blocks line (view_at _ _ _ _ _) = refl
task_entered_on propagating blocks line (stable_at _ _) = refl
task_entered_on propagating blocks line (declare_at _ _) = refl
task_entered_on propagating blocks line (tasks_at _) = refl
task_entered_on propagating blocks line (task_at _ _ []) = refl
task_entered_on propagating blocks line (task_at _ _ (_ ∷ _)) = refl

prepared_on : (propagating : Bool) (blocks : List Closing) (line : ℕ) (decl : Decl) → prepared propagating blocks (decl_on line decl) ≡ prepared propagating blocks decl
prepared_on propagating blocks line (TypeDecl _ _ _) = refl
prepared_on propagating blocks line (Object _ _ _ _) = refl
prepared_on propagating blocks line (CursorVar _ _ _) = refl
prepared_on propagating blocks line (IntVar _ _) = refl
prepared_on propagating blocks line (TextVar _ _) = refl

next_on : (propagating : Bool) (blocks : List Closing) (stage : Stage) (line : ℕ) (item : Item) → next_after propagating blocks stage (relined line item) ≡ next_after propagating blocks stage item
next_on propagating blocks fronting line (declares _) = refl
next_on propagating blocks listing line (declares _) = refl
next_on propagating blocks heading line (declares _) = refl
next_on propagating blocks running line (declares _) = refl
next_on propagating blocks tasking line (declares _) = refl
next_on propagating blocks tasked line (declares _) = refl
next_on propagating blocks preparing line (declares decl) = prepared_on propagating blocks line decl
next_on propagating blocks stepping line (declares _) = refl
next_on propagating blocks catching line (declares _) = refl
next_on propagating blocks fronting line (commands _) = refl
next_on propagating blocks listing line (commands _) = refl
next_on propagating blocks heading line (commands _) = refl
next_on propagating blocks running line (commands _) = refl
next_on propagating blocks tasking line (commands _) = refl
next_on propagating blocks tasked line (commands _) = refl
next_on propagating blocks preparing line (commands _) = refl
next_on propagating blocks stepping line (commands _) = refl
next_on propagating blocks catching line (commands _) = refl
next_on propagating blocks fronting line (opens head) = entered_on propagating blocks line head
next_on propagating blocks listing line (opens head) = entered_on propagating blocks line head
next_on propagating blocks heading line (opens _) = refl
next_on propagating blocks running line (opens head) = entered_on propagating blocks line head
next_on propagating blocks tasking line (opens head) = task_entered_on propagating blocks line head
next_on propagating blocks tasked line (opens head) = task_entered_on propagating blocks line head
next_on propagating blocks preparing line (opens _) = refl
next_on propagating blocks stepping line (opens _) = refl
next_on propagating blocks catching line (opens _) = refl
next_on propagating blocks stage line begins = refl
next_on propagating blocks stage line (closes _) = refl
next_on propagating blocks fronting line (propagates _) = refl
next_on propagating blocks listing line (propagates _) = refl
next_on propagating blocks heading line (propagates _) = refl
next_on propagating blocks running line (propagates _) = refl
next_on propagating blocks tasking line (propagates _) = refl
next_on propagating blocks tasked line (propagates _) = refl
next_on propagating blocks preparing line (propagates _) = refl
next_on propagating blocks stepping line (propagates _) = refl
next_on propagating blocks catching line (propagates _) = refl
next_on propagating blocks fronting line (tries _) = refl
next_on propagating blocks listing line (tries _) = refl
next_on propagating blocks heading line (tries _) = refl
next_on propagating blocks running line (tries _) = refl
next_on propagating blocks tasking line (tries _) = refl
next_on propagating blocks tasked line (tries _) = refl
next_on propagating blocks preparing line (tries _) = refl
next_on propagating blocks stepping line (tries _) = refl
next_on propagating blocks catching line (tries _) = refl
next_on propagating blocks fronting line (catches _ _) = refl
next_on propagating blocks listing line (catches _ _) = refl
next_on propagating blocks heading line (catches _ _) = refl
next_on propagating blocks running line (catches _ _) = refl
next_on propagating blocks tasking line (catches _ _) = refl
next_on propagating blocks tasked line (catches _ _) = refl
next_on propagating blocks preparing line (catches _ _) = refl
next_on propagating blocks stepping line (catches _ _) = refl
next_on propagating blocks catching line (catches _ _) = refl

may_on : (propagating : Bool) (blocks : List Closing) (stage : Stage) (line : ℕ) (item : Item) → MayCome propagating blocks stage item → MayCome propagating blocks stage (relined line item)
may_on propagating blocks stage line item may = record { next = may.next; leads = next_on propagating blocks stage line item ∙ may.leads }

-- it begins on that line
begins_on : (first : Placed) (others : List Placed) (item : Item) → BeginsOn (item_line (relined first.line item)) (first ∷ others)
begins_on first others (declares (TypeDecl _ _ _)) = refl
begins_on first others (declares (Object _ _ _ _)) = refl
begins_on first others (declares (CursorVar _ _ _)) = refl
begins_on first others (declares (IntVar _ _)) = refl
begins_on first others (declares (TextVar _ _)) = refl
begins_on first others (commands (call_at _ _ _ _ _)) = refl
begins_on first others (commands (set_at _ _ _)) = refl
begins_on first others (commands (sum_at _ _ _ _ _)) = refl
begins_on first others (opens (loop_at _ _ _ _ _)) = refl
begins_on first others (opens (view_at _ _ _ _ _)) = refl
begins_on first others (opens (stable_at _ _)) = refl
begins_on first others (opens (declare_at _ _)) = refl
begins_on first others (opens (tasks_at _)) = refl
begins_on first others (opens (task_at _ _ _)) = refl
begins_on first others begins = tt
begins_on first others (closes _) = tt
begins_on first others (propagates _) = refl
begins_on first others (tries _) = refl
begins_on first others (catches _ _) = refl

-- and is the same item where it began there
lined : (first : Placed) (others : List Placed) (item : Item) → BeginsOn (item_line item) (first ∷ others) → relined first.line item ≡ item
lined first others (declares (TypeDecl _ name def)) e = ap (λ line. declares (TypeDecl line name def)) e
lined first others (declares (Object _ name of capacity)) e = ap (λ line. declares (Object line name of capacity)) e
lined first others (declares (CursorVar _ name of)) e = ap (λ line. declares (CursorVar line name of)) e
lined first others (declares (IntVar _ name)) e = ap (λ line. declares (IntVar line name)) e
lined first others (declares (TextVar _ name)) e = ap (λ line. declares (TextVar line name)) e
lined first others (commands (call_at _ target object operation args)) e = ap (λ line. commands (call_at line target object operation args)) e
lined first others (commands (set_at _ target from)) e = ap (λ line. commands (set_at line target from)) e
lined first others (commands (sum_at _ target from minus number)) e = ap (λ line. commands (sum_at line target from minus number)) e
lined first others (opens (loop_at _ name elements backward object)) e = ap (λ line. opens (loop_at line name elements backward object)) e
lined first others (opens (view_at _ kind object at name)) e = ap (λ line. opens (view_at line kind object at name)) e
lined first others (opens (stable_at _ object)) e = ap (λ line. opens (stable_at line object)) e
lined first others (opens (declare_at _ decls)) e = ap (λ line. opens (declare_at line decls)) e
lined first others (opens (tasks_at _)) e = ap (λ line. opens (tasks_at line)) e
lined first others (opens (task_at _ name locals)) e = ap (λ line. opens (task_at line name locals)) e
lined first others begins e = refl
lined first others (closes _) e = refl
lined first others (propagates _) e = ap propagates e
lined first others (tries _) e = ap tries e
lined first others (catches _ exception) e = ap (λ line. catches line exception) e

-- an item has a part
has_part : (item : Item) → 1 ≤ length (item_parts item)
unfolding item_parts
has_part (declares (TypeDecl _ _ _)) = omega arith
has_part (declares (Object _ _ _ _)) = omega arith
has_part (declares (CursorVar _ _ _)) = omega arith
has_part (declares (IntVar _ _)) = omega arith
has_part (declares (TextVar _ _)) = omega arith
has_part (commands (call_at _ None _ _ _)) = omega arith
has_part (commands (call_at _ (Some _) _ _ _)) = omega arith
has_part (commands (set_at _ _ _)) = omega arith
has_part (commands (sum_at _ _ _ _ _)) = omega arith
has_part (opens (loop_at _ _ _ _ _)) = omega arith
has_part (opens (view_at _ view.Query _ _ _)) = omega arith
has_part (opens (view_at _ view.Update _ _ _)) = omega arith
has_part (opens (view_at _ view.UpdateKey _ _ _)) = omega arith
has_part (opens (view_at _ view.Reference _ _ _)) = omega arith
has_part (opens (stable_at _ _)) = omega arith
has_part (opens (declare_at _ _)) = omega arith
has_part (opens (tasks_at _)) = omega arith
has_part (opens (task_at _ _ _)) = omega arith
has_part begins = omega arith
has_part (closes EndLoop) = omega arith
has_part (closes End) = omega arith
has_part (closes EndTasks) = omega arith
has_part (closes EndTask) = omega arith
has_part (closes EndTried) = omega arith
has_part (closes EndHandlers) = omega arith
has_part (closes EndOthers) = omega arith
has_part (propagates _) = omega arith
has_part (tries _) = omega arith
has_part (catches _ _) = omega arith

-- some tokens
record Nonempty (placed : List Placed) : Type 0 where
  first : Placed
  others : List Placed
  whole : placed ≡ first ∷ others

nonempty : (item : Item) (placed : List Placed) → Spelled (item_parts item) placed → Nonempty placed
nonempty item [] h = absurd (omega (arith, has_part item, spelled_some (item_parts item) [] h))
nonempty item (p ∷ placed) h = record { first = p; others = placed; whole = refl }

-- what spells an item is that item on the line of the first token
is_item : (first : Placed) (others : List Placed) (it : Item) → Spelled (item_parts it) (first ∷ others) → IsItem (relined first.line it) (first ∷ others)
is_item first others it h = record {
  spelled = subst (λ ps. AreParts ps (tokens (first ∷ others))) (sym (parts_on first.line it)) h.spelled;
  begins = begins_on first others it;
}

module _ (propagating : Bool) (blocks : List Closing) (stage : Stage) (may : MayCatch blocks stage) where
  found_front : (p : Placed) (placed : List Placed) (it : Item) (rest : List Placed) → Found (λ (j : Coming propagating blocks stage). relined p.line j.0) (λ j. item_parts j.0) (p ∷ placed) it rest
      → IsFront propagating blocks stage (p ∷ placed) it rest
  found_front p placed it rest f =
      let some = nonempty f.index.0 f.front f.spelled in
      let all : p ∷ placed ≡ some.first ∷ (some.others ++ rest) = f.whole ∙ ap (λ list. list ++ rest) some.whole in
      let same : some.first ≡ p = cc all in
      let is : IsItem (relined some.first.line f.index.0) (some.first ∷ some.others) = is_item some.first some.others f.index.0 (subst (Spelled (item_parts f.index.0)) some.whole f.spelled) in
      record {
        first = some.first;
        others = some.others;
        whole = all;
        is = subst (λ it. IsItem it (some.first ∷ some.others)) (ap (λ (p : Placed). relined p.line f.index.0) same ∙ sym f.value) is;
        may = subst (MayCome propagating blocks stage) (sym f.value) (may_on propagating blocks stage p.line f.index.0 f.index.1);
      }

  item_found : (placed : List Placed) (it : Item) (rest : List Placed) → item propagating stage (innermost_of blocks) placed ≡ got it rest → IsFront propagating blocks stage placed it rest
  item_found [] it rest e = absurd (cc e)
  item_found (p ∷ placed) it rest e = found_front p placed it rest ((item_on_exact propagating blocks stage may p.line).found (p ∷ placed) it rest e)

  only_front : (it : Item) (p : Placed) (others rest : List Placed) → MayCome propagating blocks stage it → IsItem it (p ∷ others) → item propagating stage (innermost_of blocks) ((p ∷ others) ++ rest) ≡ got it rest
  only_front it p others rest come is =
      (item_on_exact propagating blocks stage may p.line).only (it, come) (p ∷ others) rest (record { spelled = is.spelled }) ∙ ap (λ it. got it rest) (lined p others it is.begins)

  item_only : (it : Item) (front rest : List Placed) → MayCome propagating blocks stage it → IsItem it front → item propagating stage (innermost_of blocks) (front ++ rest) ≡ got it rest
  item_only it [] rest come is = absurd (empty_item (nonempty it [] (record { spelled = is.spelled }))) where
    empty_item : Nonempty [] → ⊥
    empty_item some = absurd (cc (some.whole))
  item_only it (p ∷ front) rest come is = only_front it p front rest come is

  begun_by : (placed at before more : List Placed) (j : Coming propagating blocks stage) → placed ≡ before ++ at → Spelled (item_parts j.0) (before ++ more) → IsBegun propagating blocks stage placed at
  begun_by placed at before more j whole h =
      let some = nonempty j.0 (before ++ more) h in
      record {
        before = before;
        more = more;
        item = relined some.first.line j.0;
        whole = whole;
        is = subst (IsItem (relined some.first.line j.0)) (sym some.whole) (is_item some.first some.others j.0 (subst (Spelled (item_parts j.0)) some.whole h));
        may = may_on propagating blocks stage some.first.line j.0 j.1;
      }

  item_begun : (placed at : List Placed) → item propagating stage (innermost_of blocks) placed ≡ stopped at → IsBegun propagating blocks stage placed at
  item_begun [] at e =
      let some = (item_on_exact propagating blocks stage may 0).some in
      begun_by [] at [] some.front some.index (cc e) some.spelled
  item_begun (p ∷ placed) at e =
      let begun = (item_on_exact propagating blocks stage may p.line).begun (p ∷ placed) at e in
      begun_by (p ∷ placed) at begun.before begun.more begun.index begun.whole begun.spelled

  bad_by : (before : List Placed) (b : Placed) (after more : List Placed) (it : Item) (line : ℕ) → item_on propagating stage (innermost_of blocks) line (before ++ b ∷ after) ≡ stopped (b ∷ after)
      → MayCome propagating blocks stage it → IsItem it (before ++ b ∷ more) → ⊥
  bad_by before b after more it line e come is = (item_on_exact propagating blocks stage may line).bad before b after more (it, come) e (record { spelled = is.spelled })

  bad_at : (before : List Placed) (b : Placed) (after more : List Placed) (it : Item) → item propagating stage (innermost_of blocks) (before ++ b ∷ after) ≡ stopped (b ∷ after)
      → MayCome propagating blocks stage it → IsItem it (before ++ b ∷ more) → ⊥
  bad_at [] b after more it e come is = bad_by [] b after more it b.line e come is
  bad_at (p ∷ before) b after more it e come is = bad_by (p ∷ before) b after more it p.line e come is

  item_bad : (placed before : List Placed) (b : Placed) (after more : List Placed) (it : Item) → item propagating stage (innermost_of blocks) placed ≡ stopped (b ∷ after) → placed ≡ before ++ b ∷ after
      → MayCome propagating blocks stage it → IsItem it (before ++ b ∷ more) → ⊥
  item_bad placed before b after more it e whole come is = bad_at before b after more it (ap (item propagating stage (innermost_of blocks)) (sym whole) ∙ e) come is

  pub items_read : ReadsItems propagating blocks stage (item propagating stage (innermost_of blocks))
  items_read = record { found = item_found; only = item_only; begun = item_begun; bad = item_bad }

-- what is read leaves fewer tokens
pub item_leaves : (propagating : Bool) (blocks : List Closing) (stage : Stage) → MayCatch blocks stage → (placed : List Placed) (it : Item) (rest : List Placed)
    → item propagating stage (innermost_of blocks) placed ≡ got it rest → length rest < length placed
item_leaves propagating blocks stage may placed it rest e =
    let front = (items_read propagating blocks stage may).found placed it rest e in
    omega (arith, ap length front.whole, length-append front.others rest)
