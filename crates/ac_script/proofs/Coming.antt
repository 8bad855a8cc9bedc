-- The items that may come are those that are read.
use Rattle.std.proofs.Common.{◌≡◌, ℕ, Bool, true, false, Option, List, [], ◌∷◌, refl, sym, ap, subst, inl, inr, Some, None, codes}
use Rattle.std.proofs.lemmas.Option.{none-some}
use Rattle.ac_base.specs.declared.reason.Exception.{Exception}
use Rattle.ac_syntax.specs.declared.closing.Closing.{Closing}
use Rattle.ac_syntax.specs.declared.closing.Closing.TheVariants.{EndLoop, End, EndTasks, EndTask, EndTried, EndHandlers, EndOthers}
use Rattle.ac_syntax.specs.Code.{Simple, call_at, set_at, sum_at, Head, loop_at, view_at, stable_at, declare_at, tasks_at, task_at}
use Rattle.ac_syntax.specs.Items.{Item, declares, commands, opens, begins, closes, propagates, tries, catches}
use Rattle.ac_syntax.specs.Order.{Stage, fronting, listing, heading, running, tasking, tasked, preparing, stepping, catching, Context, entered, task_entered, tried, caught, left_behind, next_after}
use Rattle.ac_syntax.proofs.Orders.{left_own, left_from}
use Rattle.ac_syntax.specs.declared.decl.Decl.{Decl}
use Rattle.ac_syntax.specs.declared.decl.Decl.TheVariants.{TypeDecl, Object, CursorVar, IntVar, TextVar}
use Rattle.ac_syntax.specs.declared.view_kind.ViewKind.TheVariants as view
use Rattle.ac_syntax.specs.declared.token.Placed.{Placed}
use Rattle.ac_syntax.specs.declared.token.Mark.TheVariants.{Colon}
use Rattle.ac_syntax.specs.Parts.{Part, says, marks, names, decl_parts, simple_parts, head_parts, closing_parts, item_parts}
use Rattle.ac_script.specs.declared.head.Lead.TheVariants as lead
use Rattle.ac_script.specs.ItemReader.{may_catch, item_on, innermost_of}
use Rattle.ac_script.specs.ExactItems.{MayCome, MayCatch}
use Rattle.ac_script.proofs.Spelled.{Spelled}
use Rattle.ac_script.proofs.Exact.{Exact, respelled}
use Rattle.ac_script.proofs.DeclarationsExact.{Declared, an_integer, a_text, a_cursor, an_object, declared_decl, declared_parts}
use Rattle.ac_script.proofs.HeadsExact.{told_head}
use Rattle.ac_script.proofs.CommandsExact.{a_value, a_result, a_sum, Commanded, a_call, an_assignment, commanded_simple, commanded_parts}
use Rattle.ac_script.proofs.ItemsExact.{end_part, closing_rest, Typed, typed_item, typed_parts, Block, block_item, block_parts, Begun, Listed, listed_item, listed_parts, in_listing_exact, Fronted, fronted_item, fronted_parts, in_fronting_exact, handler_parts, in_catching_exact, Another, another_item, another_parts, Handled, handled_item, handled_parts, handled_exact, Headed, headed_item, headed_parts, in_heading_exact, Ended, ended_item, ended_parts, ended_exact, task_parts, in_tasking_exact, Tasked, tasked_item, tasked_parts, in_tasked_exact, Prepared, prepared_item, prepared_parts, in_preparing_exact}

abbrev pub decl_on : ℕ → Decl → Decl
decl_on line (TypeDecl _ name def) = TypeDecl line name def
decl_on line (Object _ name of capacity) = Object line name of capacity
decl_on line (CursorVar _ name of) = CursorVar line name of
decl_on line (IntVar _ name) = IntVar line name
decl_on line (TextVar _ name) = TextVar line name

abbrev pub simple_on : ℕ → Simple → Simple
simple_on line (call_at _ target object operation args) = call_at line target object operation args
simple_on line (set_at _ target from) = set_at line target from
simple_on line (sum_at _ target from minus number) = sum_at line target from minus number

abbrev pub head_on : ℕ → Head → Head
head_on line (loop_at _ name elements backward object) = loop_at line name elements backward object
head_on line (view_at _ kind object at name) = view_at line kind object at name
head_on line (stable_at _ object) = stable_at line object
head_on line (declare_at _ decls) = declare_at line decls
head_on line (tasks_at _) = tasks_at line
head_on line (task_at _ name locals) = task_at line name locals

-- the same item on this line
abbrev pub relined : ℕ → Item → Item
relined line (declares decl) = declares (decl_on line decl)
relined line (commands simple) = commands (simple_on line simple)
relined line (opens head) = opens (head_on line head)
relined line begins = begins
relined line (closes closing) = closes closing
relined line (propagates _) = propagates line
relined line (tries _) = tries line
relined line (catches _ exception) = catches line exception

-- an item that may come
abbrev pub Coming : (propagating : Bool) → List Closing → Stage → Type 0
Coming propagating blocks stage = (item : Item) × MayCome propagating blocks stage item

-- what is read is an item that may come
abbrev Into : (propagating : Bool) → List Closing → Stage → ℕ → Item → List Part → Type 0
Into propagating blocks stage line item parts = (j : Coming propagating blocks stage) × (item ≡ relined line j.0) × (parts ≡ item_parts j.0)

may_enter : (propagating : Bool) (blocks : List Closing) (line : ℕ) (b : Block) → (next : Context) × (entered propagating blocks (told_head line b.0 b.1) ≡ Some next)
may_enter propagating blocks line (lead.For, t) = (_, refl)
may_enter propagating blocks line (lead.Query, t) = (_, refl)
may_enter propagating blocks line (lead.Update, t) = (_, refl)
may_enter propagating blocks line (lead.UpdateKey, t) = (_, refl)
may_enter propagating blocks line (lead.Reference, t) = (_, refl)
may_enter propagating blocks line (lead.Stable, t) = (_, refl)
may_enter propagating blocks line (lead.Declare, t) = (_, refl)
may_enter propagating blocks line (lead.Tasks, t) = (_, refl)

block_lined : (line : ℕ) (b : Block) → told_head line b.0 b.1 ≡ head_on line (told_head line b.0 b.1)
block_lined line (lead.For, t) = refl
block_lined line (lead.Query, t) = refl
block_lined line (lead.Update, t) = refl
block_lined line (lead.UpdateKey, t) = refl
block_lined line (lead.Reference, t) = refl
block_lined line (lead.Stable, t) = refl
block_lined line (lead.Declare, t) = refl
block_lined line (lead.Tasks, t) = refl

block_read : (line : ℕ) (b : Block) → block_parts b ≡ head_parts (told_head line b.0 b.1)
block_read line (lead.For, t) = refl
block_read line (lead.Query, (object, None, name)) = refl
block_read line (lead.Query, (object, Some c, name)) = refl
block_read line (lead.Update, (object, None, name)) = refl
block_read line (lead.Update, (object, Some c, name)) = refl
block_read line (lead.UpdateKey, t) = refl
block_read line (lead.Reference, t) = refl
block_read line (lead.Stable, t) = refl
block_read line (lead.Declare, t) = refl
block_read line (lead.Tasks, t) = refl

declared_lined : (line : ℕ) (n : List ℕ) (d : Declared) → declared_decl line n d ≡ decl_on line (declared_decl line n d)
declared_lined line n an_integer = refl
declared_lined line n a_text = refl
declared_lined line n (a_cursor _) = refl
declared_lined line n (an_object _ _) = refl

declared_read : (line : ℕ) (n : List ℕ) (d : Declared) → names n ∷ marks Colon ∷ declared_parts d ≡ decl_parts (declared_decl line n d)
declared_read line n an_integer = refl
declared_read line n a_text = refl
declared_read line n (a_cursor _) = refl
declared_read line n (an_object _ _) = refl

commanded_lined : (line : ℕ) (n : List ℕ) (c : Commanded) → commanded_simple line n c ≡ simple_on line (commanded_simple line n c)
commanded_lined line n (a_call _ _) = refl
commanded_lined line n (an_assignment (a_value _)) = refl
commanded_lined line n (an_assignment (a_result _ _ _)) = refl
commanded_lined line n (an_assignment (a_sum _ _ _)) = refl

commanded_read : (line : ℕ) (n : List ℕ) (c : Commanded) → names n ∷ commanded_parts c ≡ simple_parts (commanded_simple line n c)
commanded_read line n (a_call _ _) = refl
commanded_read line n (an_assignment (a_value _)) = refl
commanded_read line n (an_assignment (a_result _ _ _)) = refl
commanded_read line n (an_assignment (a_sum _ _ _)) = refl

closing_read : (l : Closing) → end_part l ∷ closing_rest l ≡ closing_parts l
closing_read EndLoop = refl
closing_read End = refl
closing_read EndTasks = refl
closing_read EndTask = refl
closing_read EndTried = refl
closing_read EndHandlers = refl
closing_read EndOthers = refl

-- the words that may come are those of the innermost block
ended_own : (propagating : Bool) (b l : Closing) (blocks : List Closing) (next : Context) → left_behind propagating l (b ∷ blocks) ≡ Some next → b ≡ l
ended_own propagating b l blocks next e = cc (left_from propagating l (b ∷ blocks) next e).1

ended_read : (propagating : Bool) (b l : Closing) (blocks : List Closing) (next : Context) (front : List Placed) → left_behind propagating l (b ∷ blocks) ≡ Some next → Spelled (closing_parts l) front → Spelled (end_part b ∷ closing_rest b) front
ended_read propagating b l blocks next front e h =
    subst (λ x. Spelled (end_part x ∷ closing_rest x) front) (sym (ended_own propagating b l blocks next e)) (subst (λ ps. Spelled ps front) (sym (closing_read l)) h)

-- `begin` of a block with handlers
abbrev Begins : Stage → Type 0
Begins stage = (propagating : Bool) (blocks : List Closing) (line : ℕ) (b : Begun propagating) → Into propagating blocks stage line (tries line) (says (codes "begin") ∷ [])

begun_listing : Begins listing
unfolding item_parts
begun_listing true blocks line b = ((tries line, record { next = _; leads = refl }), refl, refl)
begun_listing false blocks line b = absurd b

begun_running : Begins running
unfolding item_parts
begun_running true blocks line b = ((tries line, record { next = _; leads = refl }), refl, refl)
begun_running false blocks line b = absurd b

listed_into : (propagating : Bool) (blocks : List Closing) (line : ℕ) (i : Listed propagating (innermost_of blocks))
    → Into propagating blocks listing line (listed_item propagating (innermost_of blocks) line i) (listed_parts propagating (innermost_of blocks) i)
unfolding item_parts
listed_into propagating blocks line (inl i) = ((typed_item line i, record { next = _; leads = refl }), refl, refl)
listed_into propagating blocks line (inr (inl b)) = begun_listing propagating blocks line b
listed_into propagating blocks line (inr (inr (inl b))) =
    let may = may_enter propagating blocks line b in
    ((block_item line b, record { next = may.0; leads = may.1 }), ap opens (block_lined line b), block_read line b)
listed_into propagating [] line (inr (inr (inr (inl e)))) = absurd e
listed_into propagating (l ∷ blocks) line (inr (inr (inr (inl e)))) = ((closes l, record { next = _; leads = left_own propagating l blocks }), refl, closing_read l)
listed_into propagating blocks line (inr (inr (inr (inr (n, inl d))))) =
    ((declares (declared_decl line n d), record { next = _; leads = refl }), ap declares (declared_lined line n d), declared_read line n d)
listed_into propagating blocks line (inr (inr (inr (inr (n, inr c))))) =
    ((commands (commanded_simple line n c), record { next = _; leads = refl }), ap commands (commanded_lined line n c), commanded_read line n c)

-- what may come among declarations may come at the front of a script
may_front : (propagating : Bool) (blocks : List Closing) (item : Item) → MayCome propagating blocks listing item → MayCome propagating blocks fronting item
may_front propagating blocks (declares _) may = record { next = may.next; leads = may.leads }
may_front propagating blocks (commands _) may = record { next = may.next; leads = may.leads }
may_front propagating blocks (opens _) may = record { next = may.next; leads = may.leads }
may_front propagating blocks begins may = absurd (none-some may.next may.leads)
may_front propagating blocks (closes _) may = record { next = may.next; leads = may.leads }
may_front propagating blocks (propagates _) may = absurd (none-some may.next may.leads)
may_front propagating blocks (tries _) may = record { next = may.next; leads = may.leads }
may_front propagating blocks (catches _ _) may = absurd (none-some may.next may.leads)

fronted_into : (propagating : Bool) (blocks : List Closing) (line : ℕ) (i : Fronted propagating (innermost_of blocks))
    → Into propagating blocks fronting line (fronted_item propagating (innermost_of blocks) line i) (fronted_parts propagating (innermost_of blocks) i)
unfolding item_parts
fronted_into propagating blocks line (inl _) = ((propagates line, record { next = _; leads = refl }), refl, refl)
fronted_into propagating blocks line (inr i) =
    let into = listed_into propagating blocks line i in
    ((into.0.0, may_front propagating blocks into.0.0 into.0.1), into.1, into.2)

headed_into : (propagating : Bool) (blocks : List Closing) (line : ℕ) (i : Headed) → Into propagating blocks heading line (headed_item line i) (headed_parts i)
unfolding item_parts
headed_into propagating blocks line (inl _) = ((begins, record { next = _; leads = refl }), refl, refl)
headed_into propagating blocks line (inr (inl i)) = ((typed_item line i, record { next = _; leads = refl }), refl, refl)
headed_into propagating blocks line (inr (inr (n, d))) =
    ((declares (declared_decl line n d), record { next = _; leads = refl }), ap declares (declared_lined line n d), declared_read line n d)

another_into : (propagating : Bool) (blocks : List Closing) (line : ℕ) (e : Another (may_catch (innermost_of blocks)))
    → Into propagating blocks running line (another_item (may_catch (innermost_of blocks)) line e) (another_parts (may_catch (innermost_of blocks)) e)
unfolding item_parts
another_into propagating [] line e = absurd e
another_into propagating (EndLoop ∷ _) line e = absurd e
another_into propagating (End ∷ _) line e = absurd e
another_into propagating (EndTasks ∷ _) line e = absurd e
another_into propagating (EndTask ∷ _) line e = absurd e
another_into propagating (EndTried ∷ _) line e = absurd e
another_into propagating (EndHandlers ∷ _) line e = ((catches line e, record { next = _; leads = refl }), refl, refl)
another_into propagating (EndOthers ∷ _) line e = absurd e

-- what may be read where statements stand
abbrev Runs : (propagating : Bool) → List Closing → Type 0
Runs propagating blocks = Handled (may_catch (innermost_of blocks)) propagating (innermost_of blocks)

abbrev run_item : (propagating : Bool) (blocks : List Closing) → ℕ → Runs propagating blocks → Item
run_item propagating blocks line = handled_item (may_catch (innermost_of blocks)) propagating (innermost_of blocks) line

abbrev run_parts : (propagating : Bool) (blocks : List Closing) → Runs propagating blocks → List Part
run_parts propagating blocks = handled_parts (may_catch (innermost_of blocks)) propagating (innermost_of blocks)

running_into : (propagating : Bool) (blocks : List Closing) (line : ℕ) (i : Runs propagating blocks) → Into propagating blocks running line (run_item propagating blocks line i) (run_parts propagating blocks i)
unfolding item_parts
running_into propagating blocks line (inl e) = another_into propagating blocks line e
running_into propagating blocks line (inr (inl b)) = begun_running propagating blocks line b
running_into propagating blocks line (inr (inr (inl b))) =
    let may = may_enter propagating blocks line b in
    ((block_item line b, record { next = may.0; leads = may.1 }), ap opens (block_lined line b), block_read line b)
running_into propagating [] line (inr (inr (inr (inl e)))) = absurd e
running_into propagating (l ∷ blocks) line (inr (inr (inr (inl e)))) = ((closes l, record { next = _; leads = left_own propagating l blocks }), refl, closing_read l)
running_into propagating blocks line (inr (inr (inr (inr (n, c))))) =
    ((commands (commanded_simple line n c), record { next = _; leads = refl }), ap commands (commanded_lined line n c), commanded_read line n c)

-- an item that may come is read: it is at an index whose parts are spelled so
abbrev From : (I : Type 0) → (I → Item) → (I → List Part) → ℕ → Item → List Placed → Type 0
From I val parts line item front = (i : I) × (val i ≡ relined line item) × Spelled (parts i) front

-- a declaration of a type, or one with a name in front
from_decl : {I : Type 0} (val : I → Item) (parts : I → List Part) (line : ℕ) (decl : Decl) (front : List Placed)
    → ((i : Typed) → typed_item line i ≡ relined line (declares decl) → Spelled (says (codes "type") ∷ typed_parts i) front → From I val parts line (declares decl) front)
    → ((n : List ℕ) (d : Declared) → declares (declared_decl line n d) ≡ relined line (declares decl) → Spelled (names n ∷ marks Colon ∷ declared_parts d) front → From I val parts line (declares decl) front)
    → Spelled (decl_parts decl) front → From I val parts line (declares decl) front
from_decl val parts line (TypeDecl _ name def) front f g h = f (name, def) refl h
from_decl val parts line (Object _ name of capacity) front f g h = g name (an_object of capacity) refl h
from_decl val parts line (CursorVar _ name of) front f g h = g name (a_cursor of) refl h
from_decl val parts line (IntVar _ name) front f g h = g name an_integer refl h
from_decl val parts line (TextVar _ name) front f g h = g name a_text refl h

from_simple : {I : Type 0} (val : I → Item) (parts : I → List Part) (line : ℕ) (simple : Simple) (front : List Placed)
    → ((n : List ℕ) (c : Commanded) → commands (commanded_simple line n c) ≡ relined line (commands simple) → Spelled (names n ∷ commanded_parts c) front → From I val parts line (commands simple) front)
    → Spelled (simple_parts simple) front → From I val parts line (commands simple) front
from_simple val parts line (call_at _ None object operation args) front f h = f object (a_call operation args) refl h
from_simple val parts line (call_at _ (Some target) object operation args) front f h = f target (an_assignment (a_result object operation args)) refl h
from_simple val parts line (set_at _ target from) front f h = f target (an_assignment (a_value from)) refl h
from_simple val parts line (sum_at _ target from minus number) front f h = f target (an_assignment (a_sum from minus number)) refl h

from_head : {I : Type 0} (propagating : Bool) (val : I → Item) (parts : I → List Part) (line : ℕ) (head : Head) (blocks : List Closing) (next : Context) (front : List Placed)
    → ((b : Block) → block_item line b ≡ relined line (opens head) → Spelled (block_parts b) front → From I val parts line (opens head) front)
    → entered propagating blocks head ≡ Some next → Spelled (head_parts head) front → From I val parts line (opens head) front
from_head propagating val parts line (loop_at _ name elements backward object) blocks next front f e h = f (lead.For, (name, elements, backward, object)) refl h
from_head propagating val parts line (view_at _ view.Query object None name) blocks next front f e h = f (lead.Query, (object, None, name)) refl h
from_head propagating val parts line (view_at _ view.Query object (Some c) name) blocks next front f e h = f (lead.Query, (object, Some c, name)) refl h
from_head propagating val parts line (view_at _ view.Update object None name) blocks next front f e h = f (lead.Update, (object, None, name)) refl h
from_head propagating val parts line (view_at _ view.Update object (Some c) name) blocks next front f e h = f (lead.Update, (object, Some c, name)) refl h
from_head propagating val parts line (view_at _ view.UpdateKey object None name) blocks next front f e h = absurd h.spelled.4.4.3
from_head propagating val parts line (view_at _ view.UpdateKey object (Some c) name) blocks next front f e h = f (lead.UpdateKey, (object, c, name)) refl h
from_head propagating val parts line (view_at _ view.Reference object at name) blocks next front f e h = f (lead.Reference, (name, object, at)) refl h
from_head propagating val parts line (stable_at _ object) blocks next front f e h = f (lead.Stable, object) refl h
from_head propagating val parts line (declare_at _ []) blocks next front f e h = f (lead.Declare, tt) refl h
from_head propagating val parts line (declare_at _ (_ ∷ _)) blocks next front f e h = absurd (none-some next e)
from_head propagating val parts line (tasks_at _) blocks next front f e h = f (lead.Tasks, tt) refl h
from_head propagating val parts line (task_at _ _ _) blocks next front f e h = absurd (none-some next e)

-- `begin` may come where exceptions propagate
from_tries : {I : Type 0} (val : I → Item) (parts : I → List Part) (propagating : Bool) (blocks : List Closing) (line own : ℕ) (next : Context) (front : List Placed)
    → ((b : Begun propagating) → From I val parts line (tries own) front) → tried propagating blocks ≡ Some next → From I val parts line (tries own) front
from_tries val parts true blocks line own next front f e = f tt
from_tries val parts false blocks line own next front f e = absurd (none-some next e)

listed_from : (propagating : Bool) (blocks : List Closing) (line : ℕ) (item : Item) (next : Context) (front : List Placed) → next_after propagating blocks listing item ≡ Some next → Spelled (item_parts item) front
    → From (Listed propagating (innermost_of blocks)) (listed_item propagating (innermost_of blocks) line) (listed_parts propagating (innermost_of blocks)) line item front
unfolding item_parts
listed_from propagating blocks line (declares decl) next front e h =
    from_decl (listed_item propagating (innermost_of blocks) line) (listed_parts propagating (innermost_of blocks)) line decl front (λ i is s. (inl i, is, s)) (λ n d is s. (inr (inr (inr (inr (n, inl d)))), is, s)) h
listed_from propagating blocks line (commands simple) next front e h =
    from_simple (listed_item propagating (innermost_of blocks) line) (listed_parts propagating (innermost_of blocks)) line simple front (λ n c is s. (inr (inr (inr (inr (n, inr c)))), is, s)) h
listed_from propagating blocks line (opens head) next front e h =
    from_head propagating (listed_item propagating (innermost_of blocks) line) (listed_parts propagating (innermost_of blocks)) line head blocks next front (λ b is s. (inr (inr (inl b)), is, s)) e h
listed_from propagating blocks line begins next front e h = absurd (none-some next e)
listed_from propagating [] line (closes _) next front e h = absurd (none-some next e)
listed_from propagating (b ∷ blocks) line (closes l) next front e h =
    (inr (inr (inr (inl tt))), ap closes (ended_own propagating b l blocks next e), ended_read propagating b l blocks next front e h)
listed_from propagating blocks line (propagates _) next front e h = absurd (none-some next e)
listed_from propagating blocks line (tries own) next front e h =
    from_tries (listed_item propagating (innermost_of blocks) line) (listed_parts propagating (innermost_of blocks)) propagating blocks line own next front (λ b. (inr (inl b), refl, h)) e
listed_from propagating blocks line (catches _ _) next front e h = absurd (none-some next e)

-- what is read among declarations is read at the front of a script
in_front : (propagating : Bool) (blocks : List Closing) (line : ℕ) (item : Item) (front : List Placed)
    → From (Listed propagating (innermost_of blocks)) (listed_item propagating (innermost_of blocks) line) (listed_parts propagating (innermost_of blocks)) line item front
    → From (Fronted propagating (innermost_of blocks)) (fronted_item propagating (innermost_of blocks) line) (fronted_parts propagating (innermost_of blocks)) line item front
in_front propagating blocks line item front from = (inr from.0, from.1, from.2)

fronted_from : (propagating : Bool) (blocks : List Closing) (line : ℕ) (item : Item) (next : Context) (front : List Placed) → next_after propagating blocks fronting item ≡ Some next → Spelled (item_parts item) front
    → From (Fronted propagating (innermost_of blocks)) (fronted_item propagating (innermost_of blocks) line) (fronted_parts propagating (innermost_of blocks)) line item front
unfolding item_parts
fronted_from propagating blocks line (declares decl) next front e h = in_front propagating blocks line (declares decl) front (listed_from propagating blocks line (declares decl) next front e h)
fronted_from propagating blocks line (commands simple) next front e h = in_front propagating blocks line (commands simple) front (listed_from propagating blocks line (commands simple) next front e h)
fronted_from propagating blocks line (opens head) next front e h = in_front propagating blocks line (opens head) front (listed_from propagating blocks line (opens head) next front e h)
fronted_from propagating blocks line begins next front e h = absurd (none-some next e)
fronted_from propagating blocks line (closes l) next front e h = in_front propagating blocks line (closes l) front (listed_from propagating blocks line (closes l) next front e h)
fronted_from propagating blocks line (propagates _) next front e h = (inl tt, refl, h)
fronted_from propagating blocks line (tries own) next front e h = in_front propagating blocks line (tries own) front (listed_from propagating blocks line (tries own) next front e h)
fronted_from propagating blocks line (catches _ _) next front e h = absurd (none-some next e)

headed_from : (propagating : Bool) (blocks : List Closing) (line : ℕ) (item : Item) (next : Context) (front : List Placed) → next_after propagating blocks heading item ≡ Some next → Spelled (item_parts item) front
    → From Headed (headed_item line) headed_parts line item front
unfolding item_parts
headed_from propagating blocks line (declares decl) next front e h =
    from_decl (headed_item line) headed_parts line decl front (λ i is s. (inr (inl i), is, s)) (λ n d is s. (inr (inr (n, d)), is, s)) h
headed_from propagating blocks line (commands simple) next front e h = absurd (none-some next e)
headed_from propagating blocks line (opens head) next front e h = absurd (none-some next e)
headed_from propagating blocks line begins next front e h = (inl tt, refl, h)
headed_from propagating blocks line (closes _) next front e h = absurd (none-some next e)
headed_from propagating blocks line (propagates _) next front e h = absurd (none-some next e)
headed_from propagating blocks line (tries _) next front e h = absurd (none-some next e)
headed_from propagating blocks line (catches _ _) next front e h = absurd (none-some next e)

-- a handler may come where the innermost block takes one
from_catches : (propagating : Bool) (blocks : List Closing) (line own : ℕ) (exception : Option Exception) (next : Context) (front : List Placed)
    → caught propagating exception blocks ≡ Some next → Spelled (item_parts (catches own exception)) front → From (Runs propagating blocks) (run_item propagating blocks line) (run_parts propagating blocks) line (catches own exception) front
unfolding item_parts
from_catches propagating [] line own exception next front e h = absurd (none-some next e)
from_catches propagating (EndLoop ∷ _) line own exception next front e h = absurd (none-some next e)
from_catches propagating (End ∷ _) line own exception next front e h = absurd (none-some next e)
from_catches propagating (EndTasks ∷ _) line own exception next front e h = absurd (none-some next e)
from_catches propagating (EndTask ∷ _) line own exception next front e h = absurd (none-some next e)
from_catches propagating (EndTried ∷ _) line own exception next front e h = absurd (none-some next e)
from_catches propagating (EndHandlers ∷ _) line own exception next front e h = (inl exception, refl, h)
from_catches propagating (EndOthers ∷ _) line own exception next front e h = absurd (none-some next e)

running_from : (propagating : Bool) (blocks : List Closing) (line : ℕ) (item : Item) (next : Context) (front : List Placed) → next_after propagating blocks running item ≡ Some next → Spelled (item_parts item) front
    → From (Runs propagating blocks) (run_item propagating blocks line) (run_parts propagating blocks) line item front
unfolding item_parts
running_from propagating blocks line (declares decl) next front e h = absurd (none-some next e)
running_from propagating blocks line (commands simple) next front e h =
    from_simple (run_item propagating blocks line) (run_parts propagating blocks) line simple front (λ n c is s. (inr (inr (inr (inr (n, c)))), is, s)) h
running_from propagating blocks line (opens head) next front e h =
    from_head propagating (run_item propagating blocks line) (run_parts propagating blocks) line head blocks next front (λ b is s. (inr (inr (inl b)), is, s)) e h
running_from propagating blocks line begins next front e h = absurd (none-some next e)
running_from propagating [] line (closes _) next front e h = absurd (none-some next e)
running_from propagating (b ∷ blocks) line (closes l) next front e h =
    (inr (inr (inr (inl tt))), ap closes (ended_own propagating b l blocks next e), ended_read propagating b l blocks next front e h)
running_from propagating blocks line (propagates _) next front e h = absurd (none-some next e)
running_from propagating blocks line (tries own) next front e h =
    from_tries (run_item propagating blocks line) (run_parts propagating blocks) propagating blocks line own next front (λ b. (inr (inl b), refl, h)) e
running_from propagating blocks line (catches own exception) next front e h = from_catches propagating blocks line own exception next front e h

stepping_into : (propagating : Bool) (blocks : List Closing) (line : ℕ) (i : Ended running (innermost_of blocks)) → Into propagating blocks stepping line (ended_item running (innermost_of blocks) line i) (ended_parts running (innermost_of blocks) i)
unfolding item_parts
stepping_into propagating [] line (inl e) = absurd e
stepping_into propagating (l ∷ blocks) line (inl e) = ((closes l, record { next = _; leads = left_own propagating l blocks }), refl, closing_read l)
stepping_into propagating blocks line (inr (n, c)) =
    ((commands (commanded_simple line n c), record { next = _; leads = refl }), ap commands (commanded_lined line n c), commanded_read line n c)

stepping_from : (propagating : Bool) (blocks : List Closing) (line : ℕ) (item : Item) (next : Context) (front : List Placed) → next_after propagating blocks stepping item ≡ Some next → Spelled (item_parts item) front
    → From (Ended running (innermost_of blocks)) (ended_item running (innermost_of blocks) line) (ended_parts running (innermost_of blocks)) line item front
unfolding item_parts
stepping_from propagating blocks line (declares decl) next front e h = absurd (none-some next e)
stepping_from propagating blocks line (commands simple) next front e h =
    from_simple (ended_item running (innermost_of blocks) line) (ended_parts running (innermost_of blocks)) line simple front (λ n c is s. (inr (n, c), is, s)) h
stepping_from propagating blocks line (opens head) next front e h = absurd (none-some next e)
stepping_from propagating blocks line begins next front e h = absurd (none-some next e)
stepping_from propagating [] line (closes _) next front e h = absurd (none-some next e)
stepping_from propagating (b ∷ blocks) line (closes l) next front e h = (inl tt, ap closes (ended_own propagating b l blocks next e), ended_read propagating b l blocks next front e h)
stepping_from propagating blocks line (propagates _) next front e h = absurd (none-some next e)
stepping_from propagating blocks line (tries _) next front e h = absurd (none-some next e)
stepping_from propagating blocks line (catches _ _) next front e h = absurd (none-some next e)

-- a task

from_task : {I : Type 0} (propagating : Bool) (val : I → Item) (parts : I → List Part) (line : ℕ) (head : Head) (blocks : List Closing) (next : Context) (front : List Placed)
    → ((n : List ℕ) → opens (task_at line n []) ≡ relined line (opens head) → Spelled (task_parts n) front → From I val parts line (opens head) front)
    → task_entered propagating blocks head ≡ Some next → Spelled (head_parts head) front → From I val parts line (opens head) front
from_task propagating val parts line (loop_at _ _ _ _ _) blocks next front f e h = absurd (none-some next e)
from_task propagating val parts line (view_at _ _ _ _ _) blocks next front f e h = absurd (none-some next e)
from_task propagating val parts line (stable_at _ _) blocks next front f e h = absurd (none-some next e)
from_task propagating val parts line (declare_at _ _) blocks next front f e h = absurd (none-some next e)
from_task propagating val parts line (tasks_at _) blocks next front f e h = absurd (none-some next e)
from_task propagating val parts line (task_at _ n []) blocks next front f e h = f n refl h
from_task propagating val parts line (task_at _ _ (_ ∷ _)) blocks next front f e h = absurd (none-some next e)

tasking_into : (propagating : Bool) (blocks : List Closing) (line : ℕ) (n : List ℕ) → Into propagating blocks tasking line (opens (task_at line n [])) (task_parts n)
unfolding item_parts
tasking_into propagating blocks line n = ((opens (task_at line n []), record { next = _; leads = refl }), refl, refl)

tasking_from : (propagating : Bool) (blocks : List Closing) (line : ℕ) (item : Item) (next : Context) (front : List Placed) → next_after propagating blocks tasking item ≡ Some next → Spelled (item_parts item) front
    → From (List ℕ) (λ n. opens (task_at line n [])) task_parts line item front
unfolding item_parts
tasking_from propagating blocks line (declares decl) next front e h = absurd (none-some next e)
tasking_from propagating blocks line (commands simple) next front e h = absurd (none-some next e)
tasking_from propagating blocks line (opens head) next front e h = from_task propagating (λ n. opens (task_at line n [])) task_parts line head blocks next front (λ n is s. (n, is, s)) e h
tasking_from propagating blocks line begins next front e h = absurd (none-some next e)
tasking_from propagating blocks line (closes _) next front e h = absurd (none-some next e)
tasking_from propagating blocks line (propagates _) next front e h = absurd (none-some next e)
tasking_from propagating blocks line (tries _) next front e h = absurd (none-some next e)
tasking_from propagating blocks line (catches _ _) next front e h = absurd (none-some next e)

tasked_into : (propagating : Bool) (blocks : List Closing) (line : ℕ) (i : Tasked (innermost_of blocks)) → Into propagating blocks tasked line (tasked_item (innermost_of blocks) line i) (tasked_parts (innermost_of blocks) i)
unfolding item_parts
tasked_into propagating blocks line (inl n) = ((opens (task_at line n []), record { next = _; leads = refl }), refl, refl)
tasked_into propagating [] line (inr e) = absurd e
tasked_into propagating (l ∷ blocks) line (inr e) = ((closes l, record { next = _; leads = left_own propagating l blocks }), refl, closing_read l)

tasked_from : (propagating : Bool) (blocks : List Closing) (line : ℕ) (item : Item) (next : Context) (front : List Placed) → next_after propagating blocks tasked item ≡ Some next → Spelled (item_parts item) front
    → From (Tasked (innermost_of blocks)) (tasked_item (innermost_of blocks) line) (tasked_parts (innermost_of blocks)) line item front
unfolding item_parts
tasked_from propagating blocks line (declares decl) next front e h = absurd (none-some next e)
tasked_from propagating blocks line (commands simple) next front e h = absurd (none-some next e)
tasked_from propagating blocks line (opens head) next front e h =
    from_task propagating (tasked_item (innermost_of blocks) line) (tasked_parts (innermost_of blocks)) line head blocks next front (λ n is s. (inl n, is, s)) e h
tasked_from propagating blocks line begins next front e h = absurd (none-some next e)
tasked_from propagating [] line (closes _) next front e h = absurd (none-some next e)
tasked_from propagating (b ∷ blocks) line (closes l) next front e h = (inr tt, ap closes (ended_own propagating b l blocks next e), ended_read propagating b l blocks next front e h)
tasked_from propagating blocks line (propagates _) next front e h = absurd (none-some next e)
tasked_from propagating blocks line (tries _) next front e h = absurd (none-some next e)
tasked_from propagating blocks line (catches _ _) next front e h = absurd (none-some next e)

-- the front of a task

preparing_into : (propagating : Bool) (blocks : List Closing) (line : ℕ) (i : Prepared) → Into propagating blocks preparing line (prepared_item line i) (prepared_parts i)
unfolding item_parts
preparing_into propagating blocks line (inl _) = ((begins, record { next = _; leads = refl }), refl, refl)
preparing_into propagating blocks line (inr n) = ((declares (IntVar line n), record { next = _; leads = refl }), refl, refl)

preparing_from : (propagating : Bool) (blocks : List Closing) (line : ℕ) (item : Item) (next : Context) (front : List Placed) → next_after propagating blocks preparing item ≡ Some next → Spelled (item_parts item) front
    → From Prepared (prepared_item line) prepared_parts line item front
unfolding item_parts
preparing_from propagating blocks line (declares (TypeDecl _ _ _)) next front e h = absurd (none-some next e)
preparing_from propagating blocks line (declares (Object _ _ _ _)) next front e h = absurd (none-some next e)
preparing_from propagating blocks line (declares (CursorVar _ _ _)) next front e h = absurd (none-some next e)
preparing_from propagating blocks line (declares (IntVar _ n)) next front e h = (inr n, refl, h)
preparing_from propagating blocks line (declares (TextVar _ _)) next front e h = absurd (none-some next e)
preparing_from propagating blocks line (commands simple) next front e h = absurd (none-some next e)
preparing_from propagating blocks line (opens head) next front e h = absurd (none-some next e)
preparing_from propagating blocks line begins next front e h = (inl tt, refl, h)
preparing_from propagating blocks line (closes _) next front e h = absurd (none-some next e)
preparing_from propagating blocks line (propagates _) next front e h = absurd (none-some next e)
preparing_from propagating blocks line (tries _) next front e h = absurd (none-some next e)
preparing_from propagating blocks line (catches _ _) next front e h = absurd (none-some next e)

-- the first handler

catching_into : (propagating : Bool) (blocks : List Closing) (line : ℕ) → innermost_of blocks ≡ Some EndHandlers → (e : Option Exception) → Into propagating blocks catching line (catches line e) (handler_parts e)
unfolding item_parts
catching_into propagating [] line may e = absurd (none-some EndHandlers may)
catching_into propagating (EndLoop ∷ _) line may e = absurd (cc may)
catching_into propagating (End ∷ _) line may e = absurd (cc may)
catching_into propagating (EndTasks ∷ _) line may e = absurd (cc may)
catching_into propagating (EndTask ∷ _) line may e = absurd (cc may)
catching_into propagating (EndTried ∷ _) line may e = absurd (cc may)
catching_into propagating (EndHandlers ∷ _) line may e = ((catches line e, record { next = _; leads = refl }), refl, refl)
catching_into propagating (EndOthers ∷ _) line may e = absurd (cc may)

catching_from : (propagating : Bool) (blocks : List Closing) (line : ℕ) (item : Item) (next : Context) (front : List Placed) → next_after propagating blocks catching item ≡ Some next → Spelled (item_parts item) front
    → From (Option Exception) (λ e. catches line e) handler_parts line item front
unfolding item_parts
catching_from propagating blocks line (declares _) next front e h = absurd (none-some next e)
catching_from propagating blocks line (commands _) next front e h = absurd (none-some next e)
catching_from propagating blocks line (opens _) next front e h = absurd (none-some next e)
catching_from propagating blocks line begins next front e h = absurd (none-some next e)
catching_from propagating blocks line (closes _) next front e h = absurd (none-some next e)
catching_from propagating blocks line (propagates _) next front e h = absurd (none-some next e)
catching_from propagating blocks line (tries _) next front e h = absurd (none-some next e)
catching_from propagating blocks line (catches _ exception) next front e h = (exception, refl, h)

-- where something may come behind `exception`, a handler may
caught_in : (propagating : Bool) (blocks : List Closing) (exception : Option Exception) (next : Context) → caught propagating exception blocks ≡ Some next → innermost_of blocks ≡ Some EndHandlers
caught_in propagating [] exception next e = absurd (none-some next e)
caught_in propagating (EndLoop ∷ _) exception next e = absurd (none-some next e)
caught_in propagating (End ∷ _) exception next e = absurd (none-some next e)
caught_in propagating (EndTasks ∷ _) exception next e = absurd (none-some next e)
caught_in propagating (EndTask ∷ _) exception next e = absurd (none-some next e)
caught_in propagating (EndTried ∷ _) exception next e = absurd (none-some next e)
caught_in propagating (EndHandlers ∷ _) exception next e = refl
caught_in propagating (EndOthers ∷ _) exception next e = absurd (none-some next e)

coming_in : (propagating : Bool) (blocks : List Closing) (item : Item) (next : Context) → next_after propagating blocks catching item ≡ Some next → innermost_of blocks ≡ Some EndHandlers
coming_in propagating blocks (declares _) next e = absurd (none-some next e)
coming_in propagating blocks (commands _) next e = absurd (none-some next e)
coming_in propagating blocks (opens _) next e = absurd (none-some next e)
coming_in propagating blocks begins next e = absurd (none-some next e)
coming_in propagating blocks (closes _) next e = absurd (none-some next e)
coming_in propagating blocks (propagates _) next e = absurd (none-some next e)
coming_in propagating blocks (tries _) next e = absurd (none-some next e)
coming_in propagating blocks (catches _ exception) next e = caught_in propagating blocks exception next e

pub coming_catch : (propagating : Bool) (blocks : List Closing) (stage : Stage) (item : Item) → MayCome propagating blocks stage item → MayCatch blocks stage
coming_catch propagating blocks stage item may is = coming_in propagating blocks item may.next (subst (λ s. next_after propagating blocks s item ≡ Some may.next) is may.leads)

spelled_into : (propagating : Bool) (blocks : List Closing) (stage : Stage) (line : ℕ) (item : Item) (parts : List Part) (front : List Placed) → Into propagating blocks stage line item parts → Spelled parts front
    → (j : Coming propagating blocks stage) × (item ≡ relined line j.0) × Spelled (item_parts j.0) front
spelled_into propagating blocks stage line item parts front is h = (is.0, is.1, subst (λ ps. Spelled ps front) is.2 h)

-- on each line, the items that may come are read
pub item_on_exact : (propagating : Bool) (blocks : List Closing) (stage : Stage) (may : MayCatch blocks stage) (line : ℕ) → Exact (λ (j : Coming propagating blocks stage). relined line j.0) (λ j. item_parts j.0) (item_on propagating stage (innermost_of blocks) line)
item_on_exact propagating blocks fronting may line =
    respelled (in_fronting_exact propagating (innermost_of blocks) line) (λ i front h. spelled_into propagating blocks fronting line _ _ front (fronted_into propagating blocks line i) h)
    (λ j front h. fronted_from propagating blocks line j.0 j.1.next front j.1.leads h)
item_on_exact propagating blocks listing may line =
    respelled (in_listing_exact propagating (innermost_of blocks) line) (λ i front h. spelled_into propagating blocks listing line _ _ front (listed_into propagating blocks line i) h)
    (λ j front h. listed_from propagating blocks line j.0 j.1.next front j.1.leads h)
item_on_exact propagating blocks heading may line =
    respelled (in_heading_exact line) (λ i front h. spelled_into propagating blocks heading line _ _ front (headed_into propagating blocks line i) h)
    (λ j front h. headed_from propagating blocks line j.0 j.1.next front j.1.leads h)
item_on_exact propagating blocks running may line =
    respelled (handled_exact (may_catch (innermost_of blocks)) propagating (innermost_of blocks) line) (λ i front h. spelled_into propagating blocks running line _ _ front (running_into propagating blocks line i) h)
    (λ j front h. running_from propagating blocks line j.0 j.1.next front j.1.leads h)
item_on_exact propagating blocks tasking may line =
    respelled (in_tasking_exact line) (λ n front h. spelled_into propagating blocks tasking line _ _ front (tasking_into propagating blocks line n) h)
    (λ j front h. tasking_from propagating blocks line j.0 j.1.next front j.1.leads h)
item_on_exact propagating blocks tasked may line =
    respelled (in_tasked_exact (innermost_of blocks) line) (λ i front h. spelled_into propagating blocks tasked line _ _ front (tasked_into propagating blocks line i) h)
    (λ j front h. tasked_from propagating blocks line j.0 j.1.next front j.1.leads h)
item_on_exact propagating blocks preparing may line =
    respelled (in_preparing_exact line) (λ i front h. spelled_into propagating blocks preparing line _ _ front (preparing_into propagating blocks line i) h)
    (λ j front h. preparing_from propagating blocks line j.0 j.1.next front j.1.leads h)
item_on_exact propagating blocks stepping may line =
    respelled (ended_exact running (innermost_of blocks) line) (λ i front h. spelled_into propagating blocks stepping line _ _ front (stepping_into propagating blocks line i) h)
    (λ j front h. stepping_from propagating blocks line j.0 j.1.next front j.1.leads h)
item_on_exact propagating blocks catching may line =
    respelled (in_catching_exact line) (λ i front h. spelled_into propagating blocks catching line _ _ front (catching_into propagating blocks line (may refl) i) h)
    (λ j front h. catching_from propagating blocks line j.0 j.1.next front j.1.leads h)
