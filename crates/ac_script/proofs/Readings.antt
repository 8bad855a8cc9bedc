-- What items that were read one after another say of every script of the same tokens.
use Rattle.std.proofs.Common.{◌≡◌, ◌<◌, Bool, true, true≢false, List, [], ◌∷◌, ◌++◌, length, refl, sym, ap, subst, ◌∙◌, append_assoc, arith}
use Rattle.std.proofs.lemmas.List.{append-nil, map-append, reverse-append}
use Rattle.std.specs.Prelude.{Some, Result, Ok, Err, IfOk, map, reverse, option_and_then}
use Rattle.std.proofs.lemmas.Option.{none-some}
use Rattle.ac_base.specs.declared.fault.NoMemory.{NoMemory}
use Rattle.ac_syntax.specs.Code.{Head}
use Rattle.ac_syntax.specs.declared.closing.Closing.{Closing}
use Rattle.ac_syntax.specs.declared.closing.Closing.TheVariants.{EndLoop, End, EndTasks, EndTask, EndTried, EndHandlers, EndOthers}
use Rattle.ac_syntax.specs.declared.token.Placed.{Placed}
use Rattle.ac_syntax.specs.declared.script.Script.{Script}
use Rattle.ac_syntax.specs.Items.{Item, opens, script_items}
use Rattle.ac_syntax.specs.Parts.{item_parts}
use Rattle.ac_syntax.specs.Grammar.{reserved, is_reserved, IsItem, AreItems, Derives, BeginsScript}
use Rattle.ac_syntax.specs.Canonical.{items_placed}
use Rattle.ac_syntax.specs.Order.{Stage, fronting, listing, heading, running, tasking, tasked, preparing, stepping, catching, Context, is_heading, entered, task_entered, stage_behind, left_behind, next_after, context_after, at_front, IsEnd, AreInOrder}
use Rattle.ac_syntax.proofs.Derivations.{are_sayable, items_derive}
use Rattle.ac_syntax.proofs.ItemsAlone.{script_alone}
use Rattle.ac_syntax.proofs.Withins.{not_ended}
use Rattle.ac_syntax.proofs.Orders.{script_found, left_from, then_some, ends_of, others_of, completion, completed, behind}
use Rattle.ac_script.specs.Outcomes.{got, stopped}
use Rattle.ac_script.specs.ItemReader.{item, innermost_of}
use Rattle.ac_script.specs.ExactItems.{MayCome, MayCatch, IsBegun}
use Rattle.ac_script.specs.Readings.{AreWhole, EndEarly, HasBad, AreRead, IsReading, Enters, GoesOn, reading_at}
use Rattle.ac_script.specs.declared.stage.Stage as code_stage
use Rattle.ac_script.specs.declared.stage.Stage.TheVariants as at_stage
use Rattle.ac_script.specs.declared.item.Item as code
use Rattle.ac_script.specs.Views.{item_view}
use Rattle.ac_script.proofs.ReadsItems.{items_read}
use Rattle.ac_script.proofs.Coming.{coming_catch}
use Rattle.ac_script.proofs.Spelled.{compare}
use Rattle.ac_script.proofs.Exact.{got_not_stopped}

-- ---- items behind items

items_behind : (xs ys : List Item) (a b : List Placed) → AreItems xs a → AreItems ys b → AreItems (xs ++ ys) (a ++ b)
items_behind [] ys a b none h = subst (λ list. AreItems ys (list ++ b)) (sym none) h
items_behind (x ∷ xs) ys a b (front, rest, whole, is, others) h =
    (front, rest ++ b, ap (λ list. list ++ b) whole ∙ append_assoc front rest b, is, items_behind xs ys rest b others h)

one_item : (it : Item) (front : List Placed) → IsItem it front → AreItems (it ∷ []) front
one_item it front is = (front, [], sym (append-nil front), is, refl)

-- ---- items that may come begin a script

mutual
  unfolding item_parts

  ends_sayable : (blocks : List Closing) → are_sayable 1 (ends_of blocks) ≡ true
  ends_sayable [] = refl
  ends_sayable (EndLoop ∷ blocks) = ends_sayable blocks
  ends_sayable (End ∷ blocks) = ends_sayable blocks
  ends_sayable (EndTasks ∷ blocks) = ends_sayable blocks
  ends_sayable (EndTask ∷ blocks) = ends_sayable blocks
  ends_sayable (EndTried ∷ blocks) = others_sayable blocks
  ends_sayable (EndHandlers ∷ blocks) = ends_sayable blocks
  ends_sayable (EndOthers ∷ blocks) = ends_sayable blocks

  others_sayable : (blocks : List Closing) → are_sayable 1 (others_of blocks) ≡ true
  others_sayable [] = refl
  others_sayable (_ ∷ blocks) = ends_sayable blocks

completion_sayable : (blocks : List Closing) (stage : Stage) → are_sayable 1 (completion blocks stage) ≡ true
unfolding reserved is_reserved item_parts
completion_sayable blocks fronting = ends_sayable blocks
completion_sayable blocks listing = ends_sayable blocks
completion_sayable blocks heading = ends_sayable blocks
completion_sayable blocks running = ends_sayable blocks
completion_sayable blocks tasking = ends_sayable blocks
completion_sayable blocks tasked = ends_sayable blocks
completion_sayable blocks preparing = ends_sayable blocks
completion_sayable blocks stepping = ends_sayable blocks
completion_sayable blocks catching = others_sayable blocks

-- what derives the script with these items
pub derives_items : (items : List Item) (placed : List Placed) (script : Script) → script_items script ≡ items → AreItems items placed → AreInOrder items → Derives placed script
derives_items items placed script same are ordered =
    record { are = subst (λ items. AreItems items placed) (sym same) are; ordered = subst AreInOrder (sym same) ordered }

begins_script : (items : List Item) (context : Context) (done : List Placed) → AreItems items done → context_after at_front items ≡ Some context → BeginsScript done
begins_script items context done are leads =
    let more = completion context.blocks context.stage in
    let ordered = completed items context leads in
    let script = script_found (items ++ more) ordered in
    let derived = items_behind items more done (items_placed 1 more) are (items_derive 1 more (completion_sayable context.blocks context.stage)) in
    (items_placed 1 more, script.0, derives_items (items ++ more) (done ++ items_placed 1 more) script.0 script.1 derived ordered)

pub front_begins : (before more : List Placed) → BeginsScript (before ++ more) → BeginsScript before
front_begins before more (rest, script, derived) = (more ++ rest, script, subst (λ all. Derives all script) (append_assoc before more rest) derived)

-- ---- a script of the same tokens has the same items

-- the first of these items may come
first_may : (context : Context) (it : Item) (items : List Item) (to : Context) → context_after context (it ∷ items) ≡ Some to → MayCome context.propagating context.blocks context.stage it
first_may context it items to e =
    let step = then_some (next_after context.propagating context.blocks context.stage it) items to e in
    record { next = step.0; leads = step.1 }

is_read : (context : Context) (it : Item) (items : List Item) (to : Context) (front rest : List Placed) → context_after context (it ∷ items) ≡ Some to → IsItem it front
    → item context.propagating context.stage (innermost_of context.blocks) (front ++ rest) ≡ got it rest
is_read context it items to front rest e is = (items_read context.propagating context.blocks context.stage (coming_catch context.propagating context.blocks context.stage it (first_may context it items to e))).only it front rest (first_may context it items to e) is

-- an item has a token
has_token : (context : Context) (it : Item) (items : List Item) (to : Context) (front rest : List Placed) → context_after context (it ∷ items) ≡ Some to → IsItem it front
    → [] ≡ front ++ rest → ⊥
has_token context it items to front rest e is none =
    let nothing : stopped [] ≡ got it rest = ap (item context.propagating context.stage (innermost_of context.blocks)) none ∙ is_read context it items to front rest e is in
    absurd (cc nothing)

-- the items behind these, which are the tokens that are left
record Follows (items all : List Item) (context last : Context) (rest : List Placed) : Type 0 where
  others : List Item
  whole : all ≡ items ++ others
  are : AreItems others rest
  leads : context_after context others ≡ Some last

same_front : (items all : List Item) (from context last : Context) (done rest : List Placed) → AreItems items done → AreItems all (done ++ rest)
    → context_after from items ≡ Some context → context_after from all ≡ Some last → Follows items all context last rest
same_front [] all from context last done rest none are leads runs =
    let same : from ≡ context = cc leads in
    record { others = all; whole = refl; are = subst (λ list. AreItems all (list ++ rest)) none are; leads = subst (λ c. context_after c all ≡ Some last) same runs }
same_front (x ∷ items) [] from context last done rest (front, left, whole, is, others) none leads runs =
    absurd (has_token from x items context front (left ++ rest) leads is (sym none ∙ ap (λ list. list ++ rest) whole ∙ append_assoc front left rest))
same_front (x ∷ items) (y ∷ all) from context last done rest (front, left, whole, is, others) (front_2, left_2, whole_2, is_2, others_2) leads runs =
    let step = then_some (next_after from.propagating from.blocks from.stage x) items context leads in
    let step_2 = then_some (next_after from.propagating from.blocks from.stage y) all last runs in
    let again : got y left_2 ≡ got x (left ++ rest)
    = sym (is_read from y all last front_2 left_2 runs is_2)
    ∙ ap (item from.propagating from.stage (innermost_of from.blocks)) (sym whole_2 ∙ ap (λ list. list ++ rest) whole ∙ append_assoc front left rest)
    ∙ is_read from x items context front (left ++ rest) leads is in
    let same : y ≡ x = cc again in
    let tails : left_2 ≡ left ++ rest = cc again in
    let stepped : Some step_2.0 ≡ Some step.0 = sym step_2.1 ∙ ap (next_after from.propagating from.blocks from.stage) same ∙ step.1 in
    let next : step_2.0 ≡ step.0 = cc stepped in
    let follows = same_front items all step.0 context last left rest others (subst (AreItems all) tails others_2) step.2 (subst (λ c. context_after c all ≡ Some last) next step_2.2) in
    record { others = follows.others; whole = λ i. same i ∷ follows.whole i; are = follows.are; leads = follows.leads }

no_others : (others : List Item) (context last : Context) → AreItems others [] → context_after context others ≡ Some last → others ≡ []
no_others [] context last are leads = refl
no_others (x ∷ others) context last (front, left, whole, is, more) leads = absurd (has_token context x others last front left leads is whole)

-- no tokens derive two scripts
pub derived_once : (placed : List Placed) (script other : Script) → Derives placed script → Derives placed other → script ≡ other
derived_once placed script other derived derived_2 =
    let order = derived.ordered in
    let order_2 = derived_2.ordered in
    let are = subst (AreItems (script_items other)) (sym (append-nil placed)) derived_2.are in
    let follows = same_front (script_items script) (script_items other) at_front order.last order_2.last placed [] derived.are are order.leads order_2.leads in
    let none = no_others follows.others order.last order_2.last follows.are follows.leads in
    script_alone script other (sym (follows.whole ∙ ap (λ others. script_items script ++ others) none ∙ append-nil (script_items script)))

-- ---- where a handler has to come, one may

catches_first : (context last : Context) (items : List Item) → context_after context items ≡ Some last → IsEnd last → MayCatch context.blocks context.stage
catches_first context last [] leads ends is =
    let same : context ≡ last = cc leads in
    absurd (true≢false (ap is_heading (sym is) ∙ ap (λ (c : Context). is_heading c.stage) same ∙ ends.begun))
catches_first context last (x ∷ items) leads ends is = coming_catch context.propagating context.blocks context.stage x (first_may context x items last leads) is

pub leads_catch : (items : List Item) (context : Context) → context_after at_front items ≡ Some context → MayCatch context.blocks context.stage
leads_catch items context leads =
    let more = completion context.blocks context.stage in
    let ordered = completed items context leads in
    catches_first context ordered.last more (sym (behind items more at_front context leads) ∙ ordered.leads) ordered.ends

pub read_catch : (items : List Item) (context : Context) (placed rest : List Placed) → AreRead items context placed rest → MayCatch context.blocks context.stage
read_catch items context placed rest read = leads_catch items context read.leads

-- ---- one item more

leads_on : (items : List Item) (context next : Context) (it : Item) → context_after at_front items ≡ Some context → next_after context.propagating context.blocks context.stage it ≡ Some next
    → context_after at_front (items ++ it ∷ []) ≡ Some next
leads_on items context next it leads e = behind items (it ∷ []) at_front context leads ∙ ap (option_and_then (λ (c : Context). context_after c [])) e

pub none_read : (placed : List Placed) → AreRead [] at_front placed placed
none_read placed = record { done = []; whole = refl; are = refl; leads = refl }

pub item_read : (items : List Item) (context next : Context) (placed rest left : List Placed) (it : Item) → AreRead items context placed rest
    → item context.propagating context.stage (innermost_of context.blocks) rest ≡ got it left → next_after context.propagating context.blocks context.stage it ≡ Some next → AreRead (items ++ it ∷ []) next placed left
item_read items context next placed rest left it read e leads =
    let front = (items_read context.propagating context.blocks context.stage (read_catch items context placed rest read)).found rest it left e in
    record {
      done = read.done ++ front.first ∷ front.others;
      whole = read.whole ∙ ap (λ list. read.done ++ list) front.whole ∙ sym (append_assoc read.done (front.first ∷ front.others) left);
      are = items_behind items (it ∷ []) read.done (front.first ∷ front.others) read.are (one_item it (front.first ∷ front.others) front.is);
      leads = leads_on items context next it read.leads leads;
    }

pub one_read : (new read_items : List code.Item) (context next : Context) (placed rest left : List Placed) (it : code.Item)
    → AreRead (map item_view read_items) context placed rest → new ≡ read_items ++ it ∷ []
    → item context.propagating context.stage (innermost_of context.blocks) rest ≡ got (item_view it) left → ((to : Context) → next_after context.propagating context.blocks context.stage (item_view it) ≡ Some to → next ≡ to)
    → AreRead (map item_view new) next placed left
one_read new read_items context next placed rest left it read pushed e reached =
    let front = (items_read context.propagating context.blocks context.stage (read_catch (map item_view read_items) context placed rest read)).found rest (item_view it) left e in
    let items : map item_view read_items ++ item_view it ∷ [] ≡ map item_view new = sym (ap (map item_view) pushed ∙ map-append item_view read_items (it ∷ [])) in
    subst (λ items. AreRead items next placed left) items
    (item_read (map item_view read_items) context next placed rest left (item_view it) read e (front.may.leads ∙ ap Some (sym (reached front.may.next front.may.leads))))

-- ---- where reading stops

-- what begins with the next item begins a script
next_begins : (items : List Item) (context : Context) (done rest at : List Placed) → AreItems items done → context_after at_front items ≡ Some context
    → (begun : IsBegun context.propagating context.blocks context.stage rest at) → BeginsScript (done ++ begun.before)
next_begins items context done rest at are leads begun =
    let all = items_behind items (begun.item ∷ []) done (begun.before ++ begun.more) are (one_item begun.item (begun.before ++ begun.more) begun.is) in
    let begins = begins_script (items ++ begun.item ∷ []) begun.may.next (done ++ (begun.before ++ begun.more)) all (leads_on items context begun.may.next begun.item leads begun.may.leads) in
    front_begins (done ++ begun.before) begun.more (subst BeginsScript (sym (append_assoc done begun.before begun.more)) begins)

-- no items begin where reading stopped, and go on with the token at that place
none_there : (context last : Context) (rest before : List Placed) (b : Placed) (after more : List Placed) (others : List Item)
    → item context.propagating context.stage (innermost_of context.blocks) rest ≡ stopped (b ∷ after) → rest ≡ before ++ b ∷ after
    → AreItems others (before ++ b ∷ more) → context_after context others ≡ Some last → ⊥
none_there context last rest before b after more [] e whole none leads = not_ended before more b (sym none)
none_there context last rest before b after more (x ∷ others) e whole (front, left, split, is, are) leads =
    compare ⊥ before b more front left split
    (λ w.
    let again : item context.propagating context.stage (innermost_of context.blocks) rest ≡ got x (w.between ++ b ∷ after)
    = ap (item context.propagating context.stage (innermost_of context.blocks)) (whole ∙ ap (λ list. list ++ b ∷ after) w.front ∙ append_assoc front w.between (b ∷ after))
    ∙ is_read context x others last front (w.between ++ b ∷ after) leads is in
    got_not_stopped ⊥ (item context.propagating context.stage (innermost_of context.blocks) rest) _ _ _ again e)
    (λ w. (items_read context.propagating context.blocks context.stage (coming_catch context.propagating context.blocks context.stage x (first_may context x others last leads))).bad rest before b after w.between x e whole (first_may context x others last leads) (subst (IsItem x) w.front is))

pub has_bad : (items : List Item) (context : Context) (placed rest : List Placed) (b : Placed) (after : List Placed) → AreRead items context placed rest
    → item context.propagating context.stage (innermost_of context.blocks) rest ≡ stopped (b ∷ after) → HasBad placed b.line
has_bad items context placed rest b after read e =
    let begun = (items_read context.propagating context.blocks context.stage (read_catch items context placed rest read)).begun rest (b ∷ after) e in
    record {
      before = read.done ++ begun.before;
      bad = b;
      after = after;
      whole = read.whole ∙ ap (λ list. read.done ++ list) begun.whole ∙ sym (append_assoc read.done begun.before (b ∷ after));
      on = refl;
      begins = next_begins items context read.done rest (b ∷ after) read.are read.leads begun;
      none = λ script.
          let order = script.2.ordered in
          let follows = same_front items (script_items script.1) at_front context order.last read.done (begun.before ++ b ∷ script.0) read.are
          (subst (AreItems (script_items script.1)) (append_assoc (read.done ++ begun.before) (b ∷ []) script.0 ∙ append_assoc read.done begun.before (b ∷ script.0)) script.2.are) read.leads order.leads in
          none_there context order.last rest begun.before b after script.0 follows.others e begun.whole follows.are follows.leads;
    }

-- no items are the tokens in which reading came to their end
none_left : (context last : Context) (rest : List Placed) (others : List Item) → 0 < length rest → item context.propagating context.stage (innermost_of context.blocks) rest ≡ stopped []
    → AreItems others rest → context_after context others ≡ Some last → ⊥
none_left context last rest [] some e none leads = omega (arith, ap length none)
none_left context last rest (x ∷ others) some e (front, left, split, is, are) leads =
    got_not_stopped ⊥ (item context.propagating context.stage (innermost_of context.blocks) rest) _ _ _
    (ap (item context.propagating context.stage (innermost_of context.blocks)) split ∙ is_read context x others last front left leads is) e

-- what the items of a script with these tokens are, behind those that were read
goes_on : (items : List Item) (context : Context) (placed rest : List Placed) (script : Script) → AreRead items context placed rest → (derived : Derives placed script)
    → Follows items (script_items script) context derived.ordered.last rest
goes_on items context placed rest script read derived =
    same_front items (script_items script) at_front context derived.ordered.last read.done rest read.are
    (subst (AreItems (script_items script)) read.whole derived.are) read.leads derived.ordered.leads

pub ends_inside : (items : List Item) (context : Context) (placed rest : List Placed) → AreRead items context placed rest → 0 < length rest
    → item context.propagating context.stage (innermost_of context.blocks) rest ≡ stopped [] → EndEarly placed
ends_inside items context placed rest read some e =
    let begun = (items_read context.propagating context.blocks context.stage (read_catch items context placed rest read)).begun rest [] e in
    record {
      begins = subst BeginsScript (sym (read.whole ∙ ap (λ list. read.done ++ list) (begun.whole ∙ append-nil begun.before)))
          (next_begins items context read.done rest [] read.are read.leads begun);
      none = λ script derived.
          let follows = goes_on items context placed rest script read derived in
          none_left context derived.ordered.last rest follows.others some e follows.are follows.leads;
    }

pub ends_open : (items : List Item) (context : Context) (placed : List Placed) → AreRead items context placed [] → (IsEnd context → ⊥) → EndEarly placed
ends_open items context placed read open_still =
    record {
      begins = subst BeginsScript (sym (read.whole ∙ append-nil read.done)) (begins_script items context read.done read.are read.leads);
      none = λ script derived.
          let order = derived.ordered in
          let follows = goes_on items context placed [] script read derived in
          let none = no_others follows.others context order.last follows.are follows.leads in
          let last : Some context ≡ Some order.last = sym (ap (context_after context) none) ∙ follows.leads in
          let same : order.last ≡ context = cc last in
          open_still (subst IsEnd same order.ends);
    }

pub all_read : (items : List Item) (context : Context) (placed rest : List Placed) → AreRead items context placed rest → length rest ≡ 0 → AreRead items context placed []
all_read items context placed [] read none = read
all_read items context placed (p ∷ rest) read none = absurd (omega (arith, none))

pub is_whole : (items : List Item) (context : Context) (placed : List Placed) → AreRead items context placed [] → IsEnd context → AreWhole items placed
is_whole items context placed read ends =
    record { are = subst (AreItems items) (sym (read.whole ∙ append-nil read.done)) read.are; ordered = record { last = context; leads = read.leads; ends = ends } }

-- what reading comes to where it stopped
pub stops_reading : (items : List Item) (context : Context) (placed rest at : List Placed) → AreRead items context placed rest → 0 < length rest
    → item context.propagating context.stage (innermost_of context.blocks) rest ≡ stopped at → IsReading (reading_at at) placed
stops_reading items context placed rest [] read some e = ends_inside items context placed rest read some e
stops_reading items context placed rest (b ∷ after) read some e = has_bad items context placed rest b after read e

-- what the end of the innermost block leads to
pub left_reaches : (propagating : Bool) (old new : List Closing) (b l : Closing) (stage : Stage) (next : Context) → old ≡ new ++ b ∷ [] → stage ≡ stage_behind b → left_behind propagating l (reverse old) ≡ Some next
    → record { propagating = propagating; blocks = reverse new; stage = stage } ≡ next
left_reaches propagating old new b l stage next is at e =
    let turned : reverse old ≡ b ∷ reverse new = ap reverse is ∙ reverse-append new (b ∷ []) in
    let left = left_from propagating l (reverse old) next e in
    let both : b ∷ reverse new ≡ l ∷ left.0 = sym turned ∙ left.1 in
    let own : b ≡ l = cc both in
    let outer : reverse new ≡ left.0 = cc both in
    (λ i. record { propagating = propagating; blocks = outer i; stage = (at ∙ ap stage_behind own) i }) ∙ left.2

-- what a block that begins leads to, at the stages where one or a task may begin
pub opens_on : (r : Result code_stage.Stage NoMemory) (old new : List Closing) (stage : code_stage.Stage) (h : Head) → IfOk r (Enters entered old new h) → IfOk r (Enters task_entered old new h) → IfOk r (GoesOn old new stage (opens h))
opens_on (Err _) old new stage h block task = tt
opens_on (Ok reached) old new at_stage.Fronting h block task = block
opens_on (Ok reached) old new at_stage.Listing h block task = block
opens_on (Ok reached) old new at_stage.Heading h block task = λ propagating next e. absurd (none-some next e)
opens_on (Ok reached) old new at_stage.Running h block task = block
opens_on (Ok reached) old new at_stage.Tasking h block task = task
opens_on (Ok reached) old new at_stage.Tasked h block task = task
opens_on (Ok reached) old new at_stage.Preparing h block task = λ propagating next e. absurd (none-some next e)
opens_on (Ok reached) old new at_stage.Stepping h block task = λ propagating next e. absurd (none-some next e)
opens_on (Ok reached) old new at_stage.Catching h block task = λ propagating next e. absurd (none-some next e)
