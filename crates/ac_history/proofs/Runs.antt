-- Every order runs a block to its end, and every history that ends there has an order.
use Rattle.std.proofs.Common.{◌≡◌, ◌≤◌, ◌<◌, ℕ, zero, suc, nat_eq, Bool, true, false, List, [], ◌∷◌, ◌++◌, length, refl, sym, ap, subst, ◌∙◌, arith, append_assoc}
use Rattle.std.specs.Prelude.{⊤}
use Rattle.std.proofs.lemmas.List.{append-nil}
use Rattle.std.proofs.lemmas.Bool.Decides.{nat_tests}
use Rattle.ac_history.specs.declared.entry.Entry.{Entry}
use Rattle.ac_history.specs.Blocks.{Block, IsComplete, after_turns, commands_in, opening, present, with_entries}
use Rattle.ac_history.specs.Histories.{Outcome, over, held_up, done, is_done, is_able, outcome, entries_of, state_after, replay, IsLegal}
use Rattle.ac_history.specs.Orders.{each_below, rounds, last_rounds, run_of, order_of, OrdersRun, HistoriesHaveOrders}
use Rattle.ac_history.specs.States.{State, left, one_each}
use Rattle.ac_history.proofs.Left.{turn_falls, left_begun, all_ones}
use Rattle.ac_history.proofs.LegalHistories.{one_turn, legal_append, present_after}
use Rattle.ac_history.proofs.Starts.{turns_keep_start}

-- The state alone

behind : State → List ℕ → State
behind s [] = s
behind s (task ∷ tasks) = behind (state_after s (outcome s task)) tasks

behind_append : (tasks more : List ℕ) (s : State) → behind s (tasks ++ more) ≡ behind (behind s tasks) more
unfolding behind
behind_append [] more s = refl
behind_append (task ∷ tasks) more s = behind_append tasks more (state_after s (outcome s task))

present_behind : (tasks : List ℕ) (b : Block) → present (after_turns b tasks) ≡ behind (present b) tasks
unfolding behind
present_behind [] b = refl
present_behind (task ∷ tasks) b =
    present_behind tasks (with_entries b (entries_of (outcome (present b) task))) ∙ ap (λ s. behind s tasks) (present_after b task)

replay_behind : (history : List Entry) (s : State) → replay s history ≡ behind s (order_of history)
unfolding behind
replay_behind [] s = refl
replay_behind (e ∷ history) s = replay_behind history (state_after s (outcome s e.task))

-- What is left never grows

not_done : (s : State) (o : Outcome) → is_done o ≡ false → state_after s o ≡ s
not_done s over e = refl
not_done s held_up e = refl
not_done s (done e after) f = cc

no_entries : (o : Outcome) → is_done o ≡ false → entries_of o ≡ []
no_entries over e = refl
no_entries held_up e = refl
no_entries (done e after) f = cc

abbrev left_in : State → ℕ
left_in s = left one_each s.tasks

one_falls : (s : State) (task : ℕ) (able : Bool) → is_able s task ≡ able → left_in (state_after s (outcome s task)) ≤ left_in s
one_falls s task true able = omega (arith, turn_falls s task able)
one_falls s task false able = subst (λ x. left_in x ≤ left_in s) (sym (not_done s (outcome s task) able)) (omega arith)

never_grows : (tasks : List ℕ) (s : State) → left_in (behind s tasks) ≤ left_in s
unfolding behind
never_grows [] s = omega arith
never_grows (task ∷ tasks) s =
    omega (arith, one_falls s task (is_able s task) refl, never_grows tasks (state_after s (outcome s task)))

-- Where none of these tasks is able, their turns do nothing

AllIdle : State → List ℕ → Type 0
AllIdle s [] = ⊤
AllIdle s (task ∷ tasks) = (is_able s task ≡ false) × AllIdle s tasks

idle_append : (tasks more : List ℕ) (s : State) → AllIdle s tasks → AllIdle s more → AllIdle s (tasks ++ more)
unfolding AllIdle
idle_append [] more s h k = k
idle_append (task ∷ tasks) more s h k = (h.0, idle_append tasks more s h.1 k)

idle_first : (tasks more : List ℕ) (s : State) → AllIdle s (tasks ++ more) → AllIdle s tasks
unfolding AllIdle
idle_first [] more s h = tt
idle_first (task ∷ tasks) more s h = (h.0, idle_first tasks more s h.1)

idle_last : (tasks : List ℕ) (task : ℕ) (s : State) → AllIdle s (tasks ++ task ∷ []) → is_able s task ≡ false
unfolding AllIdle
idle_last [] task s h = h.0
idle_last (x ∷ tasks) task s h = idle_last tasks task s h.1

-- of all tasks below a number
abbrev NoneAble : State → ℕ → Type 0
NoneAble s count = (task : ℕ) → task < count → is_able s task ≡ false

below_idle : (count : ℕ) (s : State) → NoneAble s count → AllIdle s (each_below count)
unfolding AllIdle
below_idle zero s h = tt
below_idle (suc count) s h =
    idle_append (each_below count) (count ∷ []) s (below_idle count s (λ task within. h task (omega (arith, within)))) (h count (omega arith), tt)

idle_at : (count : ℕ) (s : State) → AllIdle s (each_below count) → NoneAble s count
idle_at zero s h task within = absurd (omega (arith, within))
idle_at (suc count) s h task within =
    last (nat_eq task count) refl (idle_at count s (idle_first (each_below count) (count ∷ []) s h) task)
  where
    last : (b : Bool) → nat_eq task count ≡ b → (task < count → is_able s task ≡ false) → is_able s task ≡ false
    last true e below =
        let same : task ≡ count = grind (arith, nat_tests) in
        subst (λ n. is_able s n ≡ false) (sym same) (idle_last (each_below count) count s h)
    last false e below = below (grind (arith, nat_tests))

rounds_idle : (times count : ℕ) (s : State) → NoneAble s count → AllIdle s (rounds times count)
unfolding AllIdle
rounds_idle zero count s h = tt
rounds_idle (suc times) count s h =
    idle_append (each_below count) (rounds times count) s (below_idle count s h) (rounds_idle times count s h)

idle_behind : (tasks : List ℕ) (s : State) → AllIdle s tasks → behind s tasks ≡ s
unfolding AllIdle behind
idle_behind [] s h = refl
idle_behind (task ∷ tasks) s h =
    ap (λ x. behind x tasks) (not_done s (outcome s task) h.0) ∙ idle_behind tasks s h.1

-- A round does nothing, or leaves less to do

data Round (s : State) (tasks : List ℕ) : Type 0 where
  idle : AllIdle s tasks → Round s tasks
  moved : left_in (behind s tasks) < left_in s → Round s tasks

round_more : (task : ℕ) (tasks : List ℕ) (s : State) → is_able s task ≡ false → Round s tasks → Round s (task ∷ tasks)
unfolding AllIdle behind
round_more task tasks s none (idle h) = idle (none, h)
round_more task tasks s none (moved h) = moved (subst (λ x. left_in (behind x tasks) < left_in s) (sym (not_done s (outcome s task) none)) h)

one_round : (tasks : List ℕ) (s : State) → Round s tasks
unfolding AllIdle behind
one_round [] s = idle tt
one_round (task ∷ tasks) s = first (is_able s task) refl (one_round tasks s)
  where
    first : (b : Bool) → is_able s task ≡ b → Round s tasks → Round s (task ∷ tasks)
    first true able rest =
        let now = state_after s (outcome s task) in
        moved (omega (arith, turn_falls s task able, never_grows tasks now))
    first false none rest = round_more task tasks s none rest

-- so that as many as there are steps left are enough

nothing_left : (s : State) (task : ℕ) (able : Bool) → is_able s task ≡ able → left_in s ≡ 0 → is_able s task ≡ false
nothing_left s task true able none = absurd (omega (arith, turn_falls s task able, none))
nothing_left s task false able none = able

rounds_end : (times count : ℕ) (s : State) → left_in s ≤ times → NoneAble (behind s (rounds times count)) count
unfolding behind
rounds_end zero count s few task within = nothing_left s task (is_able s task) refl (omega (arith, few))
rounds_end (suc times) count s few task within =
    let each = each_below count in
    subst (λ x. is_able x task ≡ false) (sym (behind_append each (rounds times count) s))
    (go (one_round each s) (λ fewer. rounds_end times count (behind s each) fewer task within))
  where
    go : Round s (each_below count) →
        (left_in (behind s (each_below count)) ≤ times → is_able (behind (behind s (each_below count)) (rounds times count)) task ≡ false) →
        is_able (behind (behind s (each_below count)) (rounds times count)) task ≡ false
    go (idle h) rest =
        let none = idle_at count s h in
        let stays : behind (behind s (each_below count)) (rounds times count) ≡ s =
        ap (λ x. behind x (rounds times count)) (idle_behind (each_below count) s h)
        ∙ idle_behind (rounds times count) s (rounds_idle times count s none) in
        subst (λ x. is_able x task ≡ false) (sym stays) (none task within)
    go (moved h) rest = rest (omega (arith, h, few))

-- A block

at_most_all : (b : Block) → left_in (present b) ≤ commands_in b.code
at_most_all b =
    let all : left_in (opening b) ≡ commands_in b.code = left_begun one_each b.code ∙ all_ones b.code in
    subst (λ s. left_in s ≤ commands_in b.code) (sym (replay_behind b.history (opening b)))
    (omega (arith, never_grows (order_of b.history) (opening b), all))

turns_legal : (tasks : List ℕ) (b : Block) → IsLegal (opening b) b.history → IsLegal (opening (after_turns b tasks)) (after_turns b tasks).history
turns_legal [] b legal = legal
turns_legal (task ∷ tasks) b legal =
    let next = entries_of (outcome (present b) task) in
    turns_legal tasks (with_entries b next) (legal_append b.history next (opening b) legal (one_turn (present b) task).legal)

run_ends : (b : Block) (order : List ℕ) → IsComplete (run_of b order)
run_ends b order task within =
    let count = length b.code in
    let times = commands_in b.code in
    let now = behind (present b) order in
    let same : present (run_of b order) ≡ behind now (rounds times count) =
    present_behind (order ++ last_rounds b) b ∙ behind_append order (last_rounds b) (present b) in
    let few : left_in now ≤ times = omega (arith, never_grows order (present b), at_most_all b) in
    let code : (run_of b order).code ≡ b.code = (turns_keep_start (order ++ last_rounds b) b).code in
    subst (λ s. is_able s task ≡ false) (sym same) (rounds_end times count now few task (subst (λ c. task < length c) code within))

pub orders_run : OrdersRun
orders_run b order legal = record { legal = turns_legal (order ++ last_rounds b) b legal; complete = run_ends b order }

-- A history's order

turns_append : (tasks more : List ℕ) (b : Block) → after_turns b (tasks ++ more) ≡ after_turns (after_turns b tasks) more
turns_append [] more b = refl
turns_append (task ∷ tasks) more b = turns_append tasks more (with_entries b (entries_of (outcome (present b) task)))

with_none : (b : Block) → with_entries b [] ≡ b
with_none b = λ i. record { queues = b.queues; code = b.code; history = append-nil b.history i }

with_more : (b : Block) (e : Entry) (es : List Entry) → with_entries (with_entries b (e ∷ [])) es ≡ with_entries b (e ∷ es)
with_more b e es = λ i. record { queues = b.queues; code = b.code; history = append_assoc b.history (e ∷ []) es i }

history_turns : (more : List Entry) (b : Block) → IsLegal (present b) more → after_turns b (order_of more) ≡ with_entries b more
history_turns [] b legal = sym (with_none b)
history_turns (e ∷ es) b legal =
    let next = with_entries b (entries_of (outcome (present b) e.task)) in
    let same : next ≡ with_entries b (e ∷ []) = ap (with_entries b) legal.0 in
    let rest : IsLegal (present next) es = subst (λ s. IsLegal s es) (sym (present_after b e.task)) legal.1 in
    history_turns es next rest ∙ (ap (λ x. with_entries x es) same ∙ with_more b e es)

idle_turns : (tasks : List ℕ) (b : Block) → AllIdle (present b) tasks → after_turns b tasks ≡ b
unfolding AllIdle
idle_turns [] b h = refl
idle_turns (task ∷ tasks) b h =
    ap (λ x. after_turns (with_entries b x) tasks) (no_entries (outcome (present b) task) h.0)
    ∙ (ap (λ x. after_turns x tasks) (with_none b) ∙ idle_turns tasks b h.1)

pub histories_have_orders : HistoriesHaveOrders
histories_have_orders b more legal complete =
    let now = with_entries b more in
    turns_append (order_of more) (last_rounds b) b
    ∙ (ap (λ x. after_turns x (last_rounds b)) (history_turns more b legal)
    ∙ idle_turns (last_rounds b) now (rounds_idle (commands_in b.code) (length b.code) (present now) complete))
