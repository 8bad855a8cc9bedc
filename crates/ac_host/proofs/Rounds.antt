-- Turns of all tasks, round by round.
use Rattle.std.proofs.Common.{◌≡◌, ◌+◌, ◌-◌, ◌<◌, ◌≤◌, ℕ, suc, List, [], ◌∷◌, ◌++◌, length, refl, sym, ap, subst, ◌∙◌, arith}
use Rattle.ac_history.specs.declared.code.TaskCode.{TaskCode}
use Rattle.ac_history.specs.Blocks.{Block, after_turns, commands_in, present, with_entries}
use Rattle.ac_history.specs.Histories.{entries_of, outcome}
use Rattle.ac_history.specs.Orders.{each_below, rounds}
use Rattle.ac_history.proofs.Starts.{turns_keep_start}

pub turns_then : (tasks more : List ℕ) (b : Block) → after_turns b (tasks ++ more) ≡ after_turns (after_turns b tasks) more
turns_then [] more b = refl
turns_then (task ∷ tasks) more b = turns_then tasks more (with_entries b (entries_of (outcome (present b) task)))

pub same_code : (tasks : List ℕ) (b : Block) → (after_turns b tasks).code ≡ b.code
same_code tasks b = (turns_keep_start tasks b).code

-- In a round

-- the task is the next one
pub turned_next : (b now next : Block) (task : ℕ) → now ≡ after_turns b (each_below task) →
    next ≡ with_entries now (entries_of (outcome (present now) task)) → next ≡ after_turns b (each_below (task + 1))
turned_next b now next task is turned =
    let one : next ≡ after_turns b (each_below (suc task)) =
    turned ∙ (ap (λ x. after_turns x (task ∷ [])) is ∙ sym (turns_then (each_below task) (task ∷ []) b)) in
    let same : suc task ≡ task + 1 = omega arith in
    subst (λ n. next ≡ after_turns b (each_below n)) same one

pub within_round : (b now : Block) (task : ℕ) → now ≡ after_turns b (each_below task) → task < length b.code → task < length now.code
within_round b now task is within =
    let same : length now.code ≡ length b.code = ap (λ (x : Block). length x.code) is ∙ ap (λ (c : List TaskCode). length c) (same_code (each_below task) b) in
    omega (arith, within, same)

-- Rounds

-- after so many of them, what is left of now is what there is to do of the first
pub record InRounds (b now : Block) (done : ℕ) : Type 0 where
  pub left : after_turns now (rounds (commands_in b.code - done) (length b.code)) ≡ after_turns b (rounds (commands_in b.code) (length b.code))
  pub code : now.code ≡ b.code

pub no_round : (b : Block) → InRounds b b 0
no_round b = record {
  left = ap (λ n. after_turns b (rounds n (length b.code))) (omega arith);
  code = refl;
}

one_more : (times done : ℕ) → done < times → times - done ≡ suc (times - (done + 1))
one_more times done more = omega (arith, more)

pub one_round : (b now next : Block) (done : ℕ) → InRounds b now done → done < commands_in b.code →
    next ≡ after_turns now (each_below (length now.code)) → InRounds b next (done + 1)
one_round b now next done r more turned =
    let count = length b.code in
    let rest = commands_in b.code - (done + 1) in
    let same : next ≡ after_turns now (each_below count) = turned ∙ ap (λ (c : List TaskCode). after_turns now (each_below (length c))) r.code in
    record {
      left =
          ap (λ x. after_turns x (rounds rest count)) same
          ∙ (sym (turns_then (each_below count) (rounds rest count) now)
          ∙ (ap (λ n. after_turns now (rounds n count)) (sym (one_more (commands_in b.code) done more)) ∙ r.left));
      code = ap (λ (x : Block). x.code) turned ∙ (same_code (each_below (length now.code)) now ∙ r.code);
    }

pub all_rounds : (b now : Block) (done : ℕ) → InRounds b now done → commands_in b.code ≤ done → now ≡ after_turns b (rounds (commands_in b.code) (length b.code))
all_rounds b now done r all =
    let none : commands_in b.code - done ≡ 0 = omega (arith, all) in
    ap (λ n. after_turns now (rounds n (length b.code))) (sym none) ∙ r.left
