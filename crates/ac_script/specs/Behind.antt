-- What is kept of the tokens before one, to test its limits.
use Rattle.std.specs.Prelude.{◌≡◌, ℕ, true, List, ◌∷◌, take, drop}
use Rattle.ac_syntax.specs.declared.token.Placed.{Placed}
use Rattle.ac_syntax.specs.Tokens.{tokens}
use Rattle.ac_syntax.specs.Limits.{Progress, no_task, task_opened, command_due, in_command, Seen, seen_of, is_past_limit, AreWithinLimits}
use Rattle.ac_script.specs.declared.limits.Behind.{Behind}
use Rattle.ac_script.specs.declared.limits.Progress.{Progress as Kept}
use Rattle.ac_script.specs.declared.limits.Progress.TheVariants as kept

abbrev pub progress_view : Kept → Progress
progress_view kept.NoTask = no_task
progress_view kept.Opened = task_opened
progress_view kept.Due = command_due
progress_view kept.InCommand = in_command

abbrev pub seen_view : Behind → Seen
seen_view behind = record {
  depth = behind.depth;
  opened = behind.opened;
  minus = behind.minus;
  ended = behind.ended;
  awaited = behind.awaited;
  tasks = behind.tasks;
  progress = progress_view behind.progress;
  commands = behind.commands;
}

-- the first n tokens are within the limits, and the one behind them, if there is one, isn't
pub record StandWithin (n : ℕ) (placed : List Placed) : Type 0 where
  pub within : AreWithinLimits (tokens (take n placed))
  pub past : (bad : Placed) (after : List Placed) → drop n placed ≡ bad ∷ after → is_past_limit (seen_of (tokens (take n placed))) bad.token ≡ true
