-- The end of an update of an element that keeps its key.
use Rattle.std.specs.Prelude.{◌≡◌, ◌++◌, ℕ, false, Option, None}
use Rattle.ac_base.specs.Key.{key_of_text}
use Rattle.ac_base.specs.declared.guard.GuardKind.TheVariants as guard
use Rattle.ac_base.specs.declared.reason.Reason.{Reason}
use Rattle.ac_model.specs.Common.{release_call}
use Rattle.ac_model.specs.Holders.{release_call as released}
use Rattle.ac_model.specs.Cursors.{plain_mark, seen}
use Rattle.ac_model.specs.KeyedSets.{end_update_key_call}
use Rattle.ac_model.specs.Letters.{Mark}
use Rattle.ac_calls.specs.Elements.{Text, texts}
use Rattle.ac_calls.specs.KeyedReplies.{order_by}
use Rattle.ac_calls.specs.Holdings.{Held, Guards, Written, written, of_rows, of_holder, of_queue, a_keyed_set}
use Rattle.ac_meaning.specs.Environment.{State, under, value_at, leaving}
use Rattle.ac_meaning.specs.Execution.{key_end, end_lines, reason_end}
use Rattle.ac_objects.specs.declared.blocks.OpenUpdate.{OpenUpdate}
use Rattle.ac_objects.specs.Blocks.{guards_of_open_update}

-- the guard is released, whatever the object is. Of a keyed set the element is the copy, or it goes
abbrev pub key_ended : Held → Mark → Text → Written
key_ended (of_rows (a_keyed_set which) o) at copy =
    written (of_rows (a_keyed_set which)) (end_update_key_call key_of_text (order_by texts which) o (seen o at) copy)
key_ended (of_rows kind o) at copy = record { reason = None; after = of_rows kind (release_call false guard.Cursors o) }
key_ended (of_holder e h) at copy = record { reason = None; after = of_holder e (released guard.Cursors h) }
key_ended (of_queue number q) at copy = record { reason = None; after = of_queue number q }

-- what an update comes to where it ends, in the environment that its body left, whatever guards are held beside its own
abbrev pub UpdateEnds : OpenUpdate → (old new : State) → Option Reason → Type 0
UpdateEnds key old new reason =
    (line : ℕ) (guards : Guards) (e : State) → old ≡ under (guards_of_open_update key ++ guards) e →
    let held = guards_of_open_update key ++ guards in
    let ended = key_end line key.object (plain_mark key.at) (value_at e key.names) held (leaving key.names e) in
    (ended.lines ≡ end_lines line reason) × (new ≡ under guards ended.after) × (ended.end ≡ reason_end reason)
