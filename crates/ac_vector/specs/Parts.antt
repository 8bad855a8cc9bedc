-- What parts of a vector's calls mean: values that are put before a place, and a variable that is set.
use Rattle.std.specs.Prelude.{ℕ, List, ◌∷◌, length, replicate, Option, None, Result, Ok, Err}
use Rattle.ac_base.specs.declared.cursor.Cursor.{Cursor}
use Rattle.ac_base.specs.declared.fault.Fault.{Fault}
use Rattle.ac_base.specs.declared.name.Name.{Name}
use Rattle.ac_base.specs.declared.reason.Reason.{Reason}
use Rattle.ac_base.specs.FirstReason.{first_reason}
use Rattle.ac_model.specs.Calls.{Call, Done, call, takes_some}
use Rattle.ac_model.specs.Cursors.{cursor_of_first, spot}
use Rattle.ac_model.specs.Letters.{Mark, no_mark, tampers_cursors}
use Rattle.ac_model.specs.Objects.{Object, length_of, plain}
use Rattle.ac_model.specs.Sequences.{with_new, first_new}
use Rattle.ac_model.specs.Vectors.{room_for_source, with_copies_of}

module _ {X : Type 0} where
  -- the answer is the first one's cursor
  abbrev pub put_values_call : Object Name X → Option Name → List X → Call (Object ℕ X) Mark
  put_values_call o place vs = call takes_some None (with_new (plain o) (spot o place) vs (length vs)) (first_new (plain o) no_mark (length vs))

  -- the same of a source's elements, where this reason was found for the place
  abbrev pub source_call : Object Name X → Option Reason → Option Name → Object ℕ X → Call (Object ℕ X) Mark
  source_call o found place source =
      call takes_some
      (first_reason (tampers_cursors (plain o) ∷ found ∷ room_for_source (plain o) source))
      (with_copies_of (plain o) (spot o place) source)
      (first_new (plain o) no_mark (length_of source))

  -- so many blank elements at the end
  abbrev pub blanks_call : Object ℕ X → X → ℕ → Call (Object ℕ X) Done
  blanks_call o blank more = call takes_some None (with_new o (length_of o) (replicate more blank) more) tt

-- a variable that is set to the first of so many, where the call isn't refused
abbrev pub variable_after : Result Cursor Fault → ℕ → Cursor → Cursor → Cursor
variable_after (Ok first) count b old = cursor_of_first count first b
variable_after (Err e) count b old = old
