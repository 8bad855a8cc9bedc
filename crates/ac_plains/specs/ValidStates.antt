-- What the outermost names of a script that can run hold is a valid state, as long as each is as it was declared and each object is as the model has it.
use Rattle.std.specs.Prelude.{◌≡◌, ◌≤◌, ⊤, ℕ, true, List, [], map, All, None}
use Rattle.std.specs.List.{list_all}
use Rattle.ac_base.specs.declared.limit.TheConstants.{GREATEST_LENGTH}
use Rattle.ac_model.specs.Holders.{IsValidHolder}
use Rattle.ac_model.specs.Queues.{TaskQueue, IsValidQueue}
use Rattle.ac_syntax.specs.Refusals.{Spells}
use Rattle.ac_syntax.specs.declared.script.Script.{Script}
use Rattle.ac_rules.specs.Faults.{decl_name, IsChecked}
use Rattle.ac_rules.specs.Resolved.{resolve_decls}
use Rattle.ac_calls.specs.Elements.{tools_of}
use Rattle.ac_calls.specs.Holdings.{Held, of_rows, of_holder, of_queue}
use Rattle.ac_meaning.specs.AsDeclared.{AreAsDeclared}
use Rattle.ac_calls.specs.declared.plains.Plain.{Plain}
use Rattle.ac_meaning.specs.Environment.{Bound, binds_type, binds_object, binds_cursor, binds_value, binds_element, State, after_decls, at_rest, first_state}
use Rattle.ac_meaning.specs.Execution.{Orders, run_from}
use Rattle.ac_plains.specs.Resumed.{IsMatched, outermost, resumed}
use Rattle.ac_meaning.specs.Plains.{plains_of}
use Rattle.ac_snapshot.specs.Representable.{is_entry_representable}
use Rattle.ac_snapshot.specs.TestLaws.{AreSound}
use Rattle.ac_snapshot.specs.Validity.{is_valid}

-- a queue has never had more items than any container may have
pub record IsSoundQueue (q : TaskQueue) : Type 0 where
  pub valid : IsValidQueue q.discipline q.queue
  pub peak_within : q.queue.peak ≤ GREATEST_LENGTH

-- what holds of every object in memory, as the model has it
abbrev pub IsSoundHeld : Held → Type 0
IsSoundHeld (of_rows kind o) = AreSound kind o
IsSoundHeld (of_holder e h) = IsValidHolder (tools_of e).size h
IsSoundHeld (of_queue number q) = IsSoundQueue q

abbrev pub IsSoundBound : Bound → Type 0
IsSoundBound binds_type = ⊤
IsSoundBound (binds_object h) = IsSoundHeld h
IsSoundBound (binds_cursor _) = ⊤
IsSoundBound (binds_value _) = ⊤
IsSoundBound (binds_element _ _) = ⊤

-- the model's integers and texts have no bounds, so that memory can hold them is a premise
pub record SavesValid : Type 0 where
  pub valid : (script : Script) (text : List ℕ) (e : State) → Spells script text → IsChecked script →
      AreAsDeclared (resolve_decls [] script.decls) e.bounds → All IsSoundBound e.bounds →
      list_all is_entry_representable (plains_of (map decl_name script.decls) e) ≡ true →
      is_valid (plains_of (map decl_name script.decls) e) ≡ true

-- at a script's end its outermost names are as they were declared, whatever state it began on
pub record EndsDeclared : Type 0 where
  pub ends : (orders : Orders) (script : Script) (s : List Plain) → IsChecked script →
      (after_decls (resolve_decls [] script.decls) first_state).spent ≡ None → is_valid s ≡ true → All (IsMatched script (outermost script)) s →
      AreAsDeclared (resolve_decls [] script.decls) (at_rest (run_from orders script (resumed script (outermost script) s)).after).bounds
