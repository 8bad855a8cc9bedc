-- What the code keeps of a name as contracts see it.
use Rattle.std.specs.Prelude.{ℕ, List, map, Vec}
use Rattle.ac_check.specs.declared.meaning.Meaning.{Meaning as Kept}
use Rattle.ac_check.specs.declared.meaning.Meaning.TheVariants as kept
use Rattle.ac_rules.specs.Scopes.{Meaning, a_type, an_object, a_cursor, a_value, a_task, Entry, entry}

abbrev pub meaning_view : Kept → Meaning
meaning_view (kept.Type def) = a_type def
meaning_view (kept.Object of def) = an_object of def
meaning_view (kept.Cursor of is_variable) = a_cursor of is_variable
meaning_view (kept.Value elem is_written) = a_value elem is_written
meaning_view kept.Task = a_task

-- names with their meanings
abbrev pub entries_view : {A : Type 0} → List (Vec ℕ A × Kept) → List Entry
entries_view named = map (λ n. entry n.0.items (meaning_view n.1)) named
