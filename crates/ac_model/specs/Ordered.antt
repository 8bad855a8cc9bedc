-- The calls of ordered maps and sets alone that don't look at keys (A.18.6, A.18.9).
use Rattle.std.specs.Prelude.{ℕ, pos}
use Rattle.ac_model.specs.Objects.{Object}
use Rattle.ac_model.specs.Calls.{Call, Done}
use Rattle.ac_model.specs.Sequences as sequence

-- Delete_First, Delete_Last (A.18.6, A.18.9): no effect where there is no element
abbrev pub delete_first_call : {V : Type 0} → Object ℕ V → Call (Object ℕ V) Done
delete_first_call o = sequence.delete_first_call o (pos 1)

abbrev pub delete_last_call : {V : Type 0} → Object ℕ V → Call (Object ℕ V) Done
delete_last_call o = sequence.delete_last_call o (pos 1)
