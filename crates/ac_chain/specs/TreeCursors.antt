-- How a call of a tree is told its cursors, and how it answers one: at the root too, which has no row.
use Rattle.std.specs.Prelude.{◌≡◌, ℕ, OnErr, Result}
use Rattle.ac_base.specs.declared.cursor.Cursor.{Cursor}
use Rattle.ac_base.specs.declared.fault.Fault.{Fault}
use Rattle.ac_base.specs.declared.name.Name.{Name}
use Rattle.ac_model.specs.Objects.{Object}
use Rattle.ac_model.specs.Letters.{Mark}
use Rattle.ac_model.specs.Calls.{Call, Both}
use Rattle.ac_model.specs.Containers.{Container}
use Rattle.ac_model.specs.Forms.{Does, DoesBoth}
use Rattle.ac_model.specs.Trees.{tree_mark}

-- what the cursor means to the tree
abbrev pub seen_by : {V : Type 0} → Container V → Cursor → Mark
seen_by c cursor = tree_mark c.object cursor

-- the cursor is the definitions' mark, which may be the root's
abbrev pub NodeMarks : {V : Type 0} → Object Name V → Cursor → Mark → Type 0
NodeMarks o cursor mark = tree_mark o cursor ≡ mark

-- the call does what it means to the tree and sets its cursor variable, which keeps its value where the call fails
abbrev pub SetsNode : {V X : Type 0} → (Object ℕ V → Call (Object ℕ V) Mark) → Container V → Cursor → Container V → Cursor → Result X Fault → Type 0
SetsNode call old variable_old new variable_new result =
    Does (λ _ mark. NodeMarks new.object variable_new mark) call old new result × OnErr result (variable_new ≡ variable_old)

-- the same of a target and a source: the variable is set to a cursor of the target
abbrev pub SetsNodeBoth : {V X : Type 0} → (Object ℕ V → Object ℕ V → Call (Both (Object ℕ V)) Mark) → (target source : Container V) → Cursor → (target_new source_new : Container V) → Cursor → Result X Fault → Type 0
SetsNodeBoth call target source variable_old target_new source_new variable_new result =
    DoesBoth (λ _ mark. NodeMarks target_new.object variable_new mark) call target source target_new source_new result × OnErr result (variable_new ≡ variable_old)
