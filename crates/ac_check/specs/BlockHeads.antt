-- Commands and the heads of blocks, as contracts see them.
use Rattle.std.specs.Prelude.{Bool, true, false}
use Rattle.ac_syntax.specs.declared.stmt.Stmt.{Stmt}
use Rattle.ac_syntax.specs.declared.stmt.Stmt.TheVariants.{Call, Set, Sum, Loop, View, Stable, Declare, Tasks, Handled}
use Rattle.ac_rules.specs.Resolved.{ResolvedHead, loops_at, views_at, stables_at, declares_at}
use Rattle.ac_check.specs.declared.resolve.BlockHead.{BlockHead}
use Rattle.ac_check.specs.declared.resolve.BlockHead.TheVariants as head

abbrev pub head_view : BlockHead → ResolvedHead
head_view (head.Loop line elements backward object) = loops_at line elements backward object
head_view (head.View line kind object at) = views_at line kind object at
head_view (head.Stable line object) = stables_at line object
head_view (head.Declare line decls) = declares_at line decls

-- no block
abbrev pub is_command : Stmt → Bool
is_command (Call line target object word args) = true
is_command (Set line target from) = true
is_command (Sum line target from minus number) = true
is_command (Loop line name elements backward object body) = false
is_command (View line kind object at name body) = false
is_command (Stable line object body) = false
is_command (Declare line decls body) = false
is_command (Tasks line tasks) = false
is_command (Handled line body handlers) = false
