-- What stands in which block of a script: a task in a block of tasks, which has at least one, with integers as its locals and commands alone; a block with
-- handlers where exceptions propagate, with at least one handler, and none behind that of all others.
use Rattle.std.specs.Prelude.{◌≡◌, Bool, true, List, [], ◌∷◌, Some, None}
use Rattle.ac_syntax.specs.declared.decl.Decl.{Decl}
use Rattle.ac_syntax.specs.declared.decl.Decl.TheVariants.{TypeDecl, Object, CursorVar, IntVar, TextVar}
use Rattle.ac_syntax.specs.Code.{loop_at, view_at, stable_at, declare_at, tasks_at, task_at, Code, stop, one, block, handled, HandlerCode, no_handler, handler}

abbrev pub AreIntegers : List Decl → Type 0
AreIntegers [] = Unit {0}
AreIntegers (TypeDecl _ _ _ ∷ _) = ⊥
AreIntegers (Object _ _ _ _ ∷ _) = ⊥
AreIntegers (CursorVar _ _ _ ∷ _) = ⊥
AreIntegers (IntVar _ _ ∷ decls) = AreIntegers decls
AreIntegers (TextVar _ _ ∷ _) = ⊥

abbrev pub AreCommands : Code → Type 0
AreCommands stop = Unit {0}
AreCommands (one _ rest) = AreCommands rest
AreCommands (block _ _ _) = ⊥
AreCommands (handled _ _ _ _) = ⊥

-- what stands behind the first task of a block
abbrev pub AreTasks : Code → Type 0
AreTasks stop = Unit {0}
AreTasks (one _ _) = ⊥
AreTasks (handled _ _ _ _) = ⊥
AreTasks (block (loop_at _ _ _ _ _) _ _) = ⊥
AreTasks (block (view_at _ _ _ _ _) _ _) = ⊥
AreTasks (block (stable_at _ _) _ _) = ⊥
AreTasks (block (declare_at _ _) _ _) = ⊥
AreTasks (block (tasks_at _) _ _) = ⊥
AreTasks (block (task_at _ _ locals) steps rest) = AreIntegers locals × AreCommands steps × AreTasks rest

abbrev pub IsSome : Code → Type 0
IsSome stop = ⊥
IsSome (one _ _) = Unit {0}
IsSome (block _ _ _) = Unit {0}
IsSome (handled _ _ _ _) = Unit {0}

abbrev pub HasHandler : HandlerCode → Type 0
HasHandler no_handler = ⊥
HasHandler (handler _ _ _ _) = Unit {0}

abbrev mutual
  -- statements outside tasks
  pub AreStatements : (propagating : Bool) → Code → Type 0
  AreStatements propagating stop = Unit {0}
  AreStatements propagating (one _ rest) = AreStatements propagating rest
  AreStatements propagating (block (loop_at _ _ _ _ _) body rest) = AreStatements propagating body × AreStatements propagating rest
  AreStatements propagating (block (view_at _ _ _ _ _) body rest) = AreStatements propagating body × AreStatements propagating rest
  AreStatements propagating (block (stable_at _ _) body rest) = AreStatements propagating body × AreStatements propagating rest
  AreStatements propagating (block (declare_at _ _) body rest) = AreStatements propagating body × AreStatements propagating rest
  AreStatements propagating (block (tasks_at _) body rest) = IsSome body × AreTasks body × AreStatements propagating rest
  AreStatements propagating (block (task_at _ _ _) _ _) = ⊥
  AreStatements propagating (handled _ body handlers rest) =
      (propagating ≡ true) × AreStatements propagating body × HasHandler handlers × AreHandlers propagating handlers × AreStatements propagating rest

  -- the handlers of a block
  pub AreHandlers : (propagating : Bool) → HandlerCode → Type 0
  AreHandlers propagating no_handler = Unit {0}
  AreHandlers propagating (handler _ (Some _) body more) = AreStatements propagating body × AreHandlers propagating more
  AreHandlers propagating (handler _ None body more) = AreStatements propagating body × (more ≡ no_handler)
