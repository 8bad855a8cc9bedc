-- The row of the table that a call is, and so the operation that it means.
use Rattle.std.specs.Prelude.{◌≡◌, ◌↔◌, ℕ, List, find, IsTrue, Contains, Option, Some, None, option_map}
use Rattle.ac_syntax.specs.declared.arg.Arg.{Arg}
use Rattle.ac_syntax.specs.declared.stmt.Stmt.{Stmt}
use Rattle.ac_syntax.specs.declared.stmt.Stmt.TheVariants.{Call, Set, Sum, Loop, View, Stable, Declare, Tasks, Handled}
use Rattle.ac_syntax.specs.declared.operation.Operation.{Operation}
use Rattle.ac_rules.specs.Table.{Row, rows_of}
use Rattle.ac_rules.specs.Scopes.{Scope, Typed, object_of}
use Rattle.ac_rules.specs.Rules.{is_row, all_fit, takes_answer, answered}

module _ (scope : Scope) (typed : Typed) (target : Option (List ℕ)) (word : List ℕ) (args : List Arg) where
  -- a row of the type's that the call is
  pub record IsRowFor (row : Row) : Type 0 where
    pub there : Contains (rows_of typed.def) row
    pub fits : IsTrue (is_row scope typed target word args row)

  abbrev pub row_for : Option Row
  row_for = find (is_row scope typed target word args) (rows_of typed.def)

  -- there is one row at most, and it is found
  abbrev pub HasOneRow : Type 0
  HasOneRow = (row other : Row) → IsRowFor row → IsRowFor other → row ≡ other

  abbrev pub FindsRow : Type 0
  FindsRow = (row : Row) → IsRowFor row ↔ (row_for ≡ Some row)

-- what the call means, if it is on an object and in the table
abbrev pub operation_of : Scope → Option Typed → (target : Option (List ℕ)) → (word : List ℕ) → List Arg → Option Operation
operation_of scope None target word args = None
operation_of scope (Some typed) target word args = option_map (λ (row : Row). row.operation) (row_for scope typed target word args)

-- what a statement means, if it is a call of the table
abbrev pub meant : Scope → Stmt → Option Operation
meant scope (Call line target object word args) = operation_of scope (object_of scope object) target word args
meant scope (Set line target from) = None
meant scope (Sum line target from minus number) = None
meant scope (Loop line name elements backward object body) = None
meant scope (View line view object at name body) = None
meant scope (Stable line object body) = None
meant scope (Declare line decls body) = None
meant scope (Tasks line tasks) = None
meant scope (Handled line body handlers) = None

-- a call that keeps the rules: on an object, a row of its type's, whose letters its arguments are and whose answer the target takes
pub record CallKept (scope : Scope) (typed : Option Typed) (target : Option (List ℕ)) (word : List ℕ) (args : List Arg) : Type 0 where
  pub object : Typed
  pub is : typed ≡ Some object
  pub row : Row
  pub found : row_for scope object target word args ≡ Some row
  pub fits : IsTrue (all_fit scope object row.letters row.optional args)
  pub taken : IsTrue (takes_answer scope target (answered object row.answer))
