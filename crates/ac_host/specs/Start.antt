-- Where a script's statements begin on objects that stand already.
use Rattle.std.specs.Prelude.{◌≡◌, []}
use Rattle.ac_syntax.specs.declared.script.Script.{Script}
use Rattle.ac_rules.specs.Resolved.{resolve_decls}
use Rattle.ac_meaning.specs.Environment.{State, at_rest, after_decls, first_state}
use Rattle.ac_meaning.specs.GuardedNames.{kept}
use Rattle.ac_host.specs.Ready.{Ready}

-- what a script's statements begin on: its outermost declarations are made, and nothing else
abbrev pub start_of : Script → State
start_of script = (after_decls (resolve_decls [] script.decls) first_state).after

-- an environment in which no guard is held, and no block of tasks has begun
pub record IsAtStart (e : State) : Type 0 where
  pub rest : at_rest e ≡ e
  pub ready : Ready [] e
  pub no_block : e.blocks ≡ 0

-- so is one in which each name holds what it held, but for values, rows, elements and cursors
abbrev pub StartsAgain : Type 0
StartsAgain = (e now : State) → IsAtStart e → at_rest now ≡ now → kept [] now ≡ kept [] e → now.next ≡ e.next → now.blocks ≡ e.blocks → IsAtStart now
