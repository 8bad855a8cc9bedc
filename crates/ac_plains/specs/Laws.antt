-- What a script's outermost declarations make, and what stays of it when it gets what the entries of a state have.
use Rattle.std.specs.Prelude.{◌≡◌, true, List, [], All}
use Rattle.ac_syntax.specs.declared.script.Script.{Script}
use Rattle.ac_rules.specs.Faults.{IsChecked}
use Rattle.ac_calls.specs.declared.plains.Plain.{Plain}
use Rattle.ac_meaning.specs.AsDeclared.{StateGoesOn}
use Rattle.ac_meaning.specs.Environment.{State, at_rest}
use Rattle.ac_meaning.specs.GuardedNames.{kept}
use Rattle.ac_plains.specs.Resumed.{AreFresh, HasNoElements, HasNoMore, IsMatched, outermost, resumed}
use Rattle.ac_snapshot.specs.Validity.{is_valid}

-- what `resume` asks holds of the outermost names of a script that can run
pub record DeclaredIsFresh (script : Script) : Type 0 where
  pub fresh : AreFresh (outermost script)
  pub no_elements : HasNoElements (outermost script)
  pub no_more : HasNoMore script (outermost script)

-- no guard is held, and each name holds what it held, but for values, rows, elements, Capacities and greatest uses
pub record IsResumedFrom (e now : State) : Type 0 where
  pub rest : at_rest now ≡ now
  pub kept : kept [] now ≡ kept [] e
  pub next : now.next ≡ e.next
  pub blocks : now.blocks ≡ e.blocks
  pub goes_on : StateGoesOn e now

abbrev pub DeclaresFresh : Type 0
DeclaresFresh = (script : Script) → IsChecked script → DeclaredIsFresh script

abbrev pub ResumesFrom : Type 0
ResumesFrom = (script : Script) (e : State) (s : List Plain) → AreFresh e → HasNoMore script e → is_valid s ≡ true → All (IsMatched script e) s →
    IsResumedFrom e (resumed script e s)
