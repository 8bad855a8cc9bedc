-- Statements can begin where a script's outermost names got what the entries of a state have of them.
use Rattle.std.proofs.Common.{◌≡◌, true, List, sym, subst, All}
use Rattle.ac_syntax.specs.declared.script.Script.{Script}
use Rattle.ac_rules.specs.Faults.{IsChecked}
use Rattle.ac_calls.specs.declared.plains.Plain.{Plain}
use Rattle.ac_host.specs.Start.{IsAtStart, start_of}
use Rattle.ac_host.proofs.Starting.{starts_again}
use Rattle.ac_meaning.specs.Environment.{State}
use Rattle.ac_plains.specs.Resumed.{AreFresh, HasNoMore, IsMatched, resumed}
use Rattle.ac_plains.proofs.ResumedStates.{declares_fresh, resumes_from}
use Rattle.ac_snapshot.specs.Validity.{is_valid}

pub start_resumed : (script : Script) (e now : State) (s : List Plain) → IsChecked script → is_valid s ≡ true → IsAtStart e → e ≡ start_of script →
    All (IsMatched script e) s → now ≡ resumed script e s → IsAtStart now
start_resumed script e now s checked valid start is matched made =
    let fresh = declares_fresh script checked in
    let from = resumes_from script e s (subst AreFresh (sym is) fresh.fresh) (subst (HasNoMore script) (sym is) fresh.no_more) valid matched in
    subst IsAtStart (sym made) (starts_again e (resumed script e s) start from.rest from.kept from.next from.blocks)
