-- How an input is answered, where nothing is written of it and where something is.
use Rattle.std.proofs.Common.{◌≡◌, ◌≢◌, ◌<◌, ◌≤◌, ℕ, Bool, List, [], length, Option, Some, None, refl, sym, subst, inl, inr, append-nil, ap}
use Rattle.std.specs.Prelude.{◌⊎◌, IfSome}
use Rattle.ac_io.specs.Outside.{GrewByFront}
use Rattle.ac_syntax.specs.declared.refusal.RefusalKind.{RefusalKind}
use Rattle.ac_syntax.specs.declared.script.Script.{Script}
use Rattle.ac_syntax.specs.Refusals.{IsFirstRefusal}
use Rattle.ac_calls.specs.declared.plains.Plain.{Plain}
use Rattle.ac_meaning.specs.declared.limits.TheConstants.{INPUT_LIMIT}
use Rattle.ac_meaning.specs.Execution.{no_orders}
use Rattle.ac_meaning.specs.Meanings.{Meaning, IsMeaningBy, too_long, refused_at, is_too_long, is_refused, is_faulty}
use Rattle.ac_top.specs.declared.status.Status.{Status}
use Rattle.ac_top.specs.declared.status.Status.TheVariants.{Done, Refused, Usage, ReadFault, WriteFault, NoMemory}
use Rattle.ac_top.specs.declared.mode.Mode.{Mode}
use Rattle.ac_top.specs.declared.mode.Mode.TheVariants.{Read}
use Rattle.ac_top.specs.declared.mode.Task.{Task}
use Rattle.ac_top.specs.Modes.{IsMeaningOn, Means, has_no_script, has_no_state, is_on, is_too_long as is_past, limit_of, meant_by, read_by, resumes, word_of}
use Rattle.ac_top.specs.Inputs.{IsFaultOf, IsFaultOn, fault_meaning, is_in_script, is_without_script, is_without_state}
use Rattle.ac_top.specs.declared.start.InputFault.{InputFault}
use Rattle.ac_top.specs.declared.start.InputFault.TheVariants as fault
use Rattle.ac_top.specs.declared.start.InputFault.TheVariants.{TooLong, NoScript, State, Script as FaultyScript}
use Rattle.ac_top.specs.Status.{IsAnswer, Writes}
use Rattle.ac_top.specs.Answers.{Answers, HasRoom, IfAsked, IsFaulty, Tells}
use Rattle.ac_top.proofs.Becoming.{each_asking}
use Rattle.ac_top.proofs.Beginning.{each_beginning}
use Rattle.ac_top.proofs.Meant.{each_meaning}

pub if_some_of : {T : Type 0} {P : T → Type 0} (o : Option T) → ((x : T) → P x) → IfSome o P
if_some_of None p = tt
if_some_of (Some x) p = p x

-- a text that is no script, or a faulty one
pub refused_means : (means : Script → Meaning) (input : List ℕ) (line : ℕ) (kind : RefusalKind) → length input ≤ INPUT_LIMIT →
    IsFirstRefusal input line kind ⊎ IsFaulty input line kind → IsMeaningBy means input (refused_at line kind)
refused_means means input line kind short (inl h) = is_refused line kind short h refl
refused_means means input line kind short (inr h) = is_faulty h.script line kind short h.spelled h.first refl

pub long_means : (task : Task) (input : List ℕ) → limit_of task < length input → Means (Read task) input too_long
long_means task input long = is_past long refl

-- the same of an input with a fault

fault_means : (means : Script → Meaning) (text : List ℕ) (fault : InputFault) → IsFaultOn text fault → IsMeaningBy means text (fault_meaning fault)
fault_means means text TooLong h = is_too_long h refl
fault_means means text NoScript h = absurd h
fault_means means text (State line) h = absurd h
fault_means means text (FaultyScript line kind) h = refused_means means text line kind h.0 h.1
fault_means means text fault.NoMemory h = absurd h

on_faulty : (task : Task) (s : List Plain) (text : List ℕ) (fault : InputFault) → IsFaultOn text fault → IsMeaningOn task s text (fault_meaning fault)
on_faulty task s text fault h =
    let a = each_asking (word_of task) text in
    let b = each_beginning s text in
    record { orders = no_orders; asking = a.0; becomes = a.1; beginning = b.0; begins = b.1; means = fault_means (meant_by no_orders task a.0 b.0 s) text fault h }

pub fault_meant : (task : Task) (input : List ℕ) (fault : InputFault) → length input ≤ limit_of task → IsFaultOf (resumes task) input fault →
    Means (Read task) input (fault_meaning fault)
fault_meant task input fault short (is_without_script is none) = has_no_script is short none refl
fault_meant task input fault short (is_without_state at line is first reads) = has_no_state at line is short first reads refl
fault_meant task input fault short (is_in_script s text of_script split h) = is_on s text short split (on_faulty task s text of_script h)

pub faulty_meant : (task : Task) (input : List ℕ) (resumed : Bool) (text : List ℕ) (why : InputFault) → length input ≤ limit_of task →
    resumed ≡ resumes task → text ≡ input → (why ≡ fault.NoMemory → ⊥) → (why ≡ fault.NoMemory) ⊎ IsFaultOf resumed text why →
    Means (Read task) input (fault_meaning why)
faulty_meant task input resumed text why short is same other (inl none) = absurd (other none)
faulty_meant task input resumed text why short is same other (inr h) =
    fault_meant task input why short (subst (λ b. IsFaultOf b input why) is (subst (λ t. IsFaultOf resumed t why) same h))

pub nothing_written : (held : Option (List ℕ)) (text : List ℕ) → GrewByFront held held text
nothing_written None text = tt
nothing_written (Some h) text = ([], record { rest = text; whole = refl }, ap Some (sym (append-nil h)))

-- an end without an answer, with nothing written of a meaning

pub unwritten : (m : Meaning) (held : Option (List ℕ)) (room : Option ℕ) (s : Status) → (IsAnswer s → ⊥) → s ≢ WriteFault → Writes m held held room s
unwritten m held room s none wrote = record {
  whole = λ a. absurd (none a);
  number = λ a. absurd (none a);
  front = nothing_written held m.text;
  within = if_some_of room (λ n fits. wrote);
}

pub untold_of : {IsOne : Meaning → Type 0} (m : Meaning) → IsOne m → (held : Option (List ℕ)) (room : Option ℕ) (s : Status) → (IsAnswer s → ⊥) → s ≢ WriteFault →
    Tells IsOne held held room s
untold_of m means held room s none wrote = record { meaning = m; means = means; writes = unwritten m held room s none wrote }

pub unanswered : (mode : Mode) (input : List ℕ) (held : Option (List ℕ)) (room : Option ℕ) (s : Status) → (IsAnswer s → ⊥) → s ≢ WriteFault → Answers mode input held held room s
unanswered mode input held room s none wrote = let m = each_meaning mode input in untold_of m.0 m.1 held room s none wrote

ends : (t : Status) → t ≢ Usage → t ≢ ReadFault → t ≢ WriteFault → IsAnswer t ⊎ (t ≡ NoMemory)
ends Done u r w = inl tt
ends Refused u r w = inl tt
ends Usage u r w = absurd (u refl)
ends ReadFault u r w = absurd (r refl)
ends WriteFault u r w = absurd (w refl)
ends NoMemory u r w = inr refl

-- where there is room for every meaning, there is for the one of which it was written
pub with_room : (mode : Mode) (input : List ℕ) (held held' : Option (List ℕ)) (room : Option ℕ) (s : Status) → s ≢ Usage → s ≢ ReadFault → Answers mode input held held' room s
    → IfSome room (λ n. HasRoom mode input n → IsAnswer s ⊎ (s ≡ NoMemory))
with_room mode input held held' None s u r a = tt
with_room mode input held held' (Some n) s u r a = λ fits. ends s u r (a.writes.within (fits a.meaning a.means))

-- before anything was written
pub untold : (asked : Option Mode) (left held : Option (List ℕ)) → IfAsked asked left (λ mode input. (m : Meaning) × Means mode input m × GrewByFront held held m.text)
untold None left held = tt
untold (Some mode) left held = if_some_of (read_by mode left) (λ input. let m = each_meaning mode input in (m.0, m.1, nothing_written held m.0.text))
