-- What is asked for has a meaning, and one alone where no block of tasks is run.
use Rattle.std.proofs.Common.{◌≡◌, ◌⊎◌, ◌<◌, ◌≤◌, inl, inr, ℕ, None, Bool, true, false, List, [], length, take, drop, refl, sym, ap, subst, ◌∙◌, arith, Result, Ok, Err, ◌+◌}
use Rattle.std.proofs.lemmas.Bool.{cases_lt}
use Rattle.ac_calls.specs.declared.plains.Plain.{Plain}
use Rattle.ac_meaning.specs.Execution.{Orders, no_orders}
use Rattle.ac_meaning.specs.Meanings.{Meaning, IsMeaningBy, is_too_long, is_refused, is_faulty, is_sound, ran, too_long, written}
use Rattle.ac_snapshot.specs.StateReading.{IsReading, whole, refused}
use Rattle.ac_snapshot.specs.declared.fault.StateFault.{StateFault}
use Rattle.ac_snapshot.specs.declared.fault.StateFault.TheVariants as state_fault
use Rattle.ac_snapshot.proofs.OneReading.{has_one_reading}
use Rattle.ac_snapshot.proofs.EachReading.{each_reading}
use Rattle.ac_top.specs.declared.mode.Mode.{Mode}
use Rattle.ac_top.specs.declared.mode.Mode.TheVariants.{Read, Generate}
use Rattle.ac_top.specs.declared.mode.Task.{Task}
use Rattle.ac_top.specs.declared.mode.Task.TheVariants.{Run, Check}
use Rattle.ac_top.specs.Generator.{generated}
use Rattle.ac_top.specs.Asks.{Asking, unasked, BecomesOf}
use Rattle.ac_top.specs.Beginnings.{Beginning, begins, BeginsOf, IsSplit, whole as undivided, parts, no_script, script_line, state_refused}
use Rattle.ac_top.specs.LineCuts.{HasNoLine, IsFirstLine}
use Rattle.ac_top.specs.Modes.{IsMeaningOf, is_too_long as is_past, has_no_script, has_no_state, is_on, IsMeaningOn, limit_of, meant_by, Means, resumes, word_of}
use Rattle.ac_top.specs.Settled.{HasNoTasks, IsSettled}
use Rattle.ac_top.specs.Summary.{summary_text}
use Rattle.ac_top.proofs.Becoming.{each_asking, one_becoming}
use Rattle.ac_top.proofs.Beginning.{each_beginning, one_beginning}
use Rattle.ac_top.proofs.EachCut.{each_cut, one_cut}
use Rattle.ac_top.proofs.Checked as checked
use Rattle.ac_top.specs.Words.{options}
use Rattle.ac_top.proofs.WithoutTasks.{means_same, means_serial}

-- Each has one

-- a reading is never cut short by want of memory
no_fault : (text : List ℕ) (r : Result (List Plain) StateFault) → IsReading text r → r ≡ Err state_fault.NoMemory → ⊥
no_fault text r (whole s valid is) e = cc e
no_fault text r (refused s rest valid is some none) e = cc e

pub each_on : (task : Task) (s : List Plain) (text : List ℕ) → (m : Meaning) × IsMeaningOn task s text m
each_on task s text =
    let a = each_asking (word_of task) text in
    let b = each_beginning s text in
    let m = checked.each_input (meant_by no_orders task a.0 b.0 s) text in
    (m.0, record { orders = no_orders; asking = a.0; becomes = a.1; beginning = b.0; begins = b.1; means = m.1 })

split_meant : (task : Task) (input : List ℕ) → length input ≤ limit_of task → (s : List Plain) (text : List ℕ) → IsSplit input (resumes task) s text →
    (m : Meaning) × IsMeaningOf task input m
split_meant task input short s text split = let m = each_on task s text in (m.0, is_on s text short split m.1)

read_meant : (task : Task) (input : List ℕ) → length input ≤ limit_of task → resumes task ≡ true → (at : ℕ) → IsFirstLine script_line input at →
    (r : Result (List Plain) StateFault) → IsReading (take at input) r → (m : Meaning) × IsMeaningOf task input m
read_meant task input short is at first (Ok s) reads =
    split_meant task input short s (drop (at + length script_line + 1) input) (subst (λ r. IsSplit input r s (drop (at + length script_line + 1) input)) (sym is) (parts at s first reads))
read_meant task input short is at first (Err (state_fault.Refused line)) reads = (state_refused line, has_no_state at line is short first reads refl)
read_meant task input short is at first (Err state_fault.NoMemory) reads = absurd (no_fault (take at input) _ reads refl)

resumed_meant : (task : Task) (input : List ℕ) → length input ≤ limit_of task → resumes task ≡ true →
    ((at : ℕ) × IsFirstLine script_line input at) ⊎ HasNoLine script_line input → (m : Meaning) × IsMeaningOf task input m
resumed_meant task input short is (inl (at, first)) = let r = each_reading (take at input) in read_meant task input short is at first r.0 r.1
resumed_meant task input short is (inr none) = (no_script, has_no_script is short none refl)

short_meant : (task : Task) (input : List ℕ) → length input ≤ limit_of task → (r : Bool) → resumes task ≡ r → (m : Meaning) × IsMeaningOf task input m
short_meant task input short true is = resumed_meant task input short is (each_cut script_line input)
short_meant task input short false is = split_meant task input short [] input (subst (λ r. IsSplit input r [] input) (sym is) undivided)

input_meant : (task : Task) (input : List ℕ) → (limit_of task < length input) ⊎ (length input ≤ limit_of task) → (m : Meaning) × IsMeaningOf task input m
input_meant task input (inl long) = (too_long, is_past long refl)
input_meant task input (inr short) = short_meant task input short (resumes task) refl

pub each_meaning : (mode : Mode) (input : List ℕ) → (m : Meaning) × Means mode input m
each_meaning (Read task) input = input_meant task input (cases_lt (limit_of task) (length input))
each_meaning (Generate size) input =
    let m = checked.each_input ran (generated size) in
    (written (summary_text m.0.text), record { told = m.0; means = m.1; is = refl })

-- And one alone

-- what the question becomes and how the script begins are told by its text
asked_same : (orders : Orders) (task : Task) (s : List Plain) (text : List ℕ) (a b : Asking) (c d : Beginning) (m : Meaning) →
    BecomesOf (word_of task) text a → BecomesOf (word_of task) text b → BeginsOf s text c → BeginsOf s text d →
    IsMeaningBy (meant_by orders task a c s) text m → IsMeaningBy (meant_by orders task b d s) text m
asked_same orders task s text a b c d m h k u v (is_too_long long e) = is_too_long long e
asked_same orders task s text a b c d m h k u v (is_refused line kind short r e) = is_refused line kind short r e
asked_same orders task s text a b c d m h k u v (is_faulty script line kind short spells f e) = is_faulty script line kind short spells f e
asked_same orders task s text a b c d m h k u v (is_sound script short spells f e) =
    let asking = one_becoming (word_of task) script a b (h script spells f) (k script spells f) in
    let beginning = one_beginning s script c d (u script spells f) (v script spells f) in
    is_sound script short spells f (e ∙ (λ i. meant_by orders task (asking i) (beginning i) s script))

-- on one state
one_on : (task : Task) (s : List Plain) (text : List ℕ) (m other : Meaning) →
    ((orders : Orders) (a : Asking) (b : Beginning) (n : Meaning) → IsMeaningBy (meant_by orders task a b s) text n → IsMeaningBy (meant_by no_orders task a b s) text n) →
    IsMeaningOn task s text m → IsMeaningOn task s text other → m ≡ other
one_on task s text m other same h k =
    checked.one_meaning (meant_by no_orders task k.asking k.beginning s) text m other
    (asked_same no_orders task s text h.asking k.asking h.beginning k.beginning m h.becomes k.becomes h.begins k.begins
    (same h.orders h.asking h.beginning m h.means))
    (same k.orders k.asking k.beginning other k.means)

-- an input is divided in one way

not_both : {A : Type 0} → true ≡ false → A
not_both e = absurd (cc e)

module _ (task : Task) (input : List ℕ) where
  abbrev Settled : Type 0
  Settled = (s : List Plain) (text : List ℕ) (m other : Meaning) → IsSplit input (resumes task) s text → IsMeaningOn task s text m → IsMeaningOn task s text other → m ≡ other

  first_same : (at other : ℕ) → IsFirstLine script_line input at → IsFirstLine script_line input other → at ≡ other
  first_same at other h k = one_cut script_line input at other h k

  one_state : (at other : ℕ) (r t : Result (List Plain) StateFault) → IsFirstLine script_line input at → IsFirstLine script_line input other →
      IsReading (take at input) r → IsReading (take other input) t → r ≡ t
  one_state at other r t h k reads read =
      has_one_reading (take at input) r t reads (subst (λ n. IsReading (take n input) t) (sym (first_same at other h k)) read)

  split_same : (r q : Bool) → r ≡ q → (s t : List Plain) (text other : List ℕ) → IsSplit input r s text → IsSplit input q t other → (s ≡ t) × (text ≡ other)
  split_same r q same s t text other undivided undivided = (refl, refl)
  split_same r q same s t text other undivided (parts at u first reads) = not_both (sym same)
  split_same r q same s t text other (parts at u first reads) undivided = not_both same
  split_same r q same s t text other (parts at u first reads) (parts place v found read) =
      let states : Ok u ≡ Ok v = one_state at place (Ok u) (Ok v) first found reads read in
      let equal : u ≡ v = cc states in
      (equal, ap (λ n. drop (n + length script_line + 1) input) (first_same at place first found))

  none_split : (r : Bool) → r ≡ true → HasNoLine script_line input → (s : List Plain) (text : List ℕ) → IsSplit input r s text → ⊥
  none_split r is none s text undivided = not_both (sym is)
  none_split r is none s text (parts at u first reads) = none at first.here

  faulty_split : (r : Bool) → r ≡ true → (at line : ℕ) → IsFirstLine script_line input at → IsReading (take at input) (Err (state_fault.Refused line)) →
      (s : List Plain) (text : List ℕ) → IsSplit input r s text → ⊥
  faulty_split r is at line first reads s text undivided = not_both (sym is)
  faulty_split r is at line first reads s text (parts place u found read) =
      let same : Err (state_fault.Refused line) ≡ Ok u = one_state at place (Err (state_fault.Refused line)) (Ok u) first found reads read in
      cc same

  not_long : {A : Type 0} → limit_of task < length input → length input ≤ limit_of task → A
  not_long long short = absurd (omega (arith, long, short))

  one_line : (at place line other : ℕ) → IsFirstLine script_line input at → IsFirstLine script_line input place →
      IsReading (take at input) (Err (state_fault.Refused line)) → IsReading (take place input) (Err (state_fault.Refused other)) → line ≡ other
  one_line at place line other first found reads read =
      let same : Err (state_fault.Refused line) ≡ Err (state_fault.Refused other) = one_state at place _ _ first found reads read in
      cc same

  on_same : Settled → (s t : List Plain) (text rest : List ℕ) (m other : Meaning) → (s ≡ t) × (text ≡ rest) → IsSplit input (resumes task) s text →
      IsMeaningOn task s text m → IsMeaningOn task t rest other → m ≡ other
  on_same settled s t text rest m other (states, texts) split h k =
      settled s text m other split h (subst (λ x. IsMeaningOn task s x other) (sym texts) (subst (λ x. IsMeaningOn task x rest other) (sym states) k))

  one_of : Settled → (m other : Meaning) → IsMeaningOf task input m → IsMeaningOf task input other → m ≡ other
  one_of settled m other (is_past long e) (is_past _ f) = e ∙ sym f
  one_of settled m other (is_past long e) (has_no_script is short none f) = not_long long short
  one_of settled m other (is_past long e) (has_no_state at line is short first reads f) = not_long long short
  one_of settled m other (is_past long e) (is_on s text short split k) = not_long long short
  one_of settled m other (has_no_script is short none e) (is_past long f) = not_long long short
  one_of settled m other (has_no_script is short none e) (has_no_script _ _ _ f) = e ∙ sym f
  one_of settled m other (has_no_script is short none e) (has_no_state at line _ _ first reads f) = absurd (none at first.here)
  one_of settled m other (has_no_script is short none e) (is_on s text _ split k) = absurd (none_split (resumes task) is none s text split)
  one_of settled m other (has_no_state at line is short first reads e) (is_past long f) = not_long long short
  one_of settled m other (has_no_state at line is short first reads e) (has_no_script _ _ none f) = absurd (none at first.here)
  one_of settled m other (has_no_state at line is short first reads e) (has_no_state place another _ _ found read f) =
      e ∙ (ap state_refused (one_line at place line another first found reads read) ∙ sym f)
  one_of settled m other (has_no_state at line is short first reads e) (is_on s text _ split k) =
      absurd (faulty_split (resumes task) is at line first reads s text split)
  one_of settled m other (is_on s text short split h) (is_past long f) = not_long long short
  one_of settled m other (is_on s text short split h) (has_no_script is _ none f) = absurd (none_split (resumes task) is none s text split)
  one_of settled m other (is_on s text short split h) (has_no_state at line is _ first reads f) =
      absurd (faulty_split (resumes task) is at line first reads s text split)
  one_of settled m other (is_on s text short split h) (is_on t rest _ divided k) =
      on_same settled s t text rest m other (split_same (resumes task) (resumes task) refl s t text rest split divided) split h k

pub one_meaning : (mode : Mode) (input : List ℕ) (m other : Meaning) → IsSettled mode input → Means mode input m → Means mode input other → m ≡ other
one_meaning (Read (Run options)) input m other none h k =
    one_of (Run options) input
    (λ s text n l split a b. one_on (Run options) s text n l
    (λ orders asking beginning o. means_same orders no_orders (Run options) asking beginning s text o (none s text split)) a b)
    m other h k
one_meaning (Read Check) input m other none h k =
    one_of Check input (λ s text n l split a b. one_on Check s text n l (λ orders asking beginning o means. means) a b) m other h k
one_meaning (Generate size) input m other none h k =
    h.is ∙ ap (λ (t : Meaning). written (summary_text t.text)) (checked.one_meaning ran (generated size) h.told k.told h.means k.means) ∙ sym k.is

whole_serial : (input : List ℕ) (m : Meaning) → HasNoTasks input → IsMeaningOn (Run (options false None)) [] input m → IsMeaningBy ran input m
whole_serial input m none k =
    means_serial k.asking k.beginning input m k.becomes k.begins
    (means_same k.orders no_orders (Run (options false None)) k.asking k.beginning [] input m none k.means)

-- without a state, a question and a count, and by one task
pub serial_meaning : (input : List ℕ) (m : Meaning) → HasNoTasks input → IsMeaningOf (Run (options false None)) input m → IsMeaningBy ran input m
serial_meaning input m none (is_past long e) = is_too_long long e
serial_meaning input m none (has_no_script is short absent e) = not_both (sym is)
serial_meaning input m none (has_no_state at line is short first reads e) = not_both (sym is)
serial_meaning input m none (is_on s text short split h) =
    let plain = Run (options false None) in
    let same = split_same plain input false false refl s [] text input split undivided in
    whole_serial input m none (subst (λ x. IsMeaningOn plain [] x m) same.1 (subst (λ x. IsMeaningOn plain x text m) same.0 h))
