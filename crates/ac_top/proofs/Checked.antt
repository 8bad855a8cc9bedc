-- A text has one meaning, whatever a script that can run means.
use Rattle.std.proofs.Common.{◌≡◌, ◌<◌, ◌≤◌, ℕ, List, length, refl, sym, ap, ◌∙◌, subst, inl, inr, arith}
use Rattle.std.specs.Prelude.{◌⊎◌}
use Rattle.std.proofs.lemmas.Bool.{cases_lt}
use Rattle.ac_syntax.specs.declared.refusal.RefusalKind.{RefusalKind}
use Rattle.ac_syntax.specs.declared.script.Script.{Script}
use Rattle.ac_syntax.specs.Refusals.{Spells, IsFirstRefusal}
use Rattle.ac_syntax.proofs.OneRefusal.{one_refusal, spelled_or_refused}
use Rattle.ac_script.proofs.EachText.{each_text}
use Rattle.ac_script.proofs.Refusals.{spelled_once}
use Rattle.ac_rules.specs.Faults.{IsFirstFault, IsChecked}
use Rattle.ac_rules.proofs.FirstFaults.{one_fault, no_fault}
use Rattle.ac_rules.proofs.EachScript.{each_script}
use Rattle.ac_meaning.specs.declared.limits.TheConstants.{INPUT_LIMIT}
use Rattle.ac_meaning.specs.Meanings.{Meaning, too_long, IsMeaningBy, is_too_long, is_refused, is_faulty, is_sound, refused_at}

not_long : {A : Type 0} (input : List ℕ) → length input ≤ INPUT_LIMIT → INPUT_LIMIT < length input → A
not_long input short long = absurd (omega (arith, short, long))

same_place : (line place : ℕ) (kind other : RefusalKind) (m : Meaning) → (line ≡ place) × (kind ≡ other) → m ≡ refused_at place other → m ≡ refused_at line kind
same_place line place kind other m same e = e ∙ sym (λ i. refused_at (same.0 i) (same.1 i))

-- `means` is what a script that can run means
module _ (means : Script → Meaning) where
  -- an input past the limit
  pub long_check : (input : List ℕ) (m : Meaning) → INPUT_LIMIT < length input → IsMeaningBy means input m → m ≡ too_long
  long_check input m long (is_too_long _ e) = e
  long_check input m long (is_refused line kind short h e) = not_long input short long
  long_check input m long (is_faulty script line kind short s h e) = not_long input short long
  long_check input m long (is_sound script short s h e) = not_long input short long

  pub sound_means : (input : List ℕ) (script : Script) (m : Meaning) → length input ≤ INPUT_LIMIT → Spells script input → ((other : Script) → Spells other input → other ≡ script) → IsChecked script
      → IsMeaningBy means input m → m ≡ means script
  sound_means input script m short spells only checked (is_too_long long e) = not_long input short long
  sound_means input script m short spells only checked (is_refused line kind _ h e) = absurd (spelled_or_refused script input line kind spells h)
  sound_means input script m short spells only checked (is_faulty other line kind _ s h e) =
      absurd (no_fault script line kind checked (subst (λ (t : Script). IsFirstFault t line kind) (only other s) h))
  sound_means input script m short spells only checked (is_sound other _ s h e) = e ∙ ap means (only other s)

  pub refused_means : (input : List ℕ) (line : ℕ) (kind : RefusalKind) (m : Meaning) → length input ≤ INPUT_LIMIT → IsFirstRefusal input line kind → IsMeaningBy means input m → m ≡ refused_at line kind
  refused_means input line kind m short h (is_too_long long e) = not_long input short long
  refused_means input line kind m short h (is_refused place other _ k e) = same_place line place kind other m (one_refusal input line place kind other h k) e
  refused_means input line kind m short h (is_faulty script place other _ s k e) = absurd (spelled_or_refused script input line kind s h)
  refused_means input line kind m short h (is_sound script _ s k e) = absurd (spelled_or_refused script input line kind s h)

  pub faulty_means : (input : List ℕ) (script : Script) (line : ℕ) (kind : RefusalKind) (m : Meaning) → length input ≤ INPUT_LIMIT → Spells script input → ((other : Script) → Spells other input → other ≡ script)
      → IsFirstFault script line kind → IsMeaningBy means input m → m ≡ refused_at line kind
  faulty_means input script line kind m short spells only h (is_too_long long e) = not_long input short long
  faulty_means input script line kind m short spells only h (is_refused place other _ k e) = absurd (spelled_or_refused script input place other spells k)
  faulty_means input script line kind m short spells only h (is_faulty t place other _ s k e) =
      same_place line place kind other m (one_fault script line place kind other h (subst (λ (t : Script). IsFirstFault t place other) (only t s) k)) e
  faulty_means input script line kind m short spells only h (is_sound t _ s k e) =
      absurd (no_fault script line kind (subst IsChecked (only t s) k) h)

  -- what each input means
  script_meant : (input : List ℕ) (script : Script) → length input ≤ INPUT_LIMIT → Spells script input
      → IsChecked script ⊎ ((line : ℕ) × (kind : RefusalKind) × IsFirstFault script line kind) → (m : Meaning) × IsMeaningBy means input m
  script_meant input script short spells (inl checked) = (means script, is_sound script short spells checked refl)
  script_meant input script short spells (inr (line, kind, h)) = (refused_at line kind, is_faulty script line kind short spells h refl)

  text_meant : (input : List ℕ) → length input ≤ INPUT_LIMIT → ((script : Script) × Spells script input) ⊎ ((line : ℕ) × (kind : RefusalKind) × IsFirstRefusal input line kind)
      → (m : Meaning) × IsMeaningBy means input m
  text_meant input short (inl (script, spells)) = script_meant input script short spells (each_script script)
  text_meant input short (inr (line, kind, h)) = (refused_at line kind, is_refused line kind short h refl)

  input_meant : (input : List ℕ) → (INPUT_LIMIT < length input) ⊎ (length input ≤ INPUT_LIMIT) → (m : Meaning) × IsMeaningBy means input m
  input_meant input (inl long) = (too_long, is_too_long long refl)
  input_meant input (inr short) = text_meant input short (each_text input)

  pub each_input : (input : List ℕ) → (m : Meaning) × IsMeaningBy means input m
  each_input input = input_meant input (cases_lt INPUT_LIMIT (length input))

  -- it means no more than one thing
  pub one_meaning : (input : List ℕ) (m other : Meaning) → IsMeaningBy means input m → IsMeaningBy means input other → m ≡ other
  one_meaning input m other (is_too_long long e) h = e ∙ sym (long_check input other long h)
  one_meaning input m other (is_refused line kind short k e) h = e ∙ sym (refused_means input line kind other short k h)
  one_meaning input m other (is_faulty script line kind short s k e) h = e ∙ sym (faulty_means input script line kind other short s (λ t spells. spelled_once input script t s spells) k h)
  one_meaning input m other (is_sound script short s k e) h = e ∙ sym (sound_means input script other short s (λ t spells. spelled_once input script t s spells) k h)
