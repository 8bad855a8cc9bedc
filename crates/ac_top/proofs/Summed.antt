-- The generator's script, run in memory, and the summary of what it wrote.
use Rattle.std.proofs.Common.{◌≡◌, ℕ, List, [], ◌++◌, Option, Some, ap, subst, ◌∙◌, inl, inr}
use Rattle.std.specs.Prelude.{◌⊎◌}
use Rattle.std.proofs.lemmas.Option.{same_Some}
use Rattle.ac_meaning.specs.Meanings.{Meaning, IsMeaningBy, ran, written}
use Rattle.ac_top.specs.declared.mode.Mode.TheVariants.{Generate}
use Rattle.ac_top.specs.declared.status.Status.{Status}
use Rattle.ac_top.specs.declared.status.Status.TheVariants.{Done, Refused}
use Rattle.ac_top.specs.Answers.{Answers, Tells}
use Rattle.ac_top.specs.Generator.{generated}
use Rattle.ac_top.specs.Status.{IsAnswer, Writes}
use Rattle.ac_top.specs.Summary.{summary_text}

is_answer : (s : Status) → (s ≡ Done) ⊎ (s ≡ Refused) → IsAnswer s
is_answer s (inl e) = rw e tt
is_answer s (inr e) = rw e tt

-- what was told of it is the whole of its meaning
pub told_whole : (script : List ℕ) (size : ℕ) (before after : List ℕ) (room : Option ℕ) (s : Status) → (s ≡ Done) ⊎ (s ≡ Refused) → script ≡ generated size → before ≡ []
    → Tells (IsMeaningBy ran script) (Some before) (Some after) room s → (m : Meaning) × IsMeaningBy ran (generated size) m × (after ≡ m.text)
told_whole script size before after room s is same none a = (
  a.meaning,
  subst (λ t. IsMeaningBy ran t a.meaning) same a.means,
  same_Some after (before ++ a.meaning.text) (a.writes.whole (is_answer s is)) ∙ ap (λ t. t ++ a.meaning.text) none,
)

pub summed : (size : ℕ) (text told : List ℕ) (held held' : Option (List ℕ)) (room : Option ℕ) (s : Status) → text ≡ told
    → ((m : Meaning) × IsMeaningBy ran (generated size) m × (told ≡ m.text)) → Writes (written (summary_text text)) held held' room s
    → Answers (Generate size) [] held held' room s
summed size text told held held' room s same m w = record {
  meaning = written (summary_text text);
  means = record { told = m.0; means = m.1; is = ap (λ t. written (summary_text t)) (same ∙ m.2) };
  writes = w;
}
