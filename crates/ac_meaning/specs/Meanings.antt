-- What a text means, to the byte: the output of its script, or the line that says where and why it is refused.
use Rattle.std.specs.Prelude.{◌≡◌, ◌<◌, ◌≤◌, ℕ, codes, decimal, List, [], ◌∷◌, ◌++◌, length}
use Rattle.ac_syntax.specs.declared.refusal.RefusalKind.{RefusalKind}
use Rattle.ac_syntax.specs.declared.refusal.RefusalKind.TheVariants.{Syntax, Limit, UnknownName, WrongType, Twice}
use Rattle.ac_syntax.specs.declared.script.Script.{Script}
use Rattle.ac_syntax.specs.Refusals.{Spells, IsFirstRefusal}
use Rattle.ac_syntax.specs.Canonical.{canonical_text}
use Rattle.ac_rules.specs.Faults.{IsFirstFault, IsChecked}
use Rattle.ac_meaning.specs.declared.limits.TheConstants.{INPUT_LIMIT}
use Rattle.ac_meaning.specs.Execution.{Orders, text_of, text_with}

-- what is written, and the status that the program ends with
pub record Meaning : Type 0 where
  pub text : List ℕ
  pub status : ℕ

-- a refusal writes one line
abbrev pub refusal : List ℕ → Meaning
refusal words = record { text = words ++ 10 ∷ []; status = 1 }

abbrev pub too_long : Meaning
too_long = refusal (codes "input: limit")

abbrev pub kind_text : RefusalKind → List ℕ
kind_text Syntax = codes "syntax"
kind_text Limit = codes "limit"
kind_text UnknownName = codes "unknown name"
kind_text WrongType = codes "wrong type"
kind_text Twice = codes "twice"

-- where and why a text is refused
abbrev pub refused_at : ℕ → RefusalKind → Meaning
refused_at line kind = refusal (codes "line " ++ (decimal line ++ (codes ": " ++ kind_text kind)))

-- what is written of a script that can run
abbrev pub written : List ℕ → Meaning
written text = record { text = text; status = 0 }

-- its lines, where it is run, and its canonical text, where it is checked alone
abbrev pub ran : Script → Meaning
ran script = written (text_of script)

-- the lines by which it is run where its blocks of tasks go by these orders
abbrev pub ran_with : Orders → Script → Meaning
ran_with orders script = written (text_with orders script)

abbrev pub canonical : Script → Meaning
canonical script = written (canonical_text script)

-- a meaning of the input, where this is what a script that can run means
pub data IsMeaningBy (means : Script → Meaning) (input : List ℕ) (m : Meaning) : Type 0 where
  is_too_long : INPUT_LIMIT < length input → m ≡ too_long → IsMeaningBy means input m
  -- it spells no script
  is_refused : (line : ℕ) (kind : RefusalKind) → length input ≤ INPUT_LIMIT → IsFirstRefusal input line kind
      → m ≡ refused_at line kind → IsMeaningBy means input m
  -- it spells a script with a faulty item
  is_faulty : (script : Script) (line : ℕ) (kind : RefusalKind) → length input ≤ INPUT_LIMIT → Spells script input
      → IsFirstFault script line kind → m ≡ refused_at line kind → IsMeaningBy means input m
  is_sound : (script : Script) → length input ≤ INPUT_LIMIT → Spells script input → IsChecked script
      → m ≡ means script → IsMeaningBy means input m
