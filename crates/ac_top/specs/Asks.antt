-- What becomes of the question of `--ask`, and what is written of it.
use Rattle.std.specs.Prelude.{◌≡◌, ℕ, codes, List, [], ◌∷◌, ◌++◌, map, Option, Some, None}
use Rattle.ac_base.specs.declared.reason.Reason.TheVariants.{Overflow}
use Rattle.ac_syntax.specs.declared.decl.Decl.{Decl}
use Rattle.ac_syntax.specs.declared.refusal.RefusalKind.{RefusalKind}
use Rattle.ac_syntax.specs.declared.script.Script.{Script}
use Rattle.ac_syntax.specs.Canonical.{literal_text}
use Rattle.ac_syntax.specs.Refusals.{Spells}
use Rattle.ac_rules.specs.Faults.{IsChecked, decl_name}
use Rattle.ac_calls.specs.Answers as answers
use Rattle.ac_calls.specs.Answers.{answer_text, answers_integer, answers_list, answers_raised}
use Rattle.ac_calls.specs.Listings.{bracketed}
use Rattle.ac_meaning.specs.Environment.{State}
use Rattle.ac_meaning.specs.Meanings.{Meaning, kind_text, refusal}
use Rattle.ac_meaning.specs.Plains.{plains_of}
use Rattle.ac_aggregate.specs.declared.question.Question.{Question}
use Rattle.ac_aggregate.specs.declared.values.Given.{Given}
use Rattle.ac_aggregate.specs.Answers.{given_view}
use Rattle.ac_aggregate.specs.Asked.{Asked}
use Rattle.ac_aggregate.specs.Asking.{asked_by}
use Rattle.ac_aggregate.specs.Refusals.{IsRefused, IsTaken, outermost}
use Rattle.ac_aggregate.specs.Values.{Answer, number, listing, overflow, ask_of}

-- what becomes of a question: there is none, it is refused, or it is taken
pub data Asking : Type 0 where
  unasked : Asking
  refuses : RefusalKind → Asking
  asks : Asked → Asking

-- what becomes of the question with this text, if there is one, at the outermost scope of a script
abbrev pub Becomes : Option (List ℕ) → Script → Asking → Type 0
Becomes None script asking = asking ≡ unasked
Becomes (Some word) script unasked = ⊥
Becomes (Some word) script (refuses kind) = IsRefused (outermost script.decls) word kind
Becomes (Some word) script (asks q) = IsTaken (outermost script.decls) word q

-- at that of the script that an input spells, if it can run
abbrev pub BecomesOf : Option (List ℕ) → (input : List ℕ) → Asking → Type 0
BecomesOf word input asking = (script : Script) → Spells script input → IsChecked script → Becomes word script asking

-- a question that was read, if there is one
abbrev pub asking_of : Option Question → Asking
asking_of None = unasked
asking_of (Some q) = asks (asked_by q)

abbrev pub question_refused : RefusalKind → Meaning
question_refused kind = refusal (codes "ask: " ++ kind_text kind)

-- an answer, as a command would give it

abbrev pub given : Answer → answers.Answer
given (number z) = answers_integer z
given (listing vs) = answers_list (bracketed literal_text vs)
given overflow = answers_raised Overflow

-- a value of a list behind another one
abbrev pub next_text : Given → List ℕ
next_text v = codes ", " ++ literal_text (given_view v)

abbrev pub answer_line : Answer → List ℕ
answer_line a = codes "ask: " ++ (answer_text (given a) ++ 10 ∷ [])

-- the line that answers a question in an environment
abbrev pub ask_lines : Asking → List Decl → State → List ℕ
ask_lines unasked decls e = []
ask_lines (refuses kind) decls e = []
ask_lines (asks q) decls e = answer_line (ask_of q (plains_of (map decl_name decls) e))
