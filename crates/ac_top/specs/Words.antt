-- What the words after the program's name ask for: clap's definition of a simple command says which it accepts, and what it finds in them.
use Rattle.std.specs.Prelude.{◌^◌, ◌-◌, ℕ, Bool, true, false, codes, List, [], ◌∷◌, map, Option, Some, None, if◌then◌else◌, String, string_bytes, option_and_then}
use Rattle.std.proofs.Common.{Global}
use Rattle.std.specs.Str.{bytes_eq}
use Rattle.std.specs.Str.Parse.{digits_value, without_leading_plus}
use Rattle.clap.specs.Faults.{fault_of}
use Rattle.clap.specs.Simple.{on_top}
use Rattle.clap.specs.Kinds.{Kinds}
use Rattle.clap.specs.ValueTests.{accepts}
use Rattle.clap.specs.Words.{App, Row, Rule, Text, new_app, new_rule, with_rule, first_of, matches_of, one_of}
use Rattle.clap.specs.declared.builder.action.ArgAction.TheVariants.{Set, SetTrue}
use Rattle.clap.specs.declared.builder.value_parser.ValueParser.TheVariants.{Unsigned}
use Rattle.ac_top.specs.declared.mode.Mode.{Mode}
use Rattle.ac_top.specs.declared.mode.Mode.TheVariants.{Read, Generate}
use Rattle.ac_top.specs.declared.mode.Task.{Task}
use Rattle.ac_top.specs.declared.mode.Options.{Options}
use Rattle.ac_top.specs.declared.mode.Task.TheVariants.{Run, Check}

abbrev pub flag_rule : Text → Rule
flag_rule name = record (new_rule name) { long = Some name; action = Some SetTrue }

-- an option with one number in these bounds
abbrev pub number_rule : Text → ℕ → ℕ → Rule
number_rule name least most = record (new_rule name) { long = Some name; action = Some Set; parser = Some (Unsigned least most) }

-- an option with one text
abbrev pub text_rule : Text → Rule
text_rule name = record (new_rule name) { long = Some name; action = Some Set }

-- the command; its words come without the program's name
unfoldable pub adacont : App
adacont = with_rule (with_rule (with_rule (with_rule (with_rule (with_rule (on_top (λ s. record s { no_binary_name = true }) (new_app (codes "adacont")))
    (flag_rule (codes "check"))) (flag_rule (codes "audit"))) (number_rule (codes "generate") 1 200000)) (text_rule (codes "ask")))
    (flag_rule (codes "save"))) (flag_rule (codes "resume"))

abbrev pub is_true : Option Text → Bool
is_true None = false
is_true (Some text) = bytes_eq text (codes "true")

abbrev pub is_set : Text → List Row → Bool
is_set flag rows = is_true (one_of flag rows)

-- the number that a text spells, where it is one of 64 bits
abbrev pub number_of_text : Text → Option ℕ
number_of_text text = if accepts false (Unsigned 0 (2 ^ 64 - 1)) text then Some (digits_value 10 (without_leading_plus text)) else None

abbrev pub number_given : Text → List Row → Option ℕ
number_given option rows = option_and_then number_of_text (one_of option rows)

abbrev pub all_options : (resume audit : Bool) → (ask : Option (List ℕ)) → (save : Bool) → Options
all_options resume audit ask save = record { resume = resume; audit = audit; ask = ask; save = save }

-- without a saved state
abbrev pub options : (audit : Bool) → (ask : Option (List ℕ)) → Options
options audit ask = all_options false audit ask false

abbrev pub options_by : List Row → Options
options_by rows = all_options (is_set (codes "resume") rows) (is_set (codes "audit") rows) (first_of (codes "ask") rows) (is_set (codes "save") rows)

abbrev pub task_by : List Row → Task
task_by rows = if is_set (codes "check") rows then Check else Run (options_by rows)

-- what the words that were found come to: `--generate` goes before `--check`, and the other options add nothing to either
abbrev pub mode_with : Option ℕ → Task → Mode
mode_with (Some number) task = Generate number
mode_with None task = Read task

abbrev pub mode_by : List Row → Mode
mode_by rows = mode_with (number_given (codes "generate") rows) (task_by rows)

-- clap finds nothing to refuse
abbrev pub is_accepted : Kinds → Bool
is_accepted [] = true
is_accepted (kind ∷ kinds) = false

-- what the words ask for, where clap accepts them
unfoldable pub asked_by : List Text → Option Mode
unfolding adacont
asked_by words = if is_accepted (fault_of adacont words) then Some (mode_by (matches_of adacont words)) else None

abbrev pub mode_of : List (String Global) → Option Mode
mode_of words = asked_by (map string_bytes words)
