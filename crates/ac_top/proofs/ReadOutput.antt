-- What a question that was read, or none, comes to where a script is run.
use Rattle.std.proofs.Common.{◌≡◌, List, Option, Some, None, refl}
use Rattle.ac_syntax.specs.declared.script.Script.{Script}
use Rattle.ac_calls.specs.declared.plains.Plain.{Plain}
use Rattle.ac_meaning.specs.Execution.{Orders}
use Rattle.ac_aggregate.specs.declared.question.Question.{Question}
use Rattle.ac_top.specs.declared.mode.Options.{Options}
use Rattle.ac_top.specs.Asks.{asking_of}
use Rattle.ac_top.specs.Beginnings.{Beginning}
use Rattle.ac_top.specs.Modes.{begun, output}

pub read_output : (orders : Orders) (options : Options) (question : Option Question) (beginning : Beginning) (s : List Plain) (script : Script) →
    begun orders options.audit (asking_of question) options.save beginning s script ≡ output orders options (asking_of question) beginning s script
read_output orders options None beginning s script = refl
read_output orders options (Some q) beginning s script = refl
