use Rattle.std.proofs.Common.{refl}
use Rattle.std.proofs.lemmas.Option.{none-some}
use Rattle.std.specs.Prelude.{filter_map}
use Rattle.std.specs.Fmt.{digits}
use Rattle.ac_syntax.specs.Items.{item_line, script_items}
use Rattle.ac_syntax.specs.Parts.{item_parts}
use Rattle.ac_syntax.specs.Grammar.{reserved, is_reserved}
use Rattle.ac_syntax.specs.Tokens.{tokens}
use Rattle.ac_syntax.specs.Canonical.{canonical_text, canonical_placed}
use Rattle.ac_syntax.specs.TaskExamples.{sharing}
use Rattle.ac_syntax.proofs.Derivations.{script_derives, rises_from}
use Rattle.ac_syntax.proofs.Withins.{within}
use Rattle.ac_syntax.proofs.law.tasks.Goals as goal

pub returns-clause-spelled : goal.returns-clause-spelled
unfolding reserved is_reserved item_parts canonical_placed
returns-clause-spelled c = record { whole = refl; derives = script_derives sharing refl; within = within (tokens (canonical_placed sharing)) refl }

pub returns-clause-written : goal.returns-clause-written
unfolding digits item_parts canonical_text
returns-clause-written c = refl

pub returns-clause-well : goal.returns-clause-well
unfolding reserved is_reserved item_parts canonical_placed
returns-clause-well c =
    record {
      derives = script_derives sharing refl;
      within = within (tokens (canonical_placed sharing)) refl;
      written = refl;
      lines = rises_from 1 (filter_map item_line (script_items sharing)) refl;
    }

pub returns-clause-some_task : goal.returns-clause-some_task
returns-clause-some_task c = λ w. none-some _ w.derives.ordered.leads

pub returns-clause-in_block : goal.returns-clause-in_block
returns-clause-in_block c = λ w. none-some _ w.derives.ordered.leads

pub returns-clause-commands_alone : goal.returns-clause-commands_alone
returns-clause-commands_alone c = λ w. none-some _ w.derives.ordered.leads
