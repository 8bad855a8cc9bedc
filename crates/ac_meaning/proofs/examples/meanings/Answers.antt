use Rattle.std.proofs.Common.{refl, arith, List, [], ◌∷◌, ◌++◌, ◌≡◌}
use Rattle.std.specs.Prelude.{codes, None}
use Rattle.std.specs.Fmt.{digits}
use Rattle.ac_syntax.specs.Canonical.{canonical_placed}
use Rattle.ac_syntax.specs.Code.{call_at, stop}
use Rattle.ac_syntax.specs.Grammar.{reserved, is_reserved}
use Rattle.ac_syntax.specs.Items.{commands}
use Rattle.ac_syntax.specs.Parts.{item_parts}
use Rattle.ac_syntax.specs.Tokens.{tokens}
use Rattle.ac_syntax.specs.declared.refusal.RefusalKind.TheVariants.{UnknownName}
use Rattle.ac_syntax.proofs.Derivations.{script_derives}
use Rattle.ac_syntax.proofs.Withins.{within}
use Rattle.ac_rules.specs.Faults.{AreFaultless}
use Rattle.ac_rules.specs.Scopes.{Standing, standing, standings}
use Rattle.ac_meaning.specs.Examples.{number, script}
use Rattle.ac_meaning.specs.Execution.{run, run_with, text_of}
use Rattle.ac_meaning.specs.MeaningExamples.{unknown}
use Rattle.ac_meaning.specs.Meanings.{is_faulty, is_sound}
use Rattle.ac_meaning.proofs.examples.meanings.Goals as goal

none_behind : {X : Type 0} (earlier later : List Standing) (s : Standing) → [] ≡ earlier ++ s ∷ later → X
none_behind [] later s h = absurd (cc)
none_behind (e ∷ earlier) later s h = absurd (cc)

no_items : AreFaultless []
no_items earlier later s h = none_behind earlier later s h

pub returns-clause-refusals_are_one_line : goal.returns-clause-refusals_are_one_line
unfolding digits
returns-clause-refusals_are_one_line c = (refl, refl, refl, refl, refl, refl)

pub returns-clause-unknown_names_are_refused : goal.returns-clause-unknown_names_are_refused
unfolding digits reserved is_reserved item_parts canonical_placed standings
returns-clause-unknown_names_are_refused c =
    is_faulty unknown 1 UnknownName (omega arith)
    (record { whole = refl; derives = script_derives unknown refl; within = within (tokens (canonical_placed unknown)) refl })
    (record {
      earlier = [];
      later = [];
      faulty = standing (commands (call_at 1 None (codes "a") (codes "append") (number 1 ∷ []))) [];
      split = refl;
      first = no_items;
      is = refl;
      stands = refl;
    })
    refl

pub returns-clause-nothing_writes_nothing : goal.returns-clause-nothing_writes_nothing
unfolding digits reserved is_reserved item_parts canonical_placed standings run run_with text_of
returns-clause-nothing_writes_nothing c =
    is_sound (script [] stop) (omega arith)
    (record { whole = refl; derives = script_derives (script [] stop) refl; within = within (tokens (canonical_placed (script [] stop))) refl })
    no_items refl
