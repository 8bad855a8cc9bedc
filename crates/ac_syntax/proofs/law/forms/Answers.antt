use Rattle.std.proofs.Common.{refl, inr, [], ◌∷◌, arith}
use Rattle.std.specs.Prelude.{codes, filter_map}
use Rattle.std.specs.Fmt.{digits}
use Rattle.ac_syntax.specs.declared.token.Token.TheVariants as token
use Rattle.ac_syntax.specs.declared.token.Mark.TheVariants.{Assign, Minus, Semicolon}
use Rattle.ac_syntax.specs.Items.{item_line, script_items}
use Rattle.ac_syntax.specs.Parts.{item_parts}
use Rattle.ac_syntax.specs.Grammar.{reserved, is_reserved}
use Rattle.ac_syntax.specs.Tokens.{tokens, cut_of}
use Rattle.ac_syntax.specs.Canonical.{canonical_text, canonical_placed}
use Rattle.ac_syntax.specs.FormExamples.{every_form, zero_set}
use Rattle.ac_syntax.proofs.Orders.{script_ordered}
use Rattle.ac_syntax.proofs.Derivations.{script_derives, rises_from}
use Rattle.ac_syntax.proofs.Withins.{within}
use Rattle.ac_syntax.proofs.law.forms.Goals as goal

pub returns-clause-every_form : goal.returns-clause-every_form
unfolding reserved is_reserved item_parts canonical_placed
returns-clause-every_form c = record { whole = refl; derives = script_derives every_form refl; within = within (tokens (canonical_placed every_form)) refl }

pub returns-clause-every_form_text : goal.returns-clause-every_form_text
unfolding digits item_parts canonical_text
returns-clause-every_form_text c = refl

pub returns-clause-every_form_well : goal.returns-clause-every_form_well
unfolding reserved is_reserved item_parts canonical_placed
returns-clause-every_form_well c =
    record {
      derives = script_derives every_form refl;
      within = within (tokens (canonical_placed every_form)) refl;
      written = refl;
      lines = rises_from 1 (filter_map item_line (script_items every_form)) refl;
    }

pub returns-clause-minus_zero : goal.returns-clause-minus_zero
unfolding reserved is_reserved item_parts canonical_placed
returns-clause-minus_zero c =
    record {
      whole = refl;
      derives = record {
        are = (
          (cut_of (codes "X := -0;")).placed,
          [],
          refl,
          record {
            spelled = (
              token.Word (codes "x") ∷ [],
              token.Mark Assign ∷ token.Mark Minus ∷ token.Number 0 ∷ token.Mark Semicolon ∷ [],
              refl,
              (refl, refl),
              (
                token.Mark Assign ∷ [],
                token.Mark Minus ∷ token.Number 0 ∷ token.Mark Semicolon ∷ [],
                refl,
                refl,
                (token.Mark Minus ∷ token.Number 0 ∷ [], token.Mark Semicolon ∷ [], refl, inr (0, refl, refl), (token.Mark Semicolon ∷ [], [], refl, refl, refl)),
              ),
            );
            begins = refl;
          },
          refl,
        );
        ordered = script_ordered zero_set tt;
      };
      within = within (tokens (cut_of (codes "X := -0;")).placed) refl;
    }

pub returns-clause-zero : goal.returns-clause-zero
unfolding digits item_parts canonical_text
returns-clause-zero c = refl

pub returns-clause-cursor : goal.returns-clause-cursor
unfolding reserved is_reserved item_parts canonical_placed
returns-clause-cursor c = λ w. w.derives.are.3.spelled.4.4.3

pub returns-clause-rising_lines : goal.returns-clause-rising_lines
returns-clause-rising_lines c = λ w. omega (arith, w.lines.1.0)
