use Rattle.std.proofs.Common.{refl, take, drop, [], ◌∷◌, None, ℕ, List}
use Rattle.std.proofs.lemmas.Option.{none-some}
use Rattle.std.specs.Prelude.{codes, filter_map}
use Rattle.std.specs.Fmt.{digits}
use Rattle.ac_syntax.specs.Code.{stop, handled, no_handler, handler}
use Rattle.ac_syntax.specs.declared.script.Script.{Script}
use Rattle.ac_syntax.specs.declared.token.Keyword.TheVariants as keyword
use Rattle.ac_syntax.specs.declared.token.Mark.TheVariants.{Equal}
use Rattle.ac_syntax.specs.declared.token.Token.TheVariants as token
use Rattle.ac_syntax.specs.Items.{item_line, script_items}
use Rattle.ac_syntax.specs.Keywords.{script_cut}
use Rattle.ac_syntax.specs.Parts.{item_parts}
use Rattle.ac_syntax.specs.Grammar.{reserved, is_reserved}
use Rattle.ac_syntax.specs.Tokens.{tokens}
use Rattle.ac_syntax.specs.Canonical.{canonical_text, canonical_placed, on_line}
use Rattle.ac_syntax.specs.Examples.{lines, with_list}
use Rattle.ac_syntax.specs.HandlerExamples.{propagating, handled_script, handled_lines, each_exception}
use Rattle.ac_syntax.proofs.Derivations.{script_derives, placed_on, derives_on, rises_from}
use Rattle.ac_syntax.proofs.Withins.{within}
use Rattle.ac_syntax.proofs.FirstFaults.{syntax_behind, syntax_at}
use Rattle.ac_syntax.proofs.OuterItems.{front_past, outer_past, begin_no}
use Rattle.ac_syntax.proofs.FurtherMarks.{further_at}
use Rattle.ac_syntax.proofs.HandledItems.{behind_pragma, behind_begin, no_end_tried, behind_exception, no_end_first, behind_others, no_when}
use Rattle.ac_syntax.proofs.law.handlers.Goals as goal

-- the line of each item in the text
abbrev handled_on : List ℕ
handled_on = 1 ∷ 2 ∷ 2 ∷ 3 ∷ 4 ∷ 5 ∷ 5 ∷ 5 ∷ 5 ∷ 5 ∷ 6 ∷ 7 ∷ 8 ∷ 9 ∷ 10 ∷ 11 ∷ []

pub returns-clause-spelled : goal.returns-clause-spelled
unfolding reserved is_reserved item_parts canonical_placed
returns-clause-spelled c = record { whole = refl; derives = derives_on handled_on handled_script refl; within = within (tokens (canonical_placed handled_script)) refl }

pub returns-clause-written : goal.returns-clause-written
unfolding digits item_parts canonical_text
returns-clause-written c = refl

pub returns-clause-well : goal.returns-clause-well
unfolding reserved is_reserved item_parts canonical_placed
returns-clause-well c =
    record {
      derives = script_derives handled_script refl;
      within = within (tokens (canonical_placed handled_script)) refl;
      written = refl;
      lines = rises_from 1 (filter_map item_line (script_items handled_script)) refl;
    }

-- the declarations are twelve tokens
pub returns-clause-pragma : goal.returns-clause-pragma
unfolding reserved is_reserved item_parts canonical_placed
returns-clause-pragma c =
    syntax_at (lines handled_lines) (with_list stop) (canonical_placed (with_list stop)) (drop 13 (script_cut (lines handled_lines)).placed) []
    (on_line 2 (token.Word (codes "begin"))) refl refl refl refl
    (λ more. front_past _ _ (record { no_head = refl; no_pragma = refl })
    (outer_past _ _ (record { no_head = refl; no_pragma = refl }) (begin_no 2 more)))

-- a block with handlers on line 2, of which the first and only one stands on line 3
abbrev a_block : Script
a_block = propagating [] (handled 2 stop (handler 3 None stop no_handler) stop)

abbrev handler_text : List ℕ
handler_text = lines (codes "pragma Propagate;" ∷ codes "begin" ∷ codes "exception" ∷ codes "end;" ∷ [])

pub returns-clause-handler : goal.returns-clause-handler
unfolding reserved is_reserved item_parts
returns-clause-handler c =
    let placed = placed_on (1 ∷ 2 ∷ 3 ∷ 3 ∷ 3 ∷ []) (script_items a_block) in
    syntax_behind handler_text a_block (take 5 placed) (drop 6 (script_cut handler_text).placed) (drop 5 placed)
    (on_line 4 (token.Word (codes "end"))) refl (derives_on (1 ∷ 2 ∷ 3 ∷ 3 ∷ 3 ∷ []) a_block refl) refl
    (λ more. behind_pragma 1 _ _ _ (behind_begin 2 _ (behind_exception 3 _ (no_end_first 4 more))))

abbrev exception_text : List ℕ
exception_text = lines (codes "pragma Propagate;" ∷ codes "begin" ∷ codes "end;" ∷ [])

pub returns-clause-exception : goal.returns-clause-exception
unfolding reserved is_reserved item_parts canonical_placed
returns-clause-exception c =
    syntax_at exception_text a_block (take 4 (canonical_placed a_block)) (drop 5 (script_cut exception_text).placed) (drop 4 (canonical_placed a_block))
    (on_line 3 (token.Word (codes "end"))) refl refl refl refl
    (λ more. behind_pragma 1 _ _ _ (behind_begin 2 _ (no_end_tried 3 more)))

abbrev others_text : List ℕ
others_text = lines (codes "pragma Propagate;" ∷ codes "begin exception" ∷ codes "when others =>" ∷ codes "when Program_Error => end;" ∷ [])

pub returns-clause-others : goal.returns-clause-others
unfolding reserved is_reserved item_parts canonical_placed
returns-clause-others c =
    syntax_at others_text a_block (take 8 (canonical_placed a_block)) (drop 9 (script_cut others_text).placed) (drop 8 (canonical_placed a_block))
    (on_line 4 (token.Keyword keyword.When)) refl refl refl refl
    (λ more. behind_pragma 1 _ _ _ (behind_begin 2 _ (behind_exception 2 _ (behind_others 3 3 3 _ (no_when 4 more)))))

abbrev equals_text : List ℕ
equals_text = lines (codes "pragma Propagate;" ∷ codes "begin exception" ∷ codes "when others = end;" ∷ [])

pub returns-clause-equals : goal.returns-clause-equals
unfolding reserved is_reserved item_parts canonical_placed
returns-clause-equals c =
    further_at equals_text a_block (take 7 (canonical_placed a_block)) (drop 8 (script_cut equals_text).placed) (drop 7 (canonical_placed a_block))
    (on_line 3 (token.Mark Equal)) refl refl refl refl refl

pub returns-clause-in_task : goal.returns-clause-in_task
returns-clause-in_task c = λ w. none-some _ w.derives.ordered.leads

pub returns-clause-exceptions : goal.returns-clause-exceptions
unfolding reserved is_reserved item_parts canonical_placed
returns-clause-exceptions c = record { whole = refl; derives = script_derives each_exception refl; within = within (tokens (canonical_placed each_exception)) refl }
