use Rattle.std.proofs.Common.{true, drop, List, [], ◌∷◌, refl}
use Rattle.std.specs.Prelude.{codes, None}
use Rattle.ac_syntax.specs.declared.closing.Closing.TheVariants.{EndTried, EndHandlers, EndOthers}
use Rattle.ac_syntax.specs.declared.token.Keyword.TheVariants as keyword
use Rattle.ac_syntax.specs.declared.token.Token.TheVariants as token
use Rattle.ac_syntax.specs.Items.{Item, propagates, tries, catches, closes}
use Rattle.ac_syntax.specs.Parts.{item_parts}
use Rattle.ac_syntax.specs.Grammar.{reserved, is_reserved}
use Rattle.ac_syntax.specs.Canonical.{on_line}
use Rattle.ac_syntax.specs.Examples.{lines}
use Rattle.ac_syntax.specs.Order.{listing, running, catching, at_front}
use Rattle.ac_syntax.specs.Keywords.{script_cut}
use Rattle.ac_syntax.proofs.Orders.{at}
use Rattle.ac_script.specs.Heads.{lead_of, other_lead}
use Rattle.ac_script.specs.ItemReader.{in_fronting, in_listing, tried, statement, ended, named, handled, in_catching}
use Rattle.ac_script.specs.RefusalExamples.{trying_text}
use Rattle.ac_script.proofs.Refused.{stops_at}
use Rattle.ac_script.proofs.law.refused_handlers.Goals as goal

pub returns-clause-bare_begin : goal.returns-clause-bare_begin
unfolding reserved is_reserved in_fronting in_listing tried statement lead_of other_lead ended named
returns-clause-bare_begin c =
    let placed = (script_cut (lines ([] ∷ codes "begin" ∷ []))).placed in
    stops_at (lines ([] ∷ codes "begin" ∷ [])) [] at_front placed (drop 1 placed) (on_line 2 (token.Word (codes "begin"))) refl refl refl refl refl

-- the items of what is tried
abbrev tried_items : List Item
tried_items = propagates 1 ∷ tries 2 ∷ []

pub returns-clause-end_of_tried : goal.returns-clause-end_of_tried
unfolding reserved is_reserved item_parts tried statement lead_of other_lead ended named handled
returns-clause-end_of_tried c =
    let placed = (script_cut (trying_text (codes "begin") (codes "end"))).placed in
    stops_at (trying_text (codes "begin") (codes "end")) tried_items (at true (EndTried ∷ EndHandlers ∷ []) running) (drop 4 placed) (drop 5 placed) (on_line 3 (token.Word (codes "end"))) refl refl refl refl refl

pub returns-clause-no_handler : goal.returns-clause-no_handler
unfolding reserved is_reserved item_parts in_catching
returns-clause-no_handler c =
    let placed = (script_cut (trying_text (codes "begin exception") (codes "end"))).placed in
    stops_at (trying_text (codes "begin exception") (codes "end")) (propagates 1 ∷ tries 2 ∷ closes EndTried ∷ []) (at true (EndHandlers ∷ []) catching)
    (drop 5 placed) (drop 6 placed) (on_line 3 (token.Word (codes "end"))) refl refl refl refl refl

pub returns-clause-behind_others : goal.returns-clause-behind_others
unfolding reserved is_reserved item_parts tried statement lead_of other_lead ended named handled
returns-clause-behind_others c =
    let placed = (script_cut (trying_text (codes "begin exception when others =>") (codes "when"))).placed in
    stops_at (trying_text (codes "begin exception when others =>") (codes "when")) (propagates 1 ∷ tries 2 ∷ closes EndTried ∷ catches 2 None ∷ []) (at true (EndOthers ∷ []) running)
    (drop 8 placed) (drop 9 placed) (on_line 3 (token.Keyword keyword.When)) refl refl refl refl refl

pub returns-clause-bare_handler : goal.returns-clause-bare_handler
unfolding reserved is_reserved item_parts in_listing tried statement lead_of other_lead ended named
returns-clause-bare_handler c =
    let placed = (script_cut (lines (codes "pragma Propagate;" ∷ codes "when" ∷ []))).placed in
    stops_at (lines (codes "pragma Propagate;" ∷ codes "when" ∷ [])) (propagates 1 ∷ []) (at true [] listing) (drop 3 placed) (drop 4 placed) (on_line 2 (token.Keyword keyword.When)) refl refl refl refl refl
