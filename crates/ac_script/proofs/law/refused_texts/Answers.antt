use Rattle.std.proofs.Common.{◌≡◌, false, ◌^◌, ◌-◌, take, drop, List, [], ◌∷◌, refl, ap}
use Rattle.std.proofs.Math.Nat.{suc-ne-zero}
use Rattle.std.specs.Prelude.{codes, length}
use Rattle.ac_syntax.specs.declared.closing.Closing.{Closing}
use Rattle.ac_syntax.specs.declared.closing.Closing.TheVariants.{EndLoop}
use Rattle.ac_syntax.specs.declared.script.Script.{Script}
use Rattle.ac_syntax.specs.declared.token.Mark.TheVariants.{Close, Semicolon, Colon}
use Rattle.ac_syntax.specs.declared.token.Token.TheVariants as token
use Rattle.ac_syntax.specs.Code.{stop}
use Rattle.ac_syntax.specs.Items.{Item, script_items}
use Rattle.ac_syntax.specs.Parts.{item_parts}
use Rattle.ac_syntax.specs.Grammar.{reserved, is_reserved}
use Rattle.ac_syntax.specs.Canonical.{on_line}
use Rattle.ac_syntax.specs.Order.{running, at_front, Context}
use Rattle.ac_syntax.specs.Keywords.{script_cut}
use Rattle.ac_syntax.proofs.Orders.{at}
use Rattle.ac_syntax.proofs.Withins.{within}
use Rattle.ac_script.specs.Heads.{lead_of, other_lead}
use Rattle.ac_script.specs.Commands.{command, assignment}
use Rattle.ac_script.specs.ItemReader.{in_fronting, in_listing, handled, tried, statement, ended, named, behind_name, command_item, closing}
use Rattle.ac_script.specs.RefusalExamples.{looping, printing, open_block}
use Rattle.ac_script.proofs.Readings.{none_read, has_bad}
use Rattle.ac_script.proofs.Refusals.{bad_before_past}
use Rattle.ac_script.proofs.Refused.{stops_at, stays_open}
use Rattle.ac_script.proofs.law.refused_texts.Goals as goal

pub returns-clause-mark_first : goal.returns-clause-mark_first
unfolding in_fronting in_listing tried statement ended named
returns-clause-mark_first c =
    let mark = on_line 1 (token.Mark Close) in
    let number = on_line 1 (token.Number (2 ^ 64 - 1)) in
    let front = mark ∷ number ∷ [] in
    bad_before_past (codes ") 99999999999999999999;") front 1 1
    (record {
      before = mark ∷ [];
      past = number;
      after = on_line 1 (token.Mark Semicolon) ∷ [];
      cut = refl;
      front_is = refl;
      on = refl;
      within = within (token.Mark Close ∷ []) refl;
      is_past = refl;
    })
    (has_bad [] at_front front front mark (number ∷ []) (none_read front) refl)

-- the items of a loop and of what stands in it so far
abbrev loop_items : Script → List Item
loop_items script = take 3 (script_items script)

abbrev printing_items : List Item
printing_items = take 4 (script_items (looping printing))

-- in the loop
abbrev in_loop : Context
in_loop = at false (EndLoop ∷ []) running

still_open : {b : Closing} {blocks : List Closing} → b ∷ blocks ≡ [] → ⊥
still_open {blocks} e = suc-ne-zero (length blocks) (ap length e)

pub returns-clause-open_head : goal.returns-clause-open_head
unfolding reserved is_reserved item_parts
returns-clause-open_head c =
    stays_open (open_block []) (loop_items (looping stop)) in_loop (take 16 (script_cut (open_block [])).placed) (on_line 3 (token.Word (codes "loop"))) refl refl refl refl refl refl (λ end. still_open end.closed)

pub returns-clause-open_block : goal.returns-clause-open_block
unfolding reserved is_reserved item_parts
returns-clause-open_block c =
    let text = open_block (codes "A.Print;" ∷ [] ∷ []) in
    stays_open text printing_items in_loop (take 20 (script_cut text).placed) (on_line 4 (token.Mark Semicolon)) refl refl refl refl refl refl (λ end. still_open end.closed)

pub returns-clause-bare_end : goal.returns-clause-bare_end
unfolding reserved is_reserved item_parts handled tried statement lead_of other_lead ended closing
returns-clause-bare_end c =
    let placed = (script_cut (open_block (codes "A.Print;" ∷ codes "end" ∷ codes "; A.Print;" ∷ []))).placed in
    stops_at (open_block (codes "A.Print;" ∷ codes "end" ∷ codes "; A.Print;" ∷ [])) printing_items in_loop (drop 21 placed) (drop 23 placed) (on_line 6 (token.Mark Semicolon)) refl refl refl refl refl

pub returns-clause-late_declaration : goal.returns-clause-late_declaration
unfolding reserved is_reserved item_parts handled tried statement lead_of other_lead ended named behind_name command_item command assignment
returns-clause-late_declaration c =
    let placed = (script_cut (open_block (codes "A.Print;" ∷ codes "B" ∷ codes ": L;" ∷ []))).placed in
    stops_at (open_block (codes "A.Print;" ∷ codes "B" ∷ codes ": L;" ∷ [])) printing_items in_loop (drop 21 placed) (drop 23 placed) (on_line 6 (token.Mark Colon)) refl refl refl refl refl
