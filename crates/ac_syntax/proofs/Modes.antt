-- The keywords are reserved in a text where the script that its tokens derive has the pragma.
use Rattle.std.proofs.Common.{◌≡◌, ℕ, Bool, true, false, List, [], ◌∷◌, ◌++◌, map, length, refl, sym, ap, subst, ◌∙◌, Option, Some, None, arith}
use Rattle.std.proofs.lemmas.Bool.{and_parts, cond-true}
use Rattle.std.proofs.Math.Bool.{true≢false}
use Rattle.std.specs.List.{list_all}
use Rattle.std.specs.Prelude.{is_some}
use Rattle.ac_syntax.specs.Code.{Code, stop, one, block, handled}
use Rattle.ac_syntax.specs.declared.decl.Decl.{Decl}
use Rattle.ac_syntax.specs.declared.script.Script.{Script}
use Rattle.ac_syntax.specs.declared.token.Keyword.TheVariants as keyword
use Rattle.ac_syntax.specs.declared.token.Mark.TheVariants.{Semicolon}
use Rattle.ac_syntax.specs.declared.token.Token.{Token}
use Rattle.ac_syntax.specs.declared.token.Token.TheVariants as token
use Rattle.ac_syntax.specs.declared.token.Placed.{Placed}
use Rattle.ac_syntax.specs.Items.{Item, declares, commands, opens, propagates, tries, bare, items, pragma_items}
use Rattle.ac_syntax.specs.Parts.{keywords, marks, item_parts}
use Rattle.ac_syntax.specs.Grammar.{AreItems, Derives}
use Rattle.ac_syntax.specs.Keywords.{reserved_word, reserved_token, reserved_placed, is_keyword_text, begins_propagating, reserved_where, script_cut}
use Rattle.ac_syntax.specs.Tokens.{tokens, cut_of}
use Rattle.ac_syntax.specs.Canonical.{is_written, propagates_in}
use Rattle.ac_syntax.proofs.CutTokens.{cut_tidy}
use Rattle.ac_syntax.proofs.Leading.{leads, begins_so, led_by}

-- the word `pragma` where it is reserved
pragma_token : (t : Token) → is_keyword_text keyword.Pragma t ≡ true → reserved_token t ≡ token.Keyword keyword.Pragma
pragma_token (token.Word word) h = ap (reserved_word word) (cond-true _ _ _ h)
pragma_token (token.Keyword _) h = absurd (true≢false (sym h))
pragma_token (token.Number _) h = absurd (true≢false (sym h))
pragma_token (token.Text _) h = absurd (true≢false (sym h))
pragma_token (token.Mark _) h = absurd (true≢false (sym h))

not_led : (item : Item) (others : List Item) (p : Placed) (placed : List Placed) → AreItems (item ∷ others) (p ∷ placed) → p.token ≡ token.Keyword keyword.Pragma
    → leads item (token.Keyword keyword.Pragma) ≡ false → ⊥
not_led item others p placed h is not =
    let led : leads item (token.Keyword keyword.Pragma) ≡ true = subst (λ t. leads item t ≡ true) is (led_by item others p placed h) in
    true≢false (sym led ∙ not)

-- without the pragma no script begins with it
no_pragma : (decls : List Decl) (code : Code) (p : Placed) (placed : List Placed) → AreItems (map declares decls ++ items code) (p ∷ placed)
    → p.token ≡ token.Keyword keyword.Pragma → ⊥
no_pragma (d ∷ decls) code p placed h is = not_led (declares d) (map declares decls ++ items code) p placed h is refl
no_pragma [] stop p placed h is = omega (arith, ap length h)
no_pragma [] (one s rest) p placed h is = not_led (commands s) (items rest) p placed h is refl
no_pragma [] (block head body rest) p placed h is = not_led (opens (bare head)) _ p placed h is refl
no_pragma [] (handled line body handlers rest) p placed h is = not_led (tries line) _ p placed h is refl

-- and with it no other token than the keyword comes first
pragma_first : (line : ℕ) (others : List Item) (placed : List Placed) → AreItems (propagates line ∷ others) placed → list_all (is_written false) (tokens placed) ≡ true → ⊥
unfolding item_parts
pragma_first line others placed h written =
    let first = begins_so (keywords keyword.Pragma) (keywords keyword.Propagate ∷ marks Semicolon ∷ []) h.0 refl h.3.spelled in
    let all : placed ≡ first.first ∷ (first.rest ++ h.1) = h.2 ∙ ap (λ front. front ++ h.1) first.whole in
    let parts : (is_written false first.first.token ≡ true) × (list_all (is_written false) (tokens (first.rest ++ h.1)) ≡ true) =
    and_parts _ _ (subst (λ ps. list_all (is_written false) (tokens ps) ≡ true) all written) in
    let own : false ≡ true = subst (λ t. is_written false t ≡ true) first.leads parts.0 in
    true≢false (sym own)

by_mode : (mode : Bool) (raw : List Placed) → begins_propagating raw ≡ mode → list_all (is_written false) (tokens raw) ≡ true
    → (own : Option ℕ) (decls : List Decl) (code : Code) → AreItems (pragma_items own ++ (map declares decls ++ items code)) (reserved_where mode raw) → mode ≡ is_some own
by_mode true raw b written (Some line) decls code h = refl
by_mode false raw b written None decls code h = refl
by_mode false raw b written (Some line) decls code h = absurd (pragma_first line (map declares decls ++ items code) raw h written)
by_mode true [] b written None decls code h = absurd (true≢false (sym b))
by_mode true (_ ∷ []) b written None decls code h = absurd (true≢false (sym b))
by_mode true (p ∷ q ∷ more) b written None decls code h =
    let both : (is_keyword_text keyword.Pragma p.token ≡ true) × (is_keyword_text keyword.Propagate q.token ≡ true) = and_parts _ _ b in
    absurd (no_pragma decls code (reserved_placed p) (map reserved_placed (q ∷ more)) h (pragma_token p.token both.0))

pub same_mode : (script : Script) (text : List ℕ) → Derives (script_cut text).placed script → begins_propagating (cut_of text).placed ≡ propagates_in script
same_mode script text derives =
    by_mode (begins_propagating (cut_of text).placed) (cut_of text).placed refl (cut_tidy 0 1 text).written script.pragma script.decls script.stmts derives.are
