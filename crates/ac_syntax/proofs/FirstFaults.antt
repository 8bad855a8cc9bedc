-- Where a text is refused, by tests that compute.
use Rattle.std.proofs.Common.{◌≡◌, ℕ, true, List, [], ◌∷◌, ◌++◌, sym, subst, append_assoc}
use Rattle.std.specs.Prelude.{Some}
use Rattle.ac_syntax.specs.declared.token.Placed.{Placed}
use Rattle.ac_syntax.specs.declared.script.Script.{Script}
use Rattle.ac_syntax.specs.declared.refusal.RefusalKind.TheVariants.{Syntax, Limit}
use Rattle.ac_syntax.specs.Keywords.{script_cut}
use Rattle.ac_syntax.specs.Tokens.{tokens}
use Rattle.ac_syntax.specs.Grammar.{Derives}
use Rattle.ac_syntax.specs.Limits.{none_seen, seen_of, is_past_limit}
use Rattle.ac_syntax.specs.Canonical.{canonical_placed}
use Rattle.ac_syntax.specs.Refusals.{begins_none, past_limit, bad_token, malformed_piece, IsFirstRefusal, first_bad}
use Rattle.ac_syntax.proofs.Derivations.{is_derived, script_derives}
use Rattle.ac_syntax.proofs.Refusing.{Refused, begins_no}
use Rattle.ac_syntax.proofs.Withins.{within_from, none_bad}

-- a token past a limit, behind others with which a script of these tokens begins
pub limit_at : (text : List ℕ) (script : Script) (before after more : List Placed) (bad : Placed)
    → (script_cut text).placed ≡ before ++ bad ∷ after → canonical_placed script ≡ before ++ bad ∷ more → is_derived script ≡ true
    → within_from none_seen (tokens before) ≡ true → is_past_limit (seen_of (tokens before)) bad.token ≡ true → IsFirstRefusal text bad.line Limit
limit_at text script before after more bad cut written sayable kept past =
    first_bad bad.line Limit (bad_token before after bad Limit cut (none_bad before (bad ∷ more) script derived kept)
    (past_limit (more, script, subst (λ all. Derives all script) (sym (append_assoc before (bad ∷ []) more)) derived) past)) where
      derived : Derives (before ++ bad ∷ more) script
      derived = subst (λ all. Derives all script) written (script_derives script sayable)

-- a malformed piece behind tokens with which a script of these tokens begins
pub malformed_at : (text : List ℕ) (script : Script) (more : List Placed) (line : ℕ)
    → (script_cut text).malformed ≡ Some line → canonical_placed script ≡ (script_cut text).placed ++ more → is_derived script ≡ true
    → within_from none_seen (tokens (script_cut text).placed) ≡ true → IsFirstRefusal text line Syntax
malformed_at text script more line cut written sayable kept =
    first_bad line Syntax (malformed_piece line
    (none_bad (script_cut text).placed more script (subst (λ all. Derives all script) written (script_derives script sayable)) kept) cut)

-- a token with which no script begins, behind others with which this one does
pub syntax_behind : (text : List ℕ) (script : Script) (before after more : List Placed) (bad : Placed)
    → (script_cut text).placed ≡ before ++ bad ∷ after → Derives (before ++ more) script
    → within_from none_seen (tokens before) ≡ true → Refused (before ++ bad ∷ []) → IsFirstRefusal text bad.line Syntax
syntax_behind text script before after more bad cut derived kept refused =
    first_bad bad.line Syntax (bad_token before after bad Syntax cut (none_bad before more script derived kept) (begins_none (begins_no (before ++ bad ∷ []) refused)))

-- the same where they are the first of its canonical text
pub syntax_at : (text : List ℕ) (script : Script) (before after more : List Placed) (bad : Placed)
    → (script_cut text).placed ≡ before ++ bad ∷ after → canonical_placed script ≡ before ++ more → is_derived script ≡ true
    → within_from none_seen (tokens before) ≡ true → Refused (before ++ bad ∷ []) → IsFirstRefusal text bad.line Syntax
syntax_at text script before after more bad cut written sayable kept refused =
    syntax_behind text script before after more bad cut (subst (λ all. Derives all script) written (script_derives script sayable)) kept refused
