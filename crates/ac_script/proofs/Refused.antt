-- Where a text is refused at a token with which no script begins, or at its end, by tests that compute.
use Rattle.std.proofs.Common.{◌≡◌, ℕ, true, List, [], ◌∷◌, ◌++◌, refl, sym, ◌∙◌}
use Rattle.std.proofs.lemmas.List.{append-nil}
use Rattle.std.specs.Prelude.{Some, None}
use Rattle.ac_syntax.specs.declared.token.Placed.{Placed}
use Rattle.ac_syntax.specs.declared.refusal.RefusalKind.TheVariants.{Syntax}
use Rattle.ac_syntax.specs.Items.{Item}
use Rattle.ac_syntax.specs.Canonical.{items_placed}
use Rattle.ac_syntax.specs.Order.{Context, context_after, at_front, IsEnd}
use Rattle.ac_syntax.specs.Refusals.{IsFirstRefusal}
use Rattle.ac_syntax.specs.Limits.{none_seen}
use Rattle.ac_syntax.specs.Tokens.{tokens}
use Rattle.ac_syntax.specs.Keywords.{script_cut}
use Rattle.ac_syntax.proofs.Derivations.{are_sayable, items_derive}
use Rattle.ac_syntax.proofs.Withins.{within_from, within}
use Rattle.ac_script.specs.Outcomes.{stopped}
use Rattle.ac_script.specs.ItemReader.{item, innermost_of}
use Rattle.ac_script.specs.Readings.{AreRead}
use Rattle.ac_script.proofs.Readings.{has_bad, ends_open}
use Rattle.ac_script.proofs.Refusals.{bad_within, ended}

-- the tokens of these items are read, and the rest is left
pub are_read : (items : List Item) (context : Context) (placed rest : List Placed)
    → placed ≡ items_placed 1 items ++ rest → are_sayable 1 items ≡ true → context_after at_front items ≡ Some context → AreRead items context placed rest
are_read items context placed rest whole sayable leads = record { done = items_placed 1 items; whole = whole; are = items_derive 1 items sayable; leads = leads }

-- behind these items reading stops at a token
pub stops_at : (text : List ℕ) (items : List Item) (context : Context) (rest after : List Placed) (bad : Placed)
    → (script_cut text).placed ≡ items_placed 1 items ++ rest → are_sayable 1 items ≡ true → context_after at_front items ≡ Some context
    → within_from none_seen (tokens (script_cut text).placed) ≡ true → item context.propagating context.stage (innermost_of context.blocks) rest ≡ stopped (bad ∷ after) → IsFirstRefusal text bad.line Syntax
stops_at text items context rest after bad whole sayable leads kept stops =
    bad_within text (script_cut text).placed (script_cut text).malformed bad.line (record { placed_is = refl; malformed_is = refl }) (within (tokens (script_cut text).placed) kept)
    (has_bad items context (script_cut text).placed rest bad after (are_read items context (script_cut text).placed rest whole sayable leads) stops)

-- the tokens are these items, behind which no script may end
pub stays_open : (text : List ℕ) (items : List Item) (context : Context) (before : List Placed) (last : Placed)
    → (script_cut text).malformed ≡ None → (script_cut text).placed ≡ before ++ last ∷ [] → (script_cut text).placed ≡ items_placed 1 items → are_sayable 1 items ≡ true
    → context_after at_front items ≡ Some context → within_from none_seen (tokens (script_cut text).placed) ≡ true → (IsEnd context → ⊥) → IsFirstRefusal text last.line Syntax
stays_open text items context before last unbroken ends whole sayable leads kept unended =
    ended text (script_cut text).placed (record { placed_is = refl; malformed_is = unbroken }) (within (tokens (script_cut text).placed) kept)
    (ends_open items context (script_cut text).placed
    (are_read items context (script_cut text).placed [] (whole ∙ sym (append-nil (items_placed 1 items))) sayable leads) unended)
    (record { before = before; last = last; whole = ends })
