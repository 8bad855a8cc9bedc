-- Tokens that keep the limits, and have no bad one, by tests that compute.
use Rattle.std.proofs.Common.{◌≡◌, ◌&&◌, Bool, true, false, not, List, [], ◌∷◌, ◌++◌, sym, ap, subst, ◌∙◌, append_assoc, length, arith}
use Rattle.std.proofs.lemmas.Bool.{and_parts}
use Rattle.std.proofs.lemmas.List.{map-append}
use Rattle.std.specs.List.{fold}
use Rattle.std.proofs.Math.Bool.{true≢false}
use Rattle.ac_syntax.specs.declared.token.Token.{Token}
use Rattle.ac_syntax.specs.declared.token.Placed.{Placed}
use Rattle.ac_syntax.specs.declared.script.Script.{Script}
use Rattle.ac_syntax.specs.Tokens.{tokens}
use Rattle.ac_syntax.specs.Grammar.{Derives}
use Rattle.ac_syntax.specs.Limits.{Seen, none_seen, seen_after, is_past_limit, AreWithinLimits}
use Rattle.ac_syntax.specs.Refusals.{begins_none, past_limit, HasNoBadToken}
use Rattle.ac_syntax.proofs.Derivations.{false-not}

-- a test that no token behind what was seen is past a limit
abbrev pub within_from : Seen → List Token → Bool
within_from seen [] = true
within_from seen (token ∷ others) = not (is_past_limit seen token) && within_from (seen_after seen token) others

-- a list that ends in an item and more isn't empty
pub not_ended : {A : Type 0} (before after : List A) (x : A) → [] ≡ before ++ x ∷ after → ⊥
not_ended [] after x e = omega (arith, ap length e)
not_ended (b ∷ before) after x e = omega (arith, ap length e)

within_at : (seen : Seen) (all before after : List Token) (token : Token)
    → within_from seen all ≡ true → all ≡ before ++ token ∷ after → is_past_limit (fold seen_after seen before) token ≡ false
within_at seen [] before after token p e = absurd (not_ended before after token e)
within_at seen (x ∷ xs) [] after token p e =
    let h : (not (is_past_limit seen x) ≡ true) × (within_from (seen_after seen x) xs ≡ true) = and_parts _ _ p in
    let same : x ≡ token = cc e in
    rw (← same) (false-not (is_past_limit seen x) h.0)
within_at seen (x ∷ xs) (b ∷ bs) after token p e =
    let h : (not (is_past_limit seen x) ≡ true) × (within_from (seen_after seen x) xs ≡ true) = and_parts _ _ p in
    let same : x ≡ b = cc e in
    let others : xs ≡ bs ++ token ∷ after = cc e in
    subst (λ t. is_past_limit (fold seen_after (seen_after seen t) bs) token ≡ false) same (within_at (seen_after seen x) xs bs after token h.1 others)

pub within : (all : List Token) → within_from none_seen all ≡ true → AreWithinLimits all
within all p before after token e = within_at none_seen all before after token p e

-- tokens that begin a derivation and keep the limits have no bad one
pub begun_none_bad : (placed more : List Placed) (script : Script) → Derives (placed ++ more) script → AreWithinLimits (tokens placed) → HasNoBadToken placed
begun_none_bad placed more script d kept before after bad kind e (begins_none none) = none (after ++ more, script, subst (λ all. Derives all script) (ap (λ all. all ++ more) e ∙ regrouped) d) where
  regrouped : (before ++ bad ∷ after) ++ more ≡ (before ++ bad ∷ []) ++ (after ++ more)
  regrouped = append_assoc before (bad ∷ after) more ∙ sym (append_assoc before (bad ∷ []) (after ++ more))
begun_none_bad placed more script d kept before after bad kind e (past_limit _ past) = absurd (true≢false (sym past ∙ kept (tokens before) (tokens after) bad.token split)) where
  split : tokens placed ≡ tokens before ++ bad.token ∷ tokens after
  split = ap tokens e ∙ map-append (λ (t : Placed). t.token) before (bad ∷ after)

-- the same by a test that computes
pub none_bad : (placed more : List Placed) (script : Script) → Derives (placed ++ more) script → within_from none_seen (tokens placed) ≡ true → HasNoBadToken placed
none_bad placed more script d p = begun_none_bad placed more script d (within (tokens placed) p)
