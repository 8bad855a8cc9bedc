-- Texts that spell a script, and for those that don't the first fault.
use Rattle.std.specs.Prelude.{◌≡◌, ℕ, true, List, [], ◌∷◌, ◌++◌, Some, None}
use Rattle.ac_syntax.specs.declared.token.Placed.{Placed}
use Rattle.ac_syntax.specs.declared.script.Script.{Script}
use Rattle.ac_syntax.specs.declared.refusal.RefusalKind.{RefusalKind}
use Rattle.ac_syntax.specs.declared.refusal.RefusalKind.TheVariants.{Syntax, Limit}
use Rattle.ac_syntax.specs.Tokens.{Cut, tokens}
use Rattle.ac_syntax.specs.Keywords.{script_cut}
use Rattle.ac_syntax.specs.Grammar.{Derives, BeginsScript}
use Rattle.ac_syntax.specs.Limits.{seen_of, is_past_limit, AreWithinLimits}

-- the bytes are cut into tokens, and these derive the script within the limits
pub record Spells (script : Script) (text : List ℕ) : Type 0 where
  pub whole : (script_cut text).malformed ≡ None
  pub derives : Derives (script_cut text).placed script
  pub within : AreWithinLimits (tokens (script_cut text).placed)

-- the first kind, in this order, of which a token is bad behind those before it: no script begins so, or it is past a limit
pub data IsBadToken (before : List Placed) (bad : Placed) : RefusalKind → Type 0 where
  begins_none : (BeginsScript (before ++ bad ∷ []) → ⊥) → IsBadToken before bad Syntax
  past_limit : BeginsScript (before ++ bad ∷ []) → is_past_limit (seen_of (tokens before)) bad.token ≡ true → IsBadToken before bad Limit

-- no token of these is bad
abbrev pub HasNoBadToken : List Placed → Type 0
HasNoBadToken placed =
    (before after : List Placed) (bad : Placed) (kind : RefusalKind) → placed ≡ before ++ bad ∷ after → IsBadToken before bad kind → ⊥

-- where and why the cut text is refused for its first bad token, or for the malformed piece behind its tokens
pub data IsFirstBad (cut : Cut) : ℕ → RefusalKind → Type 0 where
  bad_token : (before after : List Placed) (bad : Placed) (kind : RefusalKind) → cut.placed ≡ before ++ bad ∷ after
      → HasNoBadToken before → IsBadToken before bad kind → IsFirstBad cut bad.line kind
  malformed_piece : (line : ℕ) → HasNoBadToken cut.placed → cut.malformed ≡ Some line → IsFirstBad cut line Syntax

-- where and why a text is refused before the names in it are looked at
pub data IsFirstRefusal (text : List ℕ) : ℕ → RefusalKind → Type 0 where
  first_bad : (line : ℕ) (kind : RefusalKind) → IsFirstBad (script_cut text) line kind → IsFirstRefusal text line kind
  -- no token is bad, but the tokens end too early
  ends_early : (before : List Placed) (last : Placed) → (script_cut text).placed ≡ before ++ last ∷ [] → (script_cut text).malformed ≡ None
      → HasNoBadToken (script_cut text).placed → ((script : Script) → Derives (script_cut text).placed script → ⊥) → IsFirstRefusal text last.line Syntax
