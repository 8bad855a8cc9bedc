-- What parsing a text comes to.
use Rattle.std.specs.Prelude.{◌≡◌, ◌⊎◌, ℕ, true, List, [], ◌∷◌, ◌++◌, Option, Result, Ok, Err}
use Rattle.ac_syntax.specs.declared.token.Placed.{Placed}
use Rattle.ac_syntax.specs.declared.script.Script.{Script}
use Rattle.ac_syntax.specs.Tokens.{tokens}
use Rattle.ac_syntax.specs.Keywords.{script_cut}
use Rattle.ac_syntax.specs.Limits.{seen_of, is_past_limit, AreWithinLimits}
use Rattle.ac_syntax.specs.Refusals.{Spells, IsFirstRefusal}
use Rattle.ac_syntax.specs.declared.fault.ScriptFault.{ScriptFault}
use Rattle.ac_syntax.specs.declared.fault.ScriptFault.TheVariants.{Refused, NoMemory}

-- the text spells the script, or is refused there and so, unless memory ran out
abbrev pub IsAnswer : List ℕ → Result Script ScriptFault → Type 0
IsAnswer text (Ok script) = Spells script text
IsAnswer text (Err (Refused line kind)) = IsFirstRefusal text line kind
IsAnswer text (Err NoMemory) = Unit {0}

-- the result is this answer, unless memory ran out
abbrev pub IsOrNoMemory : Result Script ScriptFault → Result Script ScriptFault → Type 0
IsOrNoMemory result answer = (result ≡ answer) ⊎ (result ≡ Err NoMemory)

-- the text's tokens, and the line of the malformed piece behind them, if there is one
pub record IsCut (text : List ℕ) (placed : List Placed) (malformed : Option ℕ) : Type 0 where
  pub placed_is : (script_cut text).placed ≡ placed
  pub malformed_is : (script_cut text).malformed ≡ malformed

-- these are the text's tokens up to the first one that is past a limit, which stands on this line
pub record EndPast (text : List ℕ) (front : List Placed) (line : ℕ) : Type 0 where
  pub before : List Placed
  pub past : Placed
  pub after : List Placed
  pub cut : (script_cut text).placed ≡ before ++ past ∷ after
  pub front_is : front ≡ before ++ past ∷ []
  pub on : past.line ≡ line
  pub within : AreWithinLimits (tokens before)
  pub is_past : is_past_limit (seen_of (tokens before)) past.token ≡ true
