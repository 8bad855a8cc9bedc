-- What it is to read tokens to their end, or up to the first bad one.
use Rattle.std.specs.Prelude.{◌≡◌, ℕ, Bool, true, List, [], ◌∷◌, ◌++◌, map, reverse, Option, Some}
use Rattle.ac_syntax.specs.declared.closing.Closing.{Closing}
use Rattle.ac_syntax.specs.declared.token.Placed.{Placed}
use Rattle.ac_syntax.specs.declared.script.Script.{Script}
use Rattle.ac_syntax.specs.Code.{Head}
use Rattle.ac_syntax.specs.Items.{Item, declares, commands, opens, begins, closes, propagates, tries, catches}
use Rattle.ac_syntax.specs.Grammar.{AreItems, Derives, BeginsScript}
use Rattle.ac_syntax.specs.Order.{Context, left_behind, next_after, context_after, at_front, AreInOrder}
use Rattle.ac_script.specs.declared.stage.Stage.{Stage}
use Rattle.ac_script.specs.declared.stage.Stage.TheVariants as stage
use Rattle.ac_script.specs.declared.reading.Reading.{Reading}
use Rattle.ac_script.specs.declared.reading.Reading.TheVariants.{Whole, Early, Bad}
use Rattle.ac_script.specs.Views.{item_view, stage_view}

-- the tokens are these items, with which a script may end
pub record AreWhole (items : List Item) (placed : List Placed) : Type 0 where
  pub are : AreItems items placed
  pub ordered : AreInOrder items

-- a script begins with the tokens, and none is all of them
pub record EndEarly (placed : List Placed) : Type 0 where
  pub begins : BeginsScript placed
  pub none : (script : Script) → Derives placed script → ⊥

-- on this line stands the first token with which no script begins
pub record HasBad (placed : List Placed) (line : ℕ) : Type 0 where
  pub before : List Placed
  pub bad : Placed
  pub after : List Placed
  pub whole : placed ≡ before ++ bad ∷ after
  pub on : bad.line ≡ line
  pub begins : BeginsScript before
  pub none : BeginsScript (before ++ bad ∷ []) → ⊥

abbrev pub IsReading : Reading → List Placed → Type 0
IsReading (Whole items) placed = AreWhole (map item_view items.items) placed
IsReading Early placed = EndEarly placed
IsReading (Bad line) placed = HasBad placed line

-- what reading comes to where it stopped at these tokens
abbrev pub reading_at : List Placed → Reading
reading_at [] = Early
reading_at (bad ∷ _) = Bad bad.line

-- the context where these blocks are open, the outermost first
abbrev pub context_of : (propagating : Bool) → List Closing → Stage → Context
context_of propagating open_blocks stage = record { propagating = propagating; blocks = reverse open_blocks; stage = stage_view stage }

-- what a declaration, a command, and the word `begin`, lead to

abbrev pub declared : Stage → Stage
declared stage.Fronting = stage.Listing
declared stage.Listing = stage.Listing
declared stage.Heading = stage.Heading
declared stage.Running = stage.Running
declared stage.Tasking = stage.Tasking
declared stage.Tasked = stage.Tasked
declared stage.Preparing = stage.Preparing
declared stage.Stepping = stage.Stepping
declared stage.Catching = stage.Catching

abbrev pub ran : Stage → Stage
ran stage.Fronting = stage.Running
ran stage.Listing = stage.Running
ran stage.Heading = stage.Running
ran stage.Running = stage.Running
ran stage.Tasking = stage.Running
ran stage.Tasked = stage.Running
ran stage.Preparing = stage.Running
ran stage.Stepping = stage.Stepping
ran stage.Catching = stage.Running

abbrev pub begun : Stage → Stage
begun stage.Fronting = stage.Running
begun stage.Listing = stage.Running
begun stage.Heading = stage.Running
begun stage.Running = stage.Running
begun stage.Tasking = stage.Running
begun stage.Tasked = stage.Running
begun stage.Preparing = stage.Stepping
begun stage.Stepping = stage.Running
begun stage.Catching = stage.Running

-- exceptions propagate behind the pragma
abbrev pub propagates_after : Bool → Item → Bool
propagates_after propagating (declares _) = propagating
propagates_after propagating (commands _) = propagating
propagates_after propagating (opens _) = propagating
propagates_after propagating begins = propagating
propagates_after propagating (closes _) = propagating
propagates_after propagating (propagates _) = true
propagates_after propagating (tries _) = propagating
propagates_after propagating (catches _ _) = propagating

-- from these open blocks, what `lead` lets come leads to the others and to this stage
abbrev pub Leads : ((propagating : Bool) → List Closing → Option Context) → List Closing → List Closing → Stage → Type 0
Leads lead old new reached = (propagating : Bool) (next : Context) → lead propagating (reverse old) ≡ Some next → context_of propagating new reached ≡ next

-- and so does a block with this head, where `enter` lets it come
abbrev pub Enters : ((propagating : Bool) → List Closing → Head → Option Context) → List Closing → List Closing → Head → Stage → Type 0
Enters enter old new head reached = Leads (λ propagating blocks. enter propagating blocks head) old new reached

-- and so do the words that end the innermost one, whichever may
abbrev pub Leaves : List Closing → List Closing → Stage → Type 0
Leaves old new reached = (closing : Closing) → Leads (λ propagating blocks. left_behind propagating closing blocks) old new reached

-- and so does an item that may come at this stage
abbrev pub GoesOn : List Closing → List Closing → Stage → Item → Stage → Type 0
GoesOn old new stage item reached =
    (propagating : Bool) (next : Context) → next_after propagating (reverse old) (stage_view stage) item ≡ Some next
    → context_of (propagates_after propagating item) new reached ≡ next

-- behind these items, which lead to the context, the rest of the tokens is left
pub record AreRead (items : List Item) (context : Context) (placed rest : List Placed) : Type 0 where
  pub done : List Placed
  pub whole : placed ≡ done ++ rest
  pub are : AreItems items done
  pub leads : context_after at_front items ≡ Some context
