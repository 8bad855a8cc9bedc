-- One turn of the loop over the arguments of a call.
use Rattle.std.proofs.Common.{◌≡◌, List, [], ◌∷◌, ◌++◌, refl, sym, ap, ◌∙◌, append_assoc}
use Rattle.std.proofs.lemmas.List.{append-nil}
use Rattle.ac_syntax.specs.declared.arg.Arg.{Arg}
use Rattle.ac_syntax.specs.declared.token.Placed.{Placed}
use Rattle.ac_syntax.specs.declared.token.Mark.TheVariants.{Comma, Close}
use Rattle.ac_script.specs.declared.stop.Stop.{Stop}
use Rattle.ac_script.specs.declared.stop.Stop.TheVariants.{At, NoMemory}
use Rattle.ac_script.specs.Outcomes.{Stops, Outcome, got, stopped, ◌>>=◌, onward, either, gives}
use Rattle.ac_script.specs.Readers.{mark}
use Rattle.ac_script.specs.Commands.{argument, more_arguments, listed}
use Rattle.ac_script.proofs.Arguments.{more_turn}

-- these arguments and then those that are read
abbrev pub follow : List Arg → Outcome (List Arg) → Outcome (List Arg)
follow args (got more rest) = got (args ++ more) rest
follow args (stopped at) = stopped at

-- what is read from here on, behind the arguments so far, is what the whole list gives
pub record Continues (args : List Arg) (placed : List Placed) (first : Arg) (all : List Placed) : Type 0 where
  pub same : follow args (more_arguments placed) ≡ listed first all

pub begins : (first : Arg) (all : List Placed) → Continues (first ∷ []) all first all
unfolding listed
begins first all = record { same = follows (more_arguments all) } where
  follows : (o : Outcome (List Arg)) → follow (first ∷ []) o ≡ onward o (λ more. gives (first ∷ more))
  follows (got more rest) = refl
  follows (stopped at) = refl

follow_more : (args : List Arg) (a : Arg) (o : Outcome (List Arg)) → follow args (onward o (λ others. gives (a ∷ others))) ≡ follow (args ++ a ∷ []) o
follow_more args a (got more rest) = ap (λ list. got list rest) (sym (append_assoc args (a ∷ []) more))
follow_more args a (stopped at) = refl

-- the next argument behind a comma
pub continues : (args : List Arg) (placed after : List Placed) (a : Arg) (rest : List Placed) (first : Arg) (all : List Placed) → Continues args placed first all
    → mark Comma placed ≡ got tt after → argument after ≡ got a rest → Continues (args ++ a ∷ []) rest first all
continues args placed after a rest first all h e f = record { same = sym (follow_more args a (more_arguments rest)) ∙ ap (follow args) (sym turned) ∙ h.same } where
  turned : more_arguments placed ≡ onward (more_arguments rest) (λ others. gives (a ∷ others))
  turned = more_turn placed
      ∙ ap (λ (o : Outcome (Unit {0})). either o (λ _. argument >>= λ a. more_arguments >>= λ others. gives (a ∷ others)) (mark Close >>= λ _. gives []) placed) e
      ∙ ap (λ (o : Outcome Arg). onward o (λ a. more_arguments >>= λ others. gives (a ∷ others))) f

-- no argument behind a comma
pub stops_behind_comma : (args : List Arg) (placed after at : List Placed) (first : Arg) (all : List Placed) → Continues args placed first all
    → mark Comma placed ≡ got tt after → argument after ≡ stopped at → listed first all ≡ stopped at
stops_behind_comma args placed after at first all h e f = sym h.same ∙ ap (follow args) turned where
  turned : more_arguments placed ≡ stopped at
  turned = more_turn placed
      ∙ ap (λ (o : Outcome (Unit {0})). either o (λ _. argument >>= λ a. more_arguments >>= λ others. gives (a ∷ others)) (mark Close >>= λ _. gives []) placed) e
      ∙ ap (λ (o : Outcome Arg). onward o (λ a. more_arguments >>= λ others. gives (a ∷ others))) f

-- no comma: the end
ends_by : (args : List Arg) (placed : List Placed) (first : Arg) (all : List Placed) → Continues args placed first all → mark Comma placed ≡ stopped placed
    → listed first all ≡ follow args (onward (mark Close placed) (λ _. gives []))
ends_by args placed first all h e =
    sym h.same ∙ ap (follow args) (more_turn placed
    ∙ ap (λ (o : Outcome (Unit {0})). either o (λ _. argument >>= λ a. more_arguments >>= λ others. gives (a ∷ others)) (mark Close >>= λ _. gives []) placed) e)

pub ends : (args : List Arg) (placed rest : List Placed) (first : Arg) (all : List Placed) → Continues args placed first all → mark Comma placed ≡ stopped placed
    → mark Close placed ≡ got tt rest → listed first all ≡ got args rest
ends args placed rest first all h e f =
    ends_by args placed first all h e
    ∙ ap (λ (o : Outcome (Unit {0})). follow args (onward o (λ _. gives []))) f ∙ ap (λ list. got list rest) (append-nil args)

pub stops_at_end : (args : List Arg) (placed at : List Placed) (first : Arg) (all : List Placed) → Continues args placed first all → mark Comma placed ≡ stopped placed
    → mark Close placed ≡ stopped at → listed first all ≡ stopped at
stops_at_end args placed at first all h e f =
    ends_by args placed first all h e
    ∙ ap (λ (o : Outcome (Unit {0})). follow args (onward o (λ _. gives []))) f

-- where a part stops, the whole stops there
pub stopped_so : {A B : Type 0} (e : Stop) (o : Outcome A) (whole : Outcome B) → ((at : List Placed) → o ≡ stopped at → whole ≡ stopped at) → Stops e o → Stops e whole
stopped_so (At at) o whole h k = h at.now k
stopped_so NoMemory o whole h k = tt
