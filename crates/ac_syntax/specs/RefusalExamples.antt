-- Texts that are refused, with the line and the kind, worked out by hand.
use Rattle.std.specs.Prelude.{◌^◌, ℕ, pos, neg_ℤ, replicate, codes, true, List, [], ◌∷◌, ◌++◌, Some, None}
use Rattle.ac_syntax.specs.Code.{Code, call_at, set_at, sum_at, stop, one}
use Rattle.ac_base.specs.declared.value.Value.TheVariants as value
use Rattle.ac_syntax.specs.declared.arg.Arg.TheVariants.{Lit, Var}
use Rattle.ac_syntax.specs.declared.decl.Decl.TheVariants.{Object, IntVar}
use Rattle.ac_syntax.specs.declared.refusal.RefusalKind.TheVariants.{Syntax, Limit}
use Rattle.ac_syntax.specs.declared.script.Script.{Script}
use Rattle.ac_syntax.specs.Refusals.{Spells, IsFirstRefusal}
use Rattle.ac_syntax.specs.Examples.{lines, a_list, with_list}

-- behind the lines of a list, on line 2
abbrev pub on_list : List ℕ → List ℕ
on_list line = lines (codes "type l is list (integer); a : l;" ∷ line ∷ [])

-- an identifier of so many letters
abbrev pub named : ℕ → Script
named n = record { pragma = None; decls = IntVar 1 (replicate n 97) ∷ []; stmts = stop }

abbrev pub naming : ℕ → List ℕ
naming n = replicate n 97 ++ codes " : integer;"

abbrev pub TakesName64 : Type 0
TakesName64 = Spells (named 64) (naming 64)

abbrev pub RefusesName65 : Type 0
RefusesName65 = IsFirstRefusal (naming 65) 1 Limit

-- a string of so many letters
abbrev pub with_string : ℕ → Script
with_string n = record { pragma = None; decls = []; stmts = one (set_at 1 (codes "x") (Lit (value.Text (replicate n 97)))) stop }

abbrev pub string_text : ℕ → List ℕ
string_text n = codes "x := " ++ 34 ∷ (replicate n 97 ++ 34 ∷ codes ";")

abbrev pub TakesString1000 : Type 0
TakesString1000 = Spells (with_string 1000) (string_text 1000)

abbrev pub RefusesString1001 : Type 0
RefusesString1001 = IsFirstRefusal (string_text 1001) 1 Limit

-- 2 ^ 63 has to be negative as a literal, and may not be added or a capacity

abbrev pub least : Script
least = with_list (one (call_at 2 None (codes "a") (codes "append") (Lit (value.Int (neg_ℤ (pos (2 ^ 63)))) ∷ [])) stop)

abbrev pub TakesLeast : Type 0
TakesLeast = Spells least (on_list (codes "a.append (-9223372036854775808);"))

abbrev pub counting : Code → Script
counting last =
    record {
      pragma = None;
      decls = IntVar 1 (codes "n") ∷ [];
      stmts = one (set_at 2 (codes "n") (Lit (value.Int (neg_ℤ (pos (2 ^ 63)))))) (one (sum_at 3 (codes "n") (codes "n") true 1) last);
    }

abbrev pub counting_text : List (List ℕ) → List ℕ
counting_text last = lines (codes "N : integer;" ∷ codes "N := -9223372036854775808;" ∷ codes "N := N - 1;" ∷ last)

abbrev pub TakesCounting : Type 0
TakesCounting = Spells (counting stop) (counting_text [])

abbrev pub past_greatest : Script
past_greatest = counting (one (set_at 4 (codes "n") (Lit (value.Int (pos (2 ^ 63))))) stop)

abbrev pub RefusesPastGreatest : Type 0
RefusesPastGreatest = IsFirstRefusal (counting_text (codes "N := 9223372036854775808;" ∷ [])) 4 Limit

abbrev pub less_too_much : Script
less_too_much = with_list (one (sum_at 2 (codes "x") (codes "y") true (2 ^ 63)) stop)

abbrev pub RefusesLessTooMuch : Type 0
RefusesLessTooMuch = IsFirstRefusal (on_list (codes "x := y - 9223372036854775808;")) 2 Limit

abbrev pub too_roomy : Script
too_roomy = record { pragma = None; decls = a_list ++ Object 2 (codes "b") (codes "l") (Some (2 ^ 63)) ∷ []; stmts = stop }

abbrev pub RefusesTooRoomy : Type 0
RefusesTooRoomy = IsFirstRefusal (on_list (codes "b : l (9223372036854775808);")) 2 Limit

-- what is malformed, behind tokens that aren't bad

abbrev pub appended : Script
appended = with_list (one (call_at 2 None (codes "a") (codes "append") (Lit (value.Int (pos 12)) ∷ [])) stop)

abbrev pub RefusesMalformed : Type 0
RefusesMalformed = IsFirstRefusal (on_list (codes "a.append (12a);")) 2 Syntax

-- marks that no script has

abbrev pub RefusesBracket : Type 0
RefusesBracket = IsFirstRefusal (on_list (codes "a.append [12];")) 2 Syntax

-- up to the mark these are tokens of an assignment
abbrev pub assigned : Script
assigned = with_list (one (set_at 2 (codes "x") (Var (codes "a"))) stop)

abbrev pub RefusesTick : Type 0
RefusesTick = IsFirstRefusal (on_list (codes "x := a'length;")) 2 Syntax

abbrev pub RefusesStar : Type 0
RefusesStar = IsFirstRefusal (on_list (codes "x := a*2;")) 2 Syntax

abbrev pub RefusesLessEqual : Type 0
RefusesLessEqual = IsFirstRefusal (on_list (codes "x := a <= 2;")) 2 Syntax
