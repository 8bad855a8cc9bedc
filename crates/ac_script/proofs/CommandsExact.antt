-- The readers of commands are exact.
use Rattle.std.proofs.Common.{◌≡◌, ℕ, Bool, true, false, List, [], ◌∷◌, ◌++◌, refl, sym, ap, ◌⊎◌, inl, inr, Option, Some, None, if◌then◌else◌}
use Rattle.std.proofs.lemmas.Option.{none-some, same_Some}
use Rattle.ac_syntax.specs.Code.{Simple, call_at, set_at, sum_at}
use Rattle.ac_syntax.specs.declared.arg.Arg.{Arg}
use Rattle.ac_syntax.specs.declared.arg.Arg.TheVariants.{Var}
use Rattle.ac_syntax.specs.declared.token.Token.{Token}
use Rattle.ac_syntax.specs.declared.token.Token.TheVariants.{Word, Number, Text}
use Rattle.ac_syntax.specs.declared.token.Token.TheVariants as token
use Rattle.ac_syntax.specs.declared.token.Placed.{Placed}
use Rattle.ac_syntax.specs.declared.token.Mark.{Mark}
use Rattle.ac_syntax.specs.declared.token.Mark.TheVariants.{Colon, Semicolon, Comma, Open, Close, Dot, Assign, Plus, Minus, Arrow, BracketOpen, BracketClose, Tick, Star, Equal, NotEqual, Less, LessEqual, Greater, GreaterEqual}
use Rattle.ac_syntax.specs.Parts.{Part, marks, names, counts, arg_part, args_parts}
use Rattle.ac_script.specs.Readers.{as_mark}
use Rattle.ac_script.specs.Commands.{as_constant, negative, call, set_end, as_sign, sum, sum_or_set, behind_source, from_name, from_negative, from_other, assigned, assignment, command}
use Rattle.ac_script.proofs.Cases.{either_by}
use Rattle.ac_script.proofs.Spelled.{Spelled}
use Rattle.ac_script.proofs.Exact.{Exact, seq, mapped, recast, respelled}
use Rattle.ac_script.proofs.Forks.{Looks, Starts, single, forked, either_value}
use Rattle.ac_script.proofs.Looked.{mark_looks, name_looks, number_looks, mark_apart}
use Rattle.ac_script.proofs.Arguments.{Constant, constant_arg, constant_part, constant_looks, a_constant, a_negative, a_variable, Written, written_arg, written_parts, written_into, written_from, not_minus, not_constant, arguments_end_exact}

-- behind a dot
abbrev pub called_parts : List ℕ × List Arg → List Part
called_parts i = names i.0 ∷ (args_parts i.1 ++ marks Semicolon ∷ [])

call_exact : (line : ℕ) (target : Option (List ℕ)) (object : List ℕ) → Exact (λ (i : List ℕ × List Arg). call_at line target object i.0 i.1) called_parts (call line target object)
unfolding call
call_exact line target object = seq (single name_looks) (λ op. mapped arguments_end_exact (λ args. call_at line target object op args))

set_end_exact : (line : ℕ) (target : List ℕ) (from : Arg) → Exact (λ (_ : Unit {0}). set_at line target from) (λ _. marks Semicolon ∷ []) (set_end line target from)
unfolding set_end
set_end_exact line target from = mapped (single (mark_looks Semicolon)) (λ _. set_at line target from)

abbrev sign_mark : Bool → Mark
sign_mark minus = if minus then Minus else Plus

sign_found : (t : Token) (x : Bool) → as_sign t ≡ Some x → (i : Bool) × (x ≡ i) × (t ∷ [] ≡ token.Mark (sign_mark i) ∷ [])
sign_found (Word _) x e = absurd (none-some x e)
sign_found (token.Keyword _) x e = absurd (none-some x e)
sign_found (Number _) x e = absurd (none-some x e)
sign_found (Text _) x e = absurd (none-some x e)
sign_found (token.Mark Colon) x e = absurd (none-some x e)
sign_found (token.Mark Semicolon) x e = absurd (none-some x e)
sign_found (token.Mark Comma) x e = absurd (none-some x e)
sign_found (token.Mark Open) x e = absurd (none-some x e)
sign_found (token.Mark Close) x e = absurd (none-some x e)
sign_found (token.Mark Dot) x e = absurd (none-some x e)
sign_found (token.Mark Assign) x e = absurd (none-some x e)
sign_found (token.Mark Plus) x e = (false, sym (same_Some false x e), refl)
sign_found (token.Mark Arrow) x e = absurd (none-some x e)
sign_found (token.Mark BracketOpen) x e = absurd (none-some x e)
sign_found (token.Mark BracketClose) x e = absurd (none-some x e)
sign_found (token.Mark Tick) x e = absurd (none-some x e)
sign_found (token.Mark Star) x e = absurd (none-some x e)
sign_found (token.Mark Equal) x e = absurd (none-some x e)
sign_found (token.Mark NotEqual) x e = absurd (none-some x e)
sign_found (token.Mark Less) x e = absurd (none-some x e)
sign_found (token.Mark LessEqual) x e = absurd (none-some x e)
sign_found (token.Mark Greater) x e = absurd (none-some x e)
sign_found (token.Mark GreaterEqual) x e = absurd (none-some x e)
sign_found (token.Mark Minus) x e = (true, sym (same_Some true x e), refl)

sign_only : (i : Bool) → as_sign (token.Mark (sign_mark i)) ≡ Some i
sign_only true = refl
sign_only false = refl

sign_looks : Looks (λ (b : Bool). b) (λ b. marks (sign_mark b)) as_sign
sign_looks = record { found = sign_found; only = λ i spelled h. record { token = token.Mark (sign_mark i); alone = h; looked = sign_only i }; sample = (token.Mark Plus, false, refl) }

sum_exact : (line : ℕ) (target from : List ℕ) (minus : Bool) → Exact (λ (n : ℕ). sum_at line target from minus n) (λ n. counts n ∷ marks Semicolon ∷ []) (sum line target from minus)
unfolding sum
sum_exact line target from minus =
    recast (seq (single number_looks) (λ n. mapped (single (mark_looks Semicolon)) (λ _. sum_at line target from minus n)))
    (λ i. (i.0, refl, refl)) (λ n. ((n, tt), refl, refl))

-- behind `X := Y`: a number to add or to take away, or nothing
abbrev summed_parts : (Bool × ℕ) ⊎ Unit {0} → List Part
summed_parts = either_value (λ i. marks (sign_mark i.0) ∷ counts i.1 ∷ marks Semicolon ∷ []) (λ _. marks Semicolon ∷ [])

sum_or_set_exact : (line : ℕ) (target from : List ℕ) → Exact (either_value (λ (i : Bool × ℕ). sum_at line target from i.0 i.1) (λ _. set_at line target (Var from))) summed_parts (sum_or_set line target from)
unfolding sum_or_set
sum_or_set_exact line target from =
    recast (forked sign_looks (λ minus. sum_exact line target from minus) (set_end_exact line target (Var from)) (λ _. mark_apart as_sign Semicolon [] refl))
    (either_by _ (λ i. (inl i, refl, refl)) (λ _. (inr tt, refl, refl)))
    (either_by _ (λ i. (inl i, refl, refl)) (λ _. (inr tt, refl, refl)))

-- behind `X := Y`: a call, a sum or nothing
abbrev Behind : Type 0
Behind = (List ℕ × List Arg) ⊎ ((Bool × ℕ) ⊎ Unit {0})

abbrev behind_simple : ℕ → List ℕ → List ℕ → Behind → Simple
behind_simple line target from = either_value (λ i. call_at line (Some target) from i.0 i.1) (either_value (λ i. sum_at line target from i.0 i.1) (λ _. set_at line target (Var from)))

abbrev behind_parts : Behind → List Part
behind_parts = either_value (λ i. marks Dot ∷ called_parts i) summed_parts

not_dot : (i : (Bool × ℕ) ⊎ Unit {0}) (placed : List Placed) → Spelled (summed_parts i) placed → Starts (as_mark Dot) None placed
not_dot (inl (true, n)) placed h = mark_apart (as_mark Dot) Minus _ refl placed h
not_dot (inl (false, n)) placed h = mark_apart (as_mark Dot) Plus _ refl placed h
not_dot (inr _) placed h = mark_apart (as_mark Dot) Semicolon _ refl placed h

behind_source_exact : (line : ℕ) (target from : List ℕ) → Exact (behind_simple line target from) behind_parts (behind_source line target from)
unfolding behind_source
behind_source_exact line target from =
    recast (forked (mark_looks Dot) (λ _. call_exact line (Some target) from) (sum_or_set_exact line target from) not_dot)
    (either_by _ (λ i. (inl i.1, refl, refl)) (λ i. (inr i, refl, refl)))
    (either_by _ (λ i. (inl (tt, i), refl, refl)) (λ i. (inr i, refl, refl)))

from_name_exact : (line : ℕ) (target : List ℕ) → Exact (λ (i : List ℕ × Behind). behind_simple line target i.0 i.1) (λ i. names i.0 ∷ behind_parts i.1) (from_name line target)
unfolding from_name
from_name_exact line target = seq (single name_looks) (λ from. behind_source_exact line target from)

from_negative_exact : (line : ℕ) (target : List ℕ) → Exact (λ (n : ℕ). set_at line target (negative n)) (λ n. counts n ∷ marks Semicolon ∷ []) (from_negative line target)
unfolding from_negative
from_negative_exact line target =
    recast (seq (single number_looks) (λ n. set_end_exact line target (negative n)))
    (λ i. (i.0, refl, refl)) (λ n. ((n, tt), refl, refl))

abbrev other_parts : ℕ ⊎ (List ℕ × Behind) → List Part
other_parts = either_value (λ n. marks Minus ∷ counts n ∷ marks Semicolon ∷ []) (λ i. names i.0 ∷ behind_parts i.1)

from_other_exact : (line : ℕ) (target : List ℕ) → Exact (either_value (λ n. set_at line target (negative n)) (λ (i : List ℕ × Behind). behind_simple line target i.0 i.1)) other_parts (from_other line target)
unfolding from_other
from_other_exact line target =
    recast (forked (mark_looks Minus) (λ _. from_negative_exact line target) (from_name_exact line target) (λ i. not_minus i.0 (behind_parts i.1)))
    (either_by _ (λ i. (inl i.1, refl, refl)) (λ i. (inr i, refl, refl)))
    (either_by _ (λ n. (inl (tt, n), refl, refl)) (λ i. (inr i, refl, refl)))

other_apart : (i : ℕ ⊎ (List ℕ × Behind)) (placed : List Placed) → Spelled (other_parts i) placed → Starts as_constant None placed
other_apart (inl n) placed h = mark_apart as_constant Minus _ refl placed h
other_apart (inr i) placed h = not_constant i.0 (behind_parts i.1) placed h

-- what is assigned
pub data Assigned : Type 0 where
  a_value : Arg → Assigned
  a_result : (object op : List ℕ) → List Arg → Assigned
  a_sum : (from : List ℕ) (minus : Bool) → ℕ → Assigned

abbrev pub assigned_simple : ℕ → List ℕ → Assigned → Simple
assigned_simple line target (a_value from) = set_at line target from
assigned_simple line target (a_result object op args) = call_at line (Some target) object op args
assigned_simple line target (a_sum from minus n) = sum_at line target from minus n

abbrev pub assigned_parts : Assigned → List Part
assigned_parts (a_value from) = arg_part from ∷ marks Semicolon ∷ []
assigned_parts (a_result object op args) = names object ∷ marks Dot ∷ names op ∷ (args_parts args ++ marks Semicolon ∷ [])
assigned_parts (a_sum from minus n) = names from ∷ marks (sign_mark minus) ∷ counts n ∷ marks Semicolon ∷ []

-- what is assigned, as it is spelled
abbrev Raw : Type 0
Raw = (Constant × Unit {0}) ⊎ (ℕ ⊎ (List ℕ × Behind))

abbrev raw_simple : ℕ → List ℕ → Raw → Simple
raw_simple line target = either_value (λ i. set_at line target (constant_arg i.0)) (either_value (λ n. set_at line target (negative n)) (λ i. behind_simple line target i.0 i.1))

abbrev raw_parts : Raw → List Part
raw_parts = either_value (λ i. constant_part i.0 ∷ marks Semicolon ∷ []) other_parts

raw_exact : (line : ℕ) (target : List ℕ) → Exact (raw_simple line target) raw_parts (assigned line target)
unfolding assigned
raw_exact line target = recast (forked constant_looks (λ from. set_end_exact line target from) (from_other_exact line target) other_apart)
    (either_by _ (λ i. (inl i, refl, refl)) (λ i. (inr i, refl, refl)))
    (either_by _ (λ i. (inl i, refl, refl)) (λ i. (inr i, refl, refl)))

raw_into : (line : ℕ) (target : List ℕ) (i : Raw) (front : List Placed) → Spelled (raw_parts i) front → (j : Assigned) × (raw_simple line target i ≡ assigned_simple line target j) × Spelled (assigned_parts j) front
raw_into line target (inl (c, _)) front h = (a_value (constant_arg c), refl, written_into (a_constant c) (marks Semicolon ∷ []) front h)
raw_into line target (inr (inl n)) front h = (a_value (negative n), refl, written_into (a_negative n) (marks Semicolon ∷ []) front h)
raw_into line target (inr (inr (from, inl (op, args)))) front h = (a_result from op args, refl, h)
raw_into line target (inr (inr (from, inr (inl (minus, n))))) front h = (a_sum from minus n, refl, h)
raw_into line target (inr (inr (from, inr (inr _)))) front h = (a_value (Var from), refl, h)

value_raw : (line : ℕ) (target : List ℕ) (a : Arg) (w : Written) (front : List Placed) → written_arg w ≡ a → Spelled (written_parts w ++ marks Semicolon ∷ []) front
    → (i : Raw) × (raw_simple line target i ≡ set_at line target a) × Spelled (raw_parts i) front
value_raw line target a (a_constant c) front e h = (inl (c, tt), ap (set_at line target) e, h)
value_raw line target a (a_negative n) front e h = (inr (inl n), ap (set_at line target) e, h)
value_raw line target a (a_variable v) front e h = (inr (inr (v, inr (inr tt))), ap (set_at line target) e, h)

raw_from : (line : ℕ) (target : List ℕ) (j : Assigned) (front : List Placed) → Spelled (assigned_parts j) front → (i : Raw) × (raw_simple line target i ≡ assigned_simple line target j) × Spelled (raw_parts i) front
raw_from line target (a_value a) front h = let w = written_from a (marks Semicolon ∷ []) front h in value_raw line target a w.written front w.is w.spelled
raw_from line target (a_result object op args) front h = (inr (inr (object, inl (op, args))), refl, h)
raw_from line target (a_sum from minus n) front h = (inr (inr (from, inr (inl (minus, n)))), refl, h)

assigned_exact : (line : ℕ) (target : List ℕ) → Exact (assigned_simple line target) assigned_parts (assigned line target)
assigned_exact line target = respelled (raw_exact line target) (raw_into line target) (raw_from line target)

assignment_exact : (line : ℕ) (target : List ℕ) → Exact (assigned_simple line target) (λ i. marks Assign ∷ assigned_parts i) (assignment line target)
unfolding assignment
assignment_exact line target = recast (seq (single (mark_looks Assign)) (λ _. assigned_exact line target)) (λ i. (i.1, refl, refl)) (λ i. ((tt, i), refl, refl))

-- what a command does behind its first name
pub data Commanded : Type 0 where
  a_call : (op : List ℕ) → List Arg → Commanded
  an_assignment : Assigned → Commanded

abbrev pub commanded_simple : ℕ → List ℕ → Commanded → Simple
commanded_simple line first (a_call op args) = call_at line None first op args
commanded_simple line first (an_assignment assigned) = assigned_simple line first assigned

abbrev pub commanded_parts : Commanded → List Part
commanded_parts (a_call op args) = marks Dot ∷ names op ∷ (args_parts args ++ marks Semicolon ∷ [])
commanded_parts (an_assignment assigned) = marks Assign ∷ assigned_parts assigned

commanded_by : (P : Commanded → Type 0) → ((op : List ℕ) (args : List Arg) → P (a_call op args)) → ((i : Assigned) → P (an_assignment i)) → (i : Commanded) → P i
commanded_by P f g (a_call op args) = f op args
commanded_by P f g (an_assignment i) = g i

pub command_exact : (line : ℕ) (first : List ℕ) → Exact (commanded_simple line first) commanded_parts (command line first)
unfolding command
command_exact line first =
    recast (forked (mark_looks Dot) (λ _. call_exact line None first) (assignment_exact line first) (λ i. mark_apart (as_mark Dot) Assign _ refl))
    (either_by _ (λ i. (a_call i.1.0 i.1.1, refl, refl)) (λ i. (an_assignment i, refl, refl)))
    (commanded_by _ (λ op args. (inl (tt, (op, args)), refl, refl)) (λ i. (inr i, refl, refl)))
