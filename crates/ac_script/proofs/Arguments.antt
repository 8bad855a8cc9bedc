-- The readers of arguments are exact.
use Rattle.std.proofs.Common.{◌≡◌, ◌≤◌, ◌<◌, ◌+◌, ℕ, ℤ, pos, zero, suc, false, List, [], ◌∷◌, ◌++◌, length, refl, sym, ap, subst, ◌∙◌, ◌⊎◌, inl, inr, Some, None, codes, arith, append_assoc, length-append}
use Rattle.std.proofs.lemmas.Option.{none-some, same_Some}
use Rattle.std.proofs.lemmas.List.{append-nil}
use Rattle.std.specs.Str.{bytes_eq}
use Rattle.ac_base.specs.declared.value.Value.TheVariants as value
use Rattle.ac_syntax.specs.declared.arg.Arg.{Arg}
use Rattle.ac_syntax.specs.declared.arg.Arg.TheVariants.{Lit, NoElement, Var}
use Rattle.ac_syntax.specs.declared.token.Token.{Token}
use Rattle.ac_syntax.specs.declared.token.Token.TheVariants.{Word, Number, Text}
use Rattle.ac_syntax.specs.declared.token.Token.TheVariants as token
use Rattle.ac_syntax.specs.declared.token.Placed.{Placed}
use Rattle.ac_syntax.specs.declared.token.Mark.TheVariants.{Semicolon, Comma, Open, Close, Minus}
use Rattle.ac_syntax.specs.Tokens.{tokens}
use Rattle.ac_syntax.specs.Parts.{Part, says, keywords, marks, names, counts, writes, lacks, arg_part, more_args, args_parts}
use Rattle.ac_syntax.specs.Grammar.{reserved, is_reserved, IsPart, AreParts, IsInteger}
use Rattle.ac_script.specs.Outcomes.{Outcome, got, stopped, Reader, ◌>>=◌, onward, either, fork, gives}
use Rattle.ac_script.specs.Readers.{as_mark, mark}
use Rattle.ac_script.specs.Commands.{as_constant, negative, other_argument, argument, more_within, more_arguments, listed, arguments, arguments_end}
use Rattle.ac_script.proofs.Cases.{either_by}
use Rattle.ac_script.proofs.Spelled.{Spelled}
use Rattle.ac_script.proofs.Exact.{Found, Begun, Inhabited, Exact, seq, give, mapped, recast, respelled}
use Rattle.ac_script.proofs.Forks.{Sighted, Looks, Starts, single, forked, either_value}
use Rattle.ac_script.proofs.Looked.{if_cases, same_bytes, mark_looks, name_looks, number_looks, mark_apart, name_apart, free_apart}

-- a constant as it is spelled
pub data Constant : Type 0 where
  a_number : ℕ → Constant
  a_string : List ℕ → Constant
  no_element : Constant

abbrev pub constant_arg : Constant → Arg
constant_arg (a_number n) = Lit (value.Int (pos n))
constant_arg (a_string bytes) = Lit (value.Text bytes)
constant_arg no_element = NoElement

abbrev pub constant_part : Constant → Part
constant_part (a_number n) = counts n
constant_part (a_string bytes) = writes (value.Text bytes)
constant_part no_element = says (codes "no_element")

constant_found : (t : Token) (x : Arg) → as_constant t ≡ Some x → (i : Constant) × (x ≡ constant_arg i) × IsPart (constant_part i) (t ∷ [])
constant_found (Word v) x e =
    if_cases ((i : Constant) × (x ≡ constant_arg i) × IsPart (constant_part i) (Word v ∷ [])) (bytes_eq v (codes "no_element")) _ _ _ e
    (λ h f. (no_element, sym (same_Some NoElement x f), ap (λ (v : List ℕ). Word v ∷ []) (same_bytes v (codes "no_element") h)))
    (λ h f. absurd (none-some x f))
constant_found (token.Keyword _) x e = absurd (none-some x e)
constant_found (Number n) x e = (a_number n, sym (same_Some _ x e), refl)
constant_found (Text bytes) x e = (a_string bytes, sym (same_Some _ x e), refl)
constant_found (token.Mark _) x e = absurd (none-some x e)

constant_only : (i : Constant) (spelled : List Token) → IsPart (constant_part i) spelled → Sighted as_constant (constant_arg i) spelled
constant_only (a_number n) spelled h = record { token = Number n; alone = h; looked = refl }
constant_only (a_string bytes) spelled h = record { token = Text bytes; alone = h; looked = refl }
constant_only no_element spelled h = record { token = Word (codes "no_element"); alone = h; looked = refl }

pub constant_looks : Looks constant_arg constant_part as_constant
constant_looks = record { found = constant_found; only = constant_only; sample = (Number 0, Lit (value.Int (pos 0)), refl) }

-- an argument as it is spelled
pub data Written : Type 0 where
  a_constant : Constant → Written
  a_negative : ℕ → Written
  a_variable : List ℕ → Written

abbrev pub written_arg : Written → Arg
written_arg (a_constant c) = constant_arg c
written_arg (a_negative n) = negative n
written_arg (a_variable v) = Var v

abbrev pub written_parts : Written → List Part
written_parts (a_constant c) = constant_part c ∷ []
written_parts (a_negative n) = marks Minus ∷ counts n ∷ []
written_parts (a_variable v) = names v ∷ []

pub not_minus : (v : List ℕ) (ps : List Part) (placed : List Placed) → Spelled (names v ∷ ps) placed → Starts (as_mark Minus) None placed
not_minus v ps placed h = name_apart (as_mark Minus) v ps (λ _. refl) placed h

other_argument_exact : Exact (either_value negative (λ v. Var v)) (either_value (λ n. marks Minus ∷ counts n ∷ []) (λ v. names v ∷ [])) other_argument
unfolding other_argument
other_argument_exact =
    recast (forked (mark_looks Minus) (λ _. mapped (single number_looks) negative) (mapped (single name_looks) (λ v. Var v)) (λ v. not_minus v []))
    (either_by _ (λ i. (inl i.1, refl, refl)) (λ v. (inr v, refl, refl)))
    (either_by _ (λ n. (inl (tt, n), refl, refl)) (λ v. (inr v, refl, refl)))

not_no_element : (v : List ℕ) → is_reserved v ≡ false → as_constant (Word v) ≡ None
unfolding reserved is_reserved
not_no_element v free = rw (free_apart v (codes "no_element") refl free) refl

pub not_constant : (v : List ℕ) (ps : List Part) (placed : List Placed) → Spelled (names v ∷ ps) placed → Starts as_constant None placed
not_constant v ps placed h = name_apart as_constant v ps (not_no_element v) placed h

other_apart : (i : ℕ ⊎ List ℕ) (placed : List Placed) → Spelled (either_value (λ n. marks Minus ∷ counts n ∷ []) (λ v. names v ∷ []) i) placed → Starts as_constant None placed
other_apart (inl n) placed h = mark_apart as_constant Minus _ refl placed h
other_apart (inr v) placed h = not_constant v [] placed h

written_by : (P : Written → Type 0) → ((c : Constant) → P (a_constant c)) → ((n : ℕ) → P (a_negative n)) → ((v : List ℕ) → P (a_variable v)) → (w : Written) → P w
written_by P f g h (a_constant c) = f c
written_by P f g h (a_negative n) = g n
written_by P f g h (a_variable v) = h v

written_exact : Exact written_arg written_parts argument
unfolding argument
written_exact =
    recast (forked constant_looks (λ a. give a) other_argument_exact other_apart)
    (either_by _ (λ i. (a_constant i.0, refl, refl)) (either_by _ (λ n. (a_negative n, refl, refl)) (λ v. (a_variable v, refl, refl))))
    (written_by _ (λ c. (inl (c, tt), refl, refl)) (λ n. (inr (inl n), refl, refl)) (λ v. (inr (inr v), refl, refl)))

pub written_into : (w : Written) (ps : List Part) (front : List Placed) → Spelled (written_parts w ++ ps) front → Spelled (arg_part (written_arg w) ∷ ps) front
written_into (a_constant (a_number n)) ps front h = record { spelled = (h.spelled.0, h.spelled.1, h.spelled.2, inl (n, refl, h.spelled.3), h.spelled.4) }
written_into (a_constant (a_string bytes)) ps front h = h
written_into (a_constant no_element) ps front h = h
written_into (a_negative n) ps front h =
    let s = h.spelled in
    record {
      spelled = (
        s.0 ++ s.4.0,
        s.4.1,
        s.2 ∙ ap (λ list. s.0 ++ list) s.4.2 ∙ sym (append_assoc s.0 s.4.0 s.4.1),
        inr (n, refl, rw (s.3, s.4.3) refl),
        s.4.4,
      );
    }
written_into (a_variable v) ps front h = h

-- an argument that is spelled is spelled in some way
pub record IsWritten (a : Arg) (ps : List Part) (front : List Placed) : Type 0 where
  pub written : Written
  pub is : written_arg written ≡ a
  pub spelled : Spelled (written_parts written ++ ps) front

integer_written : (z : ℤ) (ps : List Part) (front : List Placed) (a b : List Token) → tokens front ≡ a ++ b → AreParts ps b → IsInteger z a → IsWritten (Lit (value.Int z)) ps front
integer_written z ps front a b whole others (inl (n, is, spelled)) = record {
  written = a_constant (a_number n);
  is = ap (λ z. Lit (value.Int z)) (sym is);
  spelled = record { spelled = (a, b, whole, spelled, others) };
}
integer_written z ps front a b whole others (inr (n, is, spelled)) = record {
  written = a_negative n;
  is = ap (λ z. Lit (value.Int z)) (sym is);
  spelled = record { spelled = (token.Mark Minus ∷ [], token.Number n ∷ b, whole ∙ ap (λ list. list ++ b) spelled, refl, (token.Number n ∷ [], b, refl, refl, others)) };
}

pub written_from : (a : Arg) (ps : List Part) (front : List Placed) → Spelled (arg_part a ∷ ps) front → IsWritten a ps front
written_from (Lit (value.Int z)) ps front h = integer_written z ps front h.spelled.0 h.spelled.1 h.spelled.2 h.spelled.4 h.spelled.3
written_from (Lit (value.Text bytes)) ps front h = record { written = a_constant (a_string bytes); is = refl; spelled = h }
written_from NoElement ps front h = record { written = a_constant no_element; is = refl; spelled = h }
written_from (Var v) ps front h = record { written = a_variable v; is = refl; spelled = h }

pub argument_exact : Exact (λ (a : Arg). a) (λ a. arg_part a ∷ []) argument
argument_exact =
    respelled written_exact
    (λ w front h. (written_arg w, refl, written_into w [] front (subst (λ ps. Spelled ps front) (sym (append-nil (written_parts w))) h)))
    (λ a front h. let w = written_from a [] front h in (w.written, w.is, subst (λ ps. Spelled ps front) (append-nil (written_parts w.written)) w.spelled))

-- each part has a token
part_some : (part : Part) (spelled : List Token) → IsPart part spelled → 1 ≤ length spelled
part_some (says _) spelled h = omega (arith, ap length h)
part_some (keywords _) spelled h = omega (arith, ap length h)
part_some (marks _) spelled h = omega (arith, ap length h)
part_some (names _) spelled h = omega (arith, ap length h.1)
part_some (counts _) spelled h = omega (arith, ap length h)
part_some (writes (value.Int z)) spelled (inl h) = omega (arith, ap length h.2)
part_some (writes (value.Int z)) spelled (inr h) = omega (arith, ap length h.2)
part_some (writes (value.Text _)) spelled h = omega (arith, ap length h)
part_some lacks spelled h = absurd h

parts_some : (ps : List Part) (spelled : List Token) → AreParts ps spelled → length ps ≤ length spelled
parts_some [] spelled h = omega arith
parts_some (part ∷ ps) spelled (front, rest, whole, is, others) =
    omega (arith, ap length whole, length-append front rest, part_some part front is, parts_some ps rest others)

tokens_length : (placed : List Placed) → length (tokens placed) ≡ length placed
tokens_length [] = refl
tokens_length (p ∷ placed) = ap suc (tokens_length placed)

pub spelled_some : (ps : List Part) (placed : List Placed) → Spelled ps placed → length ps ≤ length placed
spelled_some ps placed h = omega (arith, parts_some ps (tokens placed) h.spelled, tokens_length placed)

-- what is read leaves fewer tokens
pub leaves : {I A : Type 0} {val : I → A} {parts : I → List Part} {reader : Reader A} → Exact val parts reader → (n : ℕ) → ((i : I) → n ≤ length (parts i))
    → (placed : List Placed) (a : A) (rest : List Placed) → reader placed ≡ got a rest → length rest + n ≤ length placed
leaves {parts} exact n some placed a rest e =
    let found = exact.found placed a rest e in
    omega (arith, some found.index, spelled_some (parts found.index) found.front found.spelled, ap length found.whole, length-append found.front rest)

-- at most so many arguments
abbrev Few : ℕ → Type 0
Few n = (args : List Arg) × (length args ≤ n)

few_by : (n : ℕ) (P : Few n → Type 0) → ((h : 0 ≤ n) → P ([], h)) → ((a : Arg) (args : List Arg) (h : length (a ∷ args) ≤ n) → P (a ∷ args, h)) → (few : Few n) → P few
few_by n P f g few = by few.0 few.1 where
  by : (args : List Arg) (h : length args ≤ n) → P (args, h)
  by [] h = f h
  by (a ∷ args) h = g a args h

-- no argument
abbrev none : Unit {0} → List Arg
none _ = []

close_exact : Exact none (λ _. marks Close ∷ []) (mark Close >>= λ _. gives [])
close_exact = mapped (single (mark_looks Close)) (λ _. [])

abbrev more_parts : List Arg → List Part
more_parts args = more_args args ++ marks Close ∷ []

some_more : (n : ℕ) (a : Arg) (few : Few n) → length (a ∷ few.0) ≤ suc n
some_more n a few = let h = few.1 in omega arith

fewer : (n : ℕ) (a : Arg) (args : List Arg) → length (a ∷ args) ≤ suc n → length args ≤ n
fewer n a args h = omega arith

not_few : (a : Arg) (args : List Arg) → length (a ∷ args) ≤ 0 → ⊥
not_few a args h = omega arith

more_within_exact : (n : ℕ) → Exact (λ (few : Few n). few.0) (λ few. more_parts few.0) (more_within n)
unfolding more_within
more_within_exact zero =
    recast close_exact (λ _. (([], omega arith), refl, refl))
    (few_by zero _ (λ h. (tt, refl, refl)) (λ a args h. absurd (not_few a args h)))
more_within_exact (suc n) =
    recast (forked (mark_looks Comma) (λ _. seq argument_exact (λ a. mapped (more_within_exact n) (λ more. a ∷ more))) close_exact (λ _. mark_apart (as_mark Comma) Close [] refl))
    (either_by _ (λ i. ((i.1.0 ∷ i.1.1.0, some_more n i.1.0 i.1.1), refl, refl)) (λ _. (([], omega arith), refl, refl)))
    (few_by (suc n) _ (λ h. (inr tt, refl, refl)) (λ a args h. (inl (tt, (a, (args, fewer n a args h))), refl, refl)))

-- an argument behind a comma, and onward others, or the end
abbrev pub more_step : Reader (List Arg) → Reader (List Arg)
more_step more = fork (mark Comma) (λ _. argument >>= λ a. more >>= λ others. gives (a ∷ others)) (mark Close >>= λ _. gives [])

same_then : {X A : Type 0} (o : Outcome X) (f g : X → Reader A) → ((x : X) (rest : List Placed) → o ≡ got x rest → f x rest ≡ g x rest) → onward o f ≡ onward o g
same_then (got x rest) f g h = h x rest refl
same_then (stopped at) f g h = refl

same_either : {X A : Type 0} (o : Outcome X) (f g : X → Reader A) (other : Reader A) (placed : List Placed) → ((x : X) (rest : List Placed) → o ≡ got x rest → f x rest ≡ g x rest)
    → either o f other placed ≡ either o g other placed
same_either (got x rest) f g other placed h = h x rest refl
same_either (stopped at) f g other placed h = refl

pub comma_leaves : (placed : List Placed) (x : Unit {0}) (rest : List Placed) → mark Comma placed ≡ got x rest → length rest + 1 ≤ length placed
comma_leaves placed x rest e = leaves (single (mark_looks Comma)) 1 (λ _. omega arith) placed x rest e

pub argument_leaves : (placed : List Placed) (a : Arg) (rest : List Placed) → argument placed ≡ got a rest → length rest + 1 ≤ length placed
argument_leaves placed a rest e = leaves argument_exact 1 (λ _. omega arith) placed a rest e

step_same : (f g : Reader (List Arg)) (placed : List Placed) → ((rest : List Placed) → length rest < length placed → f rest ≡ g rest) → more_step f placed ≡ more_step g placed
step_same f g placed h =
    same_either (mark Comma placed) _ _ _ placed (λ x r e.
    same_then (argument r) _ _ (λ a rest d.
    let less : length rest < length placed = omega (arith, comma_leaves placed x r e, argument_leaves r a rest d) in
    ap (λ (o : Outcome (List Arg)). onward o (λ others. gives (a ∷ others))) (h rest less)))

-- more than enough is as good as enough
enough : (n m : ℕ) (placed : List Placed) → length placed ≤ n → length placed ≤ m → more_within n placed ≡ more_within m placed
unfolding more_within
enough zero zero placed h k = refl
enough zero (suc m) [] h k = refl
enough zero (suc m) (p ∷ placed) h k = absurd (omega arith)
enough (suc n) zero [] h k = refl
enough (suc n) zero (p ∷ placed) h k = absurd (omega arith)
enough (suc n) (suc m) placed h k = step_same (more_within n) (more_within m) placed (λ rest less. enough n m rest (omega arith) (omega arith))

read_within : (n : ℕ) (placed : List Placed) → length placed ≤ n → more_arguments placed ≡ more_within n placed
unfolding more_arguments
read_within n placed h = enough (length placed) n placed (omega arith) h

turn : (placed : List Placed) → more_within (suc (length placed)) placed ≡ more_step (more_within (length placed)) placed
unfolding more_within
turn placed = refl

pub more_turn : (placed : List Placed) → more_arguments placed ≡ more_step more_arguments placed
more_turn placed = read_within (suc (length placed)) placed (omega arith) ∙ turn placed ∙ step_same (more_within (length placed)) more_arguments placed (λ rest less. sym (read_within (length placed) rest (omega arith)))

few_found : (n : ℕ) (placed : List Placed) (a : List Arg) (rest : List Placed) → Found (λ (few : Few n). few.0) (λ few. more_parts few.0) placed a rest
    → Found (λ (args : List Arg). args) more_parts placed a rest
few_found n placed a rest f = record { index = f.index.0; front = f.front; value = f.value; whole = f.whole; spelled = f.spelled }

few_begun : (n : ℕ) (placed at : List Placed) → Begun (λ (few : Few n). more_parts few.0) placed at → Begun more_parts placed at
few_begun n placed at f = record { index = f.index.0; before = f.before; more = f.more; whole = f.whole; spelled = f.spelled }

more_found : (placed : List Placed) (a : List Arg) (rest : List Placed) → more_arguments placed ≡ got a rest → Found (λ (args : List Arg). args) more_parts placed a rest
more_found placed a rest e = few_found _ placed a rest ((more_within_exact (length placed)).found placed a rest (sym (read_within (length placed) placed (omega arith)) ∙ e))

more_begun : (placed at : List Placed) → more_arguments placed ≡ stopped at → Begun more_parts placed at
more_begun placed at e = few_begun _ placed at ((more_within_exact (length placed)).begun placed at (sym (read_within (length placed) placed (omega arith)) ∙ e))

more_only : (args : List Arg) (front rest : List Placed) → Spelled (more_parts args) front → more_arguments (front ++ rest) ≡ got args rest
more_only args front rest h =
    let n = length args + length (front ++ rest) in
    read_within n (front ++ rest) (omega arith) ∙ (more_within_exact n).only (args, omega arith) front rest h

more_bad : (before : List Placed) (b : Placed) (after more : List Placed) (args : List Arg) → more_arguments (before ++ b ∷ after) ≡ stopped (b ∷ after)
    → Spelled (more_parts args) (before ++ b ∷ more) → ⊥
more_bad before b after more args e h =
    let n = length args + length (before ++ b ∷ after) in
    (more_within_exact n).bad before b after more (args, omega arith) (sym (read_within n (before ++ b ∷ after) (omega arith)) ∙ e) h

more_some : Inhabited more_parts
more_some = record { index = []; front = close_exact.some.front; spelled = close_exact.some.spelled }

more_exact : Exact (λ (args : List Arg). args) more_parts more_arguments
more_exact = record { found = more_found; only = more_only; begun = more_begun; bad = more_bad; some = more_some }

listed_exact : (first : Arg) → Exact (λ (args : List Arg). first ∷ args) more_parts (listed first)
unfolding listed
listed_exact first = mapped more_exact (λ args. first ∷ args)

arguments_exact : Exact (λ (i : Arg × List Arg). i.0 ∷ i.1) (λ i. arg_part i.0 ∷ (more_parts i.1 ++ marks Semicolon ∷ [])) arguments
unfolding arguments
arguments_exact =
    recast (seq argument_exact (λ a. seq (listed_exact a) (λ all. mapped (single (mark_looks Semicolon)) (λ _. all))))
    (λ i. ((i.0, i.1.0), refl, refl)) (λ i. ((i.0, (i.1, tt)), refl, refl))

args_by : (P : List Arg → Type 0) → P [] → ((a : Arg) (args : List Arg) → P (a ∷ args)) → (args : List Arg) → P args
args_by P x f [] = x
args_by P x f (a ∷ args) = f a args

pub arguments_end_exact : Exact (λ (args : List Arg). args) (λ args. args_parts args ++ marks Semicolon ∷ []) arguments_end
unfolding arguments_end
arguments_end_exact =
    recast (forked (mark_looks Open) (λ _. arguments_exact) (mapped (single (mark_looks Semicolon)) (λ _. [])) (λ _. mark_apart (as_mark Open) Semicolon [] refl))
    (either_by _ (λ i. (i.1.0 ∷ i.1.1, refl, refl)) (λ _. ([], refl, refl)))
    (args_by _ (inr tt, refl, refl) (λ a args. (inl (tt, (a, args)), refl, refl)))
