-- What tokens the readers of a token or a few read.
use Rattle.std.specs.Prelude.{codes}
use Rattle.std.proofs.Common.{◌≡◌, ℕ, Bool, true, false, List, [], ◌∷◌, ◌++◌, Option, Some, None, if◌then◌else◌, refl, sym, ap, ◌∙◌, subst, rules, append_assoc}
use Rattle.std.proofs.lemmas.Option.{none-some, same_Some}
use Rattle.std.proofs.lemmas.Slice.Eq.{bytes_eq-Decides}
use Rattle.std.specs.Str.{bytes_eq}
use denote.Enum.Bare.{sameb, same_true}
use Rattle.ac_syntax.specs.contracts.token.Mark.{the_type}
use Rattle.ac_syntax.specs.declared.token.Token.{Token}
use Rattle.ac_syntax.specs.declared.token.Token.TheVariants as token
use Rattle.ac_syntax.specs.declared.token.Mark.{Mark}
use Rattle.ac_syntax.specs.declared.token.Mark.TheVariants as mark
use Rattle.ac_aggregate.specs.declared.oper.Comparison.{Comparison}
use Rattle.ac_aggregate.specs.declared.oper.Comparison.TheVariants as comparison
use Rattle.ac_aggregate.specs.declared.oper.Oper.{Oper}
use Rattle.ac_aggregate.specs.declared.oper.Oper.TheVariants as oper
use Rattle.ac_aggregate.specs.Asked.{Asked, literal, text, all_of}
use Rattle.ac_aggregate.specs.Grammar as grammar
use Rattle.ac_aggregate.specs.Grammar.{Derives, is_name, comparison_mark, oper_text, sign, signed, a_literal, a_text, an_object}
use Rattle.ac_aggregate.specs.Outcomes.{got, Reader, onward}
use Rattle.ac_aggregate.specs.Readers.{as_mark, as_word, as_name, as_number, as_constant, as_sign, as_comparison, oper_of, as_oper, marked, word, named, number, constant, signs, comparing, operating, signed_number, reducing, heading, spelled, negation, object}
use Rattle.ac_aggregate.proofs.Found.{IsFront, IsFound, bound, seq_found, fork_found, gives_found, one_found}

-- these tokens were read
abbrev pub Are : {A : Type 0} → (A → List Token) → A → List Token → Type 0
Are tokens x front = front ≡ tokens x

mark_is : (wanted found : Mark) (same : Bool) (x : Unit {0}) → sameb the_type found wanted ≡ same → (if same then Some tt else None) ≡ Some x
    → token.Mark found ∷ [] ≡ token.Mark wanted ∷ []
mark_is wanted found false x s h = absurd (none-some x h)
mark_is wanted found true x s h = ap (λ (m : Mark). token.Mark m ∷ []) (same_true the_type (search rules) found wanted s)

as_mark_is : (wanted : Mark) (t : Token) (x : Unit {0}) → as_mark wanted t ≡ Some x → Are (λ _. token.Mark wanted ∷ []) x (t ∷ [])
as_mark_is wanted (token.Word _) x h = absurd (none-some x h)
as_mark_is wanted (token.Keyword _) x h = absurd (none-some x h)
as_mark_is wanted (token.Number _) x h = absurd (none-some x h)
as_mark_is wanted (token.Text _) x h = absurd (none-some x h)
as_mark_is wanted (token.Mark found) x h = mark_is wanted found (sameb the_type found wanted) x refl h

pub marked_found : (m : Mark) → IsFound (Are (λ _. token.Mark m ∷ [])) (marked m)
marked_found m = one_found (as_mark m) (as_mark_is m)

word_is : (wanted own : List ℕ) (same : Bool) (x : Unit {0}) → bytes_eq own wanted ≡ same → (if same then Some tt else None) ≡ Some x
    → token.Word own ∷ [] ≡ token.Word wanted ∷ []
word_is wanted own false x s h = absurd (none-some x h)
word_is wanted own true x s h = ap (λ w. token.Word w ∷ []) ((bytes_eq-Decides own wanted).0 s)

as_word_is : (wanted : List ℕ) (t : Token) (x : Unit {0}) → as_word wanted t ≡ Some x → Are (λ _. token.Word wanted ∷ []) x (t ∷ [])
as_word_is wanted (token.Word own) x h = word_is wanted own (bytes_eq own wanted) x refl h
as_word_is wanted (token.Keyword _) x h = absurd (none-some x h)
as_word_is wanted (token.Number _) x h = absurd (none-some x h)
as_word_is wanted (token.Text _) x h = absurd (none-some x h)
as_word_is wanted (token.Mark _) x h = absurd (none-some x h)

pub word_found : (wanted : List ℕ) → IsFound (Are (λ _. token.Word wanted ∷ [])) (word wanted)
word_found wanted = one_found (as_word wanted) (as_word_is wanted)

-- a name was read
abbrev pub IsNamed : List ℕ → List Token → Type 0
IsNamed own front = (is_name own ≡ true) × (front ≡ token.Word own ∷ [])

name_is : (own : List ℕ) (is : Bool) (x : List ℕ) → is_name own ≡ is → (if is then Some own else None) ≡ Some x → IsNamed x (token.Word own ∷ [])
name_is own false x s h = absurd (none-some x h)
name_is own true x s h =
    let same : own ≡ x = same_Some own x h in
    (sym (ap is_name same) ∙ s, ap (λ w. token.Word w ∷ []) same)

as_name_is : (t : Token) (x : List ℕ) → as_name t ≡ Some x → IsNamed x (t ∷ [])
as_name_is (token.Word own) x h = name_is own (is_name own) x refl h
as_name_is (token.Keyword _) x h = absurd (none-some x h)
as_name_is (token.Number _) x h = absurd (none-some x h)
as_name_is (token.Text _) x h = absurd (none-some x h)
as_name_is (token.Mark _) x h = absurd (none-some x h)

pub named_found : IsFound IsNamed named
named_found = one_found as_name as_name_is

as_number_is : (t : Token) (x : ℕ) → as_number t ≡ Some x → Are (λ n. token.Number n ∷ []) x (t ∷ [])
as_number_is (token.Word _) x h = absurd (none-some x h)
as_number_is (token.Keyword _) x h = absurd (none-some x h)
as_number_is (token.Number n) x h = ap (λ n. token.Number n ∷ []) (same_Some n x h)
as_number_is (token.Text _) x h = absurd (none-some x h)
as_number_is (token.Mark _) x h = absurd (none-some x h)

pub number_found : IsFound (Are (λ n. token.Number n ∷ [])) number
number_found = one_found as_number as_number_is

as_constant_is : (t : Token) (x : Asked) → as_constant t ≡ Some x → Derives grammar.factors x (t ∷ [])
as_constant_is (token.Word _) x h = absurd (none-some x h)
as_constant_is (token.Keyword _) x h = absurd (none-some x h)
as_constant_is (token.Number n) x h = subst (λ x. Derives grammar.factors x (token.Number n ∷ [])) (same_Some (literal false n) x h) (a_literal false n)
as_constant_is (token.Text bytes) x h = subst (λ x. Derives grammar.factors x (token.Text bytes ∷ [])) (same_Some (text bytes) x h) (a_text bytes)
as_constant_is (token.Mark _) x h = absurd (none-some x h)

pub constant_found : IsFound (Derives grammar.factors) constant
constant_found = one_found as_constant as_constant_is

as_sign_is : (t : Token) (x : Bool) → as_sign t ≡ Some x → Are (λ minus. token.Mark (sign minus) ∷ []) x (t ∷ [])
as_sign_is (token.Word _) x h = absurd (none-some x h)
as_sign_is (token.Keyword _) x h = absurd (none-some x h)
as_sign_is (token.Number _) x h = absurd (none-some x h)
as_sign_is (token.Text _) x h = absurd (none-some x h)
as_sign_is (token.Mark mark.Colon) x h = absurd (none-some x h)
as_sign_is (token.Mark mark.Semicolon) x h = absurd (none-some x h)
as_sign_is (token.Mark mark.Comma) x h = absurd (none-some x h)
as_sign_is (token.Mark mark.Open) x h = absurd (none-some x h)
as_sign_is (token.Mark mark.Close) x h = absurd (none-some x h)
as_sign_is (token.Mark mark.Dot) x h = absurd (none-some x h)
as_sign_is (token.Mark mark.Assign) x h = absurd (none-some x h)
as_sign_is (token.Mark mark.Plus) x h = ap (λ minus. token.Mark (sign minus) ∷ []) (same_Some false x h)
as_sign_is (token.Mark mark.Minus) x h = ap (λ minus. token.Mark (sign minus) ∷ []) (same_Some true x h)
as_sign_is (token.Mark mark.Arrow) x h = absurd (none-some x h)
as_sign_is (token.Mark mark.BracketOpen) x h = absurd (none-some x h)
as_sign_is (token.Mark mark.BracketClose) x h = absurd (none-some x h)
as_sign_is (token.Mark mark.Tick) x h = absurd (none-some x h)
as_sign_is (token.Mark mark.Star) x h = absurd (none-some x h)
as_sign_is (token.Mark mark.Equal) x h = absurd (none-some x h)
as_sign_is (token.Mark mark.NotEqual) x h = absurd (none-some x h)
as_sign_is (token.Mark mark.Less) x h = absurd (none-some x h)
as_sign_is (token.Mark mark.LessEqual) x h = absurd (none-some x h)
as_sign_is (token.Mark mark.Greater) x h = absurd (none-some x h)
as_sign_is (token.Mark mark.GreaterEqual) x h = absurd (none-some x h)

pub signs_found : IsFound (Are (λ minus. token.Mark (sign minus) ∷ [])) signs
signs_found = one_found as_sign as_sign_is

as_comparison_is : (t : Token) (x : Comparison) → as_comparison t ≡ Some x → Are (λ by. token.Mark (comparison_mark by) ∷ []) x (t ∷ [])
as_comparison_is (token.Word _) x h = absurd (none-some x h)
as_comparison_is (token.Keyword _) x h = absurd (none-some x h)
as_comparison_is (token.Number _) x h = absurd (none-some x h)
as_comparison_is (token.Text _) x h = absurd (none-some x h)
as_comparison_is (token.Mark mark.Colon) x h = absurd (none-some x h)
as_comparison_is (token.Mark mark.Semicolon) x h = absurd (none-some x h)
as_comparison_is (token.Mark mark.Comma) x h = absurd (none-some x h)
as_comparison_is (token.Mark mark.Open) x h = absurd (none-some x h)
as_comparison_is (token.Mark mark.Close) x h = absurd (none-some x h)
as_comparison_is (token.Mark mark.Dot) x h = absurd (none-some x h)
as_comparison_is (token.Mark mark.Assign) x h = absurd (none-some x h)
as_comparison_is (token.Mark mark.Plus) x h = absurd (none-some x h)
as_comparison_is (token.Mark mark.Minus) x h = absurd (none-some x h)
as_comparison_is (token.Mark mark.Arrow) x h = absurd (none-some x h)
as_comparison_is (token.Mark mark.BracketOpen) x h = absurd (none-some x h)
as_comparison_is (token.Mark mark.BracketClose) x h = absurd (none-some x h)
as_comparison_is (token.Mark mark.Tick) x h = absurd (none-some x h)
as_comparison_is (token.Mark mark.Star) x h = absurd (none-some x h)
as_comparison_is (token.Mark mark.Equal) x h = ap (λ by. token.Mark (comparison_mark by) ∷ []) (same_Some comparison.Equal x h)
as_comparison_is (token.Mark mark.NotEqual) x h = ap (λ by. token.Mark (comparison_mark by) ∷ []) (same_Some comparison.NotEqual x h)
as_comparison_is (token.Mark mark.Less) x h = ap (λ by. token.Mark (comparison_mark by) ∷ []) (same_Some comparison.Less x h)
as_comparison_is (token.Mark mark.LessEqual) x h = ap (λ by. token.Mark (comparison_mark by) ∷ []) (same_Some comparison.LessEqual x h)
as_comparison_is (token.Mark mark.Greater) x h = ap (λ by. token.Mark (comparison_mark by) ∷ []) (same_Some comparison.Greater x h)
as_comparison_is (token.Mark mark.GreaterEqual) x h = ap (λ by. token.Mark (comparison_mark by) ∷ []) (same_Some comparison.GreaterEqual x h)

pub comparing_found : IsFound (Are (λ by. token.Mark (comparison_mark by) ∷ [])) comparing
comparing_found = one_found as_comparison as_comparison_is

-- the first of the four texts that it is
text_is : (bytes wanted : List ℕ) (by x : Oper) (other : Option Oper) (same : Bool) → wanted ≡ oper_text by → bytes_eq bytes wanted ≡ same
    → (if same then Some by else other) ≡ Some x → (other ≡ Some x → bytes ≡ oper_text x) → bytes ≡ oper_text x
text_is bytes wanted by x other false w s h next = next h
text_is bytes wanted by x other true w s h next = (bytes_eq-Decides bytes wanted).0 s ∙ w ∙ ap oper_text (same_Some by x h)

oper_of_is : (bytes : List ℕ) (x : Oper) → oper_of bytes ≡ Some x → bytes ≡ oper_text x
oper_of_is bytes x h =
    text_is bytes (codes "+") oper.Sum x _ (bytes_eq bytes (codes "+")) refl refl h (λ h.
    text_is bytes (codes "*") oper.Product x _ (bytes_eq bytes (codes "*")) refl refl h (λ h.
    text_is bytes (codes "min") oper.Least x _ (bytes_eq bytes (codes "min")) refl refl h (λ h.
    text_is bytes (codes "max") oper.Greatest x _ (bytes_eq bytes (codes "max")) refl refl h (λ h. absurd (none-some x h)))))

as_oper_is : (t : Token) (x : Oper) → as_oper t ≡ Some x → Are (λ by. token.Text (oper_text by) ∷ []) x (t ∷ [])
as_oper_is (token.Word _) x h = absurd (none-some x h)
as_oper_is (token.Keyword _) x h = absurd (none-some x h)
as_oper_is (token.Number _) x h = absurd (none-some x h)
as_oper_is (token.Text bytes) x h = ap (λ bytes. token.Text bytes ∷ []) (oper_of_is bytes x h)
as_oper_is (token.Mark _) x h = absurd (none-some x h)

pub operating_found : IsFound (Are (λ by. token.Text (oper_text by) ∷ [])) operating
operating_found = one_found as_oper as_oper_is

-- a step of several in a row: what was read is cut off, and the next step follows
step : {A B : Type 0} (P : Type 0) (Q : A → List Token → Type 0) (reader : Reader A) → IsFound Q reader
    → (ts : List Token) (next : A → Reader B) (y : B) (rest : List Token) → onward (reader ts) next ≡ got y rest
    → ((x : A) (front r : List Token) → Q x front → ts ≡ front ++ r → next x r ≡ got y rest → P) → P
step P Q reader first ts next y rest h f =
    bound P (reader ts) next y rest h (λ x r g k. let a = first.found ts x r g in f x a.front r a.is a.whole k)

mark_step : {B : Type 0} (P : Type 0) (m : Mark) (ts : List Token) (next : Unit {0} → Reader B) (y : B) (rest : List Token) → onward (marked m ts) next ≡ got y rest
    → ((r : List Token) → ts ≡ token.Mark m ∷ r → next tt r ≡ got y rest → P) → P
mark_step P m ts next y rest h f =
    step P (Are (λ _. token.Mark m ∷ [])) (marked m) (marked_found m) ts next y rest h (λ x front r is whole k. f r (whole ∙ ap (λ us. us ++ r) is) k)

word_step : {B : Type 0} (P : Type 0) (w : List ℕ) (ts : List Token) (next : Unit {0} → Reader B) (y : B) (rest : List Token) → onward (word w ts) next ≡ got y rest
    → ((r : List Token) → ts ≡ token.Word w ∷ r → next tt r ≡ got y rest → P) → P
word_step P w ts next y rest h f =
    step P (Are (λ _. token.Word w ∷ [])) (word w) (word_found w) ts next y rest h (λ x front r is whole k. f r (whole ∙ ap (λ us. us ++ r) is) k)

name_step : {B : Type 0} (P : Type 0) (ts : List Token) (next : List ℕ → Reader B) (y : B) (rest : List Token) → onward (named ts) next ≡ got y rest
    → ((own : List ℕ) (r : List Token) → is_name own ≡ true → ts ≡ token.Word own ∷ r → next own r ≡ got y rest → P) → P
name_step P ts next y rest h f =
    step P IsNamed named named_found ts next y rest h (λ x front r is whole k. f x r is.0 (whole ∙ ap (λ us. us ++ r) is.1) k)

oper_step : {B : Type 0} (P : Type 0) (ts : List Token) (next : Oper → Reader B) (y : B) (rest : List Token) → onward (operating ts) next ≡ got y rest
    → ((by : Oper) (r : List Token) → ts ≡ token.Text (oper_text by) ∷ r → next by r ≡ got y rest → P) → P
oper_step P ts next y rest h f =
    step P (Are (λ by. token.Text (oper_text by) ∷ [])) operating operating_found ts next y rest h (λ x front r is whole k. f x r (whole ∙ ap (λ us. us ++ r) is) k)

-- a heading
pub record IsHeading (h : List ℕ × List ℕ) (front : List Token) : Type 0 where
  pub own : is_name h.0 ≡ true
  pub it : is_name h.1 ≡ true
  pub spelled_so : front ≡ token.Word (codes "for") ∷ token.Word h.0 ∷ token.Word (codes "of") ∷ token.Word h.1 ∷ []

heading_is : (ts : List Token) (p : List ℕ × List ℕ) (rest : List Token) → heading ts ≡ got p rest → IsFront IsHeading ts p rest
unfolding heading
heading_is ts p rest h =
    word_step (IsFront IsHeading ts p rest) (codes "for") ts _ p rest h (λ a e1 h.
    name_step (IsFront IsHeading ts p rest) a _ p rest h (λ own b is e2 h.
    word_step (IsFront IsHeading ts p rest) (codes "of") b _ p rest h (λ c e3 h.
    name_step (IsFront IsHeading ts p rest) c _ p rest h (λ it d also e4 h.
    let same : (own, it) ≡ p = cc h in
    let left : d ≡ rest = cc h in
    let front : List Token = token.Word (codes "for") ∷ token.Word own ∷ token.Word (codes "of") ∷ token.Word it ∷ [] in
    record {
      front = front;
      whole = rw (e1, e2, e3, e4, left) refl;
      is = subst (λ p. IsHeading p front) same (record { own = is; it = also; spelled_so = refl });
    }))))

pub heading_found : IsFound IsHeading heading
heading_found = record { found = heading_is }

-- a number that may have a minus
pub signed_found : IsFound (Are (λ p. signed p.0 p.1)) signed_number
unfolding signed_number
signed_found =
    fork_found (marked_found mark.Minus) (λ _. behind true) (λ x y us vs a b. signed_put y us vs a b) (behind_none) where
      behind : (minus : Bool) → IsFound (λ (p : Bool × ℕ) front. (p.0 ≡ minus) × (front ≡ token.Number p.1 ∷ [])) (λ ts. onward (number ts) (λ n ts. got (minus, n) ts))
      behind minus = seq_found number_found (λ n. gives_found {P = λ (p : Bool × ℕ) front. (p ≡ (minus, n)) × (front ≡ [])} (minus, n) (refl, refl))
          (λ n p us vs a b. (ap (λ (q : Bool × ℕ). q.0) b.0, ap (λ us. us ++ vs) a ∙ ap (λ vs. token.Number n ∷ vs) b.1 ∙ ap (λ (q : Bool × ℕ). token.Number q.1 ∷ []) (sym b.0)))

      signed_put : (p : Bool × ℕ) (us vs : List Token) → us ≡ token.Mark mark.Minus ∷ [] → (p.0 ≡ true) × (vs ≡ token.Number p.1 ∷ []) → us ++ vs ≡ signed p.0 p.1
      signed_put p us vs a b = ap (λ us. us ++ vs) a ∙ ap (λ vs. token.Mark mark.Minus ∷ vs) b.1 ∙ ap (λ minus. signed minus p.1) (sym b.0)

      behind_none : IsFound (Are (λ (p : Bool × ℕ). signed p.0 p.1)) (λ ts. onward (number ts) (λ n ts. got (false, n) ts))
      behind_none = record {
        found = λ ts p rest h. let a = (behind false).found ts p rest h in
            record { front = a.front; whole = a.whole; is = a.is.1 ∙ ap (λ minus. signed minus p.1) (sym a.is.0) };
      }

-- how a reduction reduces
abbrev pub reducing_tokens : Oper × (Bool × ℕ) → List Token
reducing_tokens p =
    token.Word (codes "reduce") ∷ token.Mark mark.Open ∷ token.Text (oper_text p.0) ∷ token.Mark mark.Comma ∷ (signed p.1.0 p.1.1 ++ token.Mark mark.Close ∷ [])

reducing_is : (ts : List Token) (p : Oper × (Bool × ℕ)) (rest : List Token) → reducing ts ≡ got p rest → IsFront (Are reducing_tokens) ts p rest
unfolding reducing
reducing_is ts p rest h =
    word_step (IsFront (Are reducing_tokens) ts p rest) (codes "reduce") ts _ p rest h (λ a e1 h.
    mark_step (IsFront (Are reducing_tokens) ts p rest) mark.Open a _ p rest h (λ b e2 h.
    oper_step (IsFront (Are reducing_tokens) ts p rest) b _ p rest h (λ by c e3 h.
    mark_step (IsFront (Are reducing_tokens) ts p rest) mark.Comma c _ p rest h (λ d e4 h.
    step (IsFront (Are reducing_tokens) ts p rest) (Are (λ p. signed p.0 p.1)) signed_number signed_found d _ p rest h (λ from front e is e5 h.
    mark_step (IsFront (Are reducing_tokens) ts p rest) mark.Close e _ p rest h (λ f e6 h.
    let same : (by, from) ≡ p = cc h in
    let left : f ≡ rest = cc h in
    record {
      front = reducing_tokens (by, from);
      whole = e1 ∙ ap (λ ts. token.Word (codes "reduce") ∷ ts) (e2 ∙ ap (λ ts. token.Mark mark.Open ∷ ts) (e3 ∙ ap (λ ts. token.Text (oper_text by) ∷ ts)
          (e4 ∙ ap (λ ts. token.Mark mark.Comma ∷ ts) (e5 ∙ ap (λ us. us ++ e) is ∙ ap (λ ts. signed from.0 from.1 ++ ts) (e6 ∙ ap (λ ts. token.Mark mark.Close ∷ ts) left)
          ∙ sym (append_assoc (signed from.0 from.1) (token.Mark mark.Close ∷ []) rest)))));
      is = ap reducing_tokens same;
    }))))))

pub reducing_found : IsFound (Are reducing_tokens) reducing
reducing_found = record { found = reducing_is }

-- a number or a string
pub spelled_found : IsFound (Derives grammar.factors) spelled
unfolding spelled
spelled_found =
    fork_found {Q = λ _ y front. (n : ℕ) × (y ≡ literal true n) × (front ≡ token.Number n ∷ [])} (marked_found mark.Minus) (λ _. negative_found) (λ x y us vs a b. negative_put y us vs a b) constant_found where
      negative_found : IsFound (λ y front. (n : ℕ) × (y ≡ literal true n) × (front ≡ token.Number n ∷ [])) (λ ts. onward (number ts) (λ n ts. got (literal true n) ts))
      negative_found = seq_found number_found (λ n. gives_found {P = λ y front. (y ≡ literal true n) × (front ≡ [])} (literal true n) (refl, refl))
          (λ n y us vs a b. (n, b.0, ap (λ us. us ++ vs) a ∙ ap (λ vs. token.Number n ∷ vs) b.1))

      negative_put : (y : Asked) (us vs : List Token) → us ≡ token.Mark mark.Minus ∷ [] → ((n : ℕ) × (y ≡ literal true n) × (vs ≡ token.Number n ∷ []))
          → Derives grammar.factors y (us ++ vs)
      negative_put y us vs a b =
          subst (λ y. Derives grammar.factors y (us ++ vs)) (sym b.1)
          (subst (Derives grammar.factors (literal true b.0)) (sym (ap (λ us. us ++ vs) a ∙ ap (λ vs. token.Mark mark.Minus ∷ vs) b.2)) (a_literal true b.0))

-- what begins a negation
pub negation_found : IsFound (Are (λ _. token.Word (codes "not") ∷ token.Mark mark.Open ∷ [])) negation
unfolding negation
negation_found = seq_found (word_found (codes "not")) (λ _. marked_found mark.Open) (λ x y us vs a b. ap (λ us. us ++ vs) a ∙ ap (λ vs. token.Word (codes "not") ∷ vs) b)

-- an object's name
pub object_found : IsFound (Derives grammar.sources) object
object_found = seq_found named_found (λ own. gives_found {P = λ y front. (y ≡ all_of own) × (front ≡ [])} (all_of own) (refl, refl)) object_put where
  object_put : (own : List ℕ) (y : Asked) (us vs : List Token) → IsNamed own us → (y ≡ all_of own) × (vs ≡ []) → Derives grammar.sources y (us ++ vs)
  object_put own y us vs a b =
      subst (λ y. Derives grammar.sources y (us ++ vs)) (sym b.0)
      (subst (Derives grammar.sources (all_of own)) (sym (ap (λ us. us ++ vs) a.1 ∙ ap (λ vs. token.Word own ∷ vs) b.1)) (an_object own a.0))
