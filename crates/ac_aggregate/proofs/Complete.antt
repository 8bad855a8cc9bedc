-- What the grammar derives is read.
use Rattle.std.specs.Str.{bytes_eq}
use Rattle.std.proofs.lemmas.Slice.Eq.{bytes_eq-Decides}
use Rattle.ac_syntax.specs.Grammar.{is_reserved, reserved}
use Rattle.std.proofs.Common.{◌≡◌, ◌+◌, ◌*◌, ◌≤◌, ℕ, zero, suc, Bool, true, false, List, [], ◌∷◌, ◌++◌, length, Some, None, if◌then◌else◌, refl, sym, ap, ◌∙◌, arith, append_assoc, length-append, append-nil}
use Rattle.std.specs.Prelude.{codes}
use Rattle.ac_syntax.specs.declared.token.Token.{Token}
use Rattle.ac_syntax.specs.declared.token.Token.TheVariants as token
use Rattle.ac_syntax.specs.declared.token.Mark.{Mark}
use Rattle.ac_syntax.specs.declared.token.Mark.TheVariants as mark
use Rattle.ac_aggregate.specs.declared.oper.Comparison.{Comparison}
use Rattle.ac_aggregate.specs.declared.oper.Comparison.TheVariants as comparison
use Rattle.ac_aggregate.specs.declared.oper.Oper.{Oper}
use Rattle.ac_aggregate.specs.declared.oper.Oper.TheVariants as oper
use Rattle.ac_aggregate.specs.Asked.{Asked, literal, text, name, group, product, sum, all_of, each, reduced, always, compares, both, negated}
use Rattle.ac_aggregate.specs.Outcomes.{Outcome, got, stuck, Reader, onward, either, seen}
use Rattle.ac_aggregate.specs.Readers.{marked, word, named, signs, heading, spelled, negation, signed_number, reducing, reduction, object, reduced_or, as_factor, as_question, closed}
use Rattle.ac_aggregate.specs.Reading.{read_by, factor, term, expr, atom, condition, filter, source, question, factors, terms, compared, conditions, given}
use Rattle.ac_aggregate.specs.Grammar as grammar
use Rattle.ac_aggregate.specs.Grammar.{Level, Derives, is_name, comparison_mark, oper_text, sign, signed, head, given_by, reduction_end, a_literal, a_text, a_name, a_group, a_reduced_factor, a_factor, a_product, a_term, a_sum, a_comparison, a_negation, an_atom, a_conjunction, an_aggregate, a_filtered, an_object, a_source, a_reduction, asks_aggregate, asks_reduction}

-- no factor goes on with these tokens
abbrev IsEnd : List Token → Type 0
IsEnd rest = marked mark.Tick rest ≡ stuck

-- no term does
abbrev IsTermEnd : List Token → Type 0
IsTermEnd rest = IsEnd rest × (marked mark.Star rest ≡ stuck)

-- no expression does
abbrev IsExprEnd : List Token → Type 0
IsExprEnd rest = IsEnd rest × (marked mark.Star rest ≡ stuck) × (signs rest ≡ stuck)

abbrev IsReadAt : Level → Asked → List Token → Type 0
IsReadAt grammar.factors e ts = (n : ℕ) (rest : List Token) → IsEnd rest → 4 * length ts ≤ n + 2 → read_by n factor (ts ++ rest) ≡ got e rest
IsReadAt grammar.terms e ts =
    (m n : ℕ) (rest : List Token) (out : Outcome Asked) → IsEnd rest → ((k : ℕ) → m ≤ k → read_by k (factors e) rest ≡ out) →
    m + 4 * length ts + 1 ≤ n → read_by n term (ts ++ rest) ≡ out
IsReadAt grammar.expressions e ts =
    (m n : ℕ) (rest : List Token) (out : Outcome Asked) → IsTermEnd rest → ((k : ℕ) → m ≤ k → read_by k (terms e) rest ≡ out) →
    m + 4 * length ts + 3 ≤ n → read_by n expr (ts ++ rest) ≡ out
IsReadAt grammar.atoms e ts = (n : ℕ) (rest : List Token) → IsExprEnd rest → 4 * length ts + 2 ≤ n → read_by n atom (ts ++ rest) ≡ got e rest
IsReadAt grammar.conditions e ts =
    (m n : ℕ) (rest : List Token) (out : Outcome Asked) → IsExprEnd rest → ((k : ℕ) → m ≤ k → read_by k (conditions e) rest ≡ out) →
    m + 4 * length ts + 4 ≤ n → read_by n condition (ts ++ rest) ≡ out
IsReadAt grammar.aggregates e ts =
    ((n : ℕ) (rest : List Token) → 4 * length ts ≤ n + 3 → read_by n source (ts ++ rest) ≡ got e rest) × ((rest : List Token) → as_question e rest ≡ got e rest)
IsReadAt grammar.sources e ts = (n : ℕ) (rest : List Token) → 4 * length ts ≤ n + 3 → read_by n source (ts ++ rest) ≡ got e rest
IsReadAt grammar.reductions e ts =
    ((n : ℕ) (rest : List Token) → 4 * length ts ≤ n + 2 → read_by n factor (ts ++ rest) ≡ got e rest)
    × ((n : ℕ) (rest : List Token) → 4 * length ts ≤ n + 2 → read_by n question (ts ++ rest) ≡ got e rest)
IsReadAt grammar.questions e ts = (n : ℕ) → 4 * length ts ≤ n + 2 → 1 ≤ n → read_by n question ts ≡ got e []

-- a bracket's head behind its bracket
abbrev behind_bracket : (own it : List ℕ) → List Token → List Token
behind_bracket own it ts = token.Word (codes "for") ∷ token.Word own ∷ token.Word (codes "of") ∷ token.Word it ∷ ts

-- ends that stand for themselves
close_ends : (rest : List Token) → IsExprEnd (token.Mark mark.Close ∷ rest)
close_ends rest = (refl, refl, refl)

bracket_ends : (rest : List Token) → IsExprEnd (token.Mark mark.BracketClose ∷ rest)
bracket_ends rest = (refl, refl, refl)

arrow_ends : (rest : List Token) → IsExprEnd (token.Mark mark.Arrow ∷ rest)
arrow_ends rest = (refl, refl, refl)

word_ends : (own : List ℕ) (rest : List Token) → IsExprEnd (token.Word own ∷ rest)
word_ends own rest = (refl, refl, refl)

comparison_ends : (by : Comparison) (rest : List Token) → IsExprEnd (token.Mark (comparison_mark by) ∷ rest)
comparison_ends comparison.Equal rest = (refl, refl, refl)
comparison_ends comparison.NotEqual rest = (refl, refl, refl)
comparison_ends comparison.Less rest = (refl, refl, refl)
comparison_ends comparison.LessEqual rest = (refl, refl, refl)
comparison_ends comparison.Greater rest = (refl, refl, refl)
comparison_ends comparison.GreaterEqual rest = (refl, refl, refl)

sign_ends : (minus : Bool) (rest : List Token) → IsTermEnd (token.Mark (sign minus) ∷ rest)
sign_ends false rest = (refl, refl)
sign_ends true rest = (refl, refl)

literal_read : (minus : Bool) (x : ℕ) → IsReadAt grammar.factors (literal minus x) (signed minus x)
unfolding read_by spelled
literal_read minus x zero rest end h = absurd (omega (arith, h, some minus)) where
  some : (minus : Bool) → 1 ≤ length (signed minus x)
  some false = omega arith
  some true = omega arith
literal_read false x (suc n) rest end h = refl
literal_read true x (suc n) rest end h = refl

text_read : (bytes : List ℕ) → IsReadAt grammar.factors (text bytes) (token.Text bytes ∷ [])
unfolding read_by spelled
text_read bytes zero rest end h = absurd (omega (arith, h))
text_read bytes (suc n) rest end h = refl

named_read : (own : List ℕ) → is_name own ≡ true → (rest : List Token) → object (token.Word own ∷ rest) ≡ got (all_of own) rest
named_read own is rest = rw is refl

object_read : (own : List ℕ) → is_name own ≡ true → (n : ℕ) (rest : List Token) → 1 ≤ n → read_by n source (token.Word own ∷ rest) ≡ got (all_of own) rest
unfolding read_by
object_read own is zero rest h = absurd (omega (arith, h))
object_read own is (suc n) rest h = named_read own is rest

-- a source that no reduction follows is what it is alone
alone : (look : Asked → Reader Asked) (s : Asked) (rest : List Token) → IsEnd rest → reduced_or look s rest ≡ look s rest
alone look s rest end = ap (λ o. either o (λ _. reduction s) (look s) rest) end

name_read : (own : List ℕ) → is_name own ≡ true → IsReadAt grammar.factors (name own) (token.Word own ∷ [])
unfolding read_by spelled
name_read own is zero rest end h = absurd (omega (arith, h))
name_read own is (suc n) rest end h =
    ap (λ o. onward o (reduced_or as_factor)) (object_read own is n rest (omega (arith, h))) ∙ alone as_factor (all_of own) rest end

-- nothing more is read of an expression before its end
expr_ends : (e : Asked) (rest : List Token) → signs rest ≡ stuck → (k : ℕ) → 1 ≤ k → read_by k (terms e) rest ≡ got e rest
unfolding read_by
expr_ends e rest none zero h = absurd (omega (arith, h))
expr_ends e rest none (suc k) h = ap (λ o. either o (λ minus ts. onward (read_by k term ts) (λ r. read_by k (terms (sum e minus r)))) (λ ts. got e ts) rest) none

-- nor of a term where no star stands
term_ends : (e : Asked) (rest : List Token) → marked mark.Star rest ≡ stuck → (k : ℕ) → 1 ≤ k → read_by k (factors e) rest ≡ got e rest
unfolding read_by
term_ends e rest none zero h = absurd (omega (arith, h))
term_ends e rest none (suc k) h = ap (λ o. either o (λ _ ts. onward (read_by k factor ts) (λ r. read_by k (factors (product e r)))) (λ ts. got e ts) rest) none

-- a whole expression, before an end
expr_read : (e : Asked) (ts : List Token) → IsReadAt grammar.expressions e ts → (n : ℕ) (rest : List Token) → IsExprEnd rest → 4 * length ts + 4 ≤ n
    → read_by n expr (ts ++ rest) ≡ got e rest
expr_read e ts is n rest end h = is 1 n rest (got e rest) (end.0, end.1) (expr_ends e rest end.2) (omega (arith, h))

group_read : (e : Asked) (ts : List Token) → IsReadAt grammar.expressions e ts
    → IsReadAt grammar.factors (group e) (token.Mark mark.Open ∷ (ts ++ token.Mark mark.Close ∷ []))
unfolding read_by
group_read e ts inner zero rest end h = absurd (omega (arith, h))
group_read e ts inner (suc n) rest end h =
    ap (λ us. onward (read_by n expr us) (closed mark.Close group)) (append_assoc ts (token.Mark mark.Close ∷ []) rest)
    ∙ ap (λ o. onward o (closed mark.Close group))
    (expr_read e ts inner n (token.Mark mark.Close ∷ rest) (close_ends rest) (omega (arith, h, length-append ts (token.Mark mark.Close ∷ []))))

factor_read : (e : Asked) (ts : List Token) → IsReadAt grammar.factors e ts → IsReadAt grammar.terms e ts
unfolding read_by
factor_read e ts one m zero rest out end more h = absurd (omega (arith, h))
factor_read e ts one m (suc n) rest out end more h =
    ap (λ o. onward o (λ e. read_by n (factors e))) (one n rest end (omega (arith, h))) ∙ more n (omega (arith, h))

star_read : (l r : Asked) (us rest : List Token) (m : ℕ) (out : Outcome Asked) → IsEnd rest → IsReadAt grammar.factors r us
    → ((k : ℕ) → m ≤ k → read_by k (factors (product l r)) rest ≡ out)
    → (k : ℕ) → m + 4 * length us + 1 ≤ k → read_by k (factors l) (token.Mark mark.Star ∷ (us ++ rest)) ≡ out
unfolding read_by
star_read l r us rest m out end one more zero h = absurd (omega (arith, h))
star_read l r us rest m out end one more (suc k) h =
    ap (λ o. onward o (λ r. read_by k (factors (product l r)))) (one k rest end (omega (arith, h))) ∙ more k (omega (arith, h))

product_read : (l r : Asked) (ts us : List Token) → IsReadAt grammar.terms l ts → IsReadAt grammar.factors r us
    → IsReadAt grammar.terms (product l r) (ts ++ token.Mark mark.Star ∷ us)
product_read l r ts us left right m n rest out end more h =
    ap (read_by n term) (append_assoc ts (token.Mark mark.Star ∷ us) rest)
    ∙ left (m + 4 * length us + 1) n (token.Mark mark.Star ∷ (us ++ rest)) out refl (star_read l r us rest m out end right more)
    (omega (arith, h, length-append ts (token.Mark mark.Star ∷ us)))

term_read : (e : Asked) (ts : List Token) → IsReadAt grammar.terms e ts → IsReadAt grammar.expressions e ts
unfolding read_by
term_read e ts one m zero rest out end more h = absurd (omega (arith, h))
term_read e ts one m (suc n) rest out end more h =
    ap (λ o. onward o (λ e. read_by n (terms e))) (one 1 n rest (got e rest) end.0 (term_ends e rest end.1) (omega (arith, h))) ∙ more n (omega (arith, h))

sign_read : (l r : Asked) (minus : Bool) (us rest : List Token) (m : ℕ) (out : Outcome Asked) → IsReadAt grammar.terms r us → IsTermEnd rest
    → ((k : ℕ) → m ≤ k → read_by k (terms (sum l minus r)) rest ≡ out)
    → (k : ℕ) → m + 4 * length us + 3 ≤ k → read_by k (terms l) (token.Mark (sign minus) ∷ (us ++ rest)) ≡ out
unfolding read_by
sign_read l r minus us rest m out one end more zero h = absurd (omega (arith, h))
sign_read l r false us rest m out one end more (suc k) h =
    ap (λ o. onward o (λ r. read_by k (terms (sum l false r)))) (one 1 k rest (got r rest) end.0 (term_ends r rest end.1) (omega (arith, h))) ∙ more k (omega (arith, h))
sign_read l r true us rest m out one end more (suc k) h =
    ap (λ o. onward o (λ r. read_by k (terms (sum l true r)))) (one 1 k rest (got r rest) end.0 (term_ends r rest end.1) (omega (arith, h))) ∙ more k (omega (arith, h))

sum_read : (l r : Asked) (minus : Bool) (ts us : List Token) → IsReadAt grammar.expressions l ts → IsReadAt grammar.terms r us
    → IsReadAt grammar.expressions (sum l minus r) (ts ++ token.Mark (sign minus) ∷ us)
sum_read l r minus ts us left right m n rest out end more h =
    ap (read_by n expr) (append_assoc ts (token.Mark (sign minus) ∷ us) rest)
    ∙ left (m + 4 * length us + 3) n (token.Mark (sign minus) ∷ (us ++ rest)) out (sign_ends minus (us ++ rest)) (sign_read l r minus us rest m out right end more)
    (omega (arith, h, length-append ts (token.Mark (sign minus) ∷ us)))

-- behind the left side of a comparison
side_read : (l r : Asked) (by : Comparison) (us rest : List Token) → IsReadAt grammar.expressions r us → IsExprEnd rest
    → (k : ℕ) → 4 * length us + 5 ≤ k → read_by k (compared l) (token.Mark (comparison_mark by) ∷ (us ++ rest)) ≡ got (compares l by r) rest
unfolding read_by
side_read l r by us rest one end zero h = absurd (omega (arith, h))
side_read l r comparison.Equal us rest one end (suc k) h = ap (λ o. onward o (λ r ts. got (compares l comparison.Equal r) ts)) (expr_read r us one k rest end (omega (arith, h)))
side_read l r comparison.NotEqual us rest one end (suc k) h = ap (λ o. onward o (λ r ts. got (compares l comparison.NotEqual r) ts)) (expr_read r us one k rest end (omega (arith, h)))
side_read l r comparison.Less us rest one end (suc k) h = ap (λ o. onward o (λ r ts. got (compares l comparison.Less r) ts)) (expr_read r us one k rest end (omega (arith, h)))
side_read l r comparison.LessEqual us rest one end (suc k) h = ap (λ o. onward o (λ r ts. got (compares l comparison.LessEqual r) ts)) (expr_read r us one k rest end (omega (arith, h)))
side_read l r comparison.Greater us rest one end (suc k) h = ap (λ o. onward o (λ r ts. got (compares l comparison.Greater r) ts)) (expr_read r us one k rest end (omega (arith, h)))
side_read l r comparison.GreaterEqual us rest one end (suc k) h = ap (λ o. onward o (λ r ts. got (compares l comparison.GreaterEqual r) ts)) (expr_read r us one k rest end (omega (arith, h)))

-- a name is none of the words of a question
not_word : (own wanted : List ℕ) (same : Bool) → bytes_eq own wanted ≡ same → is_name own ≡ true → is_name wanted ≡ false → bytes_eq own wanted ≡ false
not_word own wanted false s is isnt = s
not_word own wanted true s is isnt = absurd (cc (ap is_name ((bytes_eq-Decides own wanted).0 s), is, isnt))

not_is_none : is_name (codes "not") ≡ false
unfolding is_name is_reserved reserved
not_is_none = refl

name_no_negation : (own : List ℕ) (rest : List Token) → is_name own ≡ true → negation (token.Word own ∷ rest) ≡ stuck
unfolding negation
name_no_negation own rest is =
    ap (λ b. onward (seen (if b then Some tt else None) rest) (λ _. marked mark.Open)) (not_word own (codes "not") (bytes_eq own (codes "not")) refl is not_is_none)

-- no expression begins as a negation does
abbrev IsNoNegation : Level → List Token → Type 0
IsNoNegation grammar.factors ts = (rest : List Token) → negation (ts ++ rest) ≡ stuck
IsNoNegation grammar.terms ts = (rest : List Token) → negation (ts ++ rest) ≡ stuck
IsNoNegation grammar.expressions ts = (rest : List Token) → negation (ts ++ rest) ≡ stuck
IsNoNegation grammar.atoms ts = Unit {0}
IsNoNegation grammar.conditions ts = Unit {0}
IsNoNegation grammar.aggregates ts = (rest : List Token) → negation (ts ++ rest) ≡ stuck
IsNoNegation grammar.sources ts = (rest : List Token) → negation (ts ++ rest) ≡ stuck
IsNoNegation grammar.reductions ts = (rest : List Token) → negation (ts ++ rest) ≡ stuck
IsNoNegation grammar.questions ts = Unit {0}

literal_no_negation : (minus : Bool) (n : ℕ) (rest : List Token) → negation (signed minus n ++ rest) ≡ stuck
unfolding negation
literal_no_negation false n rest = refl
literal_no_negation true n rest = refl

mark_no_negation : (m : Mark) (rest : List Token) → negation (token.Mark m ∷ rest) ≡ stuck
unfolding negation
mark_no_negation m rest = refl

text_no_negation : (bytes : List ℕ) (rest : List Token) → negation (token.Text bytes ∷ rest) ≡ stuck
unfolding negation
text_no_negation bytes rest = refl

before_all : (ts us : List Token) → ((rest : List Token) → negation (ts ++ rest) ≡ stuck) → (rest : List Token) → negation ((ts ++ us) ++ rest) ≡ stuck
before_all ts us h rest = ap negation (append_assoc ts us rest) ∙ h (us ++ rest)

no_negation : (level : Level) (e : Asked) (ts : List Token) → Derives level e ts → IsNoNegation level ts
no_negation _ _ _ (a_literal minus n) = literal_no_negation minus n
no_negation _ _ _ (a_text bytes) = text_no_negation bytes
no_negation _ _ _ (a_name own is) = λ rest. name_no_negation own rest is
no_negation _ _ _ (a_group e ts d) = λ rest. mark_no_negation mark.Open ((ts ++ token.Mark mark.Close ∷ []) ++ rest)
no_negation _ _ _ (a_reduced_factor r ts d) = no_negation grammar.reductions r ts d
no_negation _ _ _ (a_factor e ts d) = no_negation grammar.factors e ts d
no_negation _ _ _ (a_product l r ts us d f) = before_all ts (token.Mark mark.Star ∷ us) (no_negation grammar.terms l ts d)
no_negation _ _ _ (a_term e ts d) = no_negation grammar.terms e ts d
no_negation _ _ _ (a_sum l r minus ts us d f) = before_all ts (token.Mark (sign minus) ∷ us) (no_negation grammar.expressions l ts d)
no_negation _ _ _ (a_comparison l r by ts us d f) = tt
no_negation _ _ _ (a_negation c ts d) = tt
no_negation _ _ _ (an_atom c ts d) = tt
no_negation _ _ _ (a_conjunction l r ts us d f) = tt
no_negation _ _ _ (an_aggregate own it e us is also d) = λ rest. mark_no_negation mark.BracketOpen (behind_bracket own it (given_by us) ++ rest)
no_negation _ _ _ (a_filtered own it c e ts us is also d f) =
    λ rest. mark_no_negation mark.BracketOpen (behind_bracket own it (token.Word (codes "when") ∷ (ts ++ given_by us)) ++ rest)
no_negation _ _ _ (an_object own is) = λ rest. name_no_negation own rest is
no_negation _ _ _ (a_source a ts d) = no_negation grammar.aggregates a ts d
no_negation _ _ _ (a_reduction s by minus n ts d) = before_all ts (reduction_end by minus n) (no_negation grammar.sources s ts d)
no_negation _ _ _ (asks_aggregate a ts d) = tt
no_negation _ _ _ (asks_reduction r ts d) = tt

comparison_read : (l r : Asked) (by : Comparison) (ts us : List Token) → ((rest : List Token) → negation (ts ++ rest) ≡ stuck)
    → IsReadAt grammar.expressions l ts → IsReadAt grammar.expressions r us
    → IsReadAt grammar.atoms (compares l by r) (ts ++ token.Mark (comparison_mark by) ∷ us)
unfolding read_by
comparison_read l r by ts us none left right zero rest end h = absurd (omega (arith, h))
comparison_read l r by ts us none left right (suc n) rest end h =
    let behind : List Token = token.Mark (comparison_mark by) ∷ (us ++ rest) in
    let all = append_assoc ts (token.Mark (comparison_mark by) ∷ us) rest in
    ap (read_by (suc n) atom) all
    ∙ ap (λ o. either o (λ _ ts. onward (read_by n condition ts) (closed mark.Close negated)) (λ ts. onward (read_by n expr ts) (λ l. read_by n (compared l))) (ts ++ behind))
    (none behind)
    ∙ ap (λ o. onward o (λ l. read_by n (compared l)))
    (expr_read l ts left n behind (comparison_ends by (us ++ rest)) (omega (arith, h, length-append ts (token.Mark (comparison_mark by) ∷ us))))
    ∙ side_read l r by us rest right end n (omega (arith, h, length-append ts (token.Mark (comparison_mark by) ∷ us)))

-- nothing more is read of a condition before another word, or before a mark
abbrev IsConditionEnd : List Token → Type 0
IsConditionEnd rest = IsExprEnd rest × (word (codes "and") rest ≡ stuck)

condition_ends : (c : Asked) (rest : List Token) → word (codes "and") rest ≡ stuck → (k : ℕ) → 1 ≤ k → read_by k (conditions c) rest ≡ got c rest
unfolding read_by
condition_ends c rest none zero h = absurd (omega (arith, h))
condition_ends c rest none (suc k) h = ap (λ o. either o (λ _ ts. onward (read_by k atom ts) (λ r. read_by k (conditions (both c r)))) (λ ts. got c ts) rest) none

condition_read : (c : Asked) (ts : List Token) → IsReadAt grammar.conditions c ts → (n : ℕ) (rest : List Token) → IsConditionEnd rest → 4 * length ts + 5 ≤ n
    → read_by n condition (ts ++ rest) ≡ got c rest
condition_read c ts is n rest end h = is 1 n rest (got c rest) end.0 (condition_ends c rest end.1) (omega (arith, h))

negation_read : (c : Asked) (ts : List Token) → IsReadAt grammar.conditions c ts
    → IsReadAt grammar.atoms (negated c) (token.Word (codes "not") ∷ token.Mark mark.Open ∷ (ts ++ token.Mark mark.Close ∷ []))
unfolding read_by negation
negation_read c ts inner zero rest end h = absurd (omega (arith, h))
negation_read c ts inner (suc n) rest end h =
    ap (λ us. onward (read_by n condition us) (closed mark.Close negated)) (append_assoc ts (token.Mark mark.Close ∷ []) rest)
    ∙ ap (λ o. onward o (closed mark.Close negated))
    (condition_read c ts inner n (token.Mark mark.Close ∷ rest) ((refl, refl, refl), refl) (omega (arith, h, length-append ts (token.Mark mark.Close ∷ []))))

atom_read : (c : Asked) (ts : List Token) → IsReadAt grammar.atoms c ts → IsReadAt grammar.conditions c ts
unfolding read_by
atom_read c ts one m zero rest out end more h = absurd (omega (arith, h))
atom_read c ts one m (suc n) rest out end more h =
    ap (λ o. onward o (λ c. read_by n (conditions c))) (one n rest end (omega (arith, h))) ∙ more n (omega (arith, h))

and_read : (l r : Asked) (us rest : List Token) (m : ℕ) (out : Outcome Asked) → IsReadAt grammar.atoms r us → IsExprEnd rest
    → ((k : ℕ) → m ≤ k → read_by k (conditions (both l r)) rest ≡ out)
    → (k : ℕ) → m + 4 * length us + 3 ≤ k → read_by k (conditions l) (token.Word (codes "and") ∷ (us ++ rest)) ≡ out
unfolding read_by
and_read l r us rest m out one end more zero h = absurd (omega (arith, h))
and_read l r us rest m out one end more (suc k) h =
    ap (λ o. onward o (λ r. read_by k (conditions (both l r)))) (one k rest end (omega (arith, h))) ∙ more k (omega (arith, h))

conjunction_read : (l r : Asked) (ts us : List Token) → IsReadAt grammar.conditions l ts → IsReadAt grammar.atoms r us
    → IsReadAt grammar.conditions (both l r) (ts ++ token.Word (codes "and") ∷ us)
conjunction_read l r ts us left right m n rest out end more h =
    ap (read_by n condition) (append_assoc ts (token.Word (codes "and") ∷ us) rest)
    ∙ left (m + 4 * length us + 3) n (token.Word (codes "and") ∷ (us ++ rest)) out (word_ends (codes "and") (us ++ rest)) (and_read l r us rest m out right end more)
    (omega (arith, h, length-append ts (token.Word (codes "and") ∷ us)))

-- aggregates

heading_read : (own it : List ℕ) → is_name own ≡ true → is_name it ≡ true → (rest : List Token)
    → heading (token.Word (codes "for") ∷ token.Word own ∷ token.Word (codes "of") ∷ token.Word it ∷ rest) ≡ got (own, it) rest
unfolding heading
heading_read own it is also rest =
    ap (λ b. onward (seen (if b then Some own else None) (token.Word (codes "of") ∷ token.Word it ∷ rest))
    (λ own ts. onward (word (codes "of") ts) (λ _ ts. onward (named ts) (λ it ts. got (own, it) ts)))) is
    ∙ ap (λ b. onward (seen (if b then Some it else None) rest) (λ it ts. got (own, it) ts)) also

-- its end, behind the condition
given_read : (own it : List ℕ) (c e : Asked) (us : List Token) → IsReadAt grammar.expressions e us
    → (n : ℕ) (rest : List Token) → 4 * length us + 5 ≤ n → read_by n (given own it c) (given_by us ++ rest) ≡ got (each own it c e) rest
unfolding read_by
given_read own it c e us one zero rest h = absurd (omega (arith, h))
given_read own it c e us one (suc n) rest h =
    ap (λ ts. onward (read_by n expr ts) (closed mark.BracketClose (each own it c))) (append_assoc us (token.Mark mark.BracketClose ∷ []) rest)
    ∙ ap (λ o. onward o (closed mark.BracketClose (each own it c))) (expr_read e us one n (token.Mark mark.BracketClose ∷ rest) (bracket_ends rest) (omega (arith, h)))

-- behind the bracket, where the condition is read
filtered_read : (own it : List ℕ) (c e : Asked) (behind us : List Token) → is_name own ≡ true → is_name it ≡ true → IsReadAt grammar.expressions e us
    → (n : ℕ) (rest : List Token) → 4 * length us + 7 ≤ n
    → ((k : ℕ) → n ≤ k + 2 → read_by k filter (behind ++ rest) ≡ got c (given_by us ++ rest))
    → read_by n source ((head own it ++ behind) ++ rest) ≡ got (each own it c e) rest
unfolding read_by
filtered_read own it c e behind us is also one zero rest h filters = absurd (omega (arith, h))
filtered_read own it c e behind us is also one (suc zero) rest h filters = absurd (omega (arith, h))
filtered_read own it c e behind us is also one (suc (suc n)) rest h filters =
    ap (λ o. onward o (λ h ts. onward (read_by n filter ts) (λ c. read_by n (given h.0 h.1 c)))) (heading_read own it is also (behind ++ rest))
    ∙ ap (λ o. onward o (λ c. read_by n (given own it c))) (filters n (omega arith))
    ∙ given_read own it c e us one n rest (omega (arith, h))

no_filter : (us : List Token) (k : ℕ) (rest : List Token) → 1 ≤ k → read_by k filter (given_by us ++ rest) ≡ got always (given_by us ++ rest)
unfolding read_by
no_filter us zero rest h = absurd (omega (arith, h))
no_filter us (suc k) rest h = refl

aggregate_read : (own it : List ℕ) (e : Asked) (us : List Token) → is_name own ≡ true → is_name it ≡ true → IsReadAt grammar.expressions e us
    → IsReadAt grammar.aggregates (each own it always e) (head own it ++ given_by us)
aggregate_read own it e us is also one = (
  λ n rest h. filtered_read own it always e (given_by us) us is also one n rest (omega (arith, h, length-append us (token.Mark mark.BracketClose ∷ [])))
      (λ k g. no_filter us k rest (omega (arith, h, g, length-append us (token.Mark mark.BracketClose ∷ [])))),
  λ rest. refl,
)

-- the word and the condition behind it
filter_read : (c : Asked) (ts us : List Token) → IsReadAt grammar.conditions c ts → (k : ℕ) (rest : List Token) → 4 * length ts + 6 ≤ k
    → read_by k filter ((token.Word (codes "when") ∷ (ts ++ given_by us)) ++ rest) ≡ got c (given_by us ++ rest)
unfolding read_by
filter_read c ts us one zero rest h = absurd (omega (arith, h))
filter_read c ts us one (suc k) rest h =
    ap (read_by k condition) (append_assoc ts (given_by us) rest)
    ∙ condition_read c ts one k (given_by us ++ rest) ((refl, refl, refl), refl) (omega (arith, h))

when_read : (own it : List ℕ) (c e : Asked) (ts us : List Token) → is_name own ≡ true → is_name it ≡ true → IsReadAt grammar.conditions c ts
    → IsReadAt grammar.expressions e us → IsReadAt grammar.aggregates (each own it c e) (head own it ++ token.Word (codes "when") ∷ (ts ++ given_by us))
when_read own it c e ts us is also where_ one = (
  λ n rest h. filtered_read own it c e (token.Word (codes "when") ∷ (ts ++ given_by us)) us is also one n rest
      (omega (arith, h, length-append ts (given_by us), length-append us (token.Mark mark.BracketClose ∷ [])))
      (λ k g. filter_read c ts us where_ k rest
      (omega (arith, h, g, length-append ts (given_by us), length-append us (token.Mark mark.BracketClose ∷ [])))),
  λ rest. refl,
)

-- reductions

signed_read : (minus : Bool) (x : ℕ) (rest : List Token) → signed_number (signed minus x ++ rest) ≡ got (minus, x) rest
unfolding signed_number
signed_read false x rest = refl
signed_read true x rest = refl

reducing_by : (by : Oper) (minus : Bool) (x : ℕ) (ts rest : List Token) → signed_number ts ≡ got (minus, x) (token.Mark mark.Close ∷ rest)
    → reducing (token.Word (codes "reduce") ∷ token.Mark mark.Open ∷ token.Text (oper_text by) ∷ token.Mark mark.Comma ∷ ts) ≡ got (by, (minus, x)) rest
unfolding reducing
reducing_by oper.Sum minus x ts rest h = ap (λ o. onward o (λ from ts. onward (marked mark.Close ts) (λ _ ts. got (oper.Sum, from) ts))) h
reducing_by oper.Product minus x ts rest h = ap (λ o. onward o (λ from ts. onward (marked mark.Close ts) (λ _ ts. got (oper.Product, from) ts))) h
reducing_by oper.Least minus x ts rest h = ap (λ o. onward o (λ from ts. onward (marked mark.Close ts) (λ _ ts. got (oper.Least, from) ts))) h
reducing_by oper.Greatest minus x ts rest h = ap (λ o. onward o (λ from ts. onward (marked mark.Close ts) (λ _ ts. got (oper.Greatest, from) ts))) h

-- behind any source
end_read : (look : Asked → Reader Asked) (s : Asked) (by : Oper) (minus : Bool) (x : ℕ) (rest : List Token)
    → reduced_or look s (reduction_end by minus x ++ rest) ≡ got (reduced s by minus x) rest
end_read look s by minus x rest =
    ap (λ o. onward o (λ by ts. got (reduced s by.0 by.1.0 by.1.1) ts))
    (reducing_by by minus x ((signed minus x ++ token.Mark mark.Close ∷ []) ++ rest) rest
    (ap signed_number (append_assoc (signed minus x) (token.Mark mark.Close ∷ []) rest) ∙ signed_read minus x (token.Mark mark.Close ∷ rest)))

-- a factor that begins as a source is one
abbrev IsFactorSource : List Token → Type 0
IsFactorSource ts = (rest : List Token) → (marked mark.Open (ts ++ rest) ≡ stuck) × (spelled (ts ++ rest) ≡ stuck)

name_begins : (own : List ℕ) → IsFactorSource (token.Word own ∷ [])
unfolding spelled
name_begins own rest = (refl, refl)

bracket_begins : (ts : List Token) → IsFactorSource (token.Mark mark.BracketOpen ∷ ts)
unfolding spelled
bracket_begins ts rest = (refl, refl)

abbrev IsBegun : Level → List Token → Type 0
IsBegun grammar.factors ts = Unit {0}
IsBegun grammar.terms ts = Unit {0}
IsBegun grammar.expressions ts = Unit {0}
IsBegun grammar.atoms ts = Unit {0}
IsBegun grammar.conditions ts = Unit {0}
IsBegun grammar.aggregates ts = IsFactorSource ts
IsBegun grammar.sources ts = IsFactorSource ts
IsBegun grammar.reductions ts = Unit {0}
IsBegun grammar.questions ts = Unit {0}

begins : (level : Level) (e : Asked) (ts : List Token) → Derives level e ts → IsBegun level ts
begins _ _ _ (a_literal minus n) = tt
begins _ _ _ (a_text bytes) = tt
begins _ _ _ (a_name own is) = tt
begins _ _ _ (a_group e ts d) = tt
begins _ _ _ (a_reduced_factor r ts d) = tt
begins _ _ _ (a_factor e ts d) = tt
begins _ _ _ (a_product l r ts us d f) = tt
begins _ _ _ (a_term e ts d) = tt
begins _ _ _ (a_sum l r minus ts us d f) = tt
begins _ _ _ (a_comparison l r by ts us d f) = tt
begins _ _ _ (a_negation c ts d) = tt
begins _ _ _ (an_atom c ts d) = tt
begins _ _ _ (a_conjunction l r ts us d f) = tt
begins _ _ _ (an_aggregate own it e us is also d) = bracket_begins (behind_bracket own it (given_by us))
begins _ _ _ (a_filtered own it c e ts us is also d f) = bracket_begins (behind_bracket own it (token.Word (codes "when") ∷ (ts ++ given_by us)))
begins _ _ _ (an_object own is) = name_begins own
begins _ _ _ (a_source a ts d) = begins grammar.aggregates a ts d
begins _ _ _ (a_reduction s by minus n ts d) = tt
begins _ _ _ (asks_aggregate a ts d) = tt
begins _ _ _ (asks_reduction r ts d) = tt

-- a source in an expression, and what stands behind it
through_source : (n : ℕ) (s : Asked) (ts rest : List Token) → IsFactorSource ts → read_by n source (ts ++ rest) ≡ got s rest
    → read_by (suc n) factor (ts ++ rest) ≡ reduced_or as_factor s rest
unfolding read_by
through_source n s ts rest begun is =
    ap (λ o. either o (λ _ ts. onward (read_by n expr ts) (closed mark.Close group))
    (λ ts. either (spelled ts) (λ e ts. got e ts) (λ ts. onward (read_by n source ts) (reduced_or as_factor)) ts) (ts ++ rest)) (begun rest).0
    ∙ ap (λ o. either o (λ e ts. got e ts) (λ ts. onward (read_by n source ts) (reduced_or as_factor)) (ts ++ rest)) (begun rest).1
    ∙ ap (λ o. onward o (reduced_or as_factor)) is

through_question : (n : ℕ) (s : Asked) (ts rest : List Token) → read_by n source (ts ++ rest) ≡ got s rest
    → read_by (suc n) question (ts ++ rest) ≡ reduced_or as_question s rest
unfolding read_by
through_question n s ts rest is = ap (λ o. onward o (reduced_or as_question)) is

reduction_read : (s : Asked) (by : Oper) (minus : Bool) (x : ℕ) (ts : List Token) → IsFactorSource ts → IsReadAt grammar.sources s ts
    → IsReadAt grammar.reductions (reduced s by minus x) (ts ++ reduction_end by minus x)
reduction_read s by minus x ts begun one = (as_part, as_whole) where
  as_part : (n : ℕ) (rest : List Token) → 4 * length (ts ++ reduction_end by minus x) ≤ n + 2 → read_by n factor ((ts ++ reduction_end by minus x) ++ rest) ≡ got (reduced s by minus x) rest
  as_part zero rest h = absurd (omega (arith, h, length-append ts (reduction_end by minus x)))
  as_part (suc n) rest h =
      ap (read_by (suc n) factor) (append_assoc ts (reduction_end by minus x) rest)
      ∙ through_source n s ts (reduction_end by minus x ++ rest) begun (one n (reduction_end by minus x ++ rest) (omega (arith, h, length-append ts (reduction_end by minus x))))
      ∙ end_read as_factor s by minus x rest

  as_whole : (n : ℕ) (rest : List Token) → 4 * length (ts ++ reduction_end by minus x) ≤ n + 2 → read_by n question ((ts ++ reduction_end by minus x) ++ rest) ≡ got (reduced s by minus x) rest
  as_whole zero rest h = absurd (omega (arith, h, length-append ts (reduction_end by minus x)))
  as_whole (suc n) rest h =
      ap (read_by (suc n) question) (append_assoc ts (reduction_end by minus x) rest)
      ∙ through_question n s ts (reduction_end by minus x ++ rest) (one n (reduction_end by minus x ++ rest) (omega (arith, h, length-append ts (reduction_end by minus x))))
      ∙ end_read as_question s by minus x rest

alone_read : (a : Asked) (ts : List Token) → IsReadAt grammar.aggregates a ts → (n : ℕ) → 4 * length ts ≤ n + 2 → 1 ≤ n → read_by n question ts ≡ got a []
alone_read a ts one zero h some = absurd (omega (arith, some))
alone_read a ts one (suc n) h some =
    ap (read_by (suc n) question) (sym (append-nil ts)) ∙ through_question n a ts [] (one.0 n [] (omega (arith, h))) ∙ alone as_question a [] refl ∙ one.1 []

is_read : (level : Level) (e : Asked) (ts : List Token) → Derives level e ts → IsReadAt level e ts
is_read _ _ _ (a_literal minus x) = literal_read minus x
is_read _ _ _ (a_text bytes) = text_read bytes
is_read _ _ _ (a_name own is) = name_read own is
is_read _ _ _ (a_group e ts d) = group_read e ts (is_read grammar.expressions e ts d)
is_read _ _ _ (a_reduced_factor r ts d) = λ n rest end h. (is_read grammar.reductions r ts d).0 n rest h
is_read _ _ _ (a_factor e ts d) = factor_read e ts (is_read grammar.factors e ts d)
is_read _ _ _ (a_product l r ts us d f) = product_read l r ts us (is_read grammar.terms l ts d) (is_read grammar.factors r us f)
is_read _ _ _ (a_term e ts d) = term_read e ts (is_read grammar.terms e ts d)
is_read _ _ _ (a_sum l r minus ts us d f) = sum_read l r minus ts us (is_read grammar.expressions l ts d) (is_read grammar.terms r us f)
is_read _ _ _ (a_comparison l r by ts us d f) =
    comparison_read l r by ts us (no_negation grammar.expressions l ts d) (is_read grammar.expressions l ts d) (is_read grammar.expressions r us f)
is_read _ _ _ (a_negation c ts d) = negation_read c ts (is_read grammar.conditions c ts d)
is_read _ _ _ (an_atom c ts d) = atom_read c ts (is_read grammar.atoms c ts d)
is_read _ _ _ (a_conjunction l r ts us d f) = conjunction_read l r ts us (is_read grammar.conditions l ts d) (is_read grammar.atoms r us f)
is_read _ _ _ (an_aggregate own it e us is also d) = aggregate_read own it e us is also (is_read grammar.expressions e us d)
is_read _ _ _ (a_filtered own it c e ts us is also d f) =
    when_read own it c e ts us is also (is_read grammar.conditions c ts d) (is_read grammar.expressions e us f)
is_read _ _ _ (an_object own is) = λ n rest h. object_read own is n rest (omega (arith, h))
is_read _ _ _ (a_source a ts d) = (is_read grammar.aggregates a ts d).0
is_read _ _ _ (a_reduction s by minus x ts d) = reduction_read s by minus x ts (begins grammar.sources s ts d) (is_read grammar.sources s ts d)
is_read _ _ _ (asks_aggregate a ts d) = alone_read a ts (is_read grammar.aggregates a ts d)
is_read _ _ _ (asks_reduction r ts d) =
    λ n h some. ap (read_by n question) (sym (append-nil ts)) ∙ (is_read grammar.reductions r ts d).1 n [] (omega (arith, h, length-append ts []))

-- in four steps a token
pub all_read : (q : Asked) (ts : List Token) (n : ℕ) → Derives grammar.questions q ts → 4 * length ts + 1 ≤ n → read_by n question ts ≡ got q []
all_read q ts n d h = is_read grammar.questions q ts d n (omega (arith, h)) (omega (arith, h))
