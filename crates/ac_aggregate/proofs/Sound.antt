-- What is read is derived by the grammar.
use Rattle.std.specs.Prelude.{codes}
use Rattle.std.proofs.Common.{◌≡◌, ◌⊎◌, inl, inr, ℕ, zero, suc, Bool, true, List, [], ◌∷◌, ◌++◌, refl, sym, ap, ◌∙◌, subst, append_assoc, append-nil}
use Rattle.ac_syntax.specs.declared.token.Token.{Token}
use Rattle.ac_syntax.specs.declared.token.Token.TheVariants as token
use Rattle.ac_syntax.specs.declared.token.Mark.{Mark}
use Rattle.ac_syntax.specs.declared.token.Mark.TheVariants as mark
use Rattle.ac_aggregate.specs.declared.oper.Comparison.{Comparison}
use Rattle.ac_aggregate.specs.declared.oper.Oper.{Oper}
use Rattle.ac_aggregate.specs.Asked.{Asked, literal, text, name, group, product, sum, all_of, each, reduced, always, compares, both, negated}
use Rattle.ac_aggregate.specs.Outcomes.{got, Reader, onward}
use Rattle.ac_aggregate.specs.Readers.{reduction, as_factor, as_question, reduced_or, closed}
use Rattle.ac_aggregate.specs.Reading.{Rule, read_rule, read_by, factor, term, expr, atom, condition, filter, aggregate, source, question, factors, terms, compared, conditions, given}
use Rattle.ac_aggregate.specs.Grammar as grammar
use Rattle.ac_aggregate.specs.Grammar.{Level, Derives, is_name, comparison_mark, sign, signed, head, given_by, reduction_end, a_literal, a_text, a_name, a_group, a_reduced_factor, a_factor, a_product, a_term, a_sum, a_comparison, a_negation, an_atom, a_conjunction, an_aggregate, a_filtered, an_object, a_source, a_reduction, asks_aggregate, asks_reduction}
use Rattle.ac_aggregate.proofs.Found.{IsFound, seq_found, fork_found, gives_found, nothing_found}
use Rattle.ac_aggregate.proofs.Looks.{marked_found, word_found, signs_found, comparing_found, IsHeading, heading_found, reducing_tokens, reducing_found, spelled_found, negation_found, object_found}

recast : (level : Level) {a b : Asked} {ts us : List Token} → a ≡ b → ts ≡ us → Derives level a ts → Derives level b us
recast level {a} {b} {ts} {us} same whole d = subst (λ b. Derives level b us) same (subst (Derives level a) whole d)

-- the condition of an aggregate, where it has one
abbrev IsFilter : Asked → List Token → Type 0
IsFilter c front =
    ((c ≡ always) × (front ≡ [])) ⊎ ((ts : List Token) × Derives grammar.conditions c ts × (front ≡ token.Word (codes "when") ∷ ts))

-- what is read by a rule
abbrev pub IsOf : Rule → Asked → List Token → Type 0
IsOf factor e front = Derives grammar.factors e front
IsOf term e front = Derives grammar.terms e front
IsOf expr e front = Derives grammar.expressions e front
IsOf atom e front = Derives grammar.atoms e front
IsOf condition e front = Derives grammar.conditions e front
IsOf filter e front = IsFilter e front
IsOf aggregate e front = Derives grammar.aggregates e (token.Mark mark.BracketOpen ∷ front)
IsOf source e front = Derives grammar.sources e front
IsOf question e front = Derives grammar.questions e front
IsOf (factors l) e front = (us : List Token) → Derives grammar.terms l us → Derives grammar.terms e (us ++ front)
IsOf (terms l) e front = (us : List Token) → Derives grammar.expressions l us → Derives grammar.expressions e (us ++ front)
IsOf (compared l) e front = (us : List Token) → Derives grammar.expressions l us → Derives grammar.atoms e (us ++ front)
IsOf (conditions l) e front = (us : List Token) → Derives grammar.conditions l us → Derives grammar.conditions e (us ++ front)
IsOf (given own it c) e front =
    (us : List Token) → is_name own ≡ true → is_name it ≡ true → IsFilter c us → Derives grammar.aggregates e (head own it ++ (us ++ front))

-- what a source is, by its form
abbrev AsSource : Asked → List Token → Type 0
AsSource (literal _ _) ts = Unit {0}
AsSource (text _) ts = Unit {0}
AsSource (name _) ts = Unit {0}
AsSource (group _) ts = Unit {0}
AsSource (product _ _) ts = Unit {0}
AsSource (sum _ _ _) ts = Unit {0}
AsSource (all_of own) ts = (is_name own ≡ true) × (ts ≡ token.Word own ∷ [])
AsSource (each own it c e) ts = Derives grammar.aggregates (each own it c e) ts
AsSource (reduced _ _ _ _) ts = Unit {0}
AsSource always ts = Unit {0}
AsSource (compares _ _ _) ts = Unit {0}
AsSource (both _ _) ts = Unit {0}
AsSource (negated _) ts = Unit {0}

abbrev AsSourceAt : Level → Asked → List Token → Type 0
AsSourceAt grammar.factors e ts = Unit {0}
AsSourceAt grammar.terms e ts = Unit {0}
AsSourceAt grammar.expressions e ts = Unit {0}
AsSourceAt grammar.atoms e ts = Unit {0}
AsSourceAt grammar.conditions e ts = Unit {0}
AsSourceAt grammar.aggregates e ts = AsSource e ts
AsSourceAt grammar.sources e ts = AsSource e ts
AsSourceAt grammar.reductions e ts = Unit {0}
AsSourceAt grammar.questions e ts = Unit {0}

as_source : (level : Level) (e : Asked) (ts : List Token) → Derives level e ts → AsSourceAt level e ts
as_source _ _ _ (a_literal minus n) = tt
as_source _ _ _ (a_text bytes) = tt
as_source _ _ _ (a_name own is) = tt
as_source _ _ _ (a_group e ts d) = tt
as_source _ _ _ (a_reduced_factor r ts d) = tt
as_source _ _ _ (a_factor e ts d) = tt
as_source _ _ _ (a_product l r ts us d f) = tt
as_source _ _ _ (a_term e ts d) = tt
as_source _ _ _ (a_sum l r minus ts us d f) = tt
as_source _ _ _ (a_comparison l r by ts us d f) = tt
as_source _ _ _ (a_negation c ts d) = tt
as_source _ _ _ (an_atom c ts d) = tt
as_source _ _ _ (a_conjunction l r ts us d f) = tt
as_source _ _ _ (an_aggregate own it e us is also d) = an_aggregate own it e us is also d
as_source _ _ _ (a_filtered own it c e ts us is also d f) = a_filtered own it c e ts us is also d f
as_source _ _ _ (an_object own is) = (is, refl)
as_source _ _ _ (a_source a ts d) = as_source grammar.aggregates a ts d
as_source _ _ _ (a_reduction s by minus n ts d) = tt
as_source _ _ _ (asks_aggregate a ts d) = tt
as_source _ _ _ (asks_reduction r ts d) = tt

-- what a source alone is to a level
abbrev IsAlone : Level → Asked → Asked → List Token → Type 0
IsAlone level s e front = (us : List Token) → Derives grammar.sources s us → Derives level e (us ++ front)

a_factor_alone : (own : List ℕ) → IsAlone grammar.factors (all_of own) (name own) []
a_factor_alone own us d =
    let is = as_source grammar.sources (all_of own) us d in
    recast grammar.factors refl (sym (is.1) ∙ sym (append-nil us)) (a_name own is.0)

a_question_alone : (own it : List ℕ) (c e : Asked) → IsAlone grammar.questions (each own it c e) (each own it c e) []
a_question_alone own it c e us d =
    recast grammar.questions refl (sym (append-nil us)) (asks_aggregate (each own it c e) us (as_source grammar.sources (each own it c e) us d))

as_factor_found : (s : Asked) → IsFound (IsAlone grammar.factors s) (as_factor s)
as_factor_found (literal _ _) = nothing_found
as_factor_found (text _) = nothing_found
as_factor_found (name _) = nothing_found
as_factor_found (group _) = nothing_found
as_factor_found (product _ _) = nothing_found
as_factor_found (sum _ _ _) = nothing_found
as_factor_found (all_of own) = gives_found {P = IsAlone grammar.factors (all_of own)} (name own) (a_factor_alone own)
as_factor_found (each _ _ _ _) = nothing_found
as_factor_found (reduced _ _ _ _) = nothing_found
as_factor_found always = nothing_found
as_factor_found (compares _ _ _) = nothing_found
as_factor_found (both _ _) = nothing_found
as_factor_found (negated _) = nothing_found

as_question_found : (s : Asked) → IsFound (IsAlone grammar.questions s) (as_question s)
as_question_found (literal _ _) = nothing_found
as_question_found (text _) = nothing_found
as_question_found (name _) = nothing_found
as_question_found (group _) = nothing_found
as_question_found (product _ _) = nothing_found
as_question_found (sum _ _ _) = nothing_found
as_question_found (all_of _) = nothing_found
as_question_found (each own it c e) = gives_found {P = IsAlone grammar.questions (each own it c e)} (each own it c e) (a_question_alone own it c e)
as_question_found (reduced _ _ _ _) = nothing_found
as_question_found always = nothing_found
as_question_found (compares _ _ _) = nothing_found
as_question_found (both _ _) = nothing_found
as_question_found (negated _) = nothing_found

-- a reduction of a source, behind its tick
record IsReduced (s : Asked) (y : Asked) (front : List Token) : Type 0 where
  pub how : Oper × (Bool × ℕ)
  pub value : y ≡ reduced s how.0 how.1.0 how.1.1
  pub tail : front ≡ reducing_tokens how

reduction_found : (s : Asked) → IsFound (IsReduced s) (reduction s)
reduction_found s = seq_found reducing_found
    (λ how. gives_found {P = λ y front. (y ≡ reduced s how.0 how.1.0 how.1.1) × (front ≡ [])} (reduced s how.0 how.1.0 how.1.1) (refl, refl))
    (λ how y us vs a b. record { how = how; value = b.0; tail = ap (λ vs. us ++ vs) b.1 ∙ append-nil us ∙ a })

-- at either level that a reduction is of
reduced_put : (level : Level) → ((r : Asked) (ts : List Token) → Derives grammar.reductions r ts → Derives level r ts)
    → (s y : Asked) (us vs : List Token) → us ≡ token.Mark mark.Tick ∷ [] → IsReduced s y vs → IsAlone level s y (us ++ vs)
reduced_put level raised s y us vs a b ts d =
    let made = raised _ _ (a_reduction s b.how.0 b.how.1.0 b.how.1.1 ts d) in
    recast level (sym b.value) (ap (λ vs. ts ++ vs) (sym (ap (λ us. us ++ vs) a ∙ ap (λ vs. token.Mark mark.Tick ∷ vs) b.tail))) made

reduced_factor_found : (s : Asked) → IsFound (IsAlone grammar.factors s) (reduced_or as_factor s)
reduced_factor_found s =
    fork_found (marked_found mark.Tick) (λ _. reduction_found s) (λ x y us vs a b. reduced_put grammar.factors a_reduced_factor s y us vs a b) (as_factor_found s)

reduced_question_found : (s : Asked) → IsFound (IsAlone grammar.questions s) (reduced_or as_question s)
reduced_question_found s =
    fork_found (marked_found mark.Tick) (λ _. reduction_found s) (λ x y us vs a b. reduced_put grammar.questions asks_reduction s y us vs a b) (as_question_found s)

-- a part and the mark that closes it
record IsClosed (P : Asked → List Token → Type 0) (m : Mark) (make : Asked → Asked) (y : Asked) (front : List Token) : Type 0 where
  pub part : Asked
  pub inside : List Token
  pub is : P part inside
  pub value : y ≡ make part
  pub closed_so : front ≡ inside ++ token.Mark m ∷ []

closed_found : (m : Mark) (make : Asked → Asked) (e : Asked) → IsFound (λ y front. (y ≡ make e) × (front ≡ token.Mark m ∷ [])) (closed m make e)
closed_found m make e = seq_found (marked_found m)
    (λ _. gives_found {P = λ y front. (y ≡ make e) × (front ≡ [])} (make e) (refl, refl))
    (λ x y us vs a b. (b.0, ap (λ vs. us ++ vs) b.1 ∙ append-nil us ∙ a))

-- a list of tokens behind one that is known
behind_one : (t : Token) (us vs ws : List Token) → us ≡ t ∷ [] → vs ≡ ws → t ∷ ws ≡ us ++ vs
behind_one t us vs ws a b = sym (ap (λ us. us ++ vs) a ∙ ap (λ vs. t ∷ vs) b)

module _ (by : Rule → Reader Asked) (sound : (rule : Rule) → IsFound (IsOf rule) (by rule)) where
  within_found : (rule : Rule) (m : Mark) (make : Asked → Asked) → IsFound (IsClosed (IsOf rule) m make) (λ ts. onward (by rule ts) (closed m make))
  within_found rule m make = seq_found (sound rule) (closed_found m make)
      (λ x y us vs a b. record { part = x; inside = us; is = a; value = b.0; closed_so = ap (λ vs. us ++ vs) b.1 })

  group_put : (y : Asked) (us vs : List Token) → us ≡ token.Mark mark.Open ∷ [] → IsClosed (IsOf expr) mark.Close group y vs → Derives grammar.factors y (us ++ vs)
  group_put y us vs a b = recast grammar.factors (sym b.value) (behind_one (token.Mark mark.Open) us vs _ a b.closed_so) (a_group b.part b.inside b.is)

  factor_found : IsFound (IsOf factor) (read_rule by factor)
  factor_found =
      fork_found (marked_found mark.Open) (λ _. within_found expr mark.Close group) (λ x y us vs a b. group_put y us vs a b)
      (fork_found spelled_found (λ e. gives_found {P = λ y front. (y ≡ e) × (front ≡ [])} e (refl, refl))
      (λ x y us vs a b. recast grammar.factors (sym b.0) (sym (ap (λ vs. us ++ vs) b.1 ∙ append-nil us)) a)
      (seq_found (sound source) reduced_factor_found (λ s y us vs a b. b us a)))

  negation_put : (y : Asked) (us vs : List Token) → us ≡ token.Word (codes "not") ∷ token.Mark mark.Open ∷ [] → IsClosed (IsOf condition) mark.Close negated y vs
      → Derives grammar.atoms y (us ++ vs)
  negation_put y us vs a b =
      recast grammar.atoms (sym b.value)
      (sym (ap (λ us. us ++ vs) a ∙ ap (λ vs. token.Word (codes "not") ∷ token.Mark mark.Open ∷ vs) b.closed_so))
      (a_negation b.part b.inside b.is)

  atom_found : IsFound (IsOf atom) (read_rule by atom)
  atom_found =
      fork_found negation_found (λ _. within_found condition mark.Close negated) (λ x y us vs a b. negation_put y us vs a b)
      (seq_found (sound expr) (λ l. sound (compared l)) (λ x y us vs a b. b us a))

  -- an operand behind what stands on its left
  star_put : (l r y : Asked) (us vs : List Token) → Derives grammar.factors r us → IsOf (factors (product l r)) y vs → (ws : List Token)
      → ws ≡ token.Mark mark.Star ∷ [] → IsOf (factors l) y (ws ++ (us ++ vs))
  star_put l r y us vs a b ws is front d =
      recast grammar.terms refl (append_assoc front (token.Mark mark.Star ∷ us) vs ∙ ap (λ ts. front ++ ts) (behind_one (token.Mark mark.Star) ws (us ++ vs) (us ++ vs) is refl))
      (b (front ++ token.Mark mark.Star ∷ us) (a_product l r front us d a))

  factors_found : (l : Asked) → IsFound (IsOf (factors l)) (read_rule by (factors l))
  factors_found l =
      fork_found {Q = λ _ y vs. (ws : List Token) → ws ≡ token.Mark mark.Star ∷ [] → IsOf (factors l) y (ws ++ vs)} (marked_found mark.Star)
      (λ _. seq_found (sound factor) (λ r. sound (factors (product l r))) (λ r y us vs a b. star_put l r y us vs a b))
      (λ x y us vs a b. b us a)
      (gives_found {P = IsOf (factors l)} l (λ us d. recast grammar.terms refl (sym (append-nil us)) d))

  sign_put : (minus : Bool) (l r y : Asked) (us vs : List Token) → Derives grammar.terms r us → IsOf (terms (sum l minus r)) y vs → (ws : List Token)
      → ws ≡ token.Mark (sign minus) ∷ [] → IsOf (terms l) y (ws ++ (us ++ vs))
  sign_put minus l r y us vs a b ws is front d =
      recast grammar.expressions refl
      (append_assoc front (token.Mark (sign minus) ∷ us) vs ∙ ap (λ ts. front ++ ts) (behind_one (token.Mark (sign minus)) ws (us ++ vs) (us ++ vs) is refl))
      (b (front ++ token.Mark (sign minus) ∷ us) (a_sum l r minus front us d a))

  terms_found : (l : Asked) → IsFound (IsOf (terms l)) (read_rule by (terms l))
  terms_found l =
      fork_found {Q = λ minus y vs. (ws : List Token) → ws ≡ token.Mark (sign minus) ∷ [] → IsOf (terms l) y (ws ++ vs)} signs_found
      (λ minus. seq_found (sound term) (λ r. sound (terms (sum l minus r))) (λ r y us vs a b. sign_put minus l r y us vs a b))
      (λ x y us vs a b. b us a)
      (gives_found {P = IsOf (terms l)} l (λ us d. recast grammar.expressions refl (sym (append-nil us)) d))

  and_put : (l r y : Asked) (us vs : List Token) → Derives grammar.atoms r us → IsOf (conditions (both l r)) y vs → (ws : List Token)
      → ws ≡ token.Word (codes "and") ∷ [] → IsOf (conditions l) y (ws ++ (us ++ vs))
  and_put l r y us vs a b ws is front d =
      recast grammar.conditions refl
      (append_assoc front (token.Word (codes "and") ∷ us) vs ∙ ap (λ ts. front ++ ts) (behind_one (token.Word (codes "and")) ws (us ++ vs) (us ++ vs) is refl))
      (b (front ++ token.Word (codes "and") ∷ us) (a_conjunction l r front us d a))

  conditions_found : (l : Asked) → IsFound (IsOf (conditions l)) (read_rule by (conditions l))
  conditions_found l =
      fork_found {Q = λ _ y vs. (ws : List Token) → ws ≡ token.Word (codes "and") ∷ [] → IsOf (conditions l) y (ws ++ vs)} (word_found (codes "and"))
      (λ _. seq_found (sound atom) (λ r. sound (conditions (both l r))) (λ r y us vs a b. and_put l r y us vs a b))
      (λ x y us vs a b. b us a)
      (gives_found {P = IsOf (conditions l)} l (λ us d. recast grammar.conditions refl (sym (append-nil us)) d))

  compared_put : (l : Asked) (op : Comparison) (y : Asked) (us vs : List Token) → us ≡ token.Mark (comparison_mark op) ∷ []
      → ((r : Asked) × (ts : List Token) × Derives grammar.expressions r ts × (y ≡ compares l op r) × (vs ≡ ts)) → IsOf (compared l) y (us ++ vs)
  compared_put l op y us vs a b front d =
      recast grammar.atoms (sym b.3) (ap (λ ts. front ++ ts) (behind_one (token.Mark (comparison_mark op)) us vs b.1 a b.4)) (a_comparison l b.0 op front b.1 d b.2)

  compared_found : (l : Asked) → IsFound (IsOf (compared l)) (read_rule by (compared l))
  compared_found l =
      seq_found {Q = λ op y vs. (r : Asked) × (ts : List Token) × Derives grammar.expressions r ts × (y ≡ compares l op r) × (vs ≡ ts)} comparing_found
      (λ op. seq_found (sound expr) (λ r. gives_found {P = λ y front. (y ≡ compares l op r) × (front ≡ [])} (compares l op r) (refl, refl))
      (λ r y us vs a b. (r, us, a, b.0, ap (λ vs. us ++ vs) b.1 ∙ append-nil us)))
      (λ op y us vs a b. compared_put l op y us vs a b)

  filter_found : IsFound (IsOf filter) (read_rule by filter)
  filter_found =
      fork_found (word_found (codes "when")) (λ _. sound condition)
      (λ x y us vs a b. inr (vs, b, ap (λ us. us ++ vs) a))
      (gives_found {P = IsFilter} always (inl (refl, refl)))

  -- an aggregate's end, behind its condition
  given_put : (own it : List ℕ) (c y : Asked) (us vs : List Token) → us ≡ token.Mark mark.Arrow ∷ [] → IsClosed (IsOf expr) mark.BracketClose (each own it c) y vs
      → (front : List Token) → is_name own ≡ true → is_name it ≡ true → IsFilter c front → Derives grammar.aggregates y (head own it ++ (front ++ (us ++ vs)))
  given_put own it c y us vs a b front is also (inl f) =
      recast grammar.aggregates (ap (λ c. each own it c b.part) (sym f.0) ∙ sym b.value)
      (ap (λ ts. head own it ++ ts) (behind_one (token.Mark mark.Arrow) us vs _ a b.closed_so ∙ ap (λ ts. ts ++ (us ++ vs)) (sym f.1)))
      (an_aggregate own it b.part b.inside is also b.is)
  given_put own it c y us vs a b front is also (inr f) =
      recast grammar.aggregates (sym b.value)
      (ap (λ ts. head own it ++ token.Word (codes "when") ∷ (f.0 ++ ts)) (behind_one (token.Mark mark.Arrow) us vs _ a b.closed_so)
      ∙ ap (λ ts. head own it ++ (ts ++ (us ++ vs))) (sym f.2))
      (a_filtered own it c b.part f.0 b.inside is also f.1 b.is)

  given_found : (own it : List ℕ) (c : Asked) → IsFound (IsOf (given own it c)) (read_rule by (given own it c))
  given_found own it c =
      seq_found (marked_found mark.Arrow) (λ _. within_found expr mark.BracketClose (each own it c))
      (λ x y us vs a b front is also f. given_put own it c y us vs a b front is also f)

  aggregate_put : (h : List ℕ × List ℕ) (c y : Asked) (us vs ws : List Token) → IsHeading h us → IsFilter c vs → IsOf (given h.0 h.1 c) y ws
      → Derives grammar.aggregates y (token.Mark mark.BracketOpen ∷ (us ++ (vs ++ ws)))
  aggregate_put h c y us vs ws a b d =
      recast grammar.aggregates refl (ap (λ us. token.Mark mark.BracketOpen ∷ (us ++ (vs ++ ws))) (sym a.spelled_so)) (d vs a.own a.it b)

  aggregate_found : IsFound (IsOf aggregate) (read_rule by aggregate)
  aggregate_found =
      seq_found {Q = λ h y vs. (us : List Token) → IsHeading h us → Derives grammar.aggregates y (token.Mark mark.BracketOpen ∷ (us ++ vs))} heading_found
      (λ h. seq_found (sound filter) (λ c. sound (given h.0 h.1 c)) (λ c y vs ws b d us a. aggregate_put h c y us vs ws a b d))
      (λ h y us vs a b. b us a)

  source_found : IsFound (IsOf source) (read_rule by source)
  source_found =
      fork_found (marked_found mark.BracketOpen) (λ _. sound aggregate)
      (λ x y us vs a b. recast grammar.sources refl (behind_one (token.Mark mark.BracketOpen) us vs vs a refl) (a_source y (token.Mark mark.BracketOpen ∷ vs) b))
      object_found

  rule_found : (rule : Rule) → IsFound (IsOf rule) (read_rule by rule)
  rule_found factor = factor_found
  rule_found term = seq_found (sound factor) (λ e. sound (factors e)) (λ x y us vs a b. b us (a_factor x us a))
  rule_found expr = seq_found (sound term) (λ e. sound (terms e)) (λ x y us vs a b. b us (a_term x us a))
  rule_found atom = atom_found
  rule_found condition = seq_found (sound atom) (λ c. sound (conditions c)) (λ x y us vs a b. b us (an_atom x us a))
  rule_found filter = filter_found
  rule_found aggregate = aggregate_found
  rule_found source = source_found
  rule_found question = seq_found (sound source) reduced_question_found (λ s y us vs a b. b us a)
  rule_found (factors l) = factors_found l
  rule_found (terms l) = terms_found l
  rule_found (compared l) = compared_found l
  rule_found (conditions l) = conditions_found l
  rule_found (given own it c) = given_found own it c

pub read_found : (n : ℕ) (rule : Rule) → IsFound (IsOf rule) (read_by n rule)
unfolding read_by
read_found zero rule = nothing_found
read_found (suc n) rule = rule_found (read_by n) (read_found n) rule

-- a whole token list that was read is a question
pub whole_sound : (n : ℕ) (q : Asked) (ts : List Token) → read_by n question ts ≡ got q [] → Derives grammar.questions q ts
whole_sound n q ts h =
    let a = (read_found n question).found ts q [] h in
    recast grammar.questions refl (sym (a.whole ∙ append-nil a.front)) a.is
