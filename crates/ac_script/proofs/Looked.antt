-- What the looks at one token see.
use Rattle.std.proofs.Common.{◌≡◌, ℕ, Bool, true, false, List, [], ◌∷◌, ◌++◌, refl, sym, ap, ◌∙◌, Option, Some, None, codes, rules, if◌then◌else◌}
use Rattle.std.specs.Str.{bytes_eq}
use Rattle.std.proofs.lemmas.Bool.{false_from_ne_true}
use Rattle.std.proofs.lemmas.Option.{none-some, same_Some}
use Rattle.std.proofs.lemmas.Slice.Eq.{bytes_eq-Decides}
use denote.Enum.Bare.{same_true, true_same, sameb}
use Rattle.ac_syntax.specs.contracts.token.Keyword as keyword_type
use Rattle.ac_syntax.specs.contracts.token.Mark.{the_type}
use Rattle.ac_syntax.specs.declared.token.Token.{Token}
use Rattle.ac_syntax.specs.declared.token.Token.TheVariants.{Word, Number, Text}
use Rattle.ac_syntax.specs.declared.token.Token.TheVariants as token
use Rattle.ac_syntax.specs.declared.token.Keyword.{Keyword}
use Rattle.ac_syntax.specs.declared.token.Mark.{Mark}
use Rattle.ac_syntax.specs.declared.token.Placed.{Placed}
use Rattle.ac_syntax.specs.Tokens.{tokens}
use Rattle.ac_syntax.specs.Parts.{Part, says, keywords, marks, names, counts}
use Rattle.ac_syntax.specs.Grammar.{reserved, is_reserved, IsPart}
use Rattle.ac_script.specs.Readers.{as_word, as_word_of, as_keyword, as_keyword_of, as_mark, as_name, as_number}
use Rattle.ac_script.proofs.Spelled.{Spelled}
use Rattle.ac_script.proofs.Forks.{Looks, Starts}

pub if_cases : {A : Type 0} (P : Type 0) (b : Bool) (x y z : A) → (if b then x else y) ≡ z → (b ≡ true → x ≡ z → P) → (b ≡ false → y ≡ z → P) → P
if_cases P true x y z e f g = f refl e
if_cases P false x y z e f g = g refl e

pub same_bytes : (v w : List ℕ) → bytes_eq v w ≡ true → v ≡ w
same_bytes v w h = (bytes_eq-Decides v w).0 h

pub bytes_same : (w : List ℕ) → bytes_eq w w ≡ true
bytes_same w = (bytes_eq-Decides w w).1 refl

word_found : (w : List ℕ) (t : Token) (x : Unit {0}) → as_word w t ≡ Some x → (i : Unit {0}) × (x ≡ i) × (t ∷ [] ≡ Word w ∷ [])
word_found w (Word v) x e =
    if_cases ((i : Unit {0}) × (x ≡ i) × (Word v ∷ [] ≡ Word w ∷ [])) (bytes_eq v w) _ _ _ e
    (λ h f. (x, refl, ap (λ (v : List ℕ). Word v ∷ []) (same_bytes v w h)))
    (λ h f. absurd (none-some x f))
word_found w (token.Keyword _) x e = absurd (none-some x e)
word_found w (Number _) x e = absurd (none-some x e)
word_found w (Text _) x e = absurd (none-some x e)
word_found w (token.Mark _) x e = absurd (none-some x e)

pub word_looks : (w : List ℕ) → Looks (λ (i : Unit {0}). i) (λ _. says w) (as_word w)
word_looks w = record {
  found = word_found w;
  only = λ i spelled h. record { token = Word w; alone = h; looked = rw bytes_same refl };
  sample = (Word w, tt, rw bytes_same refl);
}

keyword_found : (k : Keyword) (t : Token) (x : Unit {0}) → as_keyword k t ≡ Some x → (i : Unit {0}) × (x ≡ i) × (t ∷ [] ≡ token.Keyword k ∷ [])
keyword_found k (Word _) x e = absurd (none-some x e)
keyword_found k (token.Keyword n) x e =
    if_cases ((i : Unit {0}) × (x ≡ i) × (token.Keyword n ∷ [] ≡ token.Keyword k ∷ [])) (sameb keyword_type.the_type n k) _ _ _ e
    (λ h f. (x, refl, ap (λ (n : Keyword). token.Keyword n ∷ []) (same_true keyword_type.the_type (search rules) n k h)))
    (λ h f. absurd (none-some x f))
keyword_found k (Number _) x e = absurd (none-some x e)
keyword_found k (Text _) x e = absurd (none-some x e)
keyword_found k (token.Mark _) x e = absurd (none-some x e)

pub keyword_looks : (k : Keyword) → Looks (λ (i : Unit {0}). i) (λ _. keywords k) (as_keyword k)
keyword_looks k = record {
  found = keyword_found k;
  only = λ i spelled h. record { token = token.Keyword k; alone = h; looked = rw (true_same keyword_type.the_type k k refl) refl };
  sample = (token.Keyword k, tt, rw (true_same keyword_type.the_type k k refl) refl);
}

mark_found : (m : Mark) (t : Token) (x : Unit {0}) → as_mark m t ≡ Some x → (i : Unit {0}) × (x ≡ i) × (t ∷ [] ≡ token.Mark m ∷ [])
mark_found m (Word _) x e = absurd (none-some x e)
mark_found m (token.Keyword _) x e = absurd (none-some x e)
mark_found m (Number _) x e = absurd (none-some x e)
mark_found m (Text _) x e = absurd (none-some x e)
mark_found m (token.Mark n) x e =
    if_cases ((i : Unit {0}) × (x ≡ i) × (token.Mark n ∷ [] ≡ token.Mark m ∷ [])) (sameb the_type n m) _ _ _ e
    (λ h f. (x, refl, ap (λ (n : Mark). token.Mark n ∷ []) (same_true the_type (search rules) n m h)))
    (λ h f. absurd (none-some x f))

pub mark_looks : (m : Mark) → Looks (λ (i : Unit {0}). i) (λ _. marks m) (as_mark m)
mark_looks m = record {
  found = mark_found m;
  only = λ i spelled h. record { token = token.Mark m; alone = h; looked = rw (true_same the_type m m refl) refl };
  sample = (token.Mark m, tt, rw (true_same the_type m m refl) refl);
}

name_found : (t : Token) (x : List ℕ) → as_name t ≡ Some x → (i : List ℕ) × (x ≡ i) × IsPart (names i) (t ∷ [])
name_found (Word v) x e =
    if_cases ((i : List ℕ) × (x ≡ i) × IsPart (names i) (Word v ∷ [])) (is_reserved v) _ _ _ e
    (λ h f. absurd (none-some x f))
    (λ h f. (v, sym (same_Some v x f), (h, refl)))
name_found (token.Keyword _) x e = absurd (none-some x e)
name_found (Number _) x e = absurd (none-some x e)
name_found (Text _) x e = absurd (none-some x e)
name_found (token.Mark _) x e = absurd (none-some x e)

free_name : is_reserved (codes "x") ≡ false
unfolding reserved is_reserved
free_name = refl

pub name_looks : Looks (λ (i : List ℕ). i) names as_name
name_looks = record {
  found = name_found;
  only = λ i spelled h. record { token = Word i; alone = h.1; looked = rw h.0 refl };
  sample = (Word (codes "x"), codes "x", rw free_name refl);
}

number_found : (t : Token) (x : ℕ) → as_number t ≡ Some x → (i : ℕ) × (x ≡ i) × (t ∷ [] ≡ Number i ∷ [])
number_found (Word _) x e = absurd (none-some x e)
number_found (token.Keyword _) x e = absurd (none-some x e)
number_found (Number n) x e = (n, sym (same_Some n x e), refl)
number_found (Text _) x e = absurd (none-some x e)
number_found (token.Mark _) x e = absurd (none-some x e)

pub number_looks : Looks (λ (i : ℕ). i) counts as_number
number_looks = record {
  found = number_found;
  only = λ i spelled h. record { token = Number i; alone = h; looked = refl };
  sample = (Number 0, 0, refl);
}

-- one step of a search for a word
pub pick_step : {A : Type 0} (P : Type 0) (v w : List ℕ) (x y : A) (o : Option A) → (if bytes_eq v w then Some x else o) ≡ Some y → (v ≡ w → x ≡ y → P) → (o ≡ Some y → P) → P
pick_step P v w x y o e f g =
    if_cases P (bytes_eq v w) _ _ _ e
    (λ h q. f (same_bytes v w h) (same_Some x y q))
    (λ h q. g q)

module _ {A : Type 0} {pick : List ℕ → Option A} {spell : A → List ℕ} (picked : (w : List ℕ) (a : A) → pick w ≡ Some a → w ≡ spell a) (again : (a : A) → pick (spell a) ≡ Some a) (a : A) where
  pick_found : (t : Token) (x : A) → as_word_of pick t ≡ Some x → (i : A) × (x ≡ i) × (t ∷ [] ≡ Word (spell i) ∷ [])
  pick_found (Word v) x e = (x, refl, ap (λ (v : List ℕ). Word v ∷ []) (picked v x e))
  pick_found (token.Keyword _) x e = absurd (none-some x e)
  pick_found (Number _) x e = absurd (none-some x e)
  pick_found (Text _) x e = absurd (none-some x e)
  pick_found (token.Mark _) x e = absurd (none-some x e)

  pub pick_looks : Looks (λ (i : A). i) (λ i. says (spell i)) (as_word_of pick)
  pick_looks = record {
    found = pick_found;
    only = λ i spelled h. record { token = Word (spell i); alone = h; looked = again i };
    sample = (Word (spell a), a, again a);
  }

module _ {A : Type 0} {pick : Keyword → Option A} {spell : A → Keyword} (picked : (k : Keyword) (a : A) → pick k ≡ Some a → k ≡ spell a) (again : (a : A) → pick (spell a) ≡ Some a) (a : A) where
  keyword_pick_found : (t : Token) (x : A) → as_keyword_of pick t ≡ Some x → (i : A) × (x ≡ i) × (t ∷ [] ≡ token.Keyword (spell i) ∷ [])
  keyword_pick_found (Word _) x e = absurd (none-some x e)
  keyword_pick_found (token.Keyword k) x e = (x, refl, ap (λ (k : Keyword). token.Keyword k ∷ []) (picked k x e))
  keyword_pick_found (Number _) x e = absurd (none-some x e)
  keyword_pick_found (Text _) x e = absurd (none-some x e)
  keyword_pick_found (token.Mark _) x e = absurd (none-some x e)

  pub keyword_pick_looks : Looks (λ (i : A). i) (λ i. keywords (spell i)) (as_keyword_of pick)
  keyword_pick_looks = record {
    found = keyword_pick_found;
    only = λ i spelled h. record { token = token.Keyword (spell i); alone = h; looked = again i };
    sample = (token.Keyword (spell a), a, again a);
  }

-- tokens whose first part isn't seen by a look
apart_by : {X : Type 0} (look : Token → Option X) (part : Part) (ps : List Part) (placed : List Placed) (t : Token) → look t ≡ None
    → (h : Spelled (part ∷ ps) placed) → h.spelled.0 ≡ t ∷ [] → Starts look None placed
apart_by look part ps [] t none h is =
    let all : [] ≡ t ∷ h.spelled.1 = h.spelled.2 ∙ ap (λ x. x ++ h.spelled.1) is in
    absurd (cc all)
apart_by look part ps (p ∷ placed) t none h is =
    let all : p.token ∷ tokens placed ≡ t ∷ h.spelled.1 = h.spelled.2 ∙ ap (λ x. x ++ h.spelled.1) is in
    let same : p.token ≡ t = cc all in
    record { first = p; others = placed; whole = refl; looked = ap look same ∙ none }

pub word_apart : {X : Type 0} (look : Token → Option X) (w : List ℕ) (ps : List Part) → look (Word w) ≡ None → (placed : List Placed) → Spelled (says w ∷ ps) placed → Starts look None placed
word_apart look w ps none placed h = apart_by look (says w) ps placed (Word w) none h h.spelled.3

pub keyword_apart : {X : Type 0} (look : Token → Option X) (k : Keyword) (ps : List Part) → look (token.Keyword k) ≡ None → (placed : List Placed) → Spelled (keywords k ∷ ps) placed → Starts look None placed
keyword_apart look k ps none placed h = apart_by look (keywords k) ps placed (token.Keyword k) none h h.spelled.3

pub mark_apart : {X : Type 0} (look : Token → Option X) (m : Mark) (ps : List Part) → look (token.Mark m) ≡ None → (placed : List Placed) → Spelled (marks m ∷ ps) placed → Starts look None placed
mark_apart look m ps none placed h = apart_by look (marks m) ps placed (token.Mark m) none h h.spelled.3

pub name_apart : {X : Type 0} (look : Token → Option X) (v : List ℕ) (ps : List Part) → (is_reserved v ≡ false → look (Word v) ≡ None) → (placed : List Placed) → Spelled (names v ∷ ps) placed → Starts look None placed
name_apart look v ps none placed h = apart_by look (names v) ps placed (Word v) (none h.spelled.3.0) h h.spelled.3.1

-- an identifier isn't a reserved word
pub free_apart : (v w : List ℕ) → is_reserved w ≡ true → is_reserved v ≡ false → bytes_eq v w ≡ false
free_apart v w h free = false_from_ne_true (bytes_eq v w) (λ same. absurd (cc (ap is_reserved (same_bytes v w same), h, free)))

pub free_word : (v w : List ℕ) → is_reserved w ≡ true → is_reserved v ≡ false → as_word w (Word v) ≡ None
free_word v w h free = rw (free_apart v w h free) refl
