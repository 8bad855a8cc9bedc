-- What readers find at the front of their tokens.
use Rattle.std.proofs.Common.{◌≡◌, List, [], ◌∷◌, ◌++◌, Option, Some, None, refl, sym, ap, ◌∙◌, subst, append_assoc}
use Rattle.ac_syntax.specs.declared.token.Token.{Token}
use Rattle.ac_aggregate.specs.Outcomes.{Outcome, got, stuck, Reader, onward, either, seen, one}

-- what was read stands in front of the rest, and is so
pub record IsFront {A : Type 0} (P : A → List Token → Type 0) (ts : List Token) (x : A) (rest : List Token) : Type 0 where
  pub front : List Token
  pub whole : ts ≡ front ++ rest
  pub is : P x front

-- whatever the reader reads is so
pub record IsFound {A : Type 0} (P : A → List Token → Type 0) (reader : Reader A) : Type 0 where
  pub found : (ts : List Token) (x : A) (rest : List Token) → reader ts ≡ got x rest → IsFront P ts x rest

pub bound : {A B : Type 0} (P : Type 0) (o : Outcome A) (next : A → Reader B) (y : B) (rest : List Token) → onward o next ≡ got y rest
    → ((x : A) (r : List Token) → o ≡ got x r → next x r ≡ got y rest → P) → P
bound P stuck next y rest h f = absurd (cc h)
bound P (got x r) next y rest h f = f x r refl h

pub forked : {A B : Type 0} (P : Type 0) (o : Outcome A) (next : A → Reader B) (other : Reader B) (ts : List Token) (y : B) (rest : List Token)
    → either o next other ts ≡ got y rest → ((x : A) (r : List Token) → o ≡ got x r → next x r ≡ got y rest → P) → (other ts ≡ got y rest → P) → P
forked P stuck next other ts y rest h f g = g h
forked P (got x r) next other ts y rest h f g = f x r refl h

-- one front behind another
join : {A B : Type 0} (P : A → List Token → Type 0) (Q : B → List Token → Type 0) (R : B → List Token → Type 0) (ts r rest : List Token) (x : A) (y : B)
    → ((us vs : List Token) → P x us → Q y vs → R y (us ++ vs)) → IsFront P ts x r → IsFront Q r y rest → IsFront R ts y rest
join P Q R ts r rest x y put a b =
    record {
      front = a.front ++ b.front;
      whole = a.whole ∙ ap (λ us. a.front ++ us) b.whole ∙ sym (append_assoc a.front b.front rest);
      is = put a.front b.front a.is b.is;
    }

pub seq_found : {A B : Type 0} {P : A → List Token → Type 0} {Q : A → B → List Token → Type 0} {R : B → List Token → Type 0} {reader : Reader A} {next : A → Reader B}
    → IsFound P reader → ((x : A) → IsFound (Q x) (next x)) → ((x : A) (y : B) (us vs : List Token) → P x us → Q x y vs → R y (us ++ vs))
    → IsFound R (λ ts. onward (reader ts) next)
seq_found {A} {B} {P} {Q} {R} {reader} {next} first second put =
    record {
      found = λ ts y rest h. bound (IsFront R ts y rest) (reader ts) next y rest h
          (λ x r f g. join P (Q x) R ts r rest x y (put x y) (first.found ts x r f) ((second x).found r y rest g));
    }

pub fork_found : {A B : Type 0} {P : A → List Token → Type 0} {Q : A → B → List Token → Type 0} {R : B → List Token → Type 0} {front : Reader A} {next : A → Reader B} {other : Reader B}
    → IsFound P front → ((x : A) → IsFound (Q x) (next x)) → ((x : A) (y : B) (us vs : List Token) → P x us → Q x y vs → R y (us ++ vs))
    → IsFound R other → IsFound R (λ ts. either (front ts) next other ts)
fork_found {A} {B} {P} {Q} {R} {front} {next} {other} first second put instead =
    record {
      found = λ ts y rest h. forked (IsFront R ts y rest) (front ts) next other ts y rest h
          (λ x r f g. join P (Q x) R ts r rest x y (put x y) (first.found ts x r f) ((second x).found r y rest g))
          (instead.found ts y rest);
    }

pub gives_found : {A : Type 0} {P : A → List Token → Type 0} (x : A) → P x [] → IsFound P (λ ts. got x ts)
gives_found {A} {P} x is =
    record {
      found = λ ts y rest h.
          let same : x ≡ y = cc h in
          let left : ts ≡ rest = cc h in
          record { front = []; whole = left; is = subst (λ y. P y []) same is };
    }

pub nothing_found : {A : Type 0} {P : A → List Token → Type 0} → IsFound P (λ ts. stuck)
nothing_found {A} {P} = record { found = λ ts y rest h. absurd (cc h) }

seen_found : {A : Type 0} (P : A → List Token → Type 0) (look : Token → Option A) (is : (t : Token) (x : A) → look t ≡ Some x → P x (t ∷ []))
    (t : Token) (ts : List Token) (y : A) (rest : List Token) (o : Option A) → look t ≡ o → seen o ts ≡ got y rest → IsFront P (t ∷ ts) y rest
seen_found P look is t ts y rest None e h = absurd (cc h)
seen_found P look is t ts y rest (Some x) e h =
    let same : x ≡ y = cc h in
    let left : ts ≡ rest = cc h in
    record { front = t ∷ []; whole = ap (λ us. t ∷ us) left; is = subst (λ y. P y (t ∷ [])) same (is t x e) }

look_found : {A : Type 0} (P : A → List Token → Type 0) (look : Token → Option A) (is : (t : Token) (x : A) → look t ≡ Some x → P x (t ∷ []))
    (ts : List Token) (y : A) (rest : List Token) → one look ts ≡ got y rest → IsFront P ts y rest
look_found P look is [] y rest h = absurd (cc h)
look_found P look is (t ∷ ts) y rest h = seen_found P look is t ts y rest (look t) refl h

pub one_found : {A : Type 0} {P : A → List Token → Type 0} (look : Token → Option A) → ((t : Token) (x : A) → look t ≡ Some x → P x (t ∷ [])) → IsFound P (one look)
one_found {A} {P} look is = record { found = look_found P look is }
