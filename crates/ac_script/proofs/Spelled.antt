-- Which tokens spell which parts, one list behind another.
use Rattle.std.proofs.Common.{◌≡◌, List, [], ◌∷◌, ◌++◌, refl, sym, ap, subst, ◌∙◌, append_assoc}
use Rattle.ac_syntax.specs.declared.token.Token.{Token}
use Rattle.ac_syntax.specs.declared.token.Placed.{Placed}
use Rattle.ac_syntax.specs.Tokens.{tokens}
use Rattle.ac_syntax.specs.Parts.{Part}
use Rattle.ac_syntax.specs.Grammar.{IsPart, AreParts}

-- these tokens are these parts
pub record Spelled (parts : List Part) (placed : List Placed) : Type 0 where
  pub spelled : AreParts parts (tokens placed)

pub tokens-append : (xs ys : List Placed) → tokens (xs ++ ys) ≡ tokens xs ++ tokens ys
tokens-append [] ys = refl
tokens-append (x ∷ xs) ys = ap (λ ts. x.token ∷ ts) (tokens-append xs ys)

-- a list in two parts
pub record Cut {A : Type 0} (P Q : List A → Type 0) (all : List A) : Type 0 where
  pub front : List A
  pub rest : List A
  pub whole : all ≡ front ++ rest
  pub first : P front
  pub second : Q rest

cut_more : (p : Placed) (ps : List Placed) (t : Token) (f r : List Token) → p.token ≡ t → Cut (λ front. tokens front ≡ f) (λ rest. tokens rest ≡ r) ps
    → Cut (λ front. tokens front ≡ t ∷ f) (λ rest. tokens rest ≡ r) (p ∷ ps)
cut_more p ps t f r is cut = record {
  front = p ∷ cut.front;
  rest = cut.rest;
  whole = ap (λ list. p ∷ list) cut.whole;
  first = rw (is, cut.first) refl;
  second = cut.second;
}

tokens_cut : (placed : List Placed) (f r : List Token) → tokens placed ≡ f ++ r → Cut (λ front. tokens front ≡ f) (λ rest. tokens rest ≡ r) placed
tokens_cut placed [] r e = record { front = []; rest = placed; whole = refl; first = refl; second = e }
tokens_cut [] (t ∷ f) r e = absurd (cc e)
tokens_cut (p ∷ ps) (t ∷ f) r e = cut_more p ps t f r (cc e) (tokens_cut ps f r (cc e))

parts_behind : (ps qs : List Part) (s t : List Token) → AreParts ps s → AreParts qs t → AreParts (ps ++ qs) (s ++ t)
parts_behind [] qs s t none h = rw none h
parts_behind (part ∷ ps) qs s t (front, rest, whole, is, others) h =
    (front, rest ++ t, ap (λ x. x ++ t) whole ∙ append_assoc front rest t, is, parts_behind ps qs rest t others h)

parts_cut : (ps qs : List Part) (s : List Token) → AreParts (ps ++ qs) s → Cut (AreParts ps) (AreParts qs) s
parts_cut [] qs s h = record { front = []; rest = s; whole = refl; first = refl; second = h }
parts_cut (part ∷ ps) qs s (front, rest, whole, is, others) =
    let cut = parts_cut ps qs rest others in
    record {
      front = front ++ cut.front;
      rest = cut.rest;
      whole = whole ∙ ap (λ x. front ++ x) cut.whole ∙ sym (append_assoc front cut.front cut.rest);
      first = (front, cut.front, refl, is, cut.first);
      second = cut.second;
    }

pub spelled_behind : (ps qs : List Part) (a b : List Placed) → Spelled ps a → Spelled qs b → Spelled (ps ++ qs) (a ++ b)
spelled_behind ps qs a b h k = record { spelled = subst (AreParts (ps ++ qs)) (sym (tokens-append a b)) (parts_behind ps qs (tokens a) (tokens b) h.spelled k.spelled) }

pub spelled_cut : (ps qs : List Part) (all : List Placed) → Spelled (ps ++ qs) all → Cut (Spelled ps) (Spelled qs) all
spelled_cut ps qs all h =
    let cut = parts_cut ps qs (tokens all) h.spelled in
    let placed = tokens_cut all cut.front cut.rest cut.whole in
    record {
      front = placed.front;
      rest = placed.rest;
      whole = placed.whole;
      first = record { spelled = subst (AreParts ps) (sym placed.first) cut.first };
      second = record { spelled = subst (AreParts qs) (sym placed.second) cut.second };
    }

pub none_spelled : (placed : List Placed) → Spelled [] placed → placed ≡ []
none_spelled [] h = refl
none_spelled (p ∷ placed) h = absurd (cc h.spelled)

-- a part of one token, and what stands behind it
pub first_spelled : (part : Part) (ps : List Part) (t : Token) (p : Placed) (rest : List Placed) → IsPart part (t ∷ []) → p.token ≡ t → Spelled ps rest → Spelled (part ∷ ps) (p ∷ rest)
first_spelled part ps t p rest is same h = record { spelled = (t ∷ [], tokens rest, ap (λ x. x ∷ tokens rest) same, is, h.spelled) }

-- two ways to cut a list, of which one is at an element
pub record Within {A : Type 0} (before : List A) (x : A) (after g h : List A) : Type 0 where
  pub between : List A
  pub front : before ≡ g ++ between
  pub rest : h ≡ between ++ x ∷ after

pub record Beyond {A : Type 0} (before : List A) (x : A) (after g h : List A) : Type 0 where
  pub between : List A
  pub front : g ≡ before ++ x ∷ between
  pub rest : after ≡ between ++ h

more_within : {A : Type 0} (before : List A) (x y : A) (after g h : List A) → Within before x after g h → Within (y ∷ before) x after (y ∷ g) h
more_within before x y after g h w = record { between = w.between; front = ap (λ list. y ∷ list) w.front; rest = w.rest }

more_beyond : {A : Type 0} (before : List A) (x y : A) (after g h : List A) → Beyond before x after g h → Beyond (y ∷ before) x after (y ∷ g) h
more_beyond before x y after g h w = record { between = w.between; front = ap (λ list. y ∷ list) w.front; rest = w.rest }

pub compare : {A : Type 0} (P : Type 0) (before : List A) (x : A) (after g h : List A) → before ++ x ∷ after ≡ g ++ h
    → (Within before x after g h → P) → (Beyond before x after g h → P) → P
compare P before x after [] h e within beyond = within (record { between = before; front = refl; rest = sym e })
compare P [] x after (z ∷ g) h e within beyond =
    let same : z ≡ x = cc e in
    beyond (record { between = g; front = ap (λ y. y ∷ g) same; rest = cc e })
compare P (y ∷ before) x after (z ∷ g) h e within beyond =
    let same : y ≡ z = cc e in
    compare P before x after g h (cc e)
    (λ w. within (subst (λ z. Within (y ∷ before) x after (z ∷ g) h) same (more_within before x y after g h w)))
    (λ w. beyond (subst (λ z. Beyond (y ∷ before) x after (z ∷ g) h) same (more_beyond before x y after g h w)))
