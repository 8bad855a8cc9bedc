-- Readers of one token, and readers that go by the first token.
use Rattle.std.proofs.Common.{◌≡◌, List, [], ◌∷◌, ◌++◌, refl, sym, ap, subst, ◌∙◌, ◌⊎◌, inl, inr, Option, Some, None}
use Rattle.ac_syntax.specs.declared.token.Token.{Token}
use Rattle.ac_syntax.specs.declared.token.Placed.{Placed}
use Rattle.ac_syntax.specs.Tokens.{tokens}
use Rattle.ac_syntax.specs.Parts.{Part}
use Rattle.ac_syntax.specs.Grammar.{IsPart}
use Rattle.ac_script.specs.Outcomes.{got, stopped, Reader, ◌>>=◌, onward, either, fork, seen, one}
use Rattle.ac_script.proofs.Spelled.{Spelled, first_spelled, none_spelled}
use Rattle.ac_script.proofs.Exact.{Found, Begun, Inhabited, Exact, seq, value_behind, parts_behind}

-- a token alone, in which this is seen
pub record Sighted {X : Type 0} (look : Token → Option X) (x : X) (spelled : List Token) : Type 0 where
  pub token : Token
  pub alone : spelled ≡ token ∷ []
  pub looked : look token ≡ Some x

-- a look at a token sees what the parts at an index say
pub record Looks {I X : Type 0} (val : I → X) (part : I → Part) (look : Token → Option X) : Type 0 where
  pub found : (t : Token) (x : X) → look t ≡ Some x → (i : I) × (x ≡ val i) × IsPart (part i) (t ∷ [])
  pub only : (i : I) (spelled : List Token) → IsPart (part i) spelled → Sighted look (val i) spelled
  pub sample : (t : Token) × (x : X) × (look t ≡ Some x)

not_behind : {A : Type 0} (before : List A) (b : A) (more : List A) → before ++ b ∷ more ≡ [] → ⊥
not_behind [] b more e = absurd (cc e)
not_behind (x ∷ before) b more e = absurd (cc e)

by_look : {X : Type 0} (P : Type 0) (o : Option X) → ((x : X) → o ≡ Some x → P) → (o ≡ None → P) → P
by_look P (Some x) f g = f x refl
by_look P None f g = g refl

-- tokens of which the first is seen so
pub record Starts {X : Type 0} (look : Token → Option X) (o : Option X) (placed : List Placed) : Type 0 where
  pub first : Placed
  pub others : List Placed
  pub whole : placed ≡ first ∷ others
  pub looked : look first.token ≡ o

starts_other : {X : Type 0} (P : Type 0) (look : Token → Option X) (x : X) (first : Placed) (others : List Placed) → look first.token ≡ Some x → Starts look None (first ∷ others) → P
starts_other P look x first others e s =
    let same : first ≡ s.first = cc (s.whole) in
    absurd (cc (sym (ap (λ (p : Placed). look p.token) same) ∙ e, s.looked))

starts_seen : {X : Type 0} (P : Type 0) (look : Token → Option X) (x : X) (first : Placed) (others : List Placed) → look first.token ≡ None → Starts look (Some x) (first ∷ others) → P
starts_seen P look x first others e s =
    let same : first ≡ s.first = cc (s.whole) in
    absurd (cc (sym (ap (λ (p : Placed). look p.token) same) ∙ e, s.looked))

module _ {I X : Type 0} {val : I → X} {part : I → Part} {look : Token → Option X} (looks : Looks val part look) where
  starts_tokens : (i : I) (ps : List Part) (placed : List Placed) → Spelled (part i ∷ ps) placed → Starts look (Some (val i)) placed
  starts_tokens i ps [] h =
      let seen = looks.only i h.spelled.0 h.spelled.3 in
      let all : [] ≡ seen.token ∷ h.spelled.1 = h.spelled.2 ∙ ap (λ x. x ++ h.spelled.1) seen.alone in
      absurd (cc all)
  starts_tokens i ps (p ∷ placed) h =
      let seen = looks.only i h.spelled.0 h.spelled.3 in
      let all : p.token ∷ tokens placed ≡ seen.token ∷ h.spelled.1 = h.spelled.2 ∙ ap (λ x. x ++ h.spelled.1) seen.alone in
      let same : p.token ≡ seen.token = cc all in
      record { first = p; others = placed; whole = refl; looked = ap look same ∙ seen.looked }

  -- these parts alone are one token
  alone : (i : I) (placed : List Placed) → Spelled (part i ∷ []) placed → (p : Placed) × (placed ≡ p ∷ []) × (look p.token ≡ Some (val i))
  alone i placed h =
      let s = starts_tokens i [] placed h in
      let seen = looks.only i h.spelled.0 h.spelled.3 in
      let all : s.first.token ∷ tokens s.others ≡ seen.token ∷ h.spelled.1 = ap tokens (sym s.whole) ∙ h.spelled.2 ∙ ap (λ x. x ++ h.spelled.1) seen.alone in
      let none : tokens s.others ≡ [] = cc (all, h.spelled.4) in
      (s.first, s.whole ∙ ap (λ list. s.first ∷ list) (none_spelled s.others (record { spelled = none })), s.looked)

  spelled_by : (p : Placed) (x : X) → look p.token ≡ Some x → (i : I) × (x ≡ val i) × Spelled (part i ∷ []) (p ∷ [])
  spelled_by p x e =
      let found = looks.found p.token x e in
      (found.0, found.1, first_spelled (part found.0) [] p.token p [] found.2 refl (record { spelled = refl }))

  found_one : (placed : List Placed) (a : X) (rest : List Placed) → one look placed ≡ got a rest → Found val (λ i. part i ∷ []) placed a rest
  found_one [] a rest e = absurd (cc e)
  found_one (p ∷ placed) a rest e =
      by_look (Found val (λ i. part i ∷ []) (p ∷ placed) a rest) (look p.token)
      (λ x f.
      let all : got x placed ≡ got a rest = sym (ap (λ o. seen o p placed) f) ∙ e in
      let value : x ≡ a = cc all in
      let left : placed ≡ rest = cc all in
      let found = spelled_by p x f in
      record { index = found.0; front = p ∷ []; value = sym value ∙ found.1; whole = ap (λ list. p ∷ list) left; spelled = found.2 })
      (λ f.
      let all : stopped (p ∷ placed) ≡ got a rest = sym (ap (λ o. seen o p placed) f) ∙ e in
      absurd (cc all))

  only_one : (i : I) (front rest : List Placed) → Spelled (part i ∷ []) front → one look (front ++ rest) ≡ got (val i) rest
  only_one i front rest h =
      let found = alone i front h in
      ap (λ list. one look (list ++ rest)) found.1 ∙ ap (λ o. seen o found.0 rest) found.2

  some_one : Inhabited (λ i. part i ∷ [])
  some_one =
      let sample : Placed = record { token = looks.sample.0; line = 0 } in
      let found = spelled_by sample looks.sample.1 looks.sample.2 in
      record { index = found.0; front = sample ∷ []; spelled = found.2 }

  begun_here : (placed at : List Placed) → placed ≡ at → Begun (λ i. part i ∷ []) placed at
  begun_here placed at e = record { index = some_one.index; before = []; more = some_one.front; whole = e; spelled = some_one.spelled }

  begun_one : (placed at : List Placed) → one look placed ≡ stopped at → Begun (λ i. part i ∷ []) placed at
  begun_one [] at e = begun_here [] at (cc e)
  begun_one (p ∷ placed) at e =
      by_look (Begun (λ i. part i ∷ []) (p ∷ placed) at) (look p.token)
      (λ x f.
      let all : got x placed ≡ stopped at = sym (ap (λ o. seen o p placed) f) ∙ e in
      absurd (cc all))
      (λ f.
      let all : stopped (p ∷ placed) ≡ stopped at = sym (ap (λ o. seen o p placed) f) ∙ e in
      begun_here (p ∷ placed) at (cc all))

  bad_one : (before : List Placed) (b : Placed) (after more : List Placed) (i : I) → one look (before ++ b ∷ after) ≡ stopped (b ∷ after)
      → Spelled (part i ∷ []) (before ++ b ∷ more) → ⊥
  bad_one [] b after more i e h =
      let found = alone i (b ∷ more) h in
      let same : b ≡ found.0 = cc (found.1) in
      let all : got (val i) after ≡ stopped (b ∷ after) = sym (ap (λ o. seen o b after) (ap (λ (p : Placed). look p.token) same ∙ found.2)) ∙ e in
      absurd (cc all)
  bad_one (y ∷ before) b after more i e h =
      let found = alone i (y ∷ (before ++ b ∷ more)) h in
      not_behind before b more (cc (found.1))

  -- a reader of one token
  pub single : Exact val (λ i. part i ∷ []) (one look)
  single = record { found = found_one; only = only_one; begun = begun_one; bad = bad_one; some = some_one }

-- an index on one side, or on the other
abbrev pub either_value : {I K A : Type 0} → (I → A) → (K → A) → I ⊎ K → A
either_value f g (inl i) = f i
either_value f g (inr k) = g k

module _ {I X K A : Type 0} {J : X → Type 0} {val : I → X} {part : I → Part} {look : Token → Option X} {val_2 : (x : X) → J x → A} {parts_2 : (x : X) → J x → List Part} {next : X → Reader A}
    {val_3 : K → A} {parts_3 : K → List Part} {other : Reader A}
    (looks : Looks val part look) (exact_2 : (x : X) → Exact (val_2 x) (parts_2 x) (next x)) (exact_3 : Exact val_3 parts_3 other)
    (apart : (k : K) (placed : List Placed) → Spelled (parts_3 k) placed → Starts look None placed) where
  V : ((i : I) × J (val i)) ⊎ K → A
  V = either_value (value_behind val val_2) val_3

  S : ((i : I) × J (val i)) ⊎ K → List Part
  S = either_value (parts_behind val (λ i. part i ∷ []) parts_2) parts_3

  left : Exact (value_behind val val_2) (parts_behind val (λ i. part i ∷ []) parts_2) (one look >>= next)
  left = seq (single looks) exact_2

  to_left : (p : Placed) (placed : List Placed) (x : X) → look p.token ≡ Some x → fork (one look) next other (p ∷ placed) ≡ (one look >>= next) (p ∷ placed)
  to_left p placed x e = ap (λ o. either (seen o p placed) next other (p ∷ placed)) e ∙ sym (ap (λ o. onward (seen o p placed) next) e)

  to_right : (p : Placed) (placed : List Placed) → look p.token ≡ None → fork (one look) next other (p ∷ placed) ≡ other (p ∷ placed)
  to_right p placed e = ap (λ o. either (seen o p placed) next other (p ∷ placed)) e

  found_left : (placed : List Placed) (a : A) (rest : List Placed) → Found (value_behind val val_2) (parts_behind val (λ i. part i ∷ []) parts_2) placed a rest → Found V S placed a rest
  unfolding V S
  found_left placed a rest f = record { index = inl f.index; front = f.front; value = f.value; whole = f.whole; spelled = f.spelled }

  found_right : (placed : List Placed) (a : A) (rest : List Placed) → Found val_3 parts_3 placed a rest → Found V S placed a rest
  unfolding V S
  found_right placed a rest f = record { index = inr f.index; front = f.front; value = f.value; whole = f.whole; spelled = f.spelled }

  begun_left : (placed at : List Placed) → Begun (parts_behind val (λ i. part i ∷ []) parts_2) placed at → Begun S placed at
  unfolding S
  begun_left placed at f = record { index = inl f.index; before = f.before; more = f.more; whole = f.whole; spelled = f.spelled }

  begun_right : (placed at : List Placed) → Begun parts_3 placed at → Begun S placed at
  unfolding S
  begun_right placed at f = record { index = inr f.index; before = f.before; more = f.more; whole = f.whole; spelled = f.spelled }

  found_either : (placed : List Placed) (a : A) (rest : List Placed) → fork (one look) next other placed ≡ got a rest → Found V S placed a rest
  found_either [] a rest e = found_right [] a rest (exact_3.found [] a rest e)
  found_either (p ∷ placed) a rest e =
      by_look (Found V S (p ∷ placed) a rest) (look p.token)
      (λ x f. found_left (p ∷ placed) a rest (left.found (p ∷ placed) a rest (sym (to_left p placed x f) ∙ e)))
      (λ f. found_right (p ∷ placed) a rest (exact_3.found (p ∷ placed) a rest (sym (to_right p placed f) ∙ e)))

  begun_either : (placed at : List Placed) → fork (one look) next other placed ≡ stopped at → Begun S placed at
  begun_either [] at e = begun_right [] at (exact_3.begun [] at e)
  begun_either (p ∷ placed) at e =
      by_look (Begun S (p ∷ placed) at) (look p.token)
      (λ x f. begun_left (p ∷ placed) at (left.begun (p ∷ placed) at (sym (to_left p placed x f) ∙ e)))
      (λ f. begun_right (p ∷ placed) at (exact_3.begun (p ∷ placed) at (sym (to_right p placed f) ∙ e)))

  only_left : (i : I) (j : J (val i)) (front rest : List Placed) → Spelled (part i ∷ parts_2 (val i) j) front → fork (one look) next other (front ++ rest) ≡ got (val_2 (val i) j) rest
  only_left i j front rest h =
      let s = starts_tokens looks i (parts_2 (val i) j) front h in
      ap (λ list. fork (one look) next other (list ++ rest)) s.whole
      ∙ to_left s.first (s.others ++ rest) (val i) s.looked
      ∙ ap (λ list. (one look >>= next) (list ++ rest)) (sym s.whole) ∙ left.only (i, j) front rest h

  only_right : (k : K) (front rest : List Placed) → Spelled (parts_3 k) front → fork (one look) next other (front ++ rest) ≡ got (val_3 k) rest
  only_right k front rest h =
      let s = apart k front h in
      ap (λ list. fork (one look) next other (list ++ rest)) s.whole
      ∙ to_right s.first (s.others ++ rest) s.looked ∙ ap (λ list. other (list ++ rest)) (sym s.whole) ∙ exact_3.only k front rest h

  only_either : (i : ((i : I) × J (val i)) ⊎ K) (front rest : List Placed) → Spelled (S i) front → fork (one look) next other (front ++ rest) ≡ got (V i) rest
  unfolding V S
  only_either (inl i) front rest h = only_left i.0 i.1 front rest h
  only_either (inr k) front rest h = only_right k front rest h

  -- the tokens up to the bad one begin with this token
  record Opens (before : List Placed) (b p : Placed) : Type 0 where
    pub with : (after : List Placed) → (others : List Placed) × (before ++ b ∷ after ≡ p ∷ others)

  opens : (before : List Placed) (b : Placed) → (p : Placed) × Opens before b p
  opens [] b = (b, record { with = λ after. (after, refl) })
  opens (p ∷ before) b = (p, record { with = λ after. (before ++ b ∷ after, refl) })

  bad_left : (before : List Placed) (b : Placed) (after more : List Placed) (p : Placed) (x : X) (i : ((i : I) × J (val i)) ⊎ K) → Opens before b p → look p.token ≡ Some x
      → fork (one look) next other (before ++ b ∷ after) ≡ stopped (b ∷ after) → Spelled (S i) (before ++ b ∷ more) → ⊥
  unfolding S
  bad_left before b after more p x (inl i) opened look_is e h =
      let here = opened.with after in
      left.bad before b after more i
      (ap (one look >>= next) here.1 ∙ sym (to_left p here.0 x look_is) ∙ ap (fork (one look) next other) (sym here.1) ∙ e) h
  bad_left before b after more p x (inr k) opened look_is e h =
      let there = opened.with more in
      starts_other ⊥ look x p there.0 look_is (subst (Starts look None) there.1 (apart k (before ++ b ∷ more) h))

  bad_right : (before : List Placed) (b : Placed) (after more : List Placed) (p : Placed) (i : ((i : I) × J (val i)) ⊎ K) → Opens before b p → look p.token ≡ None
      → fork (one look) next other (before ++ b ∷ after) ≡ stopped (b ∷ after) → Spelled (S i) (before ++ b ∷ more) → ⊥
  unfolding S
  bad_right before b after more p (inl i) opened look_is e h =
      let there = opened.with more in
      starts_seen ⊥ look (val i.0) p there.0 look_is (subst (Starts look (Some (val i.0))) there.1 (starts_tokens looks i.0 (parts_2 (val i.0) i.1) (before ++ b ∷ more) h))
  bad_right before b after more p (inr k) opened look_is e h =
      let here = opened.with after in
      exact_3.bad before b after more k (ap other here.1 ∙ sym (to_right p here.0 look_is) ∙ ap (fork (one look) next other) (sym here.1) ∙ e) h

  bad_either : (before : List Placed) (b : Placed) (after more : List Placed) (i : ((i : I) × J (val i)) ⊎ K) → fork (one look) next other (before ++ b ∷ after) ≡ stopped (b ∷ after)
      → Spelled (S i) (before ++ b ∷ more) → ⊥
  bad_either before b after more i e h =
      let p = opens before b in
      by_look ⊥ (look p.0.token)
      (λ x f. bad_left before b after more p.0 x i p.1 f e h)
      (λ f. bad_right before b after more p.0 i p.1 f e h)

  some_either : Inhabited S
  unfolding S
  some_either = record { index = inl left.some.index; front = left.some.front; spelled = left.some.spelled }

  -- a reader that goes by the first token
  pub forked : Exact (either_value (value_behind val val_2) val_3) (either_value (parts_behind val (λ i. part i ∷ []) parts_2) parts_3) (fork (one look) next other)
  unfolding V S
  forked = record { found = found_either; only = only_either; begun = begun_either; bad = bad_either; some = some_either }
