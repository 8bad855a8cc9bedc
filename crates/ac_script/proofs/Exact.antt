-- Readers that read exactly what is spelled by some lists of parts.
use Rattle.std.proofs.Common.{◌≡◌, List, [], ◌∷◌, ◌++◌, refl, sym, ap, subst, ◌∙◌, append_assoc}
use Rattle.std.proofs.lemmas.List.{append_cancel_right, append-nil}
use Rattle.ac_syntax.specs.declared.token.Placed.{Placed}
use Rattle.ac_syntax.specs.Parts.{Part}
use Rattle.ac_script.specs.Outcomes.{Outcome, got, stopped, Reader, ◌>>=◌, onward, gives}
use Rattle.ac_script.proofs.Spelled.{Spelled, spelled_behind, spelled_cut, none_spelled, compare}

-- a front that spells the parts at some index, whose value was read
pub record Found {I A : Type 0} (val : I → A) (parts : I → List Part) (placed : List Placed) (a : A) (rest : List Placed) : Type 0 where
  pub index : I
  pub front : List Placed
  pub value : a ≡ val index
  pub whole : placed ≡ front ++ rest
  pub spelled : Spelled (parts index) front

-- a front with which the parts at some index may be spelled
pub record Begun {I : Type 0} (parts : I → List Part) (placed at : List Placed) : Type 0 where
  pub index : I
  pub before : List Placed
  pub more : List Placed
  pub whole : placed ≡ before ++ at
  pub spelled : Spelled (parts index) (before ++ more)

pub record Inhabited {I : Type 0} (parts : I → List Part) : Type 0 where
  pub index : I
  pub front : List Placed
  pub spelled : Spelled (parts index) front

-- the reader reads the value at an index where the parts at it are spelled, and stops at the first token with which none can be
pub record Exact {I A : Type 0} (val : I → A) (parts : I → List Part) (reader : Reader A) : Type 0 where
  pub found : (placed : List Placed) (a : A) (rest : List Placed) → reader placed ≡ got a rest → Found val parts placed a rest
  pub only : (i : I) (front rest : List Placed) → Spelled (parts i) front → reader (front ++ rest) ≡ got (val i) rest
  pub begun : (placed at : List Placed) → reader placed ≡ stopped at → Begun parts placed at
  pub bad : (before : List Placed) (b : Placed) (after more : List Placed) (i : I) → reader (before ++ b ∷ after) ≡ stopped (b ∷ after)
      → Spelled (parts i) (before ++ b ∷ more) → ⊥
  pub some : Inhabited parts

-- what a step gave, and what the next made of it
bound_got : {X A : Type 0} (P : Type 0) (o : Outcome X) (k : X → Reader A) (a : A) (rest : List Placed) → onward o k ≡ got a rest
    → ((x : X) (r : List Placed) → o ≡ got x r → k x r ≡ got a rest → P) → P
bound_got P (got x r) k a rest e f = f x r refl e
bound_got P (stopped at) k a rest e f = absurd (cc e)

bound_stopped : {X A : Type 0} (P : Type 0) (o : Outcome X) (k : X → Reader A) (at : List Placed) → onward o k ≡ stopped at
    → (o ≡ stopped at → P) → ((x : X) (r : List Placed) → o ≡ got x r → k x r ≡ stopped at → P) → P
bound_stopped P (got x r) k at e f g = g x r refl e
bound_stopped P (stopped other) k at e f g = let same : other ≡ at = cc e in f (ap stopped same)

pub got_not_stopped : {A : Type 0} (P : Type 0) (o : Outcome A) (a : A) (rest at : List Placed) → o ≡ got a rest → o ≡ stopped at → P
got_not_stopped P o a rest at e f = absurd (cc (e, f))

-- what is spelled by the parts that were read, and then by the parts behind them
abbrev pub value_behind : {I X A : Type 0} {J : X → Type 0} (val : I → X) → ((x : X) → J x → A) → (i : I) × J (val i) → A
value_behind val val_2 i = val_2 (val i.0) i.1

abbrev pub parts_behind : {I X : Type 0} {J : X → Type 0} (val : I → X) → (I → List Part) → ((x : X) → J x → List Part) → (i : I) × J (val i) → List Part
parts_behind val parts parts_2 i = parts i.0 ++ parts_2 (val i.0) i.1

module _ {I X A : Type 0} {J : X → Type 0} {val : I → X} {parts : I → List Part} {reader : Reader X} {val_2 : (x : X) → J x → A} {parts_2 : (x : X) → J x → List Part} {next : X → Reader A}
    (exact : Exact val parts reader) (exact_2 : (x : X) → Exact (val_2 x) (parts_2 x) (next x)) where
  All : (i : I) × J (val i) → List Part
  All = parts_behind val parts parts_2

  found_all : (placed : List Placed) (a : A) (rest : List Placed) (x : X) (r : List Placed) → reader placed ≡ got x r → next x r ≡ got a rest
      → Found (value_behind val val_2) All placed a rest
  unfolding All
  found_all placed a rest x r e f =
      let one = exact.found placed x r e in
      let two = (exact_2 (val one.index)).found r a rest (subst (λ x. next x r ≡ got a rest) one.value f) in
      record {
        index = (one.index, two.index);
        front = one.front ++ two.front;
        value = two.value;
        whole = one.whole ∙ ap (λ list. one.front ++ list) two.whole ∙ sym (append_assoc one.front two.front rest);
        spelled = spelled_behind _ _ one.front two.front one.spelled two.spelled;
      }

  only_all : (i : I) (j : J (val i)) (front rest : List Placed) → Spelled (All (i, j)) front → onward (reader (front ++ rest)) next ≡ got (val_2 (val i) j) rest
  unfolding All
  only_all i j front rest h =
      let cut = spelled_cut (parts i) (parts_2 (val i) j) front h in
      let first : reader (front ++ rest) ≡ got (val i) (cut.rest ++ rest)
      = ap (λ list. reader (list ++ rest)) cut.whole ∙ ap reader (append_assoc cut.front cut.rest rest) ∙ exact.only i cut.front (cut.rest ++ rest) cut.first in
      ap (λ o. onward o next) first ∙ (exact_2 (val i)).only j cut.rest rest cut.second

  begun_first : (placed at : List Placed) → reader placed ≡ stopped at → Begun All placed at
  unfolding All
  begun_first placed at e =
      let one = exact.begun placed at e in
      let two = (exact_2 (val one.index)).some in
      record {
        index = (one.index, two.index);
        before = one.before;
        more = one.more ++ two.front;
        whole = one.whole;
        spelled = subst (Spelled (parts one.index ++ parts_2 (val one.index) two.index)) (append_assoc one.before one.more two.front)
            (spelled_behind _ _ (one.before ++ one.more) two.front one.spelled two.spelled);
      }

  begun_later : (placed at : List Placed) (x : X) (r : List Placed) → reader placed ≡ got x r → next x r ≡ stopped at → Begun All placed at
  unfolding All
  begun_later placed at x r e f =
      let one = exact.found placed x r e in
      let two = (exact_2 (val one.index)).begun r at (subst (λ x. next x r ≡ stopped at) one.value f) in
      record {
        index = (one.index, two.index);
        before = one.front ++ two.before;
        more = two.more;
        whole = one.whole ∙ ap (λ list. one.front ++ list) two.whole ∙ sym (append_assoc one.front two.before at);
        spelled = subst (Spelled (parts one.index ++ parts_2 (val one.index) two.index)) (sym (append_assoc one.front two.before two.more))
            (spelled_behind _ _ one.front (two.before ++ two.more) one.spelled two.spelled);
      }

  bad_first : (before : List Placed) (b : Placed) (after more : List Placed) (i : I) (j : J (val i)) → reader (before ++ b ∷ after) ≡ stopped (b ∷ after)
      → Spelled (All (i, j)) (before ++ b ∷ more) → ⊥
  unfolding All
  bad_first before b after more i j e h =
      let cut = spelled_cut (parts i) (parts_2 (val i) j) (before ++ b ∷ more) h in
      compare ⊥ before b more cut.front cut.rest cut.whole
      (λ w.
      let again : reader (before ++ b ∷ after) ≡ got (val i) (w.between ++ b ∷ after)
      = ap (λ list. reader (list ++ b ∷ after)) w.front ∙ ap reader (append_assoc cut.front w.between (b ∷ after)) ∙ exact.only i cut.front (w.between ++ b ∷ after) cut.first in
      got_not_stopped ⊥ (reader (before ++ b ∷ after)) _ _ _ again e)
      (λ w. exact.bad before b after w.between i e (subst (Spelled (parts i)) w.front cut.first))

  same_place : (front : List Placed) (before : List Placed) (begun : List Placed) (b : Placed) (after more : List Placed)
      → before ++ b ∷ after ≡ front ++ (begun ++ b ∷ after) → before ++ b ∷ more ≡ front ++ (begun ++ b ∷ more)
  same_place front before begun b after more e =
      let same : before ≡ front ++ begun = append_cancel_right before (front ++ begun) (b ∷ after) (e ∙ sym (append_assoc front begun (b ∷ after))) in
      ap (λ list. list ++ b ∷ more) same ∙ append_assoc front begun (b ∷ more)

  bad_later : (before : List Placed) (b : Placed) (after more : List Placed) (i : I) (j : J (val i)) (x : X) (r : List Placed) → reader (before ++ b ∷ after) ≡ got x r
      → next x r ≡ stopped (b ∷ after) → Spelled (All (i, j)) (before ++ b ∷ more) → ⊥
  unfolding All
  bad_later before b after more i j x r e f h =
      let one = exact.found (before ++ b ∷ after) x r e in
      let stop : next (val one.index) r ≡ stopped (b ∷ after) = subst (λ x. next x r ≡ stopped (b ∷ after)) one.value f in
      let two = (exact_2 (val one.index)).begun r (b ∷ after) stop in
      let place = same_place one.front before two.before b after more (one.whole ∙ ap (λ list. one.front ++ list) two.whole) in
      let cut = spelled_cut (parts i) (parts_2 (val i) j) (before ++ b ∷ more) h in
      let again : got (val i) cut.rest ≡ got (val one.index) (two.before ++ b ∷ more)
      = sym (exact.only i cut.front cut.rest cut.first) ∙ ap reader (sym cut.whole ∙ place) ∙ exact.only one.index one.front (two.before ++ b ∷ more) one.spelled in
      let same : val i ≡ val one.index = cc again in
      let rest : cut.rest ≡ two.before ++ b ∷ more = cc again in
      let left : Spelled (parts_2 (val i) j) (two.before ++ b ∷ more) = subst (Spelled (parts_2 (val i) j)) rest cut.second in
      let none : (j : J (val one.index)) → Spelled (parts_2 (val one.index) j) (two.before ++ b ∷ more) → ⊥
      = λ j k. (exact_2 (val one.index)).bad two.before b after more j (subst (λ list. next (val one.index) list ≡ stopped (b ∷ after)) two.whole stop) k in
      subst (λ x. (j : J x) → Spelled (parts_2 x j) (two.before ++ b ∷ more) → ⊥) (sym same) none j left

  some_all : Inhabited All
  unfolding All
  some_all =
      let one = exact.some in
      let two = (exact_2 (val one.index)).some in
      record { index = (one.index, two.index); front = one.front ++ two.front; spelled = spelled_behind _ _ one.front two.front one.spelled two.spelled }

  -- one reader after another
  pub seq : Exact (value_behind val val_2) (parts_behind val parts parts_2) (reader >>= next)
  unfolding All
  seq = record {
    found = λ placed a rest e. bound_got (Found (value_behind val val_2) All placed a rest) (reader placed) next a rest e (found_all placed a rest);
    only = λ i front rest h. only_all i.0 i.1 front rest h;
    begun = λ placed at e. bound_stopped (Begun All placed at) (reader placed) next at e (begun_first placed at) (begun_later placed at);
    bad = λ before b after more i e h. bound_stopped ⊥ (reader (before ++ b ∷ after)) next (b ∷ after) e
        (λ f. bad_first before b after more i.0 i.1 f h) (λ x r f g. bad_later before b after more i.0 i.1 x r f g h);
    some = some_all;
  }

-- a reader that reads nothing
pub give : {A : Type 0} (a : A) → Exact {I = Unit {0}} (λ _. a) (λ _. []) (gives a)
give a = record {
  found = λ placed x rest e. record { index = tt; front = []; value = cc e; whole = cc e; spelled = record { spelled = refl } };
  only = λ i front rest h. ap (λ list. got a (list ++ rest)) (none_spelled front h);
  begun = λ placed at e. absurd (cc e);
  bad = λ before b after more i e h. absurd (cc e);
  some = record { index = tt; front = []; spelled = record { spelled = refl } };
}

-- the same readings, told by other indices
module _ {I J A : Type 0} {val : I → A} {parts : I → List Part} {val_2 : J → A} {parts_2 : J → List Part} {reader : Reader A}
    (exact : Exact val parts reader)
    (into : (i : I) (front : List Placed) → Spelled (parts i) front → (j : J) × (val i ≡ val_2 j) × Spelled (parts_2 j) front)
    (from : (j : J) (front : List Placed) → Spelled (parts_2 j) front → (i : I) × (val i ≡ val_2 j) × Spelled (parts i) front) where
  found_so : (placed : List Placed) (a : A) (rest : List Placed) → Found val parts placed a rest → Found val_2 parts_2 placed a rest
  found_so placed a rest one =
      let same = into one.index one.front one.spelled in
      record { index = same.0; front = one.front; value = one.value ∙ same.1; whole = one.whole; spelled = same.2 }

  begun_so : (placed at : List Placed) → Begun parts placed at → Begun parts_2 placed at
  begun_so placed at one =
      let same = into one.index (one.before ++ one.more) one.spelled in
      record { index = same.0; before = one.before; more = one.more; whole = one.whole; spelled = same.2 }

  only_so : (j : J) (front rest : List Placed) → Spelled (parts_2 j) front → reader (front ++ rest) ≡ got (val_2 j) rest
  only_so j front rest h =
      let same = from j front h in
      exact.only same.0 front rest same.2 ∙ ap (λ a. got a rest) same.1

  bad_so : (before : List Placed) (b : Placed) (after more : List Placed) (j : J) → reader (before ++ b ∷ after) ≡ stopped (b ∷ after)
      → Spelled (parts_2 j) (before ++ b ∷ more) → ⊥
  bad_so before b after more j e h =
      let same = from j (before ++ b ∷ more) h in
      exact.bad before b after more same.0 e same.2

  some_so : Inhabited parts_2
  some_so =
      let same = into exact.some.index exact.some.front exact.some.spelled in
      record { index = same.0; front = exact.some.front; spelled = same.2 }

  pub respelled : Exact val_2 parts_2 reader
  respelled = record {
    found = λ placed a rest e. found_so placed a rest (exact.found placed a rest e);
    only = only_so;
    begun = λ placed at e. begun_so placed at (exact.begun placed at e);
    bad = bad_so;
    some = some_so;
  }

-- the same parts, told by other indices
pub recast : {I J A : Type 0} {val : I → A} {parts : I → List Part} {val_2 : J → A} {parts_2 : J → List Part} {reader : Reader A}
    → Exact val parts reader → ((i : I) → (j : J) × (val i ≡ val_2 j) × (parts i ≡ parts_2 j)) → ((j : J) → (i : I) × (val i ≡ val_2 j) × (parts i ≡ parts_2 j))
    → Exact val_2 parts_2 reader
recast exact into from =
    respelled exact
    (λ i front h. let same = into i in (same.0, same.1, subst (λ ps. Spelled ps front) same.2 h))
    (λ j front h. let same = from j in (same.0, same.1, subst (λ ps. Spelled ps front) (sym same.2) h))

-- what was read, seen otherwise
pub mapped : {I X A : Type 0} {val : I → X} {parts : I → List Part} {reader : Reader X} → Exact val parts reader → (f : X → A)
    → Exact (λ i. f (val i)) parts (reader >>= λ x. gives (f x))
mapped {val} {parts} exact f = recast (seq exact (λ x. give (f x))) (λ i. (i.0, refl, append-nil (parts i.0))) (λ i. ((i, tt), refl, append-nil (parts i)))
