-- A text that is written piece by piece: nothing of it, one piece more, and its end.
use Rattle.std.proofs.Common.{◌≡◌, ◌+◌, ◌-◌, ◌≤◌, ℕ, Bool, true, List, [], ◌++◌, length, refl, sym, ap, ◌∙◌, Option, Some, None, IfSome, Result, Ok, Err, OnErr, OnOk, IsOk, append_assoc, append-nil, length-append, subst, arith}
use Rattle.std.proofs.lemmas.Option.{none-some, same_Some}
use Rattle.ac_io.specs.Outside.{Rose, GrewBy, GrewByFront}
use Rattle.ac_io.specs.declared.whole.WriteFault.{WriteFault}
use Rattle.ac_io.specs.Pieces.{IsTold, Adds, AddsSoFar}

grew_nothing : (held : Option (List ℕ)) → GrewBy held held []
grew_nothing None = tt
grew_nothing (Some h) = ap Some (sym (append-nil h))

pub told_nothing : (held : Option (List ℕ)) (whole : List ℕ) → IsTold held held whole whole
told_nothing held whole = record { told = []; parts = refl; grew = grew_nothing held }

grew_twice : (a b c : Option (List ℕ)) (x y : List ℕ) → GrewBy a b x → GrewBy b c y → GrewBy a c (x ++ y)
grew_twice None b c x y f g = tt
grew_twice (Some h) None c x y f g = absurd (none-some _ f)
grew_twice (Some h) (Some i) c x y f g = g ∙ ap (λ s. Some (s ++ y)) (same_Some i (h ++ x) f) ∙ ap Some (append_assoc h x y)

grew_then_front : (a b c : Option (List ℕ)) (x y rest whole : List ℕ) → x ++ (y ++ rest) ≡ whole → GrewBy a b x → GrewByFront b c y → GrewByFront a c whole
grew_then_front None b c x y rest whole e f g = tt
grew_then_front (Some h) None c x y rest whole e f g = absurd (none-some _ f)
grew_then_front (Some h) (Some i) c x y rest whole e f g =
    (x ++ g.0, record { rest = g.1.rest ++ rest; whole = append_assoc x g.0 (g.1.rest ++ rest) ∙ ap (λ s. x ++ s) (sym (append_assoc g.0 g.1.rest rest) ∙ ap (λ s. s ++ rest) g.1.whole) ∙ e }, g.2 ∙ ap (λ s. Some (s ++ g.0)) (same_Some i (h ++ x) f) ∙ ap Some (append_assoc h x g.0))

-- a front of what was still to be told, after what was told
pub front_on : (a b c : Option (List ℕ)) (rest more whole : List ℕ) → IsTold a b rest whole → GrewByFront b c (rest ++ more) → GrewByFront a c (whole ++ more)
front_on a b c rest more whole told front =
    grew_then_front a b c told.told (rest ++ more) [] (whole ++ more)
    (ap (λ t. told.told ++ t) (append-nil (rest ++ more)) ∙ sym (append_assoc told.told rest more) ∙ ap (λ t. t ++ more) told.parts) told.grew front

-- a piece is added to what waits, and of both a part is told
pub told_on : (a b c : Option (List ℕ)) (rest now more whole : List ℕ) → IsTold a b rest whole → IsTold b c now (rest ++ more) → IsTold a c now (whole ++ more)
told_on a b c rest now more whole first second = record {
  told = first.told ++ second.told;
  parts = append_assoc first.told second.told now ∙ ap (λ t. first.told ++ t) second.parts ∙ sym (append_assoc first.told rest more) ∙ ap (λ t. t ++ more) first.parts;
  grew = grew_twice a b c first.told second.told first.grew second.grew;
}

-- all is told where nothing waits
pub told_all : (a b : Option (List ℕ)) (whole : List ℕ) → IsTold a b [] whole → GrewBy a b whole
told_all a b whole told = subst (GrewBy a b) (sym (append-nil told.told) ∙ told.parts) told.grew

-- a front of a text is one of a longer text
pub front_with : (a b : Option (List ℕ)) (text more : List ℕ) → GrewByFront a b text → GrewByFront a b (text ++ more)
front_with None b text more f = tt
front_with (Some h) b text more f = (f.0, record { rest = f.1.rest ++ more; whole = sym (append_assoc f.0 f.1.rest more) ∙ ap (λ t. t ++ more) f.1.whole }, f.2)

on_ok_by : {T E P Q : Type 0} (r : Result T E) → (P → Q) → OnOk r P → OnOk r Q
on_ok_by (Ok x) f p = f p
on_ok_by (Err e) f p = tt

on_err_by : {T E P Q : Type 0} (r : Result T E) → (P → Q) → OnErr r P → OnErr r Q
on_err_by (Ok x) f p = tt
on_err_by (Err e) f p = f p

rose_later : (a b c : ℕ) → a ≤ b → Rose b c → Rose a c
rose_later a b c le rose = omega arith

room_twice : {T E : Type 0} (r : Result T E) (P : Type 0) (a b c : Option ℕ) (waits waits' waits'' p q : List ℕ)
    → IfSome a (λ most. length (waits ++ p) ≤ most → P × (b ≡ Some ((most + length waits') - length (waits ++ p))))
    → IfSome b (λ most. length (waits' ++ q) ≤ most → IsOk r × (c ≡ Some ((most + length waits'') - length (waits' ++ q))))
    → IfSome a (λ most. length (waits ++ (p ++ q)) ≤ most → IsOk r × (c ≡ Some ((most + length waits'') - length (waits ++ (p ++ q)))))
room_twice r P None b c waits waits' waits'' p q f g = tt
room_twice r P (Some most) b c waits waits' waits'' p q f g = λ fits.
    let lp = length-append waits p in let lq = length-append waits' q in let lpq = length-append p q in let all = length-append waits (p ++ q) in
    let now = (f (omega arith)).1 in
    let then = subst (λ o. IfSome o (λ room. length (waits' ++ q) ≤ room → IsOk r × (c ≡ Some ((room + length waits'') - length (waits' ++ q))))) now g in
    let last = then (omega arith) in
    let same : ((most + length waits') - length (waits ++ p) + length waits'') - length (waits' ++ q) ≡ (most + length waits'') - length (waits ++ (p ++ q)) = omega arith in
    (last.0, last.1 ∙ ap Some same)

-- where a part of a text can't be told whole, neither can all
room_broken : (P : Type 0) (Q : ℕ → Type 0) (R : ℕ → Type 0) (a : Option ℕ) (waits p q : List ℕ) → (P → ⊥)
    → IfSome a (λ most. length (waits ++ p) ≤ most → P × Q most) → IfSome a (λ most. length (waits ++ (p ++ q)) ≤ most → R most)
room_broken P Q R None waits p q fails g = tt
room_broken P Q R (Some most) waits p q fails g = λ fits.
    let lp = length-append waits p in let lpq = length-append p q in let all = length-append waits (p ++ q) in
    absurd (fails (g (omega arith)).0)

err_is_not_ok : (T : Type 0) {E : Type 0} (e : E) → IsOk {T = T} {E = E} (Err e) → ⊥
err_is_not_ok T e is = cc is

module _ {K T E : Type 0} {held : K → Option (List ℕ)} {faults : K → ℕ} {room : K → Option ℕ} {counts : K → Bool} where
  -- one text after another
  pub adds_then : {D S : Type 0} {a b c : K} {waits waits' waits'' p q : List ℕ} {x : S} {r : Result T E}
      → Adds {T = S} {E = D} held faults room counts a b waits waits' p (Ok x) → Adds held faults room counts b c waits' waits'' q r
      → Adds held faults room counts a c waits waits'' (p ++ q) r
  adds_then {a = a} {b = b} {c = c} {waits = waits} {waits' = waits'} {waits'' = waits''} {p = p} {q = q} {r = r} f g =
      let same = append_assoc waits p q in
      record {
        whole = on_ok_by r (λ told. subst (IsTold (held a) (held c) waits'') same (told_on (held a) (held b) (held c) waits' waits'' q (waits ++ p) f.whole told)) g.whole;
        front = on_err_by r (λ front. subst (GrewByFront (held a) (held c)) same (front_on (held a) (held b) (held c) waits' q (waits ++ p) f.whole front)) g.front;
        fault = on_err_by r (λ rose. rose_later (faults a) (faults b) (faults c) f.counted rose) g.fault;
        counted = omega (arith, f.counted, g.counted);
        within = room_twice r _ (room a) (room b) (room c) waits waits' waits'' p q f.within g.within;
        counts = λ does. let first = f.counts does in let second = g.counts first.1 in (λ ok. second.0 ok ∙ first.0 refl, second.1);
      }

  -- of another list that is the same
  pub adds_from : {a b : K} {waits was now p : List ℕ} {r : Result T E} → waits ≡ was → Adds held faults room counts a b waits now p r → Adds held faults room counts a b was now p r
  adds_from {a = a} {b = b} {now = now} {p = p} {r = r} same f = subst (λ t. Adds held faults room counts a b t now p r) same f

  pub adds_text : {a b : K} {waits now p q : List ℕ} {r : Result T E} → p ≡ q → Adds held faults room counts a b waits now p r → Adds held faults room counts a b waits now q r
  adds_text {a = a} {b = b} {waits = waits} {now = now} {r = r} same f = subst (λ t. Adds held faults room counts a b waits now t r) same f

  broken_text : {D S : Type 0} {a b : K} {waits now now' p : List ℕ} {d : D} (e : E) (q : List ℕ)
      → Adds {T = S} {E = D} held faults room counts a b waits now p (Err d) → Adds {T = T} {E = E} held faults room counts a b waits now' (p ++ q) (Err e)
  broken_text {S = S} {a = a} {b = b} {waits = waits} {now = now} {now' = now'} {p = p} {d = d} e q f = record {
    whole = tt;
    front = subst (GrewByFront (held a) (held b)) (append_assoc waits p q) (front_with (held a) (held b) (waits ++ p) q f.front);
    fault = f.fault;
    counted = f.counted;
    within = room_broken _ _ _ (room a) waits p q (err_is_not_ok S d) f.within;
    counts = λ does. (λ ok. absurd (err_is_not_ok T e ok), (f.counts does).1);
  }

  -- a text that isn't told whole, before another
  pub adds_broken : {D S : Type 0} {a b : K} {waits now now' p : List ℕ} {d : D} {r : Result T E} {e : E} → r ≡ Err e → (q : List ℕ)
      → Adds {T = S} {E = D} held faults room counts a b waits now p (Err d) → Adds {T = T} {E = E} held faults room counts a b waits now' (p ++ q) r
  adds_broken {a = a} {b = b} {waits = waits} {now' = now'} {p = p} {e = e} is q f =
      subst (λ r. Adds {T = T} {E = E} held faults room counts a b waits now' (p ++ q) r) (sym is) (broken_text e q f)

module _ {K : Type 0} {held : K → Option (List ℕ)} {faults : K → ℕ} {room : K → Option ℕ} {counts : K → Bool} where
  pub adds_nothing : (a : K) (waits : List ℕ) → Adds {T = Unit {0}} {E = WriteFault} held faults room counts a a waits waits [] (Ok tt)
  adds_nothing a waits = record {
    whole = subst (IsTold (held a) (held a) waits) (sym (append-nil waits)) (told_nothing (held a) waits);
    front = tt;
    fault = tt;
    counted = omega arith;
    within = same (room a);
    counts = λ does. (λ _. refl, does);
  }
    where
      same : (most : Option ℕ) → IfSome most (λ room. length (waits ++ []) ≤ room → (true ≡ true) × (most ≡ Some ((room + length waits) - length (waits ++ []))))
      same None = tt
      same (Some m) = λ fits. let nil = ap length (append-nil waits) in let left : m ≡ (m + length waits) - length (waits ++ []) = omega arith in (refl, ap Some left)

  -- a whole, from its start to its end
  pub begins : (a : K) (waits whole : List ℕ) → AddsSoFar held faults room counts a a waits waits whole whole
  begins a waits whole = record { done = []; parts = refl; adds = adds_nothing a waits }

  pub goes_on : {a b c : K} {waits now now' p rest whole : List ℕ} → AddsSoFar held faults room counts a b waits now (p ++ rest) whole
      → Adds {T = Unit {0}} {E = WriteFault} held faults room counts b c now now' p (Ok tt) → AddsSoFar held faults room counts a c waits now' rest whole
  goes_on {p = p} {rest = rest} so_far f = record {
    done = so_far.done ++ p;
    parts = append_assoc so_far.done p rest ∙ so_far.parts;
    adds = adds_then so_far.adds f;
  }

  pub ends : {a b c : K} {waits now now' p whole : List ℕ} {T E : Type 0} {r : Result T E} → AddsSoFar held faults room counts a b waits now p whole
      → Adds held faults room counts b c now now' p r → Adds held faults room counts a c waits now' whole r
  ends so_far f = adds_text so_far.parts (adds_then so_far.adds f)

  pub breaks : {T E D S : Type 0} {a b c : K} {waits now now' now'' p whole : List ℕ} {d : D} {r : Result T E} {e : E} → r ≡ Err e → (rest : List ℕ) → AddsSoFar held faults room counts a b waits now (p ++ rest) whole
      → Adds {T = S} {E = D} held faults room counts b c now now' p (Err d) → Adds {T = T} {E = E} held faults room counts a c waits now'' whole r
  breaks {p = p} is rest so_far f =
      adds_text (append_assoc so_far.done p rest ∙ so_far.parts) (adds_broken is rest (adds_then so_far.adds f))

  -- what is still to be added, in other words
  pub still : {a b : K} {waits now rest other whole : List ℕ} → rest ≡ other → AddsSoFar held faults room counts a b waits now rest whole → AddsSoFar held faults room counts a b waits now other whole
  still {a = a} {b = b} {waits = waits} {now = now} {whole = whole} same so_far = subst (λ rest. AddsSoFar held faults room counts a b waits now rest whole) same so_far

-- where nothing waits at the end, all is written

on_ok_is : {T E P : Type 0} (r : Result T E) → OnOk r P → IsOk r → P
on_ok_is (Ok x) p is = p
on_ok_is {T} (Err e) p is = absurd (err_is_not_ok T e is)

room_left : {T E : Type 0} (r : Result T E) (a b : Option ℕ) (now whole : List ℕ) → OnOk r (now ≡ [])
    → IfSome a (λ most. length whole ≤ most → IsOk r × (b ≡ Some ((most + length now) - length whole)))
    → IfSome a (λ most. length whole ≤ most → IsOk r × (b ≡ Some (most - length whole)))
room_left r None b now whole none f = tt
room_left r (Some most) b now whole none f = λ fits.
    let is = f fits in
    let nil = ap length (on_ok_is r none is.0) in
    let left : (most + length now) - length whole ≡ most - length whole = omega (arith, nil) in
    (is.0, is.1 ∙ ap Some left)

module _ {K : Type 0} {held : K → Option (List ℕ)} {faults : K → ℕ} {room : K → Option ℕ} {counts : K → Bool} where
  pub written_whole : {T E : Type 0} {a b : K} {waits now text : List ℕ} (r : Result T E) → OnOk r (now ≡ [])
      → Adds held faults room counts a b waits now text r → OnOk r (GrewBy (held a) (held b) (waits ++ text))
  written_whole {a = a} {b = b} {waits = waits} {text = text} (Ok x) none f =
      told_all (held a) (held b) (waits ++ text) (subst (λ t. IsTold (held a) (held b) t (waits ++ text)) none f.whole)
  written_whole (Err e) none f = tt

  pub written_room : {T E : Type 0} {a b : K} {waits now text : List ℕ} (r : Result T E) → OnOk r (now ≡ []) → Adds held faults room counts a b waits now text r
      → IfSome (room a) (λ most. length (waits ++ text) ≤ most → IsOk r × (room b ≡ Some (most - length (waits ++ text))))
  written_room {a = a} {b = b} {waits = waits} {now = now} {text = text} r none f = room_left r (room a) (room b) now (waits ++ text) none f.within
