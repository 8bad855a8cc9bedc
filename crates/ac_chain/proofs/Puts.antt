-- Rows that are put before a place, one after another.
use Rattle.std.proofs.Common.{◌≡◌, ℕ, zero, suc, ◌+◌, ◌-◌, ◌^◌, ◌<◌, ◌≤◌, List, ◌∷◌, ◌++◌, length, reverse, replicate, Option, Some, None, refl, sym, ap, ◌∙◌, subst, inl, inr, arith, append_assoc, append-nil, length-append, le-leb, []}
use Rattle.std.proofs.lemmas.List.{reverse-append, length-reverse, replicate_more, length-replicate}
use Rattle.std.specs.Prelude.{max}
use Rattle.std.specs.List.{insert}
use Rattle.std.proofs.Math.Nat.{le-max_left, le-max_right}
use Rattle.ac_base.specs.declared.name.Name.{Name}
use Rattle.ac_chain.specs.Rows.{Chained, IsLive, IsSound, IsFresh, place_of, inserted, reserved, chained}
use Rattle.ac_pool.specs.NamedRows.{index_of, HasName, IsOnce}
use Rattle.ac_chain.specs.ChainFields.{first_or}
use Rattle.ac_chain.proofs.Ends.{split}
use Rattle.ac_pool.proofs.Cuts.{apart, index_of-cut, insert-cut, live_has, has_live, HasName-right, HasName-put}
use Rattle.ac_chain.proofs.Moves.{once_from}
use Rattle.ac_base.specs.Rows.{Row, row}
use Rattle.ac_model.specs.Rows.{fresh}
use Rattle.ac_base.specs.Growth.{pow8}
use Rattle.ac_base.proofs.Powers.{pow8-enough}
use Rattle.std.proofs.lemmas.Bool.{cond-true, cond-false, cases_lt, cases_eq, lt-leb}
use Rattle.ac_chain.specs.Put.{IsPut, IsFirst, HasFirst, HasGrown}
use Rattle.ac_model.proofs.Plains.{plains-append, length-plains, fresh-append}

module _ {X : Type 0} where
  -- nothing was put yet
  pub put_none : (c : Chained X) (place : Option Name) → ((a : Name) → place ≡ Some a → IsLive c a) → IsPut c.rows c.next_serial place [] c
  put_none c place h =
      let s = split place c.rows (λ a e. live_has a c.rows (h a e)) in
      let e : c.next_serial ≡ c.next_serial + 0 = omega arith in
      record {
        before = s.before;
        more = [];
        after = s.after;
        were = s.is;
        are = s.is ∙ ap (λ xs. xs ++ s.after) (sym (append-nil s.before));
        at = s.at;
        named = s.named;
        fresh_names = refl;
        risen = e;
      }

  pub place_cut : (place : Option Name) (xs ys : List (Row Name X)) → IsOnce (xs ++ ys) → place ≡ first_or ys None → place_of place (xs ++ ys) ≡ length xs
  place_cut place xs [] once e = ap (λ p. place_of p (xs ++ [])) e ∙ ap length (append-nil xs)
  place_cut place xs (y ∷ ys) once e = ap (λ p. place_of p (xs ++ y ∷ ys)) e ∙ index_of-cut xs y ys (λ t. apart xs (y ∷ ys) once y.name t (inl refl))

  -- one more was put
  pub put_one : (rows : List (Row Name X)) (next : ℕ) (place : Option Name) (vs : List X) (now then : Chained X) (a : Name) (v : X) → IsSound now → IsPut rows next place vs now
      → IsFresh now a → then ≡ inserted now place (row a v) → IsPut rows next place (vs ++ v ∷ []) then
  put_one rows next place vs now then a v s p f e =
      let r = row a v in
      let left = p.before ++ p.more in
      let once : IsOnce (left ++ p.after) = subst (λ zs. IsOnce zs) p.are (once_from now.rows s.once) in
      let at : place_of place now.rows ≡ length left = ap (place_of place) p.are ∙ place_cut place left p.after once p.named in
      let are : insert now.rows (place_of place now.rows) r ≡ left ++ r ∷ p.after = ap (λ i. insert now.rows i r) at ∙ ap (λ zs. insert zs (length left) r) p.are ∙ insert-cut left r p.after in
      let join : left ++ r ∷ p.after ≡ p.before ++ (p.more ++ r ∷ []) ++ p.after =
      sym (append_assoc left (r ∷ []) p.after) ∙ ap (λ zs. zs ++ p.after) (append_assoc p.before p.more (r ∷ [])) in
      let serial : a.serial ≡ next + length vs = f.serial ∙ p.risen in
      let count : (next + length vs) + 1 ≡ next + length (vs ++ v ∷ []) = omega (arith, length-append vs (v ∷ [])) in
      record {
        before = p.before;
        more = p.more ++ r ∷ [];
        after = p.after;
        were = p.were;
        are = ap (λ (d : Chained X). d.rows) e ∙ are ∙ join;
        at = p.at;
        named = p.named;
        fresh_names = plains-append p.more (r ∷ []) ∙ (λ i. p.fresh_names i ++ (row (serial i) v ∷ [])) ∙ sym (fresh-append next vs v);
        risen = ap (λ (d : Chained X). d.next_serial) e ∙ ap (λ n. n + 1) p.risen ∙ count;
      }

  -- so far: some were put, and the others are left
  pub record Putting (from : Chained X) (place : Option Name) (all left : List X) (now : Chained X) : Type 0 where
    pub done : List X
    pub put : IsPut from.rows from.next_serial place done now
    pub order : all ≡ done ++ reverse left
    pub spare : now.spare + length done ≡ from.spare
    pub sound : IsSound now

  pub putting_start : (from : Chained X) (place : Option Name) (first : X) (others : List X) (now : Chained X) (a : Name) → ((b : Name) → place ≡ Some b → IsLive from b) → IsSound from → 0 < from.spare
      → IsFresh from a → now ≡ inserted from place (row a first) → IsSound now → Putting from place (first ∷ reverse others) others now
  putting_start from place first others now a h s room f e t =
      let less : now.spare ≡ from.spare - 1 = ap (λ (d : Chained X). d.spare) e in
      record {
        done = first ∷ [];
        put = put_one from.rows from.next_serial place [] from now a first s (put_none from place h) f e;
        order = refl;
        spare = omega arith;
        sound = t;
      }

  pub putting_more : (from : Chained X) (place : Option Name) (all left rest : List X) (now then : Chained X) (a : Name) (v : X) → Putting from place all left now → left ≡ rest ++ v ∷ []
      → 0 < now.spare → IsFresh now a → then ≡ inserted now place (row a v) → IsSound then → Putting from place all rest then
  putting_more from place all left rest now then a v p split room f e t =
      let less : then.spare ≡ now.spare - 1 = ap (λ (d : Chained X). d.spare) e in
      let longer = length-append p.done (v ∷ []) in
      let before = p.spare in
      record {
        done = p.done ++ v ∷ [];
        put = put_one from.rows from.next_serial place p.done now then a v p.sound p.put f e;
        order = p.order ∙ ap (λ vs. p.done ++ vs) (ap reverse split ∙ reverse-append rest (v ∷ [])) ∙ sym (append_assoc p.done (v ∷ []) (reverse rest));
        spare = omega arith;
        sound = t;
      }

  -- how many are left to be put
  pub putting_count : (from : Chained X) (place : Option Name) (all left : List X) (now : Chained X) → Putting from place all left now → now.spare + length all ≡ from.spare + length left
  putting_count from place all left now p =
      let e : length all ≡ length p.done + length left = ap length p.order ∙ length-append p.done (reverse left) ∙ ap (λ n. length p.done + n) (length-reverse left) in
      let before = p.spare in omega arith

  pub putting_serials : (from : Chained X) (place : Option Name) (all left : List X) (now : Chained X) → Putting from place all left now → now.next_serial + length left ≡ from.next_serial + length all
  putting_serials from place all left now p =
      let e : length all ≡ length p.done + length left = ap length p.order ∙ length-append p.done (reverse left) ∙ ap (λ n. length p.done + n) (length-reverse left) in
      let risen = p.put.risen in omega arith

  pub putting_end : (from : Chained X) (place : Option Name) (all left : List X) (now : Chained X) → Putting from place all left now → left ≡ [] → IsPut from.rows from.next_serial place all now
  putting_end from place all left now p none =
      subst (λ vs. IsPut from.rows from.next_serial place vs now) (sym (p.order ∙ ap (λ vs. p.done ++ reverse vs) none ∙ append-nil p.done)) p.put

  -- the place is still there
  pub put_live : (rows : List (Row Name X)) (next : ℕ) (place : Option Name) (vs : List X) (now : Chained X) → IsPut rows next place vs now → (a : Name) → place ≡ Some a → IsLive now a
  put_live rows next place vs now p a e =
      has_live a now.rows (subst (λ zs. HasName a zs) (sym p.are) (HasName-right a (p.before ++ p.more) p.after (first_has a p.after (sym p.named ∙ e))))
    where
      first_has : (a : Name) (rows : List (Row Name X)) → first_or rows None ≡ Some a → HasName a rows
      first_has a [] e = absurd (let k : None ≡ Some a = e in cc)
      first_has a (r ∷ rows) e = inl (let k : Some r.name ≡ Some a = e in let n : a ≡ r.name = cc in n)

  -- so many more rows
  pub put_length : (rows : List (Row Name X)) (next : ℕ) (place : Option Name) (vs : List X) (now : Chained X) → IsPut rows next place vs now → length now.rows ≡ length rows + length vs
  put_length rows next place vs now p =
      let a = ap length p.are ∙ length-append (p.before ++ p.more) p.after in
      let b = length-append p.before p.more in
      let c = ap length p.were ∙ length-append p.before p.after in
      let d : length p.more ≡ length vs = sym (length-plains p.more) ∙ ap length p.fresh_names ∙ length-fresh next vs in
      omega arith
    where
      length-fresh : (next : ℕ) (vs : List X) → length (fresh next vs) ≡ length vs
      length-fresh next [] = refl
      length-fresh next (v ∷ vs) = ap suc (length-fresh (next + 1) vs)

  -- while some are left there is room for one more
  pub putting_room : (from : Chained X) (place : Option Name) (first v : X) (others left rest : List X) (now : Chained X) → Putting from place (first ∷ reverse others) left now → left ≡ rest ++ v ∷ []
      → length others < from.spare → from.next_serial + length others + 1 < 2 ^ 64 → (0 < now.spare) × (now.next_serial < 2 ^ 64 - 1)
  putting_room from place first v others left rest now p split room serials =
      let count : now.spare + suc (length (reverse others)) ≡ from.spare + length left = putting_count from place (first ∷ reverse others) left now p in
      let risen : now.next_serial + length left ≡ from.next_serial + suc (length (reverse others)) = putting_serials from place (first ∷ reverse others) left now p in
      let all = length-reverse others in
      let some : length left ≡ length rest + 1 = ap length split ∙ length-append rest (v ∷ []) in
      (omega arith, omega arith)

  -- one of so many copies is taken
  pub one_less : (more i : ℕ) (v : X) → i < more → replicate (more - i) v ≡ replicate (more - (i + 1)) v ++ v ∷ []
  one_less more i v lt = let count : more - (i + 1) + 1 ≡ more - i = omega arith in sym (replicate_more (more - (i + 1)) v ∙ ap (λ m. replicate m v) count)

  pub all_left : (more : ℕ) (v : X) → replicate (more - 0) v ≡ replicate more v
  all_left more v = let count : more - 0 ≡ more = omega arith in ap (λ m. replicate m v) count

  -- while copies are left there is room for one more
  pub again_room : (from : Chained X) (place : Option Name) (v : X) (more i : ℕ) (now : Chained X) → Putting from place (v ∷ reverse (replicate more v)) (replicate (more - i) v) now → i < more
      → more < from.spare → from.next_serial + more + 1 < 2 ^ 64 → (0 < now.spare) × (now.next_serial < 2 ^ 64 - 1)
  again_room from place v more i now p lt room serials =
      let count : length (replicate more v) ≡ more = length-replicate more v in
      putting_room from place v v (replicate more v) (replicate (more - i) v) (replicate (more - (i + 1)) v) now p (one_less more i v lt) (omega arith) (omega arith)

  -- all copies are put
  pub again_end : (from : Chained X) (place : Option Name) (v : X) (more i : ℕ) (now : Chained X) → Putting from place (v ∷ reverse (replicate more v)) (replicate (more - i) v) now → more ≤ i
      → IsPut from.rows from.next_serial place (v ∷ reverse (replicate more v)) now × (now.spare + more + 1 ≡ from.spare)
  again_end from place v more i now p le =
      let none : more - i ≡ 0 = omega arith in
      let left : replicate (more - i) v ≡ [] = ap (λ m. replicate m v) none in
      let all : length (reverse (replicate more v)) ≡ more = length-reverse (replicate more v) ∙ length-replicate more v in
      let count : now.spare + suc (length (reverse (replicate more v))) ≡ from.spare + length (replicate (more - i) v) = putting_count from place (v ∷ reverse (replicate more v)) (replicate (more - i) v) now p in
      let gone : length (replicate (more - i) v) ≡ 0 = ap length left in
      (putting_end from place (v ∷ reverse (replicate more v)) (replicate (more - i) v) now p left, omega arith)

  reverse-replicate : (n : ℕ) (v : X) → reverse (replicate n v) ≡ replicate n v
  reverse-replicate zero v = refl
  reverse-replicate (suc n) v = reverse-append (v ∷ []) (replicate n v) ∙ ap (λ vs. vs ++ v ∷ []) (reverse-replicate n v) ∙ replicate_more n v ∙ (let e : n + 1 ≡ suc n = omega arith in ap (λ m. replicate m v) e)

  -- one and so many others
  pub all_copies : (n : ℕ) (v : X) (others : List X) → (n ≡ 0 → ⊥) → others ≡ replicate (n - 1) v → v ∷ reverse others ≡ replicate n v
  all_copies zero v others n e = absurd (n refl)
  all_copies (suc n) v others _ e = let same : suc n - 1 ≡ n = omega arith in ap (λ vs. v ∷ reverse vs) (e ∙ ap (λ m. replicate m v) same) ∙ ap (λ vs. v ∷ vs) (reverse-replicate n v)

  pub reserved_kept : (c : Chained X) (n : ℕ) → n ≤ c.spare → reserved c n ≡ c
  reserved_kept c n h = cond-true _ _ _ (le-leb n c.spare h)

  -- what was reserved
  pub record Reserved (c d : Chained X) (n : ℕ) : Type 0 where
    pub rows : d.rows ≡ c.rows
    pub next : d.next_serial ≡ c.next_serial
    pub enough : n ≤ d.spare

  pub reserved_enough : (c d : Chained X) (n : ℕ) → d ≡ reserved c n → Reserved c d n
  reserved_enough c d n e = subst (λ (x : Chained X). Reserved c x n) (sym e) (elim (cases_lt c.spare n) [
    | inl lt ↦ let grown : reserved c n ≡ chained c.rows c.next_serial (pow8 (length c.rows + n) - length c.rows) = cond-false _ _ _ (lt-leb n c.spare lt) in
        let enough = pow8-enough (length c.rows + n) in
        subst (λ (x : Chained X). Reserved c x n) (sym grown) (record { rows = refl; next = refl; enough = omega arith })
    | inr le ↦ subst (λ (x : Chained X). Reserved c x n) (sym (reserved_kept c n le)) (record { rows = refl; next = refl; enough = le })
  ])

  pub reserved_live : (c d : Chained X) (n : ℕ) (place : Option Name) → d ≡ reserved c n → ((a : Name) → place ≡ Some a → IsLive c a) → (a : Name) → place ≡ Some a → IsLive d a
  reserved_live c d n place e h = λ a q. subst (λ rows. index_of a rows < length rows) (sym (reserved_enough c d n e).rows) (h a q)

  -- what was put after so many slots were reserved
  pub reserved_put : (c d now : Chained X) (n : ℕ) (place : Option Name) (vs : List X) → d ≡ reserved c n → IsPut d.rows d.next_serial place vs now → IsPut c.rows c.next_serial place vs now
  reserved_put c d now n place vs is p =
      let r = reserved_enough c d n is in
      subst (λ rows. IsPut rows c.next_serial place vs now) r.rows (subst (λ next. IsPut d.rows next place vs now) r.next p)

  -- so many copies were put, after so many slots were reserved
  pub copies_put : (c d now : Chained X) (n : ℕ) (place : Option Name) (e : X) (others : List X) → (n ≡ 0 → ⊥) → d ≡ reserved c n → others ≡ replicate (n - 1) e
      → IsPut d.rows d.next_serial place (e ∷ reverse others) now → IsPut c.rows c.next_serial place (replicate n e) now
  copies_put c d now n place e others some is copies p =
      subst (λ vs. IsPut c.rows c.next_serial place vs now) (all_copies n e others some copies) (reserved_put c d now n place (e ∷ reverse others) is p)

  pub copies_fit : (c d : Chained X) (n : ℕ) (e : X) (others : List X) → (n ≡ 0 → ⊥) → d ≡ reserved c n → others ≡ replicate (n - 1) e → length others < d.spare
  copies_fit c d n e others some is copies =
      let enough = (reserved_enough c d n is).enough in
      let count : length others ≡ n - 1 = ap length copies ∙ length-replicate (n - 1) e in
      elim (cases_eq n 0) [ inl z ↦ absurd (some z) | inr more ↦ omega arith ]

  -- the same where the copies stand nowhere before
  pub again_fits : (c d : Chained X) (n : ℕ) (e : X) → (n ≡ 0 → ⊥) → d ≡ reserved c n → n - 1 < d.spare
  again_fits c d n e some is = subst (λ m. m < d.spare) (length-replicate (n - 1) e) (copies_fit c d n e (replicate (n - 1) e) some is refl)

  pub again_spare : (n : ℕ) (e : X) (left spare : ℕ) → left + (n - 1) + 1 ≡ spare → left + length (replicate (n - 1) e) + 1 ≡ spare
  again_spare n e left spare sum = ap (λ m. left + m + 1) (length-replicate (n - 1) e) ∙ sum

  pub copies_slots : (c d now : Chained X) (n : ℕ) (place : Option Name) (e : X) (others : List X) → (n ≡ 0 → ⊥) → d ≡ reserved c n → others ≡ replicate (n - 1) e
      → IsPut d.rows d.next_serial place (e ∷ reverse others) now → now.spare + length others + 1 ≡ d.spare → n ≤ c.spare → length now.rows + now.spare ≡ length c.rows + c.spare
  copies_slots c d now n place e others some is copies p spare room =
      let same : d ≡ c = is ∙ reserved_kept c n room in
      let a : d.spare ≡ c.spare = ap (λ (x : Chained X). x.spare) same in
      let b : length d.rows ≡ length c.rows = ap (λ (x : Chained X). length x.rows) same in
      let count : length now.rows ≡ length d.rows + suc (length (reverse others)) = put_length d.rows d.next_serial place (e ∷ reverse others) now p in
      let all = length-reverse others in
      omega arith

  -- a row's name is live once it was put, and the other names stay live
  pub live_new : (now then : Chained X) (place : Option Name) (b : Name) (v : X) → ((a : Name) → place ≡ Some a → IsLive now a) → then ≡ inserted now place (row b v) → (IsLive then b) × ((a : Name) → IsLive now a → IsLive then a)
  live_new now then place b v h e =
      let s = split place now.rows (λ a q. live_has a now.rows (h a q)) in
      let r = row b v in
      let is : then.rows ≡ s.before ++ r ∷ s.after = ap (λ (d : Chained X). d.rows) e ∙ (λ i. insert (s.is i) (s.at i) r) ∙ insert-cut s.before r s.after in (
        has_live b then.rows (subst (λ rows. HasName b rows) (sym is) (HasName-right b s.before (r ∷ s.after) (inl refl))),
        λ a live. has_live a then.rows (subst (λ rows. HasName a rows) (sym is) (HasName-put a s.before r s.after (subst (λ rows. HasName a rows) s.is (live_has a now.rows live)))),
      )

  pub first_start : (from now : Chained X) (place : Option Name) (a : Name) (v : X) → ((b : Name) → place ≡ Some b → IsLive from b) → IsFresh from a → now ≡ inserted from place (row a v) → IsFirst from.next_serial now a
  first_start from now place a v h f e = record { serial = f.serial; live = (live_new from now place a v h e).0 }

  pub first_more : (next : ℕ) (now then : Chained X) (place : Option Name) (a b : Name) (v : X) → ((d : Name) → place ≡ Some d → IsLive now d) → then ≡ inserted now place (row b v) → IsFirst next now a → IsFirst next then a
  first_more next now then place a b v h e f = record { serial = f.serial; live = (live_new now then place b v h e).1 a f.live }

  pub has_first : (n next : ℕ) (now : Chained X) (a : Name) → (n ≡ 0 → ⊥) → IsFirst next now a → HasFirst next n now (Some a)
  has_first zero next now a some f = absurd (some refl)
  has_first (suc n) next now a some f = f

  -- the slots after so many were reserved
  pub reserved_slots : (c d : Chained X) (n : ℕ) → d ≡ reserved c n → length d.rows + d.spare ≤ max (length c.rows + c.spare) (pow8 (length c.rows + n))
  reserved_slots c d n e = subst (λ (x : Chained X). length x.rows + x.spare ≤ max (length c.rows + c.spare) (pow8 (length c.rows + n))) (sym e) (elim (cases_lt c.spare n) [
    | inl lt ↦ let grown : reserved c n ≡ chained c.rows c.next_serial (pow8 (length c.rows + n) - length c.rows) = cond-false _ _ _ (lt-leb n c.spare lt) in
        let enough = pow8-enough (length c.rows + n) in
        let all : length c.rows + (pow8 (length c.rows + n) - length c.rows) ≡ pow8 (length c.rows + n) = omega arith in
        subst (λ (x : Chained X). length x.rows + x.spare ≤ max (length c.rows + c.spare) (pow8 (length c.rows + n))) (sym grown)
        (subst (λ m. m ≤ max (length c.rows + c.spare) (pow8 (length c.rows + n))) (sym all) (le-max_right (length c.rows + c.spare) (pow8 (length c.rows + n))))
    | inr le ↦ subst (λ (x : Chained X). length x.rows + x.spare ≤ max (length c.rows + c.spare) (pow8 (length c.rows + n))) (sym (reserved_kept c n le)) (le-max_left (length c.rows + c.spare) (pow8 (length c.rows + n)))
  ])

  -- the slots after so many rows more, for which slots were reserved
  pub reserved_grown : (c d now : Chained X) (n : ℕ) → d ≡ reserved c n → length now.rows ≡ length c.rows + n → length now.rows + now.spare ≡ length d.rows + d.spare → HasGrown c n now
  reserved_grown c d now n is more sum = record {
    kept = λ fits. sum ∙ ap (λ (x : Chained X). length x.rows + x.spare) (is ∙ reserved_kept c n fits);
    most = subst (λ m. length now.rows + now.spare ≤ max (length c.rows + c.spare) (pow8 m)) (sym more) (subst (λ m. m ≤ max (length c.rows + c.spare) (pow8 (length c.rows + n))) (sym sum) (reserved_slots c d n is));
  }

  pub copies_grown : (c d now : Chained X) (n : ℕ) (place : Option Name) (e : X) (others : List X) → (n ≡ 0 → ⊥) → d ≡ reserved c n → others ≡ replicate (n - 1) e
      → IsPut d.rows d.next_serial place (e ∷ reverse others) now → now.spare + length others + 1 ≡ d.spare → length now.rows + now.spare ≤ max (length c.rows + c.spare) (pow8 (length now.rows))
  copies_grown c d now n place e others some is copies p spare =
      let count : length now.rows ≡ length d.rows + suc (length (reverse others)) = put_length d.rows d.next_serial place (e ∷ reverse others) now p in
      let all = length-reverse others in
      let same : now.spare + length now.rows ≡ d.spare + length d.rows = omega arith in
      let more : length now.rows ≡ length c.rows + n = put_length c.rows c.next_serial place (replicate n e) now (copies_put c d now n place e others some is copies p) ∙ ap (λ m. length c.rows + m) (length-replicate n e) in
      (reserved_grown c d now n is more (let sum : length now.rows + now.spare ≡ length d.rows + d.spare = omega arith in sum)).most

  pub first_put : (c d now : Chained X) (n : ℕ) (a : Name) → (n ≡ 0 → ⊥) → d ≡ reserved c n → IsFirst d.next_serial now a → HasFirst c.next_serial n now (Some a)
  first_put c d now n a some is f = has_first n c.next_serial now a some (subst (λ next. IsFirst next now a) (reserved_enough c d n is).next f)
