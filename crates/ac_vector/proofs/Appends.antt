-- Values that are put behind the last row and then turned to their place.
use Rattle.std.proofs.Common.{◌≡◌, ℕ, zero, suc, ◌+◌, ◌-◌, ◌^◌, ◌<◌, ◌≤◌, List, [], ◌∷◌, ◌++◌, length, replicate, take, drop, Option, Some, None, Result, refl, sym, ap, ◌∙◌, subst, inl, arith, append_assoc, append-nil, length-append, ne_eqb}
use Rattle.std.specs.Prelude.{◌==◌, if◌then◌else◌}
use Rattle.std.specs.Result.{IfOk}
use Rattle.std.specs.Option.{ForSome, option_map}
use Rattle.std.proofs.Math.Seq.{take-append_seam, drop-append_seam}
use Rattle.std.proofs.lemmas.List.{length-replicate, nil_from_length, replicate_more}
use Rattle.std.proofs.lemmas.Bool.{cond-false}
use Rattle.std.proofs.lemmas.Option.{none-some}
use Rattle.ac_base.specs.declared.fault.NoMemory.{NoMemory}
use Rattle.ac_base.specs.declared.name.Name.{Name}
use Rattle.ac_base.specs.Rows.{Row, row}
use Rattle.ac_chain.specs.ChainFields.{first_or}
use Rattle.ac_pool.specs.NamedRows.{HasName, index_of, name_at}
use Rattle.ac_chain.specs.Put.{IsPut, IsFirst, HasFirst}
use Rattle.ac_chain.specs.Rows.{Chained, IsFresh, IsLive, IsSound, inserted, place_of, reserved, slots_in, with_rows}
use Rattle.ac_chain.proofs.Ends.{split}
use Rattle.ac_pool.proofs.Cuts.{live_has, has_live, HasName-right, slice_get-cut}
use Rattle.ac_chain.proofs.Puts.{put_none, put_one, put_length, live_new, reserved_enough, reserved_kept, reserved_live, reserved_put}
use Rattle.ac_model.specs.Objects.{plains}
use Rattle.ac_model.specs.Rows.{fresh}
use Rattle.ac_model.proofs.Lengths.{length-fresh}
use Rattle.ac_model.proofs.Plains.{length-plains}
use Rattle.ac_vector.specs.Turn.{turned}

-- the last of three lists before the second
turned_is : {A : Type 0} (xs ys zs : List A) → turned ((xs ++ ys) ++ zs) (length xs) (length zs) ≡ (xs ++ zs) ++ ys
turned_is xs ys zs =
    let all = (xs ++ ys) ++ zs in
    let long : length all - length zs ≡ length (xs ++ ys) = omega (arith, length-append (xs ++ ys) zs) in
    let mid : length all - length zs - length xs ≡ length ys = omega (arith, length-append (xs ++ ys) zs, length-append xs ys) in
    let first : take (length xs) all ≡ xs = ap (take (length xs)) (append_assoc xs ys zs) ∙ take-append_seam xs (ys ++ zs) in
    let last : drop (length all - length zs) all ≡ zs = ap (λ n. drop n all) long ∙ drop-append_seam (xs ++ ys) zs in
    let rest : drop (length xs) all ≡ ys ++ zs = ap (drop (length xs)) (append_assoc xs ys zs) ∙ drop-append_seam xs (ys ++ zs) in
    let middle : take (length all - length zs - length xs) (drop (length xs) all) ≡ ys = (λ i. take (mid i) (rest i)) ∙ take-append_seam ys zs in
    λ i. (first i ++ last i) ++ middle i

pub several : (n : ℕ) → 1 < n → n ≡ 0 → ⊥
several n more none = omega arith

module _ {X : Type 0} where
  -- so far: some were put at the end, and the others are left
  pub record Appending (from : Chained X) (all left : List X) (now : Chained X) : Type 0 where
    pub done : List X
    pub put : IsPut from.rows from.next_serial None done now
    pub order : all ≡ done ++ left
    pub spare : now.spare + length done ≡ from.spare
    pub sound : IsSound now

  pub appending_start : (from : Chained X) (all left : List X) → left ≡ all → IsSound from → Appending from all left from
  appending_start from all left e s = record {
    done = [];
    put = put_none from None (λ a q. absurd (none-some a q));
    order = sym e;
    spare = omega arith;
    sound = s;
  }

  pub appending_more : (from : Chained X) (all left rest : List X) (now later : Chained X) (a : Name) (v : X) → Appending from all left now → left ≡ v ∷ rest → 0 < now.spare
      → IsFresh now a → later ≡ inserted now None (row a v) → IsSound later → Appending from all rest later
  appending_more from all left rest now later a v p split room f e t =
      let less : later.spare ≡ now.spare - 1 = ap (λ (d : Chained X). d.spare) e in
      let longer = length-append p.done (v ∷ []) in
      let before = p.spare in
      record {
        done = p.done ++ v ∷ [];
        put = put_one from.rows from.next_serial None p.done now later a v p.sound p.put f e;
        order = p.order ∙ ap (λ vs. p.done ++ vs) split ∙ sym (append_assoc p.done (v ∷ []) rest);
        spare = omega arith;
        sound = t;
      }

  -- while some are left there is room for one more
  pub appending_room : (from : Chained X) (all left rest : List X) (now : Chained X) (v : X) → Appending from all left now → left ≡ v ∷ rest → length all ≤ from.spare → from.next_serial + length all < 2 ^ 64
      → (0 < now.spare) × (now.next_serial < 2 ^ 64 - 1)
  appending_room from all left rest now v p split room serials =
      let count : length all ≡ length p.done + length left = ap length p.order ∙ length-append p.done left in
      let some : length left ≡ suc (length rest) = ap length split in
      let spare = p.spare in let risen = p.put.risen in
      (omega arith, omega arith)

  pub appending_end : (from : Chained X) (all left : List X) (now : Chained X) → Appending from all left now → length left ≡ 0 → (IsPut from.rows from.next_serial None all now) × (now.spare + length all ≡ from.spare)
  appending_end from all left now p none =
      let is : p.done ≡ all = sym (p.order ∙ ap (λ vs. p.done ++ vs) (nil_from_length left none) ∙ append-nil p.done) in
      (subst (λ vs. IsPut from.rows from.next_serial None vs now) is p.put, subst (λ vs. now.spare + length vs ≡ from.spare) is p.spare)

  -- the place of a live name, or the end
  pub place_within : (c : Chained X) (place : Option Name) → ForSome place (IsLive c) → place_of place c.rows ≤ length c.rows
  place_within c None h = omega arith
  place_within c (Some a) h = let live : IsLive c a = h a refl in omega arith

  pub put_fits : (from now : Chained X) (place other : Option Name) (vs : List X) (at count : ℕ) → ForSome place (IsLive from) → at ≡ place_of place from.rows → count ≡ length vs → IsPut from.rows from.next_serial other vs now → at + count ≤ length now.rows
  put_fits from now place other vs at count h e many p = let le = place_within from place h in let all = put_length from.rows from.next_serial other vs now p in omega arith

  pub no_more : (rows : List (Row Name X)) → None ≡ first_or rows None → rows ≡ []
  no_more [] e = refl
  no_more (r ∷ rows) e = absurd (none-some r.name e)

  -- what was put at the end and then turned to its place was put there
  pub turned_put : (from now later : Chained X) (place : Option Name) (vs : List X) (at count : ℕ) → ForSome place (IsLive from) → IsPut from.rows from.next_serial None vs now → at ≡ place_of place from.rows → count ≡ length vs
      → later ≡ with_rows now (turned now.rows at count) → IsPut from.rows from.next_serial place vs later
  turned_put from now later place vs at count h p e many is =
      let s = split place from.rows (λ a q. live_has a from.rows (h a q)) in
      let all : p.before ≡ from.rows = sym (p.were ∙ ap (λ xs. p.before ++ xs) (no_more p.after p.named) ∙ append-nil p.before) in
      let rows : now.rows ≡ (s.before ++ s.after) ++ p.more = p.are ∙ ap (λ xs. (p.before ++ p.more) ++ xs) (no_more p.after p.named) ∙ append-nil (p.before ++ p.more) ∙ ap (λ xs. xs ++ p.more) (all ∙ s.is) in
      let long : length p.more ≡ length vs = sym (length-plains p.more) ∙ ap length p.fresh_names ∙ length-fresh from.next_serial vs in
      record {
        before = s.before;
        more = p.more;
        after = s.after;
        were = s.is;
        are = ap (λ (d : Chained X). d.rows) is ∙ (λ i. turned (rows i) ((e ∙ s.at) i) ((many ∙ sym long) i)) ∙ turned_is s.before s.after p.more;
        at = s.at;
        named = s.named;
        fresh_names = p.fresh_names;
        risen = ap (λ (d : Chained X). d.next_serial) is ∙ p.risen;
      }

  -- the name at the place of what was put is the first one's
  pub first_there : (from now : Chained X) (place : Option Name) (vs : List X) (at count : ℕ) (r : Option Name) → IsPut from.rows from.next_serial place vs now → at ≡ place_of place from.rows → count ≡ length vs
      → r ≡ (if count == 0 then None else name_at now.rows at) → HasFirst from.next_serial (length vs) now r
  first_there from now place [] at count r p e many is = is ∙ ap (λ n. if n == 0 then None else name_at now.rows at) many
  first_there from now place (v ∷ vs) at count r p e many is =
      subst (λ q. HasFirst from.next_serial (suc (length vs)) now q) (sym (is ∙ ap (λ n. if n == 0 then None else name_at now.rows at) many ∙ cond-false _ _ _ (ne_eqb (suc (length vs)) 0 (λ q. omega arith)))) (by p.more p.fresh_names refl)
    where
      by : (more : List (Row Name X)) → plains more ≡ fresh from.next_serial (v ∷ vs) → p.more ≡ more → HasFirst from.next_serial (suc (length vs)) now (name_at now.rows at)
      by [] names same = absurd (cc)
      by (f ∷ more) names same =
          let one : row f.name.serial f.value ≡ row from.next_serial v = cc in
          let serial : f.name.serial ≡ from.next_serial = ap (λ (q : Row ℕ X). q.name) one in
          let rows : now.rows ≡ p.before ++ f ∷ (more ++ p.after) = p.are ∙ ap (λ xs. (p.before ++ xs) ++ p.after) same ∙ append_assoc p.before (f ∷ more) p.after in
          let first : name_at now.rows at ≡ Some f.name =
          (λ i. name_at (rows i) ((e ∙ p.at) i)) ∙ ap (option_map (λ (q : Row Name X). q.name)) (slice_get-cut p.before f (more ++ p.after)) in
          subst (λ q. HasFirst from.next_serial (suc (length vs)) now q) (sym first) (record {
            serial = serial;
            live = has_live f.name now.rows (subst (λ zs. HasName f.name zs) (sym rows) (HasName-right f.name p.before (f ∷ (more ++ p.after)) (inl refl)));
          })

  pub last_count : (others : List X) (last : X) (n : ℕ) → n ≡ length others → n + 1 ≡ length (others ++ last ∷ [])
  last_count others last n e = omega (arith, length-append others (last ∷ []))

  -- so many copies, the last of them apart
  copies_last : (n : ℕ) (v : X) (others : List X) → (n ≡ 0 → ⊥) → others ≡ replicate (n - 1) v → others ++ v ∷ [] ≡ replicate n v
  copies_last zero v others some e = absurd (some refl)
  copies_last (suc n) v others some e = let same : suc n - 1 ≡ n = omega arith in let more : n + 1 ≡ suc n = omega arith in
      ap (λ vs. vs ++ v ∷ []) (e ∙ ap (λ m. replicate m v) same) ∙ replicate_more n v ∙ ap (λ m. replicate m v) more

  pub last_copies_put : (c d now : Chained X) (n : ℕ) (place : Option Name) (e : X) (others : List X) → (n ≡ 0 → ⊥) → d ≡ reserved c n → others ≡ replicate (n - 1) e
      → IsPut d.rows d.next_serial place (others ++ e ∷ []) now → IsPut c.rows c.next_serial place (replicate n e) now
  last_copies_put c d now n place e others some is copies p =
      subst (λ vs. IsPut c.rows c.next_serial place vs now) (copies_last n e others some copies) (reserved_put c d now n place (others ++ e ∷ []) is p)

  copies_count : (n : ℕ) (e : X) (others : List X) → (n ≡ 0 → ⊥) → others ≡ replicate (n - 1) e → length others + 1 ≡ n
  copies_count n e others some copies =
      sym (length-append others (e ∷ [])) ∙ ap length (copies_last n e others some copies) ∙ length-replicate n e

  pub last_copies_first : (c d now : Chained X) (n : ℕ) (e : X) (others : List X) (r : Option Name) → (n ≡ 0 → ⊥) → d ≡ reserved c n → others ≡ replicate (n - 1) e
      → HasFirst d.next_serial (length others + 1) now r → HasFirst c.next_serial n now r
  last_copies_first c d now n e others r some is copies h =
      subst (λ next. HasFirst next n now r) (reserved_enough c d n is).next (subst (λ m. HasFirst d.next_serial m now r) (copies_count n e others some copies) h)

  -- the slots after values were put, for which slots were reserved
  pub put_slots : (c d now : Chained X) (n : ℕ) (place : Option Name) (vs : List X) → d ≡ reserved c n → IsPut d.rows d.next_serial place vs now → now.spare + length vs ≡ d.spare → slots_in now ≡ slots_in (reserved c n)
  put_slots c d now n place vs is p spare =
      let count = put_length d.rows d.next_serial place vs now p in
      let same : length now.rows + now.spare ≡ length d.rows + d.spare = omega arith in
      same ∙ ap slots_in is

  pub last_copies_slots : (c d now : Chained X) (n : ℕ) (place : Option Name) (e : X) (others : List X) → d ≡ reserved c n → IsPut d.rows d.next_serial place (others ++ e ∷ []) now → now.spare + length others + 1 ≡ d.spare
      → slots_in now ≡ slots_in (reserved c n)
  last_copies_slots c d now n place e others is p spare = put_slots c d now n place (others ++ e ∷ []) is p (omega (arith, length-append others (e ∷ [])))

  none_new : (more : List (Row Name X)) → plains more ≡ [] → more ≡ []
  none_new [] e = refl
  none_new (r ∷ more) e = absurd (cc)

  same_put : (k now : Chained X) (place : Option Name) (vs : List X) → length vs ≡ 0 → IsPut k.rows k.next_serial place vs now → now.spare + length vs ≡ k.spare → now ≡ k
  same_put k now place (v ∷ vs) none p spare = absurd (omega arith)
  same_put k now place [] none p spare =
      let rows : now.rows ≡ k.rows = p.are ∙ ap (λ xs. (p.before ++ xs) ++ p.after) (none_new p.more p.fresh_names) ∙ ap (λ xs. xs ++ p.after) (append-nil p.before) ∙ sym p.were in
      let risen = p.risen in
      let next : now.next_serial ≡ k.next_serial = omega arith in
      let room : now.spare ≡ k.spare = omega arith in
      λ i. record { rows = rows i; next_serial = next i; spare = room i }

  -- nothing was put
  pub nothing_put : (c d now : Chained X) (n : ℕ) (place : Option Name) (vs : List X) → n ≡ length vs → d ≡ reserved c n → length vs ≡ 0 → IsPut d.rows d.next_serial place vs now → now.spare + length vs ≡ d.spare → now ≡ c
  nothing_put c d now n place vs count is none p spare = same_put d now place vs none p spare ∙ is ∙ reserved_kept c n (omega (arith, count, none))

  -- one value that went behind the last row
  module _ (from now : Chained X) (a : Name) (v : X) (is : now ≡ inserted from None (row a v)) where
    at_end : ForSome None (IsLive from)
    at_end b q = absurd (none-some b q)

    pub one_put : IsSound from → IsFresh from a → IsPut from.rows from.next_serial None (v ∷ []) now
    one_put s f = put_one from.rows from.next_serial None [] from now a v s (put_none from None at_end) f is

    pub one_put_at : (place : Option Name) → place ≡ None → IsSound from → IsFresh from a → IsPut from.rows from.next_serial place (v ∷ []) now
    one_put_at place none s f = subst (λ p. IsPut from.rows from.next_serial p (v ∷ []) now) (sym none) (one_put s f)

    pub one_first : IsFresh from a → IsFirst from.next_serial now a
    one_first f = record { serial = f.serial; live = (live_new from now None a v at_end is).0 }

    pub one_spare : 0 < from.spare → now.spare + 1 ≡ from.spare
    one_spare some = let less : now.spare ≡ from.spare - 1 = ap (λ (d : Chained X). d.spare) is in omega arith

  -- and was then turned to its place before a live name's row
  module _ (from now : Chained X) (b : Name) (at : ℕ) (v : X) (live : IsLive from b) (is : at ≡ index_of b from.rows) where
    before_live : ForSome (Some b) (IsLive from)
    before_live c q = let same : b ≡ c = cc in subst (λ d. IsLive from d) same live

    one : 1 ≡ length (v ∷ [])
    one = omega arith

    pub one_fits : IsPut from.rows from.next_serial None (v ∷ []) now → at + 1 ≤ length now.rows
    one_fits p = put_fits from now (Some b) None (v ∷ []) at 1 before_live is one p

    pub one_turned : (later : Chained X) → IsPut from.rows from.next_serial None (v ∷ []) now → later ≡ with_rows now (turned now.rows at 1) → IsPut from.rows from.next_serial (Some b) (v ∷ []) later
    one_turned later p turn = turned_put from now later (Some b) (v ∷ []) at 1 before_live p is one turn

    pub one_stands : IsPut from.rows from.next_serial (Some b) (v ∷ []) now → at < length now.rows
    one_stands p = let more = put_length from.rows from.next_serial (Some b) (v ∷ []) now p in omega arith

    pub one_there : (first : Name) → IsPut from.rows from.next_serial (Some b) (v ∷ []) now → Some first ≡ name_at now.rows at → IsFirst from.next_serial now first
    one_there first p e = first_there from now (Some b) (v ∷ []) at 1 (Some first) p is one e

  -- one value, for which a slot was reserved
  module _ (c d now : Chained X) (place : Option Name) (v : X) (is : d ≡ reserved c 1) where
    pub one_room : 0 < d.spare
    one_room = let enough = (reserved_enough c d 1 is).enough in omega arith

    pub one_serial : c.next_serial < 2 ^ 64 - 1 → d.next_serial < 2 ^ 64 - 1
    one_serial h = subst (λ n. n < 2 ^ 64 - 1) (sym (reserved_enough c d 1 is).next) h

    pub one_live : ForSome place (IsLive c) → ForSome place (IsLive d)
    one_live h = reserved_live c d 1 place is h

    pub one_named : (a : Name) → IsFirst d.next_serial now a → HasFirst c.next_serial 1 now (Some a)
    one_named a f = subst (λ next. IsFirst next now a) (reserved_enough c d 1 is).next f

    pub one_slots : IsPut d.rows d.next_serial place (v ∷ []) now → now.spare + 1 ≡ d.spare → slots_in now ≡ slots_in (reserved c 1)
    one_slots p spare = put_slots c d now 1 place (v ∷ []) is p spare

  -- one value is as many copies of it, where these are one
  module _ {A : Type 0} (r : Result A NoMemory) (c now : Chained X) (n : ℕ) (is : n ≡ 1) where
    pub single_put : (place : Option Name) (v : X) → IfOk r (λ _. IsPut c.rows c.next_serial place (v ∷ []) now) → IfOk r (λ _. IsPut c.rows c.next_serial place (replicate n v) now)
    single_put place v h = subst (λ m. IfOk r (λ _. IsPut c.rows c.next_serial place (replicate m v) now)) (sym is) h

    pub single_slots : IfOk r (λ _. slots_in now ≡ slots_in (reserved c 1)) → IfOk r (λ _. slots_in now ≡ slots_in (reserved c n))
    single_slots h = subst (λ m. IfOk r (λ _. slots_in now ≡ slots_in (reserved c m))) (sym is) h

  pub single_first : (r : Result (Option Name) NoMemory) (c now : Chained X) (n : ℕ) → n ≡ 1 → IfOk r (λ first. HasFirst c.next_serial 1 now first) → IfOk r (λ first. HasFirst c.next_serial n now first)
  single_first r c now n is h = subst (λ m. IfOk r (λ first. HasFirst c.next_serial m now first)) (sym is) h
