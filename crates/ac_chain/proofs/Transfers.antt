-- What two chains are after values of one moved into the other.
use Rattle.std.proofs.Common.{◌≡◌, ℕ, suc, ◌+◌, ◌-◌, ◌<◌, ◌≤◌, ◌^◌, List, ◌∷◌, ◌++◌, length, reverse, Option, Some, None, refl, sym, ap, ◌∙◌, subst, arith, append-nil, append_assoc, length-append, []}
use Rattle.std.specs.List.{remove}
use Rattle.std.specs.Option.{ForSome}
use Rattle.std.proofs.lemmas.List.{length-map, length-reverse, reverse-reverse}
use Rattle.std.proofs.lemmas.Option.{none-some}
use Rattle.ac_base.specs.declared.name.Name.{Name}
use Rattle.ac_chain.specs.Rows.{Chained, chained, IsLive, IsSound, IsFresh, value_of, inserted, removed, reserved, cleared}
use Rattle.ac_pool.specs.NamedRows.{index_of, name_at}
use Rattle.ac_pool.proofs.Cuts.{index_here}
use Rattle.ac_chain.proofs.Moves.{once_from}
use Rattle.ac_model.specs.Lists.{one_value}
use Rattle.ac_chain.specs.Put.{IsPut, IsFirst, HasGrown}
use Rattle.ac_base.specs.Rows.{values}
use Rattle.ac_chain.proofs.Puts.{put_none, put_one, put_length, put_live, first_start, reserved_enough, reserved_live, reserved_put, reserved_grown}
use Rattle.ac_chain.proofs.Refills.{Refilled, refilled}
use Rattle.ac_chain.proofs.Walks.{ahead, forward_first}
use Rattle.ac_chain.proofs.Searches.{some_value}
use Rattle.ac_base.specs.Rows.{Row, row}

module _ {X : Type 0} where
  -- so far: these values are gone from the source, the first one first
  pub record Leaving (s0 : Chained X) (moved : List X) (s : Chained X) : Type 0 where
    pub order : values s0.rows ≡ moved ++ values s.rows
    pub next : s.next_serial ≡ s0.next_serial
    pub room : length s.rows + s.spare ≡ length s0.rows + s0.spare
    pub sound : IsSound s

  pub leaving_none : (s0 : Chained X) → IsSound s0 → Leaving s0 [] s0
  leaving_none s0 sound = record { order = refl; next = refl; room = refl; sound = sound }

  -- the source without its first row
  pub record Taken (s : Chained X) (first : Name) (v : X) (s1 : Chained X) : Type 0 where
    pub row : Row Name X
    pub is : s.rows ≡ row ∷ s1.rows
    pub value : row.value ≡ v
    pub removed : s1 ≡ removed s first
    pub sound : IsSound s1

  pub taken : (s s1 : Chained X) (first : Name) (v : X) → IsSound s → Some first ≡ name_at s.rows 0 → Some v ≡ value_of s first → s1 ≡ removed s first → IsSound s1 → Taken s first v s1
  taken s s1 first v sound at ev es sound1 =
      let head = ahead s (once_from s.rows sound.once) first s.rows (forward_first s (Some first) at) in
      let here : index_of first s.rows ≡ 0 = ap (index_of first) head.is ∙ index_here first head.row head.rest head.named in
      let rest : remove s.rows (index_of first s.rows) ≡ head.rest = (λ i. remove (head.is i) (here i)) in
      record {
        row = head.row;
        is = head.is ∙ ap (λ rows. head.row ∷ rows) (sym (ap (λ (d : Chained X). d.rows) es ∙ rest));
        value = some_value head.row.value v (sym (ev ∙ head.value));
        removed = es;
        sound = sound1;
      }

  pub taken_less : (s s1 : Chained X) (first : Name) (v : X) → Taken s first v s1 → length s1.rows < length s.rows
  taken_less s s1 first v t = let all = ap length t.is in omega arith

  pub leaving_more : (s0 s s1 : Chained X) (moved : List X) (v : X) (first : Name) → Leaving s0 moved s → Taken s first v s1 → Leaving s0 (moved ++ v ∷ []) s1
  leaving_more s0 s s1 moved v first m t =
      let spare : s1.spare ≡ s.spare + 1 = ap (λ (d : Chained X). d.spare) t.removed in
      let all : length s.rows ≡ suc (length s1.rows) = ap length t.is in
      let was = m.room in
      record {
        order = m.order ∙ ap (λ zs. moved ++ values zs) t.is ∙ (λ i. moved ++ t.value i ∷ values s1.rows) ∙ sym (append_assoc moved (v ∷ []) (values s1.rows));
        next = ap (λ (d : Chained X). d.next_serial) t.removed ∙ m.next;
        room = omega arith;
        sound = t.sound;
      }

  count_values : (rows : List (Row Name X)) → length (values rows) ≡ length rows
  count_values rows = length-map rows (λ (r : Row Name X). r.value)

  pub leaving_count : (s0 s : Chained X) (moved : List X) → Leaving s0 moved s → length s0.rows ≡ length moved + length s.rows
  leaving_count s0 s moved m = sym (count_values s0.rows) ∙ ap length m.order ∙ length-append moved (values s.rows) ∙ ap (λ n. length moved + n) (count_values s.rows)

  pub none_left : (rows : List (Row Name X)) → None ≡ name_at rows 0 → rows ≡ []
  none_left [] e = refl
  none_left (r ∷ rows) e = absurd (none-some r.name e)

  pub some_left : (rows : List (Row Name X)) (first : Name) → Some first ≡ name_at rows 0 → 0 < length rows
  some_left [] first e = absurd (none-some first (sym e))
  some_left (r ∷ rows) first e = omega arith

  pub leaving_all : (s0 s : Chained X) (moved : List X) → Leaving s0 moved s → None ≡ name_at s.rows 0 → moved ≡ values s0.rows
  leaving_all s0 s moved m e = sym (m.order ∙ ap (λ rows. moved ++ values rows) (none_left s.rows e) ∙ append-nil moved)

  pub leaving_cleared : (s0 s : Chained X) (moved : List X) → Leaving s0 moved s → None ≡ name_at s.rows 0 → s ≡ cleared s0
  leaving_cleared s0 s moved m e =
      let none = none_left s.rows e in
      let count = ap length none in
      let was = m.room in
      let spare : s.spare ≡ length s0.rows + s0.spare = omega arith in
      λ i. chained (none i) (m.next i) (spare i)

  -- so far: some values have moved before the place
  pub record Moving (t0 : Chained X) (place : Option Name) (s0 t s : Chained X) : Type 0 where
    pub moved : List X
    pub put : IsPut t0.rows t0.next_serial place moved t
    pub leaving : Leaving s0 moved s
    pub slots : length t.rows + t.spare ≡ length t0.rows + t0.spare
    pub target : IsSound t

  pub moving_start : (t0 s0 : Chained X) (place : Option Name) → ForSome place (IsLive t0) → IsSound t0 → IsSound s0 → Moving t0 place s0 t0 s0
  moving_start t0 s0 place h t s = record { moved = []; put = put_none t0 place h; leaving = leaving_none s0 s; slots = refl; target = t }

  module _ (t0 : Chained X) (place : Option Name) (s0 t s : Chained X) (m : Moving t0 place s0 t s) where
    pub moving_place : ForSome place (IsLive t)
    moving_place = put_live t0.rows t0.next_serial place m.moved t m.put

    moving_length : length t.rows ≡ length t0.rows + length m.moved
    moving_length = put_length t0.rows t0.next_serial place m.moved t m.put

    pub moving_room : (first : Name) → Some first ≡ name_at s.rows 0 → length s0.rows ≤ t0.spare → 0 < t.spare
    moving_room first e h = let count = leaving_count s0 s m.moved m.leaving in let some = some_left s.rows first e in let len = moving_length in let sum = m.slots in omega arith

    pub moving_serials : (first : Name) → Some first ≡ name_at s.rows 0 → t0.next_serial + length s0.rows < 2 ^ 64 → t.next_serial < 2 ^ 64 - 1
    moving_serials first e h = let count = leaving_count s0 s m.moved m.leaving in let some = some_left s.rows first e in let risen = m.put.risen in omega arith

    pub moving_more : (first : Name) (v : X) (s1 t1 : Chained X) (a : Name) → 0 < t.spare → Taken s first v s1 → IsFresh t a → t1 ≡ inserted t place (row a v) → IsSound t1 → Moving t0 place s0 t1 s1
    moving_more first v s1 t1 a some tk fresh_name et sound =
        let put = put_one t0.rows t0.next_serial place m.moved t t1 a v m.target m.put fresh_name et in
        let here = moving_length in
        let there = put_length t0.rows t0.next_serial place (m.moved ++ v ∷ []) t1 put in
        let longer = length-append m.moved (v ∷ []) in
        let spare = ap (λ (d : Chained X). d.spare) et in
        let slots = m.slots in
        record { moved = m.moved ++ v ∷ []; put = put; leaving = leaving_more s0 s s1 m.moved v first m.leaving tk; slots = omega arith; target = sound }

    pub moving_put : None ≡ name_at s.rows 0 → IsPut t0.rows t0.next_serial place (values s0.rows) t
    moving_put e = subst (λ vs. IsPut t0.rows t0.next_serial place vs t) (leaving_all s0 s m.moved m.leaving e) m.put

    pub moving_cleared : None ≡ name_at s.rows 0 → s ≡ cleared s0
    moving_cleared e = leaving_cleared s0 s m.moved m.leaving e

  pub put_all_length : (c now from : Chained X) (place : Option Name) → IsPut c.rows c.next_serial place (values from.rows) now → length now.rows ≡ length c.rows + length from.rows
  put_all_length c now from place p = put_length c.rows c.next_serial place (values from.rows) now p ∙ ap (λ n. length c.rows + n) (count_values from.rows)

  -- after slots were reserved for all
  pub moved_grown : (c d now from : Chained X) (place : Option Name) → d ≡ reserved c (length from.rows) → IsPut d.rows d.next_serial place (values from.rows) now → length now.rows + now.spare ≡ length d.rows + d.spare → HasGrown c (length from.rows) now
  moved_grown c d now from place is p sum =
      let put = reserved_put c d now (length from.rows) place (values from.rows) is p in
      reserved_grown c d now (length from.rows) is (put_all_length c now from place put) sum

  -- all values in place of the rows, for which slots were reserved
  pub moved_refilled : (c d e now from : Chained X) (n : ℕ) → d ≡ reserved c n → n ≡ length from.rows - length c.rows → e ≡ cleared d → IsPut e.rows e.next_serial None (values from.rows) now
      → length now.rows + now.spare ≡ length e.rows + e.spare → Refilled c from.rows now
  moved_refilled c d e now from n is need clear p sum =
      let vs = values from.rows in
      let more = put_length e.rows e.next_serial None vs now p in
      let same = length-reverse vs in
      refilled c d e now n (reverse vs) from.rows is need clear refl (subst (λ ws. IsPut e.rows e.next_serial None ws now) (sym (reverse-reverse vs)) p) (omega arith)

  -- one value before the place, for which a slot was reserved
  pub record OneMoved (c : Chained X) (place : Option Name) (vs : List X) (a : Name) (now : Chained X) : Type 0 where
    pub put : IsPut c.rows c.next_serial place vs now
    pub first : IsFirst c.next_serial now a
    pub grown : HasGrown c 1 now

  pub one_moved : (c d now : Chained X) (place : Option Name) (value : Option X) (a : Name) (v : X) → d ≡ reserved c 1 → ForSome place (IsLive c) → IsSound d → Some v ≡ value → IsFresh d a
      → now ≡ inserted d place (row a v) → OneMoved c place (one_value value) a now
  one_moved c d now place value a v is live sound ev fresh_name e =
      let there = reserved_live c d 1 place is live in
      let from = reserved_enough c d 1 is in
      let put = put_one d.rows d.next_serial place [] d now a v sound (put_none d place there) fresh_name e in
      let more = put_length d.rows d.next_serial place (v ∷ []) now put in
      let same : length d.rows ≡ length c.rows = ap length from.rows in
      let spare = ap (λ (x : Chained X). x.spare) e in
      let enough = from.enough in
      record {
        put = subst (λ vs. IsPut c.rows c.next_serial place vs now) (ap one_value ev) (reserved_put c d now 1 place (v ∷ []) is put);
        first = subst (λ next. IsFirst next now a) from.next (first_start d now place a v there fresh_name e);
        grown = reserved_grown c d now 1 is (omega arith) (omega arith);
      }
