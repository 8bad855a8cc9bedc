-- An array whose rows were merged: the same names, with new places, and its values after values were put behind its rows.
use Rattle.std.proofs.Common.{◌≡◌, ℕ, ◌+◌, ◌-◌, ◌≤◌, ◌<◌, Bool, List, ◌++◌, [], length, take, drop, None, is_some, sym, ap, ◌∙◌, subst, inl, inr, arith, append-nil, length-append, take-append-drop}
use Rattle.std.proofs.lemmas.List.{length-map}
use Rattle.std.proofs.Math.Seq.{take-append_seam, drop-append_seam}
use Rattle.ac_base.specs.declared.name.Name.{Name}
use Rattle.ac_base.specs.Rows.{Row, names, values}
use Rattle.ac_pool.specs.Contents.{Contents, slot_count}
use Rattle.ac_pool.specs.NamedRows.{HasName}
use Rattle.ac_chain.specs.Merging.{IsMerged}
use Rattle.ac_chain.specs.Put.{IsPut}
use Rattle.ac_chain.specs.Rows.{Chained, IsSound, chained, reserved, slots_in, with_rows}
use Rattle.ac_pool.proofs.Cuts.{HasName-either, has_live, live_has}
use Rattle.ac_chain.proofs.Grows.{more_serials}
use Rattle.ac_chain.proofs.Merges.{reserved_merged}
use Rattle.ac_chain.proofs.Puts.{put_length, reserved_enough}
use Rattle.ac_model.specs.Objects.{plains}
use Rattle.ac_model.specs.Rows.{merged}
use Rattle.ac_vector.specs.ArrayFields.{IsArray, IsSlotted, StandsFor, names_in, renumbered, renumbered_in, rows_in}
use Rattle.ac_vector.specs.declared.weaving.Line.{Line}
use Rattle.ac_vector.specs.Stacks.{IsWoven, Weaves, stacked}
use Rattle.ac_vector.proofs.Appends.{no_more, put_slots}
use Rattle.ac_vector.proofs.Arrays.{view_of, Leaves, leaves, old_stands, once, place_at}
use Rattle.ac_vector.proofs.Renumbers.{KeepsNames, renumbered-keeps}
use Rattle.ac_vector.proofs.Slots.{AllLive, Keeps, rows_live, slotted, slot_view, written_names}
use Rattle.ac_vector.proofs.Turns.{renumbered_stands}
use Rattle.ac_vector.proofs.Weaves.{unstacked}

module _ {X : Type 0} where
  module _ {ns : List Name} {vs : List X} {p : Contents ℕ} {m n : ℕ} {old : Chained X} (h : IsArray ns vs p m n) (is : view_of ns vs p ≡ old) where
    woven_array : (less : X → X → Bool) (seam : ℕ) (ks : List ℕ) (ws : List X) (q : Contents ℕ) (k l : ℕ) (w : Weaves less (take seam old.rows) (drop seam old.rows) ks ws) → q ≡ renumbered_in ks 0 p → k ≡ m → l ≡ n
        → Leaves (names w.now) ws q k l (with_rows old w.now)
    woven_array less seam ks ws q k l w places slot_room value_room =
        let back = take seam old.rows ++ drop seam old.rows in
        let s : StandsFor ns vs p back = subst (λ zs. StandsFor ns vs p zs) (sym (take-append-drop seam old.rows)) (old_stands h is) in
        let long : length w.now ≡ length back = w.woven.long ∙ sym (length-append (take seam old.rows) (drop seam old.rows)) in
        let t = renumbered_stands [] back w.now s long w.woven.there w.woven.from (w.woven.alone (once s)) in
        let live : AllLive p (names w.now) = rows_live w.now p (λ a z. ap is_some (place_at s a (w.woven.from a z))) in
        let all : q ≡ renumbered (names w.now) 0 p = places ∙ ap (λ us. renumbered_in us 0 p) w.named ∙ written_names (names w.now) 0 p s.sound live in
        let u : StandsFor (names w.now) ws q w.now = subst (λ c. StandsFor (names w.now) ws c w.now) (sym all) (subst (λ us. StandsFor (names w.now) us (renumbered (names w.now) 0 p) w.now) (sym w.valued) t) in
        let kept : KeepsNames p q = subst (λ c. KeepsNames p c) (sym all) (renumbered-keeps w.now 0 p) in
        let next : q.next_serial ≡ old.next_serial = kept.next ∙ ap (λ (c : Chained X). c.next_serial) is in
        let spare : q.spare ≡ old.spare = kept.spare ∙ ap (λ (c : Chained X). c.spare) is in
        let slots : slot_count q ≡ slot_count p = (λ i. kept.count i + kept.spare i) in
        leaves u k l (omega (arith, h.names)) (omega (arith, h.values)) (with_rows old w.now) (λ i. chained w.now (next i) (spare i))

  module _ {hs : List ℕ} {vs : List X} {p : Contents ℕ} {m n : ℕ} {old : Chained X} (h : IsSlotted hs vs p m n) (is : slot_view hs vs p ≡ old) where
    woven_slots : (less : X → X → Bool) (seam : ℕ) (ks : List ℕ) (ws : List X) (q : Contents ℕ) (k l : ℕ) (w : Weaves less (take seam old.rows) (drop seam old.rows) ks ws) → q ≡ renumbered_in ks 0 p → k ≡ m → l ≡ n
        → Keeps ks ws q k l (with_rows old w.now)
    woven_slots less seam ks ws q k l w places slot_room value_room = slotted (woven_array h.array is less seam ks ws q k l w places slot_room value_room) ks w.named

    -- what is left after the rows went to two stacks and came back in the order of both
    pub record Interleaved (less : X → X → Bool) (seam : ℕ) (ks : List ℕ) (ws : List X) (q : Contents ℕ) (k l : ℕ) : Type 0 where
      pub invariant : IsSlotted ks ws q k l
      pub woven : IsWoven less (take seam old.rows) (drop seam old.rows) (rows_in (names_in q ks) ws)
      pub rest : slot_view ks ws q ≡ with_rows old (rows_in (names_in q ks) ws)
      pub sound : IsSound (slot_view ks ws q)

    pub interleaved : (less : X → X → Bool) (seam behind : ℕ) → seam ≤ length old.rows → behind ≡ length old.rows - seam → (js ks0 ks : List ℕ) (us ws0 ws : List X) (mine mine1 theirs theirs1 : List (Line X)) → mine ≡ [] → theirs ≡ []
        → names_in p js ++ names (stacked theirs1) ≡ names_in p hs ++ names (stacked theirs) → us ++ values (stacked theirs1) ≡ vs ++ values (stacked theirs) → length theirs1 ≡ length theirs + behind
        → names_in p ks0 ++ names (stacked mine1) ≡ names_in p js ++ names (stacked mine) → ws0 ++ values (stacked mine1) ≡ us ++ values (stacked mine) → length mine1 ≡ length mine + seam
        → (q : Contents ℕ) (k l : ℕ) → Weaves less (stacked mine1) (stacked theirs1) ks ws → q ≡ renumbered_in ks 0 p → k ≡ m → l ≡ n → Interleaved less seam ks ws q k l
    interleaved less seam behind fits rest js ks0 ks us ws0 ws mine mine1 theirs theirs1 no_mine no_theirs names_first values_first counts names_then values_then count q k l w places slot_room value_room =
        let s = old_stands h.array is in
        let none_there : length theirs ≡ 0 = ap length no_theirs in
        let none_here : length mine ≡ 0 = ap length no_mine in
        let u = unstacked old.rows seam behind fits rest (names_in p js) (names_in p ks0) us ws0 mine1 theirs1 (omega arith) (omega arith)
        (names_first ∙ ap (λ st. names_in p hs ++ names (stacked st)) no_theirs ∙ append-nil (names_in p hs) ∙ s.named) (values_first ∙ ap (λ st. vs ++ values (stacked st)) no_theirs ∙ append-nil vs ∙ s.valued)
        (names_then ∙ ap (λ st. names_in p js ++ names (stacked st)) no_mine ∙ append-nil (names_in p js)) (values_then ∙ ap (λ st. us ++ values (stacked st)) no_mine ∙ append-nil us) in
        let weaves : Weaves less (take seam old.rows) (drop seam old.rows) ks ws = subst (λ zs. Weaves less (take seam old.rows) zs ks ws) u.behind (subst (λ zs. Weaves less zs (stacked theirs1) ks ws) u.before w) in
        let all = woven_slots less seam ks ws q k l weaves places slot_room value_room in
        let rows : rows_in (names_in q ks) ws ≡ weaves.now = ap (λ (c : Chained X). c.rows) all.view in
        record {
          invariant = all.invariant;
          woven = subst (λ zs. IsWoven less (take seam old.rows) (drop seam old.rows) zs) (sym rows) weaves.woven;
          rest = all.view ∙ ap (with_rows old) (sym rows);
          sound = all.sound;
        }

  -- two stacks have room for the rows there were and for those that were put
  pub stacks_fit : (c d e : Chained X) (count seam room : ℕ) (source : List (Row Name X)) → d ≡ reserved c count → seam ≡ length c.rows → IsPut d.rows d.next_serial None (values source) e → length source ≤ room → length e.rows ≤ seam + room
  stacks_fit c d e count seam room source is at p fits =
      let all = put_length d.rows d.next_serial None (values source) e p in
      let same : length d.rows ≡ length c.rows = ap length (reserved_enough c d count is).rows in
      let long = length-map source (λ (r : Row Name X). r.value) in
      omega arith

  -- values that were put behind the rows and then merged into them
  module _ (less : X → X → Bool) (c d e f : Chained X) (count seam : ℕ) (vs : List X) (is : d ≡ reserved c count) (at : seam ≡ length c.rows) (p : IsPut d.rows d.next_serial None vs e)
      (w : IsWoven less (take seam e.rows) (drop seam e.rows) f.rows) (rest : f ≡ with_rows e f.rows) where
    rows_put : e.rows ≡ d.rows ++ p.more
    rows_put =
        let none = no_more p.after p.named in
        let all : p.before ≡ d.rows = sym (p.were ∙ ap (λ xs. p.before ++ xs) none ∙ append-nil p.before) in
        p.are ∙ ap (λ xs. (p.before ++ p.more) ++ xs) none ∙ append-nil (p.before ++ p.more) ∙ ap (λ xs. xs ++ p.more) all

    seam_is : seam ≡ length d.rows
    seam_is = at ∙ ap length (sym (reserved_enough c d count is).rows)

    front : take seam e.rows ≡ d.rows
    front = (λ i. take (seam_is i) (rows_put i)) ∙ take-append_seam d.rows p.more

    behind : drop seam e.rows ≡ p.more
    behind = (λ i. drop (seam_is i) (rows_put i)) ∙ drop-append_seam d.rows p.more

    kept : (a : Name) → HasName a f.rows → a.serial < d.next_serial → HasName a d.rows
    kept a t less_serial = elim (HasName-either a (take seam e.rows) (drop seam e.rows) (w.from a t)) [
      | inl l ↦ subst (λ zs. HasName a zs) front l
      | inr r ↦ absurd (let high = more_serials a d.next_serial vs p.more p.fresh_names (subst (λ zs. HasName a zs) behind r) in omega arith)
    ]

    woven_merged : IsMerged less d vs f
    woven_merged = record {
      rows = w.merges ∙ (λ i. merged less (plains (front i)) (plains (behind i))) ∙ ap (merged less (plains d.rows)) p.fresh_names;
      next = ap (λ (x : Chained X). x.next_serial) rest ∙ p.risen;
      names = λ a live lt. has_live a d.rows (kept a (live_has a f.rows live) lt);
    }

    pub interleaved_merged : IsMerged less c vs f
    interleaved_merged = reserved_merged less c d f count vs is woven_merged

    pub interleaved_slots : length vs ≡ count → e.spare + count ≡ d.spare → slots_in f ≡ slots_in (reserved c count)
    interleaved_slots long spare =
        let rows : length f.rows ≡ length e.rows = w.long ∙ sym (length-append (take seam e.rows) (drop seam e.rows)) ∙ ap length (take-append-drop seam e.rows) in
        let same : f.spare ≡ e.spare = ap (λ (x : Chained X). x.spare) rest in
        let slots = put_slots c d e count None vs is p (ap (λ n. e.spare + n) long ∙ spare) in
        (λ i. rows i + same i) ∙ slots
