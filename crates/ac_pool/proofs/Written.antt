-- The cells of a block as a chunk shows them: what each keeps, and what each write leaves.
use Rattle.std.proofs.Common.{◌≡◌, ℕ, zero, suc, ◌+◌, ◌<◌, ◌≤◌, ◌⊎◌, List, [], ◌∷◌, length, set, get_or, map, replicate, Option, Some, None, refl, sym, ap, ◌∙◌, subst, inl, inr, arith, length-set}
use Rattle.std.proofs.lemmas.Bool.{cases_lt, cases_eq}
use Rattle.std.proofs.lemmas.List.{length-replicate, get_or-set_same, get_or-set_other, ext_get_or}
use Rattle.ac_pool.specs.Cell.{serial_in, serial_of, serial_at}
use Rattle.ac_pool.specs.Places.{with_serial, kept, value_of_place, serial_of_place, serial_at_place, IsWritten, HoldsValue, IsBare, AreBare}
use Rattle.ac_pool.specs.Reached.{IsMarked, IsReached, Reaches, Empties, IsEmptiedTo}
use Rattle.ac_pool.specs.Runs.{kept_in}
use Rattle.ac_pool.proofs.Cells.{blank_at}

abbrev Places : Type 0 → Type 0
Places X = List (Option (ℕ × Option X))

module _ {X : Type 0} where
  pub seen : (cells : Places X) (i : ℕ) → get_or (map kept cells) i None ≡ kept (get_or cells i None)
  seen [] i = refl
  seen (c ∷ cells) zero = refl
  seen (c ∷ cells) (suc i) = seen cells i

  length-seen : (cells : Places X) → length (map kept cells) ≡ length cells
  length-seen [] = refl
  length-seen (c ∷ cells) = ap suc (length-seen cells)

  -- a cell with a value, as its memory has it
  abbrev pub full_cell : Option (ℕ × X) → Option (ℕ × Option X)
  full_cell None = None
  full_cell (Some e) = Some (e.0, Some e.1)

  full_by : (s : ℕ) (v : Option X) (e : ℕ × X) → with_serial s v ≡ Some e → ◌≡◌ {A = Option (ℕ × Option X)} (Some (s, v)) (Some (e.0, Some e.1))
  full_by s None e is = cc
  full_by s (Some x) e is = ap full_cell is

  full_of_kept : (p : Option (ℕ × Option X)) (e : ℕ × X) → kept p ≡ Some e → p ≡ Some (e.0, Some e.1)
  full_of_kept None e is = cc
  full_of_kept (Some c) e is = full_by c.0 c.1 e is

  pub kept_there : (cells : Places X) (i : ℕ) (e : ℕ × X) → get_or (map kept cells) i None ≡ Some e → get_or cells i None ≡ Some (e.0, Some e.1)
  kept_there cells i e is = full_of_kept (get_or cells i None) e (sym (seen cells i) ∙ is)

  -- a cell with a value shows the serial that stands in it
  pub serial_seen : (cells : Places X) (i : ℕ) (e : ℕ × X) → get_or cells i None ≡ Some (e.0, Some e.1) → serial_at (map kept cells) i ≡ serial_at_place cells i
  serial_seen cells i e is = ap serial_in (seen cells i ∙ ap kept is) ∙ sym (ap serial_of_place is)

  -- the value in a cell, as a chunk shows it under the cell's serial
  pub shown_under : (cells : Places X) (i : ℕ) (e : ℕ × X) (w : X) → get_or cells i None ≡ Some (e.0, Some e.1) → value_of_place (get_or cells i None) ≡ Some w
      → get_or (map kept cells) i None ≡ Some (serial_at (map kept cells) i, w)
  shown_under cells i e w is holds =
      let n = serial_at (map kept cells) i in let at = seen cells i ∙ ap kept is in
      at ∙ ap (λ (m : ℕ). Some (m, e.1)) (sym (ap serial_in at)) ∙ ap (with_serial n) (sym (ap value_of_place is) ∙ holds)

  value_kept : (p : Option (ℕ × Option X)) → kept_in (kept p) ≡ value_of_place p
  value_kept None = refl
  value_kept (Some c) = by_value c.0 c.1
    where
      by_value : (s : ℕ) (v : Option X) → kept_in (with_serial s v) ≡ v
      by_value s None = refl
      by_value s (Some x) = refl

  pub value_seen : (cells : Places X) (i : ℕ) → kept_in (get_or (map kept cells) i None) ≡ value_of_place (get_or cells i None)
  value_seen cells i = ap kept_in (seen cells i) ∙ value_kept (get_or cells i None)

  pub full_of : (p : Option (ℕ × X)) (s : ℕ) → serial_of p ≡ Some s → (e : ℕ × X) × (p ≡ Some e)
  full_of None s is = cc
  full_of (Some e) s is = (e, refl)

  some_behind : (s : ℕ) (v : Option X) → IsMarked s v → (s ≡ 0 → ⊥) → (x : X) × (v ≡ Some x)
  some_behind s None m full = absurd (full m)
  some_behind s (Some x) m full = (x, refl)

  none_behind : (s : ℕ) (v : Option X) → IsMarked s v → s ≡ 0 → v ≡ None
  none_behind s None m zero_there = refl
  none_behind s (Some x) m zero_there = absurd (omega (arith, m, zero_there))

  abbrev pub Marked : Places X → ℕ → Type 0
  Marked cells i = (c : ℕ × Option X) → get_or cells i None ≡ Some c → IsMarked c.0 c.1

  -- a cell that was written, and whose serial isn't 0
  pub holds_value : (cells : Places X) (i : ℕ) → IsWritten cells i → Marked cells i → (serial_at_place cells i ≡ 0 → ⊥) → HoldsValue cells i
  holds_value cells i w marked full =
      let c = w.0 in let v = some_behind c.0 c.1 (marked c w.1) (λ e. full (ap serial_of_place w.1 ∙ e)) in
      ((c.0, v.0), w.1 ∙ ap (λ (o : Option X). Some (c.0, o)) v.1)

  -- a cell that was written, and whose serial is 0
  pub holds_none : (cells : Places X) (i : ℕ) → IsWritten cells i → Marked cells i → serial_at_place cells i ≡ 0 → IsBare cells i
  holds_none cells i w marked zero_there = let c = w.0 in ap value_of_place w.1 ∙ none_behind c.0 c.1 (marked c w.1) (sym (ap serial_of_place w.1) ∙ zero_there)

  serial_by : (s : ℕ) (v : Option X) → IsMarked s v → s ≡ 0 → serial_of (with_serial s v) ≡ None
  serial_by s v m zero_there = ap (λ (o : Option X). serial_of (with_serial s o)) (none_behind s v m zero_there)

  shown_by : (s : ℕ) (v : Option X) → IsMarked s v → (s ≡ 0 → ⊥) → serial_of (with_serial s v) ≡ Some s
  shown_by s v m full = ap (λ (o : Option X). serial_of (with_serial s o)) (some_behind s v m full).1

  -- what the serial of a cell that was written tells of what it keeps
  pub serial_none : (cells : Places X) (i : ℕ) → IsWritten cells i → Marked cells i → serial_at_place cells i ≡ 0 → serial_of (get_or (map kept cells) i None) ≡ None
  serial_none cells i w marked zero_there =
      let c = w.0 in ap serial_of (seen cells i ∙ ap kept w.1) ∙ serial_by c.0 c.1 (marked c w.1) (sym (ap serial_of_place w.1) ∙ zero_there)

  pub serial_some : (cells : Places X) (i : ℕ) → IsWritten cells i → Marked cells i → (serial_at_place cells i ≡ 0 → ⊥) → serial_of (get_or (map kept cells) i None) ≡ Some (serial_at_place cells i)
  serial_some cells i w marked full =
      let c = w.0 in ap serial_of (seen cells i ∙ ap kept w.1) ∙ shown_by c.0 c.1 (marked c w.1) (λ e. full (ap serial_of_place w.1 ∙ e)) ∙ ap Some (sym (ap serial_of_place w.1))

  -- the mark of what was written is that of what stands there
  mark_of : (s : ℕ) (v : Option X) (c : ℕ × Option X) → IsMarked s v → Some (s, v) ≡ Some c → IsMarked c.0 c.1
  mark_of s v c mark is = subst MarkedPlace is mark
    where
      MarkedPlace : Option (ℕ × Option X) → Type 0
      MarkedPlace None = Unit {0}
      MarkedPlace (Some d) = IsMarked d.0 d.1

  pub none_reached : IsReached (replicate {A = Option (ℕ × Option X)} 512 None) 0
  none_reached = record {
    long = length-replicate {A = Option (ℕ × Option X)} 512 None;
    within = omega arith;
    written = λ i lt. absurd (omega arith);
    fresh = λ i le. blank_at 512 i;
    marked = λ i c is. let no : None ≡ Some c = sym (blank_at {X = ℕ × Option X} 512 i) ∙ is in cc;
  }

  module _ (cells : Places X) (reached : ℕ) (h : IsReached cells reached) where
    pub below : (i : ℕ) (c : ℕ × Option X) → get_or cells i None ≡ Some c → i < reached
    below i c is = elim (cases_lt i reached) [ inl lt ↦ lt | inr le ↦ let no : None ≡ Some c = sym (h.fresh i le) ∙ is in cc ]

    pub set_written : (i : ℕ) (s : ℕ) (v : Option X) → i < reached → IsMarked s v → IsReached (set cells i (Some (s, v))) reached
    set_written i s v lt mark = record {
      long = length-set cells i (Some (s, v)) ∙ h.long;
      within = h.within;
      written = λ j less. elim (cases_eq j i) [
        | inl same ↦ ((s, v), ap (λ k. get_or (set cells i (Some (s, v))) k None) same ∙ get_or-set_same cells i (Some (s, v)) None there)
        | inr other ↦ ((h.written j less).0, get_or-set_other cells i j (Some (s, v)) None other ∙ (h.written j less).1)
      ];
      fresh = λ j le. get_or-set_other cells i j (Some (s, v)) None (λ e. omega (arith, e, lt, le)) ∙ h.fresh j le;
      marked = λ j c is. elim (cases_eq j i) [
        | inl same ↦ mark_of s v c mark (sym (ap (λ k. get_or (set cells i (Some (s, v))) k None) same ∙ get_or-set_same cells i (Some (s, v)) None there) ∙ is)
        | inr other ↦ h.marked j c (sym (get_or-set_other cells i j (Some (s, v)) None other) ∙ is)
      ];
    }
      where
        there : i < length cells
        there = omega (arith, h.long, h.within, lt)

    -- a value that is written behind the serial of another is marked
    pub mark_stands : (i : ℕ) (e : ℕ × X) (w : X) → get_or cells i None ≡ Some (e.0, Some e.1) → IsMarked (serial_at_place cells i) (Some w)
    mark_stands i e w is = subst (λ n. 0 < n) (sym (ap serial_of_place is)) (h.marked i (e.0, Some e.1) is)

    pub each_emptied : (now : Places X) (to : ℕ) → IsEmptiedTo cells now to → reached ≤ to → AreBare now
    each_emptied now to m le i = elim (cases_lt i to) [ inl less ↦ m.gone i less | inr past ↦ ap value_of_place (m.others i past ∙ h.fresh i (omega (arith, le, past))) ]

    module _ (now : Places X) (index : ℕ) (r : Reaches cells now reached index) where
      pub same_kept : map kept now ≡ map kept cells
      same_kept = ext_get_or None (map kept now) (map kept cells) (length-seen now ∙ r.long ∙ sym (length-seen cells)) (λ i lt. seen now i ∙ each i ∙ sym (seen cells i))
        where
          each : (i : ℕ) → kept (get_or now i None) ≡ kept (get_or cells i None)
          each i = elim (cases_lt i reached) [
            | inl less ↦ ap kept (r.outside i (inl less))
            | inr le ↦ elim (cases_lt i index) [
              | inl before ↦ ap kept (r.inside i le before) ∙ sym (ap kept (h.fresh i le))
              | inr past ↦ ap kept (r.outside i (inr past))
            ]
          ]

      pub reached_put : (serial : ℕ) (v : X) (to : ℕ) → index < 512 → 0 < serial → reached ≤ to → index + 1 ≤ to → (to ≡ reached) ⊎ (to ≡ index + 1) → IsReached (set now index (Some (serial, Some v))) to
      reached_put serial v to within some above past either = record {
        long = length-set now index put ∙ r.long ∙ h.long;
        within = elim either [ inl e ↦ omega (arith, e, h.within) | inr e ↦ omega (arith, e, within) ];
        written = λ j less. elim (cases_eq j index) [
          | inl same ↦ ((serial, Some v), ap (λ k. get_or (set now index put) k None) same ∙ get_or-set_same now index put None there)
          | inr other ↦ let w = written_before j less other in (w.0, get_or-set_other now index j put None other ∙ w.1)
        ];
        fresh = λ j le. get_or-set_other now index j put None (λ e. omega (arith, e, past, le)) ∙ r.outside j (inr (omega (arith, past, le))) ∙ h.fresh j (omega (arith, above, le));
        marked = λ j c is. elim (cases_eq j index) [
          | inl same ↦ mark_of serial (Some v) c some (sym (ap (λ k. get_or (set now index put) k None) same ∙ get_or-set_same now index put None there) ∙ is)
          | inr other ↦ marked_before j c (sym (get_or-set_other now index j put None other) ∙ is)
        ];
      }
        where
          put : Option (ℕ × Option X)
          put = Some (serial, Some v)

          there : index < length now
          there = omega (arith, r.long, h.long, within)

          written_before : (j : ℕ) → j < to → (j ≡ index → ⊥) → IsWritten now j
          written_before j less other = elim (cases_lt j reached) [
            | inl low ↦ ((h.written j low).0, r.outside j (inl low) ∙ (h.written j low).1)
            | inr le ↦ elim (cases_lt j index) [
              | inl before ↦ ((0, None), r.inside j le before)
              | inr behind ↦ absurd (elim either [ inl e ↦ omega (arith, e, less, le) | inr e ↦ other (omega (arith, e, less, behind)) ])
            ]
          ]

          marked_before : (j : ℕ) (c : ℕ × Option X) → get_or now j None ≡ Some c → IsMarked c.0 c.1
          marked_before j c is = elim (cases_lt j reached) [
            | inl low ↦ h.marked j c (sym (r.outside j (inl low)) ∙ is)
            | inr le ↦ elim (cases_lt j index) [
              | inl before ↦ mark_of 0 None c refl (sym (r.inside j le before) ∙ is)
              | inr behind ↦ h.marked j c (sym (r.outside j (inr behind)) ∙ is)
            ]
          ]

  -- the value that was put is the one that is taken
  pub value_back : (p : Option (ℕ × Option X)) (n : ℕ) (x v : X) → p ≡ Some (n, Some x) → value_of_place p ≡ Some v → v ≡ x
  value_back p n x v is back = ap (λ (o : Option X). value_or x o) (sym back ∙ ap value_of_place is)
    where
      value_or : X → Option X → X
      value_or w None = w
      value_or w (Some y) = y

  pub reaches_none : (cells : Places X) (from : ℕ) → Reaches cells cells from from
  reaches_none cells from = record { long = refl; inside = λ i le lt. absurd (omega (arith, le, lt)); outside = λ i _. refl }

  pub reaches_step : (cells now mid next : Places X) (from at : ℕ) (c : Option (ℕ × Option X)) → from ≤ at → at < length now → mid ≡ set now at c → next ≡ set mid at (Some (0, None))
      → Reaches cells now from at → Reaches cells next from (at + 1)
  reaches_step cells now mid next from at c le lt is_mid is_next r = record {
    long = ap length is_next ∙ length-set mid at (Some (0, None)) ∙ long_mid ∙ r.long;
    inside = λ i low less. elim (cases_eq i at) [
      | inl same ↦ ap (λ k. get_or next k None) same ∙ ap (λ l. get_or l at None) is_next ∙ get_or-set_same mid at (Some (0, None)) None (omega (arith, long_mid, lt))
      | inr other ↦ same_past i other ∙ r.inside i low (past i other less)
    ];
    outside = λ i out. same_past i (apart i out) ∙ r.outside i (elim out [ inl low ↦ inl low | inr high ↦ inr (omega (arith, high)) ]);
  }
    where
      long_mid : length mid ≡ length now
      long_mid = ap length is_mid ∙ length-set now at c

      same_past : (i : ℕ) → (i ≡ at → ⊥) → get_or next i None ≡ get_or now i None
      same_past i other = ap (λ l. get_or l i None) is_next ∙ get_or-set_other mid at i (Some (0, None)) None other ∙ ap (λ l. get_or l i None) is_mid ∙ get_or-set_other now at i c None other

      past : (i : ℕ) → (i ≡ at → ⊥) → i < at + 1 → i < at
      past i other less = elim (cases_lt i at) [ inl lt' ↦ lt' | inr ge ↦ absurd (other (omega (arith, less, ge))) ]

      apart : (i : ℕ) → (i < from) ⊎ (at + 1 ≤ i) → i ≡ at → ⊥
      apart i out e = elim out [ inl low ↦ omega (arith, low, e, le) | inr high ↦ omega (arith, high, e) ]

  pub reaches_end : (cells now : Places X) (from at index : ℕ) → Reaches cells now from at → index ≤ at → (at ≤ index) ⊎ (at ≡ from) → Reaches cells now from index
  reaches_end cells now from at index r le either = record {
    long = r.long;
    inside = λ i low less. r.inside i low (omega (arith, less, le));
    outside = λ i out. r.outside i (elim out [
      | inl low ↦ inl low
      | inr high ↦ elim either [
        | inl same ↦ inr (omega (arith, same, high))
        | inr e ↦ elim (cases_lt i from) [ inl low ↦ inl low | inr ge ↦ inr (omega (arith, e, ge)) ]
      ]
    ]);
  }

  pub emptied_none : (cells : Places X) → IsEmptiedTo cells cells 0
  emptied_none cells = record { long = refl; gone = λ i lt. absurd (omega arith); others = λ i _. refl }

  pub emptied_step : (cells now next : Places X) (to : ℕ) → IsEmptiedTo cells now to → Empties now next to → IsEmptiedTo cells next (to + 1)
  emptied_step cells now next to m e = record {
    long = e.long ∙ m.long;
    gone = λ i less. elim (cases_eq i to) [
      | inl same ↦ ap (λ k. value_of_place (get_or next k None)) same ∙ e.gone
      | inr other ↦ ap value_of_place (e.others i other) ∙ m.gone i (elim (cases_lt i to) [ inl lt ↦ lt | inr ge ↦ absurd (other (omega (arith, less, ge))) ])
    ];
    others = λ i le. e.others i (λ same. omega (arith, same, le)) ∙ m.others i (omega (arith, le));
  }
