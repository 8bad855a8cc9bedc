-- A slot is found in its chunk, and a write there is a write to the list of all cells.
use Rattle.std.proofs.Common.{◌≡◌, ℕ, zero, suc, ◌+◌, ◌-◌, ◌*◌, ◌%◌, ◌<◌, ◌≤◌, ◌^◌, List, [], ◌∷◌, ◌++◌, length, set, get_or, take, replicate, Option, None, refl, sym, ap, ◌∙◌, inl, inr, arith, length-append, length-set}
use Rattle.std.proofs.Math.Seq.{take-set-lt}
use Rattle.std.proofs.lemmas.Bool.{cases_lt, cases_eq}
use Rattle.std.proofs.lemmas.Grind.{flat_map-append}
use Rattle.std.proofs.lemmas.List.{length-replicate, length-take-le, take-append-le, replicate-append-replicate, get_or_append_left, get_or-append-add, get_or-replicate, get_or-take, get_or-set_other, get_or-set_same, ext_get_or, set-append_left, set-append_right, get_or_default, get_or_past}
use Rattle.ac_pool.specs.Runs.{LiesFrom, IsRunOf}
use Rattle.ac_pool.specs.Slots.{all_cells, cells_in, AreFull, IsSlots}
use Rattle.ac_pool.proofs.Cells.{blank_at}

module _ {X : Type 0} where
  rest_full : (cs : List X) (chunks : List (List X)) → AreFull (cs ∷ chunks) → AreFull chunks
  rest_full cs chunks full k lt = full (suc k) (omega arith)

  length-all_cells : (chunks : List (List X)) → AreFull chunks → length (all_cells chunks) ≡ 512 * length chunks
  length-all_cells [] full = refl
  length-all_cells (cs ∷ chunks) full = omega (arith, length-append cs (all_cells chunks), length-all_cells chunks (rest_full cs chunks full), full 0 (omega arith))

  -- the j-th cell of the k-th chunk
  get_in : (chunks : List (List X)) (k j : ℕ) (d : X) → AreFull chunks → k < length chunks → j < 512 → get_or (all_cells chunks) (512 * k + j) d ≡ get_or (get_or chunks k []) j d
  get_in [] k j d full h within = absurd (omega arith)
  get_in (cs ∷ chunks) zero j d full h within =
      let at : 512 * 0 + j ≡ j = omega arith in ap (λ n. get_or (cs ++ all_cells chunks) n d) at ∙ get_or_append_left cs (all_cells chunks) d j (omega (arith, full 0 h))
  get_in (cs ∷ chunks) (suc k) j d full h within =
      let at : 512 * suc k + j ≡ length cs + (512 * k + j) = omega (arith, full 0 (omega arith)) in
      ap (λ n. get_or (cs ++ all_cells chunks) n d) at ∙ get_or-append-add cs (all_cells chunks) (512 * k + j) d ∙ get_in chunks k j d (rest_full cs chunks full) (omega arith) within

  set_in : (chunks : List (List X)) (k j : ℕ) (c : X) → AreFull chunks → k < length chunks → j < 512 → all_cells (set chunks k (set (get_or chunks k []) j c)) ≡ set (all_cells chunks) (512 * k + j) c
  set_in [] k j c full h within = absurd (omega arith)
  set_in (cs ∷ chunks) zero j c full h within =
      let at : j ≡ 512 * 0 + j = omega arith in sym (set-append_left cs (all_cells chunks) j c (omega (arith, full 0 h))) ∙ ap (λ n. set (cs ++ all_cells chunks) n c) at
  set_in (cs ∷ chunks) (suc k) j c full h within =
      let long = full 0 (omega arith) in
      let at : length cs + (512 * k + j) ≡ 512 * suc k + j = omega arith in
      let back : 512 * k + j ≡ (length cs + (512 * k + j)) - length cs = omega arith in
      ap (λ l. cs ++ l) (set_in chunks k j c (rest_full cs chunks full) (omega arith) within ∙ ap (λ n. set (all_cells chunks) n c) back)
      ∙ sym (set-append_right cs (all_cells chunks) (length cs) (length cs + (512 * k + j)) c refl (omega arith)) ∙ ap (λ n. set (cs ++ all_cells chunks) n c) at

  full_set : (chunks : List (List X)) (k : ℕ) (cs : List X) → AreFull chunks → k < length chunks → length cs ≡ 512 → AreFull (set chunks k cs)
  full_set chunks k cs full h long i lt = elim (cases_eq i k) [
    | inl same ↦ ap (λ m. length (get_or (set chunks k cs) m [])) same ∙ ap length (get_or-set_same chunks k cs [] h) ∙ long
    | inr other ↦ ap length (get_or-set_other chunks k i cs [] other) ∙ full i (omega (arith, length-set chunks k cs))
  ]

  -- chunks of empty cells more
  full_more : (chunks : List (List X)) (cs : List X) (m : ℕ) → AreFull chunks → length cs ≡ 512 → AreFull (chunks ++ replicate m cs)
  full_more chunks cs m full long k lt = elim (cases_lt k (length chunks)) [
    | inl less ↦ ap length (get_or_append_left chunks (replicate m cs) [] k less) ∙ full k less
    | inr past ↦ let at : length chunks + (k - length chunks) ≡ k = omega arith in
        ap (λ n. length (get_or (chunks ++ replicate m cs) n [])) (sym at) ∙ ap length (get_or-append-add chunks (replicate m cs) (k - length chunks) [] ∙ get_or-replicate m (k - length chunks) cs [] (omega (arith, length-append chunks (replicate m cs), length-replicate m cs))) ∙ long
  ]

  all_cells-replicate : (m n : ℕ) (c : X) → all_cells (replicate m (replicate n c)) ≡ replicate (m * n) c
  all_cells-replicate zero n c = let none : 0 ≡ 0 * n = omega arith in ap (λ k. replicate k c) none
  all_cells-replicate (suc m) n c = ap (λ l. replicate n c ++ l) (all_cells-replicate m n c) ∙ replicate-append-replicate n (m * n) c ∙ (let all : n + m * n ≡ suc m * n = omega arith in ap (λ k. replicate k c) all)

-- n slots in these chunks
module _ {X : Type 0} (chunks : List (List (Option X))) (n : ℕ) (h : IsSlots chunks n) where
  cells_fit : n ≤ length (all_cells chunks)
  cells_fit = omega (arith, length-all_cells chunks h.full, h.room)

  pub length-cells_in : length (cells_in chunks n) ≡ n
  length-cells_in = length-take-le n (all_cells chunks) cells_fit

  pub slot_within : (i : ℕ) → i < length (cells_in chunks n) → i < n
  slot_within i lt = omega (arith, length-cells_in)

  -- the cells past the last slot are as none
  any_cell : (i : ℕ) → get_or (cells_in chunks n) i None ≡ get_or (all_cells chunks) i None
  any_cell i = elim (cases_lt i n) [
    | inl less ↦ get_or-take n (all_cells chunks) i None less
    | inr past ↦ get_or_past (cells_in chunks n) i None (omega (arith, length-cells_in)) ∙ sym (h.blank i past)
  ]

  -- the slot i is the j-th of the chunk k, which is cs
  module _ (i k j : ℕ) (lt : i < n) (at : i ≡ 512 * k + j) (within : j < 512) where
    chunk_within : k < length chunks
    chunk_within = omega (arith, h.room)

    module _ (cs : List (Option X)) (is : cs ≡ get_or chunks k cs) where
      chunk_is : cs ≡ get_or chunks k []
      chunk_is = is ∙ get_or_default chunks k cs [] chunk_within

      pub chunk_long : length cs ≡ 512
      chunk_long = ap length chunk_is ∙ h.full k chunk_within

      pub cell_in : get_or (cells_in chunks n) i None ≡ get_or cs j None
      cell_in = get_or-take n (all_cells chunks) i None lt ∙ ap (λ m. get_or (all_cells chunks) m None) at ∙ get_in chunks k j None h.full chunk_within within ∙ ap (λ l. get_or l j None) (sym chunk_is)

      -- the slots from there on to the chunk's end
      pub cells_from : (run : List (Option X)) → IsRunOf cs j run → LiesFrom (λ m. get_or (cells_in chunks n) m None) i run
      cells_from run r =
          let place : i % 512 ≡ j = omega (arith, at, within) in record {
            first = let start : i ≡ i + 0 = omega arith in ap (λ m. get_or (cells_in chunks n) m None) start ∙ each 0 (omega arith);
            each = λ m less. each m (omega (arith, r.within));
            whole = λ m less. each m (omega (arith, place));
            within = omega (arith, place, r.within);
          }
        where
          each : (m : ℕ) → j + m < 512 → get_or (cells_in chunks n) (i + m) None ≡ get_or run m None
          each m less =
              let there : i + m ≡ 512 * k + (j + m) = omega arith in
              any_cell (i + m) ∙ ap (λ q. get_or (all_cells chunks) q None) there
              ∙ get_in chunks k (j + m) None h.full chunk_within less ∙ ap (λ l. get_or l (j + m) None) (sym chunk_is) ∙ r.each m less

      written : (c : Option X) → all_cells (set chunks k (set cs j c)) ≡ set (all_cells chunks) i c
      written c = ap (λ l. all_cells (set chunks k (set l j c))) chunk_is ∙ set_in chunks k j c h.full chunk_within within ∙ ap (λ m. set (all_cells chunks) m c) (sym at)

      pub cells_in-write : (c : Option X) → cells_in (set chunks k (set cs j c)) n ≡ set (cells_in chunks n) i c
      cells_in-write c = ap (take n) (written c) ∙ take-set-lt n (all_cells chunks) i c lt

      pub IsSlots-write : (c : Option X) → IsSlots (set chunks k (set cs j c)) n
      IsSlots-write c = record {
        few = h.few;
        room = omega (arith, h.room, length-set chunks k (set cs j c));
        full = full_set chunks k (set cs j c) h.full chunk_within (length-set cs j c ∙ ap length chunk_is ∙ h.full k chunk_within);
        blank = λ m le. ap (λ l. get_or l m None) (written c) ∙ get_or-set_other (all_cells chunks) i m c None (λ e. omega (arith, e)) ∙ h.blank m le;
      }

  -- m chunks of empty cells more
  module _ (m : ℕ) where
    abbrev more : List (List (Option X))
    more = chunks ++ replicate m (replicate 512 None)

    cells_more : all_cells more ≡ all_cells chunks ++ replicate (m * 512) None
    cells_more = flat_map-append (λ cells. cells) chunks (replicate m (replicate 512 None)) ∙ ap (λ l. all_cells chunks ++ l) (all_cells-replicate m 512 None)

    none_after : (i : ℕ) → n ≤ i → get_or (all_cells chunks ++ replicate (m * 512) None) i None ≡ None
    none_after i le = elim (cases_lt i (length (all_cells chunks))) [
      | inl less ↦ get_or_append_left (all_cells chunks) (replicate (m * 512) None) None i less ∙ h.blank i le
      | inr past ↦ let at : length (all_cells chunks) + (i - length (all_cells chunks)) ≡ i = omega arith in
          ap (λ k. get_or (all_cells chunks ++ replicate (m * 512) None) k None) (sym at) ∙ get_or-append-add (all_cells chunks) (replicate (m * 512) None) (i - length (all_cells chunks)) None ∙ blank_at (m * 512) (i - length (all_cells chunks))
    ]

    length-more : length more ≡ length chunks + m
    length-more = length-append chunks (replicate m (replicate 512 None)) ∙ ap (λ k. length chunks + k) (length-replicate {A = List (Option X)} m (replicate 512 None))

    -- of which by are slots
    module _ (by : ℕ) (fits : n + by ≤ 512 * (length chunks + m)) where
      pub IsSlots-more : n + by ≤ 2 ^ 30 → IsSlots more (n + by)
      IsSlots-more few = record {
        few = few;
        room = omega (arith, length-more);
        full = full_more chunks (replicate 512 None) m h.full (length-replicate {A = Option X} 512 None);
        blank = λ i le. ap (λ l. get_or l i None) cells_more ∙ none_after i (omega arith);
      }

      pub cells_in-more : cells_in more (n + by) ≡ cells_in chunks n ++ replicate by None
      cells_in-more = ap (take (n + by)) cells_more ∙ ext_get_or None (take (n + by) all) (cells_in chunks n ++ replicate by None) lengths each
        where
          all : List (Option X)
          all = all_cells chunks ++ replicate (m * 512) None

          long : n + by ≤ length all
          long = omega (arith, length-append (all_cells chunks) (replicate {A = Option X} (m * 512) None), length-replicate {A = Option X} (m * 512) None, length-all_cells chunks h.full)

          lengths : length (take (n + by) all) ≡ length (cells_in chunks n ++ replicate by None)
          lengths = omega (arith, length-take-le (n + by) all long, length-append (cells_in chunks n) (replicate by None), length-replicate {A = Option X} by None, length-cells_in)

          each : (i : ℕ) → i < length (take (n + by) all) → get_or (take (n + by) all) i None ≡ get_or (cells_in chunks n ++ replicate by None) i None
          each i lt = get_or-take (n + by) all i None (omega (arith, length-take-le (n + by) all long)) ∙ elim (cases_lt i n) [
            | inl less ↦ get_or_append_left (all_cells chunks) (replicate (m * 512) None) None i (omega (arith, cells_fit)) ∙ sym (get_or-take n (all_cells chunks) i None less)
                ∙ sym (get_or_append_left (cells_in chunks n) (replicate by None) None i (omega (arith, length-cells_in)))
            | inr past ↦ none_after i past ∙ sym (let at : length (cells_in chunks n) + (i - n) ≡ i = omega (arith, length-cells_in) in
                ap (λ k. get_or (cells_in chunks n ++ replicate by None) k None) (sym at) ∙ get_or-append-add (cells_in chunks n) (replicate by None) (i - n) None ∙ blank_at by (i - n))
          ]

    pub IsSlots-same : IsSlots more n
    IsSlots-same = record {
      few = h.few;
      room = omega (arith, length-more, h.room);
      full = full_more chunks (replicate 512 None) m h.full (length-replicate {A = Option X} 512 None);
      blank = λ i le. ap (λ l. get_or l i None) cells_more ∙ none_after i le;
    }

    pub cells_in-same : cells_in more n ≡ cells_in chunks n
    cells_in-same = ap (take n) cells_more ∙ take-append-le n (all_cells chunks) (replicate (m * 512) None) cells_fit
