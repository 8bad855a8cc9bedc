-- What `allocate` and `free` share: a block's memory is that of its cells, one behind the other. Assumes `Logic`.
use mathlib.Core.Path.{◌≡◌, refl, sym, ap, ◌∙◌}
use Prim.Native.Nat.{ℕ, zero, suc, ◌+◌, ◌*◌, ◌<◌, ◌^◌}
use native.Mathlib.Omega.{arith}
use native.Mathlib.Nat.{zero-mul, suc-mul}
use mathlib.Core.List.{List, [], ◌∷◌}
use lib.ListN.{length, replicate}
use seplogic.Ra.Ura.{Ura}
use base.Logic.{ent, via, never, guard_i, fst∗}
use base.Fml.{Fml, fsep, froom}
use mir.Syntax.{Ty, w64, ty_array, int_big}
use mir.Val.{Val, vint, vptr, vcons, vstruct, vnil, Fits as Within}
use prog.Memory.{size, align, capped}
use prog.Capped.{capped_is}
use prog.RawLaws.{size-raw, align-raw}
use prog.Wp.{Env}
use types.Logic.{Logic, sem}
use types.Kit.{Item, Goal, Seq, ‵, ◌⊛◌, ◌$◌, ◌∵◌, !, qed, by, move, drop as skip, use1, split, rewrite, fsplit, fjoin, done}
use types.Match.{live}
use types.Run.{Opd}
use denote.RawPtr.{Ptr, RawPtr, block_ptr, null_ptr, ptr_val, room_for, in_a_block}
use denote.RattleType.{RattleType}
use Rattle.std.specs.Prelude.{Option, None, Ok, Err}
use Rattle.std.specs.Allocator.{block_if_ok}
use Rattle.std.proofs.alloc.Calls.{Answer}
use Rattle.ac_pool.specs.Places.{AreBare}
use Rattle.ac_pool.specs.Memory.{row, cell_type, block_type, cell_room, cell_own, cells_own}
use Rattle.ac_pool.proofs.RawCells.{R, step, Lies, forgotten}
use denote.Laws.{Is, shows}
use denote.Enum.Laws as Sum
use denote.Struct.Laws.{RawPtr-laws}
use denote.Param.Laws.{row_laws}
use denote.Steps.{only, nothing, peeks}
use Rattle.std.specs.contracts.result.Result as RS
use Rattle.std.specs.contracts.alloc.AllocError as AE
use Rattle.std.proofs.alloc.AllocError.TheLaws as refusal

module _ (X : RattleType) where
  abbrev Cell : Type 0
  Cell = Option (ℕ × Option X.Denot)

  abbrev τ : Ty
  τ = cell_type (R X)

  -- the cells behind the first are a row that begins a cell further on
  further : (b o : ℕ) → (λ (i : ℕ). Lies X b o (suc i)) ≡ Lies X b (o + step X)
  further b o = λ j i c. cell_own (R X) b (next i j) c
    where
      next : (i : ℕ) → suc i * step X + o ≡ i * step X + (o + step X)
      next i = omega (arith, suc-mul i (step X))

  begin : (o : ℕ) → o ≡ zero * step X + o
  begin o = omega (arith, zero-mul (step X))

  module _ {M : Type 1} {𝓤 : Ura M} (𝓛 : Logic 𝓤) (b : ℕ) where
    open 𝓛 use {H}

    apart : (n o : ℕ) → ent 𝓤 (H.room (ty_array τ n) b o) (sem 𝓛 (cells_own (R X) b o (replicate n None)))
    apart zero o = qed 𝓛 (‵ (froom (ty_array τ 0) b o) ∷ []) ∵ skip ! $ nothing ! $ done !
    apart (suc n) o =
        qed 𝓛 (‵ (froom (ty_array τ (suc n)) b o) ∷ []) ∵ use1 𝓛 (‵ (froom τ b o) ⊛ ‵ (froom (ty_array τ n) b (o + step X))) (𝓛.laws.room_uncons τ n b o) $ split ! $
        use1 𝓛 (‵ (cell_room (R X) b o)) (𝓛.laws.room-raw τ b o) $ rewrite ! 0 (λ (k : ℕ). ‵ (cell_room (R X) b k)) (begin o) refl $ move ! (1 ∷ []) $
        use1 𝓛 (‵ (cells_own (R X) b (o + step X) (replicate n None))) (apart n (o + step X)) $
        rewrite ! 0 (λ (F : ℕ → Cell → Fml). ‵ (row (replicate n None) F)) (sym (further b o)) refl $ move ! (1 ∷ 0 ∷ []) $ fjoin ! $ done !

    together : (o : ℕ) (cs : List Cell) → AreBare cs → ent 𝓤 (sem 𝓛 (cells_own (R X) b o cs)) (H.room (ty_array τ (length cs)) b o)
    together o [] bares = 𝓛.laws.room_nil τ b o
    together o (c ∷ cs) bares =
        qed 𝓛 (‵ (cells_own (R X) b o (c ∷ cs)) ∷ []) ∵ fsplit ! $ use1 𝓛 (‵ (cell_room (R X) b (zero * step X + o))) (forgotten X 𝓛 b (zero * step X + o) c (bares zero)) $
        rewrite ! 0 (λ (k : ℕ). ‵ (cell_room (R X) b k)) (sym (begin o)) refl $ use1 𝓛 (‵ (froom τ b o)) (𝓛.laws.raw-room τ b o) $ move ! (1 ∷ []) $
        rewrite ! 0 (λ (F : ℕ → Cell → Fml). ‵ (row cs F)) (further b o) refl $
        use1 𝓛 (‵ (froom (ty_array τ (length cs)) b (o + step X))) (together (o + step X) cs (λ i. bares (suc i))) $ move ! (1 ∷ 0 ∷ []) $ by ! (𝓛.laws.room_cons τ (length cs) b o)

    -- new memory is so many cells that were never written
    pub fresh_cells : (o : ℕ) → ent 𝓤 (H.room (block_type (R X)) b o) (sem 𝓛 (cells_own (R X) b o (replicate 512 None)))
    fresh_cells o = via 𝓤 (H.room (ty_array τ 512) b o) (𝓛.laws.raw-room (ty_array τ 512) b o) (apart 512 o)

    -- cells without values make the block's memory
    pub whole_again : (o : ℕ) (cs : List Cell) → length cs ≡ 512 → AreBare cs → ent 𝓤 (sem 𝓛 (cells_own (R X) b o cs)) (H.room (block_type (R X)) b o)
    whole_again o cs long bares =
        qed 𝓛 (‵ (cells_own (R X) b o cs) ∷ []) ∵ use1 𝓛 (‵ (froom (ty_array τ (length cs)) b o)) (together o cs bares) $
        rewrite ! 0 (λ (n : ℕ). ‵ (froom (ty_array τ n) b o)) long refl $ by ! (𝓛.laws.room-raw (ty_array τ 512) b o)

  pub block_size : 512 * step X < 2 ^ 64 → capped (size (block_type (R X))) ≡ 512 * step X
  block_size fits = ap capped (size-raw (ty_array τ 512)) ∙ capped_is (512 * step X) fits

  pub block_align : capped (align (block_type (R X))) ≡ capped (align τ)
  block_align = ap capped (align-raw (ty_array τ 512))

-- the machine value of what the allocator answers is determined by the answer
abbrev answer_laws : Sum.Laws (RS.the_type RawPtr AE.the_row)
answer_laws = ((RawPtr-laws, tt), ((row_laws AE.the_row refusal.the_row_laws refusal.the_told, tt), tt))

answer_is : (answer : Answer.Denot) (v : Val) → Is Answer answer (v ∷ []) → v ≡ Sum.val (RS.the_type RawPtr AE.the_row) answer_laws answer
answer_is answer v is = ap only (Sum.tells (RS.the_type RawPtr AE.the_row) answer_laws answer (v ∷ []) is)

-- what the allocator's answer is in memory
abbrev pub granted : ℕ → ℕ → Val
granted b o = live 0 (vcons (vptr b o) vnil)

abbrev pub refused : Val
refused = live 1 (vcons (vstruct vnil) vnil)

module _ {M : Type 1} {𝓤 : Ura M} {𝓛 : Logic 𝓤} {K : Type 0} {Γ : List (Item 𝓤)} where
  open 𝓛 use {H}

  -- a constant past the small ones
  pub big : K → {En : Env 𝓤 H} (n : ℕ) → n < 2 ^ 64 → Opd K 𝓛 Γ En (int_big w64 n) (vint w64 n)
  big t n fits = record { go = λ Kt z. via 𝓤 (Kt (vint w64 n)) z (guard_i 𝓤 (Within w64 n) (Kt (vint w64 n)) (record { fits = fits })) }

  module _ {G : Goal 𝓤 H} (token : Ty → Ptr → Fml) (τ : Ty) where
    -- the allocator granted memory with the right to give it back, or refused
    pub either_way : K → (answer : Answer.Denot) (v : Val)
        → ((b o : ℕ) → v ≡ granted b o → Seq K 𝓛 (‵ (froom τ b o) ∷ ‵ (token τ (block_ptr b o)) ∷ Γ) G) → (v ≡ refused → Seq K 𝓛 Γ G)
        → Seq K 𝓛 (‵ (Answer.own_val answer (v ∷ [])) ∷ ‵ (block_if_ok token τ answer) ∷ Γ) G
    either_way t (Ok p) v grants refuses =
        peeks t Answer (Is Answer) (shows 𝓛 Answer) (Ok p) (v ∷ []) (λ is. skip t $
        in_a_block t p (λ z. fsep (room_for τ z) (token τ z)) (fst∗ 𝓤 (never 𝓤) (sem 𝓛 (token τ null_ptr))) (λ b o at. fsplit t $
        grants b o (answer_is (Ok p) v is ∙ ap (λ (z : Ptr). live 0 (vcons (ptr_val z) vnil)) at)))
    either_way t (Err e) v grants refuses =
        peeks t Answer (Is Answer) (shows 𝓛 Answer) (Err e) (v ∷ []) (λ is. skip t $ skip t $ refuses (answer_is (Err e) v is))
