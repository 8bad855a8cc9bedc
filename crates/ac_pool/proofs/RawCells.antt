-- What the walks of a block share: how far a cell lies, its parts, and the pointer behind a `&`. Assumes `Logic`.
use mathlib.Core.Path.{◌≡◌, refl, ◌∙◌}
use Prim.Native.Nat.{ℕ, zero, suc, ◌+◌, ◌*◌, ◌<◌, ◌≤◌, ◌^◌}
use native.Mathlib.Omega.{arith}
use native.Mathlib.Nat.{zero-mul, suc-mul}
use mathlib.Core.List.{List, [], ◌∷◌}
use lib.ListN.{length, set, length-set}
use lib.Dec.{T}
use seplogic.Ra.Ura.{Ura}
use base.Fraction.{full_share}
use base.Logic.{SProp, ent, sep, wand, via, id⊢, mono_l, mono_r, wand_i, wand_e, apply∗}
use base.Fml.{Fml, Lft, ftrue, fat, froom, fsep}
use mir.Syntax.{Ty, Tys, Args, a_type, w64, ty_int, tcons, tnil}
use mir.Raw.{raw as bare}
use mir.Val.{Val, has_ty, WT, vint}
use types.Logic.{Logic, sem}
use types.Kit.{Item, Goal, Seq, ‵, raw, ◌⊛◌, ◌$◌, ◌∵◌, !, qed, move, keep, use1, use2, split, split3, fsplit, fjoin, done}
use denote.RattleType.{RattleType, RowLaws}
use denote.Laws.{Is, shows}
use denote.Memory.{hidden_shr}
use denote.Opens.{shr_dup, unhide, hide}
use denote.Param.{layout, layouts, param}
use denote.Param.Laws.{Laws, param_laws}
use denote.Plain.{uint_out}
use denote.RawPtr.{Ptr, RawPtr, ptr_row_laws}
use denote.Steps.{nothing, peeks}
use denote.Struct.Struct.{Struct, Struct-row_laws}
use denote.Struct.Owning.{shape}
use Rattle.std.specs.Prelude.{Option, Some, None}
use Rattle.ac_pool.specs.Places.{value_of_place}
use Rattle.ac_pool.specs.Memory.{cell_type, cell_size, value_offset, cell_own, cell_room, way_back}
use Rattle.ac_pool.specs.contracts.block.Block as B

-- what gives Q for P gives what follows from Q for what P follows from
between : {M : Type 1} (𝓤 : Ura M) (P P' : SProp 𝓤) {Q Q' : SProp 𝓤} → ent 𝓤 P' P → ent 𝓤 Q Q' → ent 𝓤 (wand 𝓤 P Q) (wand 𝓤 P' Q')
between 𝓤 P P' {Q} {Q'} given got =
    let gives : SProp 𝓤 = wand 𝓤 P Q in
    wand_i 𝓤 gives P' Q' (via 𝓤 (sep 𝓤 gives P) (mono_r 𝓤 gives given) (via 𝓤 Q (wand_e 𝓤 gives P Q (id⊢ 𝓤 gives)) got))

-- the names that each walk over the values of the row X uses
module _ (X : RattleType) where
  abbrev pub args : Args
  args = layouts (a_type ∷ []) (X, tt)

  abbrev pub R : RattleType
  R = param 0 X

  abbrev pub value_ty : Ty
  value_ty = layout X

  abbrev pub Fits : Val → Type 0
  Fits v = T (has_ty value_ty v) × WT v

  abbrev pub Bk : RattleType
  Bk = B.the_row R

  -- the one field that the machine sees
  abbrev pub Fields : RattleType
  Fields = Struct (shape (B.the_type R))

  abbrev pub step : ℕ
  step = cell_size R

  abbrev pub ahead : ℕ
  ahead = value_offset R

  -- the i-th cell of a block at o in b
  abbrev pub Lies : ℕ → ℕ → ℕ → Option (ℕ × Option X.Denot) → Fml
  Lies b o i c = cell_own R b (i * step + o) c

as_many : (i n s : ℕ) → i ≤ n → i * s ≤ n * s
as_many zero n s le = omega (arith, zero-mul s)
as_many (suc i) zero s le = absurd (omega arith)
as_many (suc i) (suc n) s le = omega (arith, suc-mul i s, suc-mul n s, as_many i n s (omega arith))

pub is_word : (s : ℕ) → 512 * s < 2 ^ 63 → s < 2 ^ 64
is_word s small = omega (arith, small)

-- a cell lies fewer than 2 ^ 64 bytes from the block's begin
pub is_near : (i s : ℕ) → i < 512 → 512 * s < 2 ^ 63 → i * s < 2 ^ 64
is_near i s lt small = omega (arith, as_many i 512 s (omega arith), small)

pub still_long : {A : Type 0} (cs : List A) (i : ℕ) (c : A) → length cs ≡ 512 → length (set cs i c) ≡ 512
still_long cs i c long = length-set cs i c ∙ long

-- the pointer that a `&` to a block shows
pub first_shown : (X : RattleType) {M : Type 1} {𝓤 : Ura M} (𝓛 : Logic 𝓤) (κ : Lft) (b o : ℕ) (p : Ptr)
    → ent 𝓤 (sem 𝓛 (hidden_shr (Fields X) κ (p, tt) b o)) (sep 𝓤 (sem 𝓛 (hidden_shr RawPtr κ p b (o + 0))) (sem 𝓛 (hidden_shr (Fields X) κ (p, tt) b o)))
first_shown X 𝓛 κ b o p =
    let laws : RowLaws (Fields X) = Struct-row_laws (shape (B.the_type (R X))) (ptr_row_laws, tt) in
    qed 𝓛 (‵ (hidden_shr (Fields X) κ (p, tt) b o) ∷ []) ∵ shr_dup ! (Fields X) laws (p, tt) b o κ $ unhide ! $ fsplit ! $ fsplit ! $ hide ! $ keep ! (0 ∷ 3 ∷ []) $ done !

module _ (X : RattleType) {M : Type 1} {𝓤 : Ura M} (𝓛 : Logic 𝓤) (b at : ℕ) where
  open 𝓛 use {H}

  abbrev serial_room : Fml
  serial_room = froom (ty_int w64) b (at + 0)

  abbrev value_room : Fml
  value_room = froom (value_ty X) b (at + ahead X)

  abbrev bare_room : Fml
  bare_room = froom (bare (value_ty X)) b (at + ahead X)

  abbrev fields : Tys
  fields = tcons (ty_int w64) (tcons (value_ty X) tnil)

  abbrev fields_room : Fml → SProp 𝓤
  fields_room value = sem 𝓛 (fsep serial_room (fsep value ftrue))

  -- the fields' rooms make the cell's: so do those without their types, as the block states it
  untyped : ent 𝓤 (wand 𝓤 (fields_room value_room) (H.room (cell_type (R X)) b at)) (sem 𝓛 (way_back (R X) b at))
  untyped =
      between 𝓤 (fields_room value_room) (fields_room bare_room)
      (mono_r 𝓤 (sem 𝓛 serial_room) (mono_l 𝓤 (sem 𝓛 ftrue) (𝓛.laws.raw-room (value_ty X) b (at + ahead X)))) (𝓛.laws.room-raw (cell_type (R X)) b at)

  -- a cell without a value, written or not, is room for a serial and a value, with the way back
  pub opened : (c : Option (ℕ × Option X.Denot)) → value_of_place c ≡ None → ent 𝓤 (sem 𝓛 (cell_own (R X) b at c)) (sep 𝓤 (sem 𝓛 serial_room) (sep 𝓤 (sem 𝓛 value_room) (sem 𝓛 (way_back (R X) b at))))
  opened None e =
      qed 𝓛 (‵ (cell_room (R X) b at) ∷ []) ∵ use1 𝓛 (‵ (froom (cell_type (R X)) b at)) (𝓛.laws.raw-room (cell_type (R X)) b at) $
      use1 𝓛 ((‵ serial_room ⊛ ‵ value_room ⊛ ‵ ftrue) ⊛ raw (wand 𝓤 (fields_room value_room) (H.room (cell_type (R X)) b at))) (𝓛.laws.room_fields [] fields b at) $
      split ! $ move ! (1 ∷ []) $ use1 𝓛 (‵ (way_back (R X) b at)) untyped $ move ! (1 ∷ []) $ split3 ! $ keep ! (0 ∷ 1 ∷ 3 ∷ []) $ done !
  opened (Some c) e = parts c.0 c.1 e
    where
      parts : (n : ℕ) (v : Option X.Denot) → v ≡ None → ent 𝓤 (sem 𝓛 (cell_own (R X) b at (Some (n, v)))) (sep 𝓤 (sem 𝓛 serial_room) (sep 𝓤 (sem 𝓛 value_room) (sem 𝓛 (way_back (R X) b at))))
      parts n None e =
          qed 𝓛 (‵ (cell_own (R X) b at (Some (n, None))) ∷ []) ∵ fsplit ! $ use1 𝓛 (‵ (fat full_share (ty_int w64) b (at + 0) (vint w64 n))) (uint_out 𝓛 full_share w64 n b (at + 0)) $
          use1 𝓛 (‵ serial_room) (𝓛.laws.at_room (ty_int w64) b (at + 0) (vint w64 n)) $ move ! (1 ∷ []) $ fsplit ! $
          use1 𝓛 (‵ value_room) (𝓛.laws.raw-room (value_ty X) b (at + ahead X)) $ move ! (2 ∷ 0 ∷ 1 ∷ []) $ done !
      parts n (Some x) e = cc

  -- its memory is then as that of a cell that was never written
  pub forgotten : (c : Option (ℕ × Option X.Denot)) → value_of_place c ≡ None → ent 𝓤 (sem 𝓛 (cell_own (R X) b at c)) (sem 𝓛 (cell_room (R X) b at))
  forgotten c e =
      qed 𝓛 (‵ (cell_own (R X) b at c) ∷ []) ∵ use1 𝓛 (‵ serial_room ⊛ ‵ value_room ⊛ ‵ (way_back (R X) b at)) (opened c e) $ split3 ! $ nothing ! $
      move ! (2 ∷ []) $ use1 𝓛 (‵ bare_room) (𝓛.laws.room-raw (value_ty X) b (at + ahead X)) $ fjoin ! $ move ! (1 ∷ 0 ∷ []) $ fjoin ! $
      use2 𝓛 (‵ (cell_room (R X) b at)) (apply∗ 𝓤 (fields_room bare_room) (sem 𝓛 (cell_room (R X) b at))) $ done !

module _ (X : RattleType) (L : Laws X) {M : Type 1} {𝓤 : Ura M} {𝓛 : Logic 𝓤} {K : Type 0} {Γ : List (Item 𝓤)} {G : Goal 𝓤 𝓛.H} where
  -- a value is passed as one machine value of its type
  pub passed : K → (x : X.Denot) (vs : List Val) → ((v : Val) → vs ≡ v ∷ [] → Fits X v → Seq K 𝓛 (‵ (X.own_val x (v ∷ [])) ∷ Γ) G) → Seq K 𝓛 (‵ (X.own_val x vs) ∷ Γ) G
  passed t x [] k = peeks t (R X) (Is (R X)) (shows 𝓛 (R X)) x [] (λ is. absurd (((param_laws 0 X L).lawful 𝓛).typed x [] is))
  passed t x (v ∷ []) k = peeks t (R X) (Is (R X)) (shows 𝓛 (R X)) x (v ∷ []) (λ is. k v refl (((param_laws 0 X L).lawful 𝓛).typed x (v ∷ []) is).0)
  passed t x (v ∷ w ∷ vs) k = peeks t (R X) (Is (R X)) (shows 𝓛 (R X)) x (v ∷ w ∷ vs) (λ is. absurd ((((param_laws 0 X L).lawful 𝓛).typed x (v ∷ w ∷ vs) is).1))
