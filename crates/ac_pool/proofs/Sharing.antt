-- A `&` to a block is made where one to a value is: what each cell lends, a row of cells lends.
use Prim.Native.Nat.{ℕ, zero, suc, ◌+◌, ◌*◌}
use Rattle.std.specs.Prelude.{List, [], ◌∷◌, Option, Some, None}
use Rattle.std.specs.Borrow.{u64}
use seplogic.Ra.Ura.{Ura}
use base.Fraction.{full_share}
use base.Fml.{Lft, Fml, Incl, ftrue, ffalse, fsep}
use mir.Syntax.{w64}
use types.Logic.{Logic}
use denote.RattleType.{RattleType, RowLaws}
use denote.Param.Laws.{Laws}
use denote.Param.Shared.{copy_shared}
use denote.Plain.{uint_row_laws}
use denote.RawPtr.{Ptr, block_ptr, null_ptr, lies_at}
use denote.Sharing.{ShrLaws, said}
use denote.SharingLaws.{beside_shr_laws, nothing_shr_laws, said_shr_laws}
use denote.Shares.{Shares-less}
use denote.Struct.Lending.{Lends, lent_at, lent_at_shr_laws, Lends-both, Lends-nothing, Lends-said, Lends-first, Lends-lies, Lends-false}
use denote.Struct.Field.{u64-field}
use denote.Struct.Laws.{u64-copy}
use Rattle.ac_pool.specs.Memory.{row, cell_size, serial_ptr, value_ptr, value_own, way_back, cell_own, cells_own, value_lent, cell_lent, cells_lent, sized, right, block_own, block_lent}

row_laws : {A : Type 0} (cs : List A) (t : ℕ → A → Lft → Fml) → ((i : ℕ) (c : A) → ShrLaws (t i c)) → ShrLaws (λ κ. row cs (λ i c. t i c κ))
row_laws [] t each = nothing_shr_laws
row_laws (c ∷ cs) t each = beside_shr_laws (t zero c) (λ κ. row cs (λ i d. t (suc i) d κ)) (each zero c) (row_laws cs (λ i. t (suc i)) (λ i. each (suc i)))

module _ (R : RattleType) (L : RowLaws R) where
  value_laws : (p : Ptr) (v : Option R.Denot) → ShrLaws (value_lent R p v)
  value_laws p None = nothing_shr_laws
  value_laws p (Some x) = lent_at_shr_laws R L p x

  cell_laws : (b o : ℕ) (c : Option (ℕ × Option R.Denot)) → ShrLaws (cell_lent R b o c)
  cell_laws b o None = nothing_shr_laws
  cell_laws b o (Some c) =
      beside_shr_laws (lent_at u64 (serial_ptr R b o) c.0) (value_lent R (value_ptr R b o) c.1) (lent_at_shr_laws u64 (uint_row_laws w64) (serial_ptr R b o) c.0) (value_laws (value_ptr R b o) c.1)

  pub block_lent_laws : (p : Ptr) (cs : List (Option (ℕ × Option R.Denot))) → ShrLaws (block_lent R p cs)
  block_lent_laws (block_ptr b o) cs =
      beside_shr_laws (said (sized R cs)) (cells_lent R b o cs) (said_shr_laws (sized R cs) (tt, tt)) (row_laws cs (λ i. cell_lent R b (i * cell_size R + o)) (λ i. cell_laws b (i * cell_size R + o)))
  block_lent_laws null_ptr cs = said_shr_laws ffalse tt

module _ {M : Type 1} {𝓤 : Ura M} (𝓛 : Logic 𝓤) (l : Lft) where
  Lends-row : {A : Type 0} (cs : List A) (F : ℕ → A → Fml) (t : ℕ → A → Lft → Fml) → ((i : ℕ) (c : A) → Lends 𝓛 (F i c) (t i c) l) → Lends 𝓛 (row cs F) (λ κ. row cs (λ i c. t i c κ)) l
  Lends-row [] F t each = Lends-nothing 𝓛 ftrue l
  Lends-row (c ∷ cs) F t each =
      Lends-both 𝓛 (F zero c) (row cs (λ i. F (suc i))) (t zero c) (λ κ. row cs (λ i d. t (suc i) d κ)) l (each zero c) (Lends-row cs (λ i. F (suc i)) (λ i. t (suc i)) (λ i. each (suc i)))

  module _ (R : RattleType) (L : Laws R) (inc_n : Incl l u64.lives) (inc : Incl l R.lives) where
    Lends-serial : (p : Ptr) (n : ℕ) → Lends 𝓛 (lies_at u64 full_share p n) (lent_at u64 p n) l
    Lends-serial p n = Lends-lies 𝓛 u64 l p n (Shares-less 𝓛 u64 u64.lives l inc_n ((copy_shared u64-field u64-copy).shares M 𝓤 𝓛) n)

    Lends-value : (p : Ptr) (v : Option R.Denot) → Lends 𝓛 (value_own R p v) (value_lent R p v) l
    Lends-value p None = Lends-nothing 𝓛 (value_own R p None) l
    Lends-value p (Some x) = Lends-lies 𝓛 R l p x (Shares-less 𝓛 R R.lives l inc (L.shares 𝓛) x)

    -- the way back stays with the block
    Lends-cell : (b o : ℕ) (c : Option (ℕ × Option R.Denot)) → Lends 𝓛 (cell_own R b o c) (cell_lent R b o c) l
    Lends-cell b o None = Lends-nothing 𝓛 (cell_own R b o None) l
    Lends-cell b o (Some c) =
        let p = serial_ptr R b o in let q = value_ptr R b o in
        Lends-both 𝓛 (lies_at u64 full_share p c.0) (fsep (value_own R q c.1) (way_back R b o)) (lent_at u64 p c.0) (value_lent R q c.1) l (Lends-serial p c.0)
        (Lends-first 𝓛 (value_own R q c.1) (way_back R b o) (value_lent R q c.1) l (Lends-value q c.1))

    pub Lends-block : (p : Ptr) (cs : List (Option (ℕ × Option R.Denot))) → Lends 𝓛 (block_own R p cs) (block_lent R p cs) l
    Lends-block (block_ptr b o) cs =
        let s = cell_size R in
        Lends-both 𝓛 (sized R cs) (fsep (cells_own R b o cs) (right R (block_ptr b o))) (said (sized R cs)) (cells_lent R b o cs) l (Lends-said 𝓛 (sized R cs) (tt, tt) l)
        (Lends-first 𝓛 (cells_own R b o cs) (right R (block_ptr b o)) (cells_lent R b o cs) l
        (Lends-row cs (λ i. cell_own R b (i * s + o)) (λ i. cell_lent R b (i * s + o)) (λ i. Lends-cell b (i * s + o))))
    Lends-block null_ptr cs = Lends-false 𝓛 (said ffalse) l
