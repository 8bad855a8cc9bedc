-- How the cells of a block lie in its memory, and what of it the block owns and lends, at values of the row R.
use Rattle.std.specs.Prelude.{ℕ, zero, suc, ◌+◌, ◌*◌, ◌^◌, List, [], ◌∷◌, length, Option, Some, None}
use Rattle.std.specs.Borrow.{u64}
use Rattle.std.specs.declared.alloc.Global.{Global}
use Rattle.std.specs.contracts.impls.GlobalAllocator.TheImpl.{ghosts}
use base.Fraction.{full_share}
use base.Fml.{Lft, Fml, ftrue, fsep, fwand, fex, feq, flt}
use mir.Syntax.{Ty, w64, ty_int, ty_array, ty_struct, tcons, tnil}
use mir.Raw.{raw}
use prog.Memory.{size, align, up}
use denote.RattleType.{RattleType}
use denote.Memory.{lone}
use denote.Sharing.{nothing, beside}
use denote.RawPtr.{Ptr, block_ptr, block_of, count_of, in_block, lies_at, room_for}
use denote.Struct.Lending.{lent_at}

-- F of each entry and its index, one beside the other
abbrev pub row : {A : Type 0} → List A → (ℕ → A → Fml) → Fml
row [] F = ftrue
row (c ∷ cs) F = fsep (F zero c) (row cs (λ i. F (suc i)))

module _ (R : RattleType) where
  -- a cell as the machine sees it: its serial, and behind it the value
  abbrev pub cell_type : Ty
  cell_type = ty_struct [] (tcons (ty_int w64) (tcons (lone R.mir) tnil))

  abbrev pub cell_size : ℕ
  cell_size = size cell_type

  abbrev pub value_offset : ℕ
  value_offset = up (align (lone R.mir)) 8

  abbrev pub block_type : Ty
  block_type = raw (ty_array cell_type 512)

  -- where the serial and the value of a cell stand, which begins o bytes into the block b
  abbrev pub serial_ptr : ℕ → ℕ → Ptr
  serial_ptr b o = block_ptr b (o + 0)

  abbrev pub value_ptr : ℕ → ℕ → Ptr
  value_ptr b o = block_ptr b (o + value_offset)

  abbrev pub value_own : Ptr → Option R.Denot → Fml
  value_own p None = room_for (raw (lone R.mir)) p
  value_own p (Some x) = lies_at R full_share p x

  abbrev pub cell_room : ℕ → ℕ → Fml
  cell_room b o = room_for (raw cell_type) (block_ptr b o)

  -- the memory between the fields of a cell and behind them: with room for each field it makes room for the cell
  abbrev pub way_back : ℕ → ℕ → Fml
  way_back b o = fwand (fsep (room_for (ty_int w64) (serial_ptr b o)) (fsep (room_for (raw (lone R.mir)) (value_ptr b o)) ftrue)) (cell_room b o)

  -- a cell that was never written is room, and another one is its two parts with the way back
  abbrev pub cell_own : ℕ → ℕ → Option (ℕ × Option R.Denot) → Fml
  cell_own b o None = cell_room b o
  cell_own b o (Some c) = fsep (lies_at u64 full_share (serial_ptr b o) c.0) (fsep (value_own (value_ptr b o) c.1) (way_back b o))

  abbrev pub cells_own : ℕ → ℕ → List (Option (ℕ × Option R.Denot)) → Fml
  cells_own b o cs = row cs (λ i c. cell_own b (i * cell_size + o) c)

  abbrev pub value_lent : Ptr → Option R.Denot → Lft → Fml
  value_lent p None = nothing
  value_lent p (Some x) = lent_at R p x

  abbrev pub cell_lent : ℕ → ℕ → Option (ℕ × Option R.Denot) → Lft → Fml
  cell_lent b o None = nothing
  cell_lent b o (Some c) = beside (lent_at u64 (serial_ptr b o) c.0) (value_lent (value_ptr b o) c.1)

  abbrev pub cells_lent : ℕ → ℕ → List (Option (ℕ × Option R.Denot)) → Lft → Fml
  cells_lent b o cs κ = row cs (λ i c. cell_lent b (i * cell_size + o) c κ)

  -- there are 512 cells, and they take fewer than 2 ^ 63 bytes
  abbrev pub sized : List (Option (ℕ × Option R.Denot)) → Fml
  sized cs = fsep (feq ℕ (length cs) 512) (flt (512 * cell_size) (2 ^ 63))

  -- the right to give the block back
  abbrev pub right : Ptr → Fml
  right p = fex Global (λ heap. ghosts.dealloc_token heap block_type p)

  abbrev pub block_own : Ptr → List (Option (ℕ × Option R.Denot)) → Fml
  block_own p cs = in_block p (fsep (sized cs) (fsep (cells_own (block_of p) (count_of p) cs) (right p)))

  abbrev pub block_lent : Ptr → List (Option (ℕ × Option R.Denot)) → Lft → Fml
  block_lent p cs κ = in_block p (fsep (sized cs) (cells_lent (block_of p) (count_of p) cs κ))
