-- A block may cross threads as its values may: so may each cell, and a row of them.
use Rattle.std.specs.Prelude.{ℕ, zero, suc, ◌+◌, ◌*◌, List, [], ◌∷◌, Option, Some, None}
use Rattle.std.specs.Borrow.{u64}
use base.Fraction.{full_share}
use base.Fml.{Fml}
use base.Shift.{Keyless}
use denote.RattleType.{RattleType}
use Rattle.std.proofs.Crossing.{frees}
use denote.RawPtr.{Ptr, block_ptr, null_ptr}
use denote.Struct.Owning.{shape, fields, to}
use denote.Param.Send.{IsSend, IsSync, Common, AllSend, part_keyless, owning_send, struct_sync, sendable}
use Rattle.ac_pool.specs.Memory.{row, cell_size, value_offset, value_own, cell_own, value_lent, cell_lent, block_own, block_lent}
use Rattle.ac_pool.specs.contracts.block.Block as Block

row_crosses : {A : Type 0} (cs : List A) (F : ℕ → A → Fml) → ((i : ℕ) (c : A) → Keyless (F i c)) → Keyless (row cs F)
row_crosses [] F each = tt
row_crosses (c ∷ cs) F each = (each zero c, row_crosses cs (λ i. F (suc i)) (λ i. each (suc i)))

serials_send : IsSend u64
serials_send = search sendable

serials_sync : IsSync u64
serials_sync = search sendable

module _ (R : RattleType) where
  module _ (s : IsSend R) where
    value_moves : (b o : ℕ) (v : Option R.Denot) → Keyless (value_own R (block_ptr b o) v)
    value_moves b o None = tt
    value_moves b o (Some x) = part_keyless R s full_share x b o

    cell_moves : (b o : ℕ) (c : Option (ℕ × Option R.Denot)) → Keyless (cell_own R b o c)
    cell_moves b o None = tt
    cell_moves b o (Some c) = (part_keyless u64 serials_send full_share c.0 b (o + 0), (value_moves b (o + value_offset R) c.1, ((tt, (tt, tt)), tt)))

    block_moves : (p : Ptr) (cs : List (Option (ℕ × Option R.Denot))) → Keyless (block_own R p cs)
    block_moves (block_ptr b o) cs = ((tt, tt), (row_crosses cs (λ i. cell_own R b (i * cell_size R + o)) (λ i. cell_moves b (i * cell_size R + o)), λ heap. frees.frees heap _ (block_ptr b o)))
    block_moves null_ptr cs = tt

  module _ (y : IsSync R) where
    value_seen : (b o : ℕ) (v : Option R.Denot) → Common (value_lent R (block_ptr b o) v)
    value_seen b o None κ = tt
    value_seen b o (Some x) κ = (tt, y.shared x b o κ)

    cell_seen : (b o : ℕ) (c : Option (ℕ × Option R.Denot)) → Common (cell_lent R b o c)
    cell_seen b o None κ = tt
    cell_seen b o (Some c) κ = ((tt, serials_sync.shared c.0 b (o + 0) κ), value_seen b (o + value_offset R) c.1 κ)

    block_seen : (p : Ptr) (cs : List (Option (ℕ × Option R.Denot))) → Common (block_lent R p cs)
    block_seen (block_ptr b o) cs κ = ((tt, tt), row_crosses cs (λ i c. cell_lent R b (i * cell_size R + o) c κ) (λ i c. cell_seen b (i * cell_size R + o) c κ))
    block_seen null_ptr cs κ = tt

  pub Block-send : IsSend R → IsSend (Block.the_row R)
  Block-send s =
      let O = Block.the_type R in let all : AllSend (fields O) = (search sendable, tt) in
      owning_send O all (λ d. block_moves s d.first d.cells) (λ k x w. tt)

  pub Block-sync : IsSync R → IsSync (Block.the_row R)
  Block-sync y =
      let O = Block.the_type R in record { shared = λ d b o κ. ((struct_sync (shape O) (search sendable, tt)).shared (to O d) b o κ, block_seen y d.first d.cells κ) }
