-- A `&` to a block reaches the serial of each cell that was written, and each value.
use mathlib.Core.List.{[], ◌++◌}
use base.Fml.{Incl-trans}
use contract.BorrowLft.{meet_⊑_left, meet_⊑_right}
use denote.RattleType.{RattleType}
use denote.Param.Laws.{Laws}
use denote.Param.Shared.{copy_shared}
use denote.Struct.Field.{RawPtr-field}
use denote.Struct.Laws.{RawPtr-copy}
use denote.Struct.Lending.{of_Lends}
use Rattle.ac_pool.specs.contracts.block.Block as B
use Rattle.ac_pool.proofs.block.Block.TheLaw.Statement.{statement}
use Rattle.ac_pool.proofs.Sharing.{block_lent_laws, Lends-block}

pub shares : (R : RattleType) (L : Laws R) → statement R L
shares R L = of_Lends (B.struct R) (B.the_codes R.Denot R.coded) (B.the_heap R) (B.the_lent R)
    (λ d p. block_lent_laws R L.shr_laws d.first d.cells) (copy_shared RawPtr-field RawPtr-copy, tt)
    (λ M 𝓤 𝓛 d p. Lends-block 𝓛 (B.the_row R).lives R L (meet_⊑_right (R.lives ++ []) []) (Incl-trans (meet_⊑_left (R.lives ++ []) _) (meet_⊑_left R.lives [])) d.first d.cells)
