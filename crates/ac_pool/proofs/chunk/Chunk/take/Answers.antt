use Rattle.std.proofs.Common.{map, Some, None, refl, sym, ap, ◌∙◌, subst}
use Rattle.std.proofs.lemmas.List.{map-set}
use Rattle.ac_pool.specs.Cell.{IsKept}
use Rattle.ac_pool.specs.Places.{kept}
use Rattle.ac_pool.specs.Reached.{IsReached}
use Rattle.ac_pool.proofs.Written.{shown_under, kept_there, below, set_written}
use Rattle.ac_pool.proofs.chunk.Chunk.take.Goals as goal

pub take-requires : goal.take-requires
take-requires g c = let cells = c.self.inside.block.cells in let i = c.args.index in let k : IsKept (map kept cells) i = rw c.self.view_is c.requires in (k.0, kept_there cells i k.0 k.1)

pub invariant_of-self : goal.invariant_of-self
invariant_of-self g c =
    let a = c.self.inside in let cells = a.block.cells in let i = c.args.index in let h = c.self.invariant in let k : IsKept (map kept cells) i = rw c.self.view_is c.requires in
    subst (λ l. IsReached l a.reached) (sym c.take.ensures.freed) (set_written cells a.reached h i 0 None (below cells a.reached h i (k.0.0, Some k.0.1) (kept_there cells i k.0 k.1)) refl)

pub returns-clause-cells : goal.returns-clause-cells
returns-clause-cells g c = let cells = c.self.inside.block.cells in rw (← c.self.view_is) (ap (map kept) c.take.ensures.freed ∙ map-set kept cells c.args.index (Some (0, None)))

pub returns-clause-value : goal.returns-clause-value
returns-clause-value g c =
    let cells = c.self.inside.block.cells in let i = c.args.index in let k : IsKept (map kept cells) i = rw c.self.view_is c.requires in
    rw (← c.self.view_is) (shown_under cells i k.0 c.take.result (kept_there cells i k.0 k.1) c.take.ensures.value)
