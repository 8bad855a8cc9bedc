use Rattle.std.proofs.Common.{◌≤◌, length, ap, ◌∙◌, subst}
use Rattle.std.proofs.lemmas.List.{length-map}
use Rattle.std.specs.Vec.{vec_capacity}
use Rattle.ac_base.specs.declared.name.Name.{Name}
use Rattle.ac_base.specs.Rows.{Row, values}
use Rattle.ac_chain.specs.Rows.{reserved}
use Rattle.ac_chain.proofs.Puts.{reserved_enough}
use Rattle.ac_vector.proofs.Interleaves.{interleaved_merged, interleaved_slots, stacks_fit}
use Rattle.ac_vector.proofs.moving.merge_all.Goals as goal

pub move_end-requires-clause-spare : goal.move_end-requires-clause-spare
move_end-requires-clause-spare g c =
    subst (λ n. n ≤ c.reserve.new.self.spare) c.len-2.ensures.count (reserved_enough c.args.target.now c.reserve.new.self c.len-2.result c.in_ok-reserve.ensures.ok).enough

pub interleave-requires-clause-theirs : goal.interleave-requires-clause-theirs
interleave-requires-clause-theirs g c =
    let theirs = c.in_ok-theirs in (
      theirs.ensures.items,
      stacks_fit c.args.target.now c.reserve.new.self c.move_end.new.target c.len-2.result c.len-seam.result (vec_capacity theirs.theirs) c.args.source.now.rows c.in_ok-reserve.ensures.ok c.len-seam.ensures.count c.move_end.ensures.put
          (subst (λ n. n ≤ vec_capacity theirs.theirs) c.len.ensures.count theirs.ensures.capacity),
    )

pub returns-clause-merged : goal.returns-clause-merged
returns-clause-merged g c =
    let t = c.interleave in
    interleaved_merged g.T.Rank.is_less c.args.target.now c.reserve.new.self c.move_end.new.target t.new.self c.len-2.result c.len-seam.result (values c.args.source.now.rows) c.in_ok-reserve.ensures.ok c.len-seam.ensures.count c.move_end.ensures.put
    t.ensures.woven t.ensures.rest

pub returns-clause-slots : goal.returns-clause-slots
returns-clause-slots g c =
    let t = c.interleave in let source = c.args.source.now.rows in
    interleaved_slots g.T.Rank.is_less c.args.target.now c.reserve.new.self c.move_end.new.target t.new.self (length source) c.len-seam.result (values source) (c.in_ok-reserve.ensures.ok ∙ ap (reserved c.args.target.now) c.len-2.ensures.count)
    c.len-seam.ensures.count c.move_end.ensures.put t.ensures.woven t.ensures.rest (length-map source (λ (r : Row Name _). r.value)) c.move_end.ensures.spare
