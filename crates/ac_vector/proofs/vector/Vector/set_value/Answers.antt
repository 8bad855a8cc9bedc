use Rattle.std.proofs.Common.{Some, ap, refl, ◌+◌}
use Rattle.std.proofs.lemmas.List.{length-set}
use Rattle.ac_base.specs.Rows.{row}
use Rattle.ac_pool.specs.NamedRows.{index_of}
use Rattle.ac_chain.specs.Rows.{slots_in}
use Rattle.ac_model.specs.Containers.{Container}
use Rattle.ac_chain.proofs.SequenceLooks.{live_needed}
use Rattle.ac_chain.proofs.SequenceSwaps.{set_sequence, set_after}
use Rattle.ac_vector.proofs.Capacities.{kept}
use Rattle.ac_vector.proofs.vector.Vector.set_value.Goals as goal

pub at_mut-requires : goal.at_mut-requires
at_mut-requires g c =
    let i = c.self.inside in live_needed i.guards i.limit (Some (slots_in i.rows)) i.rows c.args.self.now.object (ap (λ (x : Container _). x.object) c.self.view_is) c.args.c c.name_in.result c.name_in.ensures c.requires

pub invariant_of-self : goal.invariant_of-self
invariant_of-self g c =
    let i = c.self.inside in
    set_sequence i.limit i.rows c.name_in.result c.args.e c.self.invariant
    (live_needed i.guards i.limit (Some (slots_in i.rows)) i.rows c.args.self.now.object (ap (λ (x : Container _). x.object) c.self.view_is) c.args.c c.name_in.result c.name_in.ensures c.requires)

pub returns-clause-written : goal.returns-clause-written
returns-clause-written g c =
    let i = c.self.inside in
    kept i.guards i.limit i.rows _ c.args.self.now.object _ (ap (λ n. n + i.rows.spare) (length-set i.rows.rows (index_of c.name_in.result i.rows.rows) (row c.name_in.result c.args.e)))
    (set_after i.guards i.limit (Some (slots_in i.rows)) i.rows _ c.args.self.now.object (ap (λ (x : Container _). x.object) c.self.view_is) c.self.invariant.sound c.args.c c.name_in.result c.args.e
    c.name_in.ensures c.requires refl)
