use Rattle.std.proofs.Common.{Some, ap}
use Rattle.ac_chain.specs.Rows.{slots_in}
use Rattle.ac_model.specs.Containers.{Container}
use Rattle.ac_chain.proofs.SequenceLooks.{live_needed}
use Rattle.ac_chain.proofs.SequenceSwaps.{swapped_after}
use Rattle.ac_vector.proofs.Capacities.{kept}
use Rattle.ac_vector.proofs.Orders.{swapped_slots}
use Rattle.ac_vector.proofs.vector.Vector.exchange.Goals as goal

pub swap_values-requires-clause-a : goal.swap_values-requires-clause-a
swap_values-requires-clause-a g c =
    let i = c.self.inside in live_needed i.guards i.limit (Some (slots_in i.rows)) i.rows c.args.self.now.object (ap (λ (x : Container _). x.object) c.self.view_is) c.args.first c.name_in.result c.name_in.ensures c.requires.first

pub swap_values-requires-clause-b : goal.swap_values-requires-clause-b
swap_values-requires-clause-b g c =
    let i = c.self.inside in live_needed i.guards i.limit (Some (slots_in i.rows)) i.rows c.args.self.now.object (ap (λ (x : Container _). x.object) c.self.view_is) c.args.second c.name_in-2.result c.name_in-2.ensures c.requires.second

pub returns-clause-exchanged : goal.returns-clause-exchanged
returns-clause-exchanged g c =
    let i = c.self.inside in let o = c.args.self.now.object in
    kept i.guards i.limit i.rows c.swap_values.new.self o _ (swapped_slots i.rows c.swap_values.new.self c.name_in.result c.name_in-2.result c.swap_values.ensures.swapped)
    (swapped_after i.guards i.limit (Some (slots_in i.rows)) i.rows c.swap_values.new.self o (ap (λ (x : Container _). x.object) c.self.view_is) c.self.invariant.sound c.args.first c.args.second
    c.name_in.result c.name_in-2.result c.name_in.ensures c.name_in-2.ensures c.requires.first c.requires.second c.swap_values.ensures.swapped)
