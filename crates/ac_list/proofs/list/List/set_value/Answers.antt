use Rattle.std.proofs.Common.{None, ap, refl}
use Rattle.ac_model.specs.Containers.{Container}
use Rattle.ac_chain.proofs.SequenceLooks.{live_needed}
use Rattle.ac_chain.proofs.SequenceSwaps.{set_sequence, set_after}
use Rattle.ac_list.proofs.list.List.set_value.Goals as goal

pub at_mut-requires : goal.at_mut-requires
at_mut-requires g c =
    let i = c.self.inside in live_needed i.guards i.limit None i.chain c.args.self.now.object (ap (λ (x : Container _). x.object) c.self.view_is) c.args.c c.name_in.result c.name_in.ensures c.requires

pub invariant_of-self : goal.invariant_of-self
invariant_of-self g c =
    let i = c.self.inside in
    set_sequence i.limit i.chain c.name_in.result c.args.e c.self.invariant
    (live_needed i.guards i.limit None i.chain c.args.self.now.object (ap (λ (x : Container _). x.object) c.self.view_is) c.args.c c.name_in.result c.name_in.ensures c.requires)

pub returns-clause-written : goal.returns-clause-written
returns-clause-written g c =
    let i = c.self.inside in
    set_after i.guards i.limit None i.chain _ c.args.self.now.object (ap (λ (x : Container _). x.object) c.self.view_is) c.self.invariant.sound c.args.c c.name_in.result c.args.e
    c.name_in.ensures c.requires refl
