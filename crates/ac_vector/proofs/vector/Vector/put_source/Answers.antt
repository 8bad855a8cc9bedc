use Rattle.std.proofs.Common.{◌≡◌, ◌+◌, length, Option, Some, ap}
use Rattle.ac_base.specs.declared.name.Name.{Name}
use Rattle.ac_chain.specs.Rows.{slots_in}
use Rattle.ac_chain.proofs.Puts.{put_length}
use Rattle.ac_chain.proofs.SequenceGrows.{named_live, takes_few, takes_names, takes_within, sequence_grown, grown_slots}
use Rattle.ac_model.specs.Containers.{Container}
use Rattle.ac_vector.proofs.Capacities.{grown_most, kept_slots, widens_by}
use Rattle.ac_vector.proofs.Inserts.{put_counts, values_done}
use Rattle.ac_vector.proofs.vector.Vector.put_source.Goals as goal

pub put_all-requires-clause-place : goal.put_all-requires-clause-place
put_all-requires-clause-place g c =
    let i = c.self.inside in named_live i.guards i.limit (Some (slots_in i.rows)) i.rows c.args.self.now.object (ap (λ (x : Container _). x.object) c.self.view_is) c.args.place c.requires.place

pub put_all-requires-clause-few : goal.put_all-requires-clause-few
put_all-requires-clause-few g c =
    let i = c.self.inside in takes_few i.guards i.limit (Some (slots_in i.rows)) i.rows c.args.self.now.object (ap (λ (x : Container _). x.object) c.self.view_is) (length c.args.values.items) c.requires.room

pub put_all-requires-clause-unspent : goal.put_all-requires-clause-unspent
put_all-requires-clause-unspent g c =
    let i = c.self.inside in takes_names i.guards i.limit (Some (slots_in i.rows)) i.rows c.args.self.now.object (ap (λ (x : Container _). x.object) c.self.view_is) (length c.args.values.items) c.requires.room

pub invariant_of-self : goal.invariant_of-self
invariant_of-self g c =
    let i = c.self.inside in let view = (ap (λ (x : Container _). x.object) c.self.view_is) in let o = c.args.self.now.object in let p = c.put_all in let n = length c.args.values.items in
    sequence_grown {A = Option Name} i.limit i.rows p.new.array n p.result c.self.invariant (takes_few i.guards i.limit (Some (slots_in i.rows)) i.rows o view n c.requires.room) (takes_within i.guards i.limit (Some (slots_in i.rows)) i.rows o view n c.requires.room)
    (put_counts p.result i.rows p.new.array c.args.place c.args.values.items p.ensures.put) p.ensures.refused (kept_slots p.result i.rows p.new.array n p.ensures.slots p.ensures.refused) p.ensures.sound

pub returns-in-Ok-clause-changed : goal.returns-in-Ok-clause-changed
returns-in-Ok-clause-changed g c =
    let i = c.self.inside in let view = (ap (λ (x : Container _). x.object) c.self.view_is) in let o = c.args.self.now.object in let now = c.put_all.new.array in let n = length c.args.values.items in
    let count : length now.rows ≡ length i.rows.rows + n = put_length i.rows.rows i.rows.next_serial c.args.place c.args.values.items now c.in-Ok.ensures.put in
    values_done i.guards i.limit (Some (slots_in i.rows)) (Some (slots_in now)) i.rows now o view c.args.place c.args.values.items c.in-Ok.first c.named.result
    (widens_by i.limit i.rows now n c.self.invariant (takes_within i.guards i.limit (Some (slots_in i.rows)) i.rows o view n c.requires.room) count c.in-Ok.ensures.slots) c.self.invariant.sound c.requires.place c.in-Ok.ensures.put c.in-Ok.ensures.first c.named.ensures

pub returns-in-Ok-clause-slots : goal.returns-in-Ok-clause-slots
returns-in-Ok-clause-slots g c =
    let i = c.self.inside in let now = c.put_all.new.array in let n = length c.args.values.items in
    let count : length now.rows ≡ length i.rows.rows + n = put_length i.rows.rows i.rows.next_serial c.args.place c.args.values.items now c.in-Ok.ensures.put in
    grown_slots i.guards i.limit (Some (slots_in i.rows)) (Some (slots_in now)) i.rows now c.args.self.now c.self.view_is (grown_most i.rows now n c.in-Ok.ensures.slots count)
