use Rattle.std.proofs.Common.{◌≡◌, ◌+◌, length, Some, true, false, true≢false, Ok, Err, sym, ap, ◌∙◌, subst}
use Rattle.std.proofs.lemmas.List.{length-replicate}
use Rattle.std.specs.Prelude.{replicate}
use Rattle.ac_base.specs.declared.fault.Fault.TheVariants as fault
use Rattle.ac_model.specs.Objects.{Object}
use Rattle.ac_model.specs.Calls.{Changing, Marks}
use Rattle.ac_model.specs.Containers.{Container}
use Rattle.ac_model.specs.Putting.{put_call}
use Rattle.ac_chain.specs.Rows.{slots_in}
use Rattle.ac_chain.specs.Sequence.{object_of}
use Rattle.ac_chain.proofs.Puts.{put_length}
use Rattle.ac_chain.proofs.SequenceGrows.{named_live, takes_few, takes_names, takes_within, sequence_after, put_done, put_wants, grown_slots}
use Rattle.ac_vector.proofs.Capacities.{grown_most, has_capacity, kept_slots, widens_by}
use Rattle.ac_vector.proofs.vector.common.VectorPuts.put.Goals as goal

pub put_copies-requires-clause-place : goal.put_copies-requires-clause-place
put_copies-requires-clause-place g c =
    let i = c.self.inside in named_live i.guards i.limit (Some (slots_in i.rows)) i.rows c.args.self.now.object (ap (λ (x : Container _). x.object) c.self.view_is) c.args.place c.requires.place

pub put_copies-requires-clause-few : goal.put_copies-requires-clause-few
put_copies-requires-clause-few g c =
    let i = c.self.inside in takes_few i.guards i.limit (Some (slots_in i.rows)) i.rows c.args.self.now.object (ap (λ (x : Container _). x.object) c.self.view_is) c.args.n c.requires.room

pub put_copies-requires-clause-unspent : goal.put_copies-requires-clause-unspent
put_copies-requires-clause-unspent g c =
    let i = c.self.inside in takes_names i.guards i.limit (Some (slots_in i.rows)) i.rows c.args.self.now.object (ap (λ (x : Container _). x.object) c.self.view_is) c.args.n c.requires.room

pub invariant_of-self : goal.invariant_of-self
invariant_of-self g c =
    let i = c.self.inside in let view = ap (λ (x : Container _). x.object) c.self.view_is in let o = c.args.self.now.object in let p = c.put_copies in
    sequence_after i.limit i.rows p.new.array c.args.n c.args.place c.args.e p.result c.self.invariant (takes_few i.guards i.limit (Some (slots_in i.rows)) i.rows o view c.args.n c.requires.room)
    (takes_within i.guards i.limit (Some (slots_in i.rows)) i.rows o view c.args.n c.requires.room) p.ensures.put p.ensures.refused (kept_slots p.result i.rows p.new.array c.args.n p.ensures.slots p.ensures.refused) p.ensures.sound

pub returns-in-Ok-clause-changed : goal.returns-in-Ok-clause-changed
returns-in-Ok-clause-changed g c =
    let i = c.self.inside in let view = ap (λ (x : Container _). x.object) c.self.view_is in let o = c.args.self.now.object in let now = c.put_copies.new.array in
    let count : length now.rows ≡ length i.rows.rows + c.args.n = put_length i.rows.rows i.rows.next_serial c.args.place (replicate c.args.n c.args.e) now c.in-Ok.ensures.put ∙ ap (λ m. length i.rows.rows + m) (length-replicate c.args.n c.args.e) in
    let risen = widens_by i.limit i.rows now c.args.n c.self.invariant (takes_within i.guards i.limit (Some (slots_in i.rows)) i.rows o view c.args.n c.requires.room) count c.in-Ok.ensures.slots in
    let done = put_done i.guards i.limit (Some (slots_in i.rows)) (Some (slots_in now)) i.rows now c.args.n c.args.place c.args.e c.in-Ok.first c.named.result risen c.self.invariant
    (named_live i.guards i.limit (Some (slots_in i.rows)) i.rows o view c.args.place c.requires.place) c.in-Ok.ensures.put c.in-Ok.ensures.first c.named.ensures in
    subst (λ (q : Object _ _). Changing (Marks (object_of i.guards i.limit (Some (slots_in now)) now)) (put_call q c.args.place c.args.e c.args.n) q (object_of i.guards i.limit (Some (slots_in now)) now) (Ok c.named.result)) view done

pub returns-in-Ok-clause-slots : goal.returns-in-Ok-clause-slots
returns-in-Ok-clause-slots g c =
    let i = c.self.inside in let now = c.put_copies.new.array in
    let count : length now.rows ≡ length i.rows.rows + c.args.n = put_length i.rows.rows i.rows.next_serial c.args.place (replicate c.args.n c.args.e) now c.in-Ok.ensures.put ∙ ap (λ m. length i.rows.rows + m) (length-replicate c.args.n c.args.e) in
    grown_slots i.guards i.limit (Some (slots_in i.rows)) (Some (slots_in now)) i.rows now c.args.self.now c.self.view_is (grown_most i.rows now c.args.n c.in-Ok.ensures.slots count)

pub returns-in-Err-clause-changed : goal.returns-in-Err-clause-changed
returns-in-Err-clause-changed g c =
    let i = c.self.inside in let view = ap (λ (x : Container _). x.object) c.self.view_is in let o = c.args.self.now.object in let now = c.put_copies.new.array in
    let wants = put_wants i.guards i.limit (Some (slots_in i.rows)) i.rows now c.args.n c.args.place c.args.e c.self.invariant (has_capacity i.rows) (takes_within i.guards i.limit (Some (slots_in i.rows)) i.rows o view c.args.n c.requires.room)
    c.in-Err.ensures.refused (λ few spare. absurd (let t : false ≡ true = c.in-Err.ensures.room few spare in true≢false (sym t))) in
    let same : slots_in i.rows ≡ slots_in now = ap slots_in (sym c.in-Err.ensures.refused) in
    subst (λ n. Changing (Marks (object_of i.guards i.limit (Some n) now)) (put_call o c.args.place c.args.e c.args.n) o (object_of i.guards i.limit (Some n) now) (Err fault.NoMemory)) same
    (subst (λ (q : Object _ _). Changing (Marks (object_of i.guards i.limit (Some (slots_in i.rows)) now)) (put_call q c.args.place c.args.e c.args.n) q (object_of i.guards i.limit (Some (slots_in i.rows)) now) (Err fault.NoMemory)) view wants)
