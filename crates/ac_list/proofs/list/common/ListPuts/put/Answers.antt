use Rattle.std.proofs.Common.{length, None, ◌≡◌, true, false, true≢false, Ok, Err, sym, ap, subst}
use Rattle.ac_base.specs.declared.fault.Fault.TheVariants as fault
use Rattle.ac_model.specs.Objects.{Object}
use Rattle.ac_model.specs.Calls.{Changing, Marks}
use Rattle.ac_model.specs.Containers.{Container}
use Rattle.ac_chain.specs.Sequence.{object_of}
use Rattle.ac_model.specs.Putting.{put_call}
use Rattle.ac_model.proofs.Changes.{no_capacity}
use Rattle.ac_chain.proofs.SequenceGrows.{named_live, takes_few, takes_names, takes_within, sequence_after, put_done, put_wants, grown_slots}
use Rattle.ac_list.proofs.list.common.ListPuts.put.Goals as goal

pub put_copies-requires-clause-place : goal.put_copies-requires-clause-place
put_copies-requires-clause-place g c =
    let i = c.self.inside in named_live i.guards i.limit None i.chain c.args.self.now.object (ap (λ (x : Container _). x.object) c.self.view_is) c.args.place c.requires.place

pub put_copies-requires-clause-few : goal.put_copies-requires-clause-few
put_copies-requires-clause-few g c =
    let i = c.self.inside in takes_few i.guards i.limit None i.chain c.args.self.now.object (ap (λ (x : Container _). x.object) c.self.view_is) c.args.n c.requires.room

pub put_copies-requires-clause-unspent : goal.put_copies-requires-clause-unspent
put_copies-requires-clause-unspent g c =
    let i = c.self.inside in takes_names i.guards i.limit None i.chain c.args.self.now.object (ap (λ (x : Container _). x.object) c.self.view_is) c.args.n c.requires.room

pub invariant_of-self : goal.invariant_of-self
invariant_of-self g c =
    let i = c.self.inside in let view = ap (λ (x : Container _). x.object) c.self.view_is in let o = c.args.self.now.object in let p = c.put_copies in
    sequence_after i.limit i.chain p.new.chain c.args.n c.args.place c.args.e p.result c.self.invariant (takes_few i.guards i.limit None i.chain o view c.args.n c.requires.room) (takes_within i.guards i.limit None i.chain o view c.args.n c.requires.room)
    p.ensures.put p.ensures.refused p.ensures.slots p.ensures.sound

pub returns-in-Ok-clause-changed : goal.returns-in-Ok-clause-changed
returns-in-Ok-clause-changed g c =
    let i = c.self.inside in let view = ap (λ (x : Container _). x.object) c.self.view_is in let o = c.args.self.now.object in let now = c.put_copies.new.chain in
    let done = put_done i.guards i.limit None None i.chain now c.args.n c.args.place c.args.e c.in-Ok.first c.named.result (no_capacity i.limit (length now.rows)) c.self.invariant (named_live i.guards i.limit None i.chain o view c.args.place c.requires.place)
    c.in-Ok.ensures.put c.in-Ok.ensures.first c.named.ensures in
    subst (λ (q : Object _ _). Changing (Marks (object_of i.guards i.limit None now)) (put_call q c.args.place c.args.e c.args.n) q (object_of i.guards i.limit None now) (Ok c.named.result)) view done

pub returns-in-Ok-clause-slots : goal.returns-in-Ok-clause-slots
returns-in-Ok-clause-slots g c =
    let i = c.self.inside in grown_slots i.guards i.limit None None i.chain c.put_copies.new.chain c.args.self.now c.self.view_is c.in-Ok.ensures.grown

pub returns-in-Err-clause-changed : goal.returns-in-Err-clause-changed
returns-in-Err-clause-changed g c =
    let i = c.self.inside in let view = ap (λ (x : Container _). x.object) c.self.view_is in let o = c.args.self.now.object in let now = c.put_copies.new.chain in
    let wants = put_wants i.guards i.limit None i.chain now c.args.n c.args.place c.args.e c.self.invariant tt (takes_within i.guards i.limit None i.chain o view c.args.n c.requires.room)
    c.in-Err.ensures.refused (λ few spare. absurd (let t : false ≡ true = c.in-Err.ensures.room few spare in true≢false (sym t))) in
    subst (λ (q : Object _ _). Changing (Marks (object_of i.guards i.limit None now)) (put_call q c.args.place c.args.e c.args.n) q (object_of i.guards i.limit None now) (Err fault.NoMemory)) view wants
