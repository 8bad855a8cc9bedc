use Rattle.std.proofs.Common.{length, None, ◌≡◌, true, false, true≢false, Ok, Err, sym, ap, subst}
use Rattle.ac_base.specs.declared.fault.Fault.TheVariants as fault
use Rattle.ac_chain.specs.Put.{IsPut, HasFirst}
use Rattle.ac_chain.proofs.SequenceGrows.{takes_few, takes_names, takes_within, sequence_after, put_done, put_wants, grown_slots}
use Rattle.ac_model.specs.Objects.{Object}
use Rattle.ac_model.specs.Calls.{Changing, Marks}
use Rattle.ac_model.specs.Containers.{Container}
use Rattle.ac_model.specs.Rows.{node}
use Rattle.ac_model.proofs.Changes.{no_capacity}
use Rattle.std.proofs.Common.{replicate}
use Rattle.ac_tree.specs.TreeFields.{forest_in}
use Rattle.ac_tree.specs.TreeRows.{rows_of, tree_object}
use Rattle.ac_tree.specs.Inserting.{place_at, depth_at}
use Rattle.ac_tree.specs.Children.{IsPlace, children_call}
use Rattle.ac_tree.proofs.Objects.{sound_of}
use Rattle.ac_tree.proofs.Putting.{place_live}
use Rattle.ac_tree.proofs.Children.{if_left, if_err_rows, held_in, children_is}
use Rattle.ac_tree.proofs.tree.Tree.put.Goals as goal

pub put_copies-requires-clause-hole : goal.put_copies-requires-clause-hole
put_copies-requires-clause-hole g c =
    let i = c.self.inside in let o = c.args.self.now.object in let view = ap (λ (x : Container _). x.object) c.self.view_is in
    let place = subst (λ (q : Object _ _). IsPlace q c.args.parent c.args.before) (sym view) c.requires.place in
    let h = held_in i.guards i.limit i.links c.self.invariant c.args.parent c.args.before place in
    h.hole

pub put_copies-requires-clause-few : goal.put_copies-requires-clause-few
put_copies-requires-clause-few g c =
    let i = c.self.inside in takes_few i.guards i.limit None (rows_of i.links) c.args.self.now.object (ap (λ (x : Container _). x.object) c.self.view_is) c.args.n c.requires.room

pub put_copies-requires-clause-unspent : goal.put_copies-requires-clause-unspent
put_copies-requires-clause-unspent g c =
    let i = c.self.inside in takes_names i.guards i.limit None (rows_of i.links) c.args.self.now.object (ap (λ (x : Container _). x.object) c.self.view_is) c.args.n c.requires.room

pub invariant_of-self : goal.invariant_of-self
invariant_of-self g c =
    let i = c.self.inside in let o = c.args.self.now.object in let view = ap (λ (x : Container _). x.object) c.self.view_is in
    let place = subst (λ (q : Object _ _). IsPlace q c.args.parent c.args.before) (sym view) c.requires.place in
    let h = held_in i.guards i.limit i.links c.self.invariant c.args.parent c.args.before place in
    let p = c.put_copies in let now = rows_of p.new.links in let d = depth_at h.hole in
    record {
      forest = p.ensures.forest;
      sequence = sequence_after i.limit (rows_of i.links) now c.args.n (place_at h.hole) (node d c.args.e) p.result c.self.invariant.sequence
          (takes_few i.guards i.limit None (rows_of i.links) o view c.args.n c.requires.room) (takes_within i.guards i.limit None (rows_of i.links) o view c.args.n c.requires.room)
          (if_left (IsPut (rows_of i.links).rows (rows_of i.links).next_serial (place_at h.hole) (replicate c.args.n (node d c.args.e)) now) (λ first. HasFirst (rows_of i.links).next_serial c.args.n now first) p.result (p.ensures.put h.hole))
          (if_err_rows p.result i.links p.new.links p.ensures.refused) p.ensures.slots (sound_of p.new.links (forest_in p.new.links) p.ensures.forest);
    }

pub returns-in-Ok-clause-changed : goal.returns-in-Ok-clause-changed
returns-in-Ok-clause-changed g c =
    let i = c.self.inside in let o = c.args.self.now.object in let view = ap (λ (x : Container _). x.object) c.self.view_is in
    let place = subst (λ (q : Object _ _). IsPlace q c.args.parent c.args.before) (sym view) c.requires.place in
    let h = held_in i.guards i.limit i.links c.self.invariant c.args.parent c.args.before place in
    let now = rows_of c.put_copies.new.links in let put = c.in-Ok.ensures.put h.hole in
    let done = put_done i.guards i.limit None None (rows_of i.links) now c.args.n (place_at h.hole) (node (depth_at h.hole) c.args.e) c.in-Ok.first c.named.result (no_capacity i.limit (length now.rows)) c.self.invariant.sequence
    (place_live i.links c.args.parent c.args.before h.hole) put.0 put.1 c.named.ensures in
    subst (λ (q : Object _ _). Changing (Marks (tree_object i.guards i.limit c.put_copies.new.links)) (children_call q c.args.parent c.args.before c.args.e c.args.n) q (tree_object i.guards i.limit c.put_copies.new.links) (Ok c.named.result)) view
    (subst (λ k. Changing (Marks (tree_object i.guards i.limit c.put_copies.new.links)) k (tree_object i.guards i.limit i.links) (tree_object i.guards i.limit c.put_copies.new.links) (Ok c.named.result))
    (children_is i.guards i.limit i.links c.self.invariant c.args.parent c.args.before place c.args.e c.args.n) done)

pub returns-in-Ok-clause-slots : goal.returns-in-Ok-clause-slots
returns-in-Ok-clause-slots g c =
    let i = c.self.inside in grown_slots i.guards i.limit None None (rows_of i.links) (rows_of c.put_copies.new.links) c.args.self.now c.self.view_is c.in-Ok.ensures.grown

pub returns-in-Err-clause-changed : goal.returns-in-Err-clause-changed
returns-in-Err-clause-changed g c =
    let i = c.self.inside in let o = c.args.self.now.object in let view = ap (λ (x : Container _). x.object) c.self.view_is in
    let place = subst (λ (q : Object _ _). IsPlace q c.args.parent c.args.before) (sym view) c.requires.place in
    let h = held_in i.guards i.limit i.links c.self.invariant c.args.parent c.args.before place in
    let wants = put_wants i.guards i.limit None (rows_of i.links) (rows_of c.put_copies.new.links) c.args.n (place_at h.hole) (node (depth_at h.hole) c.args.e) c.self.invariant.sequence tt
    (takes_within i.guards i.limit None (rows_of i.links) o view c.args.n c.requires.room) (ap rows_of c.in-Err.ensures.refused) (λ few spare. absurd (let t : false ≡ true = c.in-Err.ensures.room few spare in true≢false (sym t))) in
    subst (λ (q : Object _ _). Changing (Marks (tree_object i.guards i.limit c.put_copies.new.links)) (children_call q c.args.parent c.args.before c.args.e c.args.n) q (tree_object i.guards i.limit c.put_copies.new.links) (Err fault.NoMemory)) view
    (subst (λ k. Changing (Marks (tree_object i.guards i.limit c.put_copies.new.links)) k (tree_object i.guards i.limit i.links) (tree_object i.guards i.limit c.put_copies.new.links) (Err fault.NoMemory))
    (children_is i.guards i.limit i.links c.self.invariant c.args.parent c.args.before place c.args.e c.args.n) wants)
