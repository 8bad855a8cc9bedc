use Rattle.std.proofs.Common.{◌≡◌, ◌+◌, Some, ap, refl, sym, ◌∙◌, subst, to_z-of_z, w64}
use Rattle.std.proofs.lemmas.List.{length-set}
use Rattle.ac_base.specs.Rows.{row}
use Rattle.ac_pool.specs.NamedRows.{index_of, name_at}
use Rattle.ac_chain.specs.Rows.{Chained, slots_in, with_value as written_in}
use Rattle.ac_chain.specs.Sequence.{IsSequence, object_of}
use Rattle.ac_model.specs.Calls.{IsAfter}
use Rattle.ac_model.specs.Containers.{Container}
use Rattle.ac_model.specs.Cursors.{cursor_at}
use Rattle.ac_model.specs.Letters.{place_of_index}
use Rattle.ac_model.specs.Objects.{plain, with_rows}
use Rattle.ac_model.specs.Rows.{with_value}
use Rattle.ac_chain.proofs.SequenceLooks.{live_needed}
use Rattle.ac_chain.proofs.SequenceSwaps.{set_sequence, set_after}
use Rattle.ac_vector.proofs.ByIndex.{at_index}
use Rattle.ac_vector.proofs.Capacities.{kept}
use Rattle.ac_vector.proofs.vector.Vector.set_index.Goals as goal
use Rattle.ac_vector.proofs.vector.Vector.set_index.Given.{Over}

-- the rows are written under the name that stands at the index
written : (g : Over) (c : goal.After-set_at g) → c.set_at.new.self ≡ written_in c.self.inside.rows (at_index c.args.self.now.object c.args.index c.requires).name c.args.e
written g c =
    let o = c.args.self.now.object in let at = at_index o c.args.index c.requires in
    let rows : c.self.inside.rows.rows ≡ o.rows = ap (λ (x : Container _). x.object.rows) c.self.view_is in
    let place = c.place_of.ensures ∙ ap place_of_index (to_z-of_z {w = w64} {z = c.args.index} c.ranges.index) in
    c.set_at.ensures.written at.name (at.is ∙ (λ j. name_at (sym rows j) (sym place j)))

pub invariant_of-self : goal.invariant_of-self
invariant_of-self g c =
    let i = c.self.inside in let o = c.args.self.now.object in let at = at_index o c.args.index c.requires in
    subst (λ k. IsSequence i.limit k) (sym (written g c)) (set_sequence i.limit i.rows at.name c.args.e c.self.invariant
    (live_needed i.guards i.limit (Some (slots_in i.rows)) i.rows o (ap (λ (x : Container _). x.object) c.self.view_is) (cursor_at o.number (Some at.name)) at.name refl at.stands))

pub returns-clause-written : goal.returns-clause-written
returns-clause-written g c =
    let i = c.self.inside in let o = c.args.self.now.object in let at = at_index o c.args.index c.requires in
    let slots = ap slots_in (written g c) ∙ ap (λ n. n + i.rows.spare) (length-set i.rows.rows (index_of at.name i.rows.rows) (row at.name c.args.e)) in
    kept i.guards i.limit i.rows c.set_at.new.self o (with_rows (plain o) (with_value (plain o).rows _ c.args.e)) slots
    (subst (λ n. IsAfter o (object_of i.guards i.limit (Some (slots_in i.rows)) c.set_at.new.self) (with_rows (plain o) (with_value (plain o).rows n c.args.e))) at.named
    (set_after i.guards i.limit (Some (slots_in i.rows)) i.rows c.set_at.new.self o (ap (λ (x : Container _). x.object) c.self.view_is) c.self.invariant.sound
    (cursor_at o.number (Some at.name)) at.name c.args.e refl at.stands (written g c)))

pub returns-clause-spare : goal.returns-clause-spare
returns-clause-spare g c = ap (λ (k : Chained _). k.spare) (written g c) ∙ ap (λ (x : Container _). x.spare) c.self.view_is
