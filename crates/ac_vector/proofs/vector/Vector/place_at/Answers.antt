use Rattle.std.proofs.Common.{◌<◌, Some, length, ap, ◌∙◌, subst, arith}
use Rattle.ac_chain.specs.Rows.{slots_in}
use Rattle.ac_model.specs.Containers.{Container}
use Rattle.ac_chain.proofs.SequenceLooks.{live_needed}
use Rattle.ac_vector.proofs.CursorPlaces.{cursor_index}
use Rattle.ac_vector.proofs.vector.Vector.place_at.Goals as goal

pub index_of-requires : goal.index_of-requires
index_of-requires g c =
    let i = c.self.inside in live_needed i.guards i.limit (Some (slots_in i.rows)) i.rows c.args.self.now.object (ap (λ (x : Container _). x.object) c.self.view_is) c.args.c c.name_in.result c.name_in.ensures c.requires

pub returns-clause-place : goal.returns-clause-place
returns-clause-place g c =
    let i = c.self.inside in
    c.index_of.ensures.index ∙ cursor_index i.guards i.limit (Some (slots_in i.rows)) i.rows c.args.self.now.object (ap (λ (x : Container _). x.object) c.self.view_is) c.self.invariant.sound c.args.c c.name_in.result c.name_in.ensures c.requires

pub returns-clause-within : goal.returns-clause-within
returns-clause-within g c =
    let i = c.self.inside in
    let live = live_needed i.guards i.limit (Some (slots_in i.rows)) i.rows c.args.self.now.object (ap (λ (x : Container _). x.object) c.self.view_is) c.args.c c.name_in.result c.name_in.ensures c.requires in
    let at = c.index_of.ensures.index in
    subst (λ (x : Container _). c.index_of.result < length x.object.rows) c.self.view_is (omega arith)

pub returns-clause-few : goal.returns-clause-few
returns-clause-few g c =
    let i = c.self.inside in
    let live = live_needed i.guards i.limit (Some (slots_in i.rows)) i.rows c.args.self.now.object (ap (λ (x : Container _). x.object) c.self.view_is) c.args.c c.name_in.result c.name_in.ensures c.requires in
    let at = c.index_of.ensures.index in let most = c.self.invariant.within_greatest in
    omega arith
