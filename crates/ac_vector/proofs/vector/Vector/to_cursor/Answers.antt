use Rattle.std.proofs.Common.{Some, sym, ap, ◌∙◌, to_z-of_z, w64}
use Rattle.ac_pool.specs.NamedRows.{name_at}
use Rattle.ac_chain.specs.Rows.{slots_in}
use Rattle.ac_model.specs.Letters.{place_of_index}
use Rattle.ac_model.specs.Containers.{Container}
use Rattle.ac_vector.proofs.ByIndex.{past_cursor, index_cursor}
use Rattle.ac_vector.proofs.CursorPlaces.{indexed}
use Rattle.ac_vector.proofs.vector.Vector.to_cursor.Goals as goal

pub returns-in-Some : goal.returns-in-Some
returns-in-Some g c =
    let i = c.self.inside in let o = c.args.self.now.object in let view = ap (λ (x : Container _). x.object) c.self.view_is in
    let same = to_z-of_z {w = w64} {z = c.args.index} c.ranges.index in
    past_cursor o c.args.index _ (sym (indexed i.guards i.limit (Some (slots_in i.rows)) i.rows o view _ c.args.index c.len.result c.index_in.result same c.len.ensures.count c.index_in.ensures) ∙ c.in-Some.is)

pub returns-in-None : goal.returns-in-None
returns-in-None g c =
    let i = c.self.inside in let o = c.args.self.now.object in let view = ap (λ (x : Container _). x.object) c.self.view_is in
    let same = to_z-of_z {w = w64} {z = c.args.index} c.ranges.index in
    let none = sym (indexed i.guards i.limit (Some (slots_in i.rows)) i.rows o view _ c.args.index c.len.result c.index_in.result same c.len.ensures.count c.index_in.ensures) ∙ c.in-None.is in
    index_cursor o c.args.index c.name_at.result c.named.result none
    (c.name_at.ensures.name ∙ (λ t. name_at ((ap (λ (x : Container _). x.object.rows) c.self.view_is) t) ((c.place_of.ensures ∙ ap place_of_index same) t))) c.named.ensures
