use Rattle.std.proofs.Common.{◌≡◌, ◌∙◌, subst}
use Rattle.ac_model.specs.Containers.{Container}
use Rattle.ac_model.specs.Keyed.{by_arrival}
use Rattle.ac_model.specs.Maps.{equal_call}
use Rattle.ac_model.specs.Objects.{plain}
use Rattle.ac_model.specs.Rows.{Entry}
use Rattle.ac_setwork.proofs.Equality.{maps_equal}
use Rattle.ac_hashed.proofs.map.HashedMap.equal.Goals as goal

pub returns : goal.returns
returns g c =
    let keys = by_arrival g.K.Hashed.is_alike in let same = g.V.Elem.is_same in let left = c.self.inside.table in let right = c.other.inside.table in
    subst (λ (x : Container (Entry g.row.K.Denot g.row.V.Denot)). c.equal.result ≡ equal_call keys same (plain x.object) (plain c.args.other.now.object)) c.self.view_is
    (subst (λ (x : Container (Entry g.row.K.Denot g.row.V.Denot)). c.equal.result ≡ equal_call keys same (plain left.object) (plain x.object)) c.other.view_is
    (c.equal.ensures ∙ maps_equal keys same (plain left.object) (plain right.object)))
