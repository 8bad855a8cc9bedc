use Rattle.std.proofs.Common.{sym, ap, ◌∙◌}
use Rattle.ac_balance.specs.TreeFields.{place_in}
use Rattle.ac_balance.proofs.Cutting.{cutting, cut_mendable, cut_ends}
use Rattle.ac_balance.proofs.detaching.cut_first.Goals as goal

pub mend-requires : goal.mend-requires
mend-requires g c =
    let l = c.args.links.now in let n = c.requires in let top = c.args.top in let first = c.args.first in let d = c.set_parent.new.nodes in
    cut_mendable l n.tree top first (cutting l n.tree top first n.part n.is_first) d (sym c.set_parent.ensures) c.place_of-place.result (sym (c.place_of-place.ensures ∙ ap (place_in d first) c.right-rest.ensures))

pub returns : goal.returns
returns g c = λ t p is.
    let l = c.args.links.now in let top = c.args.top in let first = c.args.first in let d = c.set_parent.new.nodes in
    cut_ends l t top first (cutting l t top first p is) c.mend.new.links d (sym c.set_parent.ensures) c.place_of-place.result (sym (c.place_of-place.ensures ∙ ap (place_in d first) c.right-rest.ensures)) c.mend.ensures
