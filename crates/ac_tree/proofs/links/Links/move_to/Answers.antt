use Rattle.ac_tree.proofs.Splices.{moved_is}
use Rattle.ac_tree.proofs.links.Links.move_to.Goals as goal

pub returns : goal.returns
returns g c = λ from to x below rest t s named same pe be.
    moved_is c.args.self.now from to x below rest t s same c.args.name c.args.parent c.args.before named pe be c.parent-above.result c.prev-prev.result c.next-next.result c.prev_before-last.result
    c.parent-above.ensures c.prev-prev.ensures c.next-next.ensures c.close.new.self c.set_place.new.self c.tie.new.self c.close.ensures c.prev_before-last.ensures c.set_place.ensures c.tie.ensures
