use Rattle.std.proofs.Common.{sym, subst, arith}
use Rattle.ac_tree.specs.declared.links.Links.{Links}
use Rattle.ac_tree.specs.TreeFields.{IsForest}
use Rattle.ac_tree.proofs.Forests.{is_forest}
use Rattle.ac_tree.specs.Forests.{plugged}
use Rattle.ac_tree.proofs.Putting.{copied, enough, none_put, no_first, row_count}
use Rattle.ac_tree.proofs.growing.put_copies.Goals as goal

pub returns-then-n-eq0-clause-put : goal.returns-then-n-eq0-clause-put
returns-then-n-eq0-clause-put g c = λ h. (none_put c.args.links.now c.args.parent c.args.before c.args.e c.args.n c.if-n-eq0.true h, no_first _ c.args.n _ c.if-n-eq0.true)

pub returns-then-n-eq0-clause-forest : goal.returns-then-n-eq0-clause-forest
returns-then-n-eq0-clause-forest g c = let h = c.requires.hole in is_forest c.args.links.now (plugged h.steps h.rest) h.stands

pub returns-in_err-more-clause-forest : goal.returns-in_err-more-clause-forest
returns-in_err-more-clause-forest g c = let h = c.requires.hole in is_forest c.args.links.now (plugged h.steps h.rest) h.stands

pub reserve-requires : goal.reserve-requires
reserve-requires g c =
    let h = c.requires.hole in let count = row_count c.args.links.now (is_forest c.args.links.now (plugged h.steps h.rest) h.stands) in let few = c.requires.few in omega (arith, few, count)

pub returns-in_err-reserve-clause-forest : goal.returns-in_err-reserve-clause-forest
returns-in_err-reserve-clause-forest g c =
    let h = c.requires.hole in subst (λ (m : Links _). IsForest m) (sym c.in_err-reserve.ensures.err) (is_forest c.args.links.now (plugged h.steps h.rest) h.stands)

pub put_each-requires-clause-spare : goal.put_each-requires-clause-spare
put_each-requires-clause-spare g c =
    enough c.args.links.now c.reserve.new.self c.args.parent c.args.before c.args.n c.args.e c.in_ok-more.more.items c.requires.hole c.if-n-eq0.false c.in_ok-reserve.ensures.ok c.in_ok-more.ensures.same

pub returns-clause-put : goal.returns-clause-put
returns-clause-put g c = λ h.
    let k = copied c.args.links.now c.reserve.new.self c.put_each.new.links c.args.parent c.args.before c.args.e c.args.n c.in_ok-more.more.items c.put_each.result c.if-n-eq0.false c.in_ok-reserve.ensures.ok c.in_ok-more.ensures.same c.put_each.ensures h in
    (k.put, k.first)

pub returns-clause-forest : goal.returns-clause-forest
returns-clause-forest g c =
    (copied c.args.links.now c.reserve.new.self c.put_each.new.links c.args.parent c.args.before c.args.e c.args.n c.in_ok-more.more.items c.put_each.result c.if-n-eq0.false c.in_ok-reserve.ensures.ok c.in_ok-more.ensures.same c.put_each.ensures c.requires.hole).forest

pub returns-clause-slots : goal.returns-clause-slots
returns-clause-slots g c =
    (copied c.args.links.now c.reserve.new.self c.put_each.new.links c.args.parent c.args.before c.args.e c.args.n c.in_ok-more.more.items c.put_each.result c.if-n-eq0.false c.in_ok-reserve.ensures.ok c.in_ok-more.ensures.same c.put_each.ensures c.requires.hole).kept

pub returns-clause-grown : goal.returns-clause-grown
returns-clause-grown g c =
    (copied c.args.links.now c.reserve.new.self c.put_each.new.links c.args.parent c.args.before c.args.e c.args.n c.in_ok-more.more.items c.put_each.result c.if-n-eq0.false c.in_ok-reserve.ensures.ok c.in_ok-more.ensures.same c.put_each.ensures c.requires.hole).grown
