use Rattle.std.proofs.Common.{IsTrue, ap, sym, ◌∙◌, subst}
use Rattle.ac_chain.specs.Rows.{Chained}
use Rattle.ac_setwork.specs.Ends.{name_before}
use Rattle.ac_setwork.specs.Indexed.{is_there}
use Rattle.ac_hashed.specs.Ties.{seen_in}
use Rattle.ac_hashed.proofs.Standing.{there_live, before_is}
use Rattle.ac_hashed.proofs.arrivals.ArrivalsIndex.previous.Goals as goal

pub prev-requires : goal.prev-requires
prev-requires g c = there_live c.self.inside.chain c.args.name (subst (λ (d : Chained _). IsTrue (is_there (seen_in d) c.args.name)) (sym c.self.view_is) c.requires)

pub returns : goal.returns
returns g c =
    let live = there_live c.self.inside.chain c.args.name (subst (λ (d : Chained _). IsTrue (is_there (seen_in d) c.args.name)) (sym c.self.view_is) c.requires) in
    c.prev.ensures.name ∙ before_is c.self.inside.chain c.args.name c.self.invariant.sound live ∙ ap (λ (d : Chained _). name_before (seen_in d) c.args.name) c.self.view_is
