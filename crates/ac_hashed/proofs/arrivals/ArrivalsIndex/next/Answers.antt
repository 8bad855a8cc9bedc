use Rattle.std.proofs.Common.{IsTrue, ap, sym, ◌∙◌, subst}
use Rattle.ac_chain.specs.Rows.{Chained}
use Rattle.ac_setwork.specs.Indexed.{is_there, name_after}
use Rattle.ac_hashed.specs.Ties.{seen_in}
use Rattle.ac_hashed.proofs.Standing.{there_live, after_is}
use Rattle.ac_hashed.proofs.arrivals.ArrivalsIndex.next.Goals as goal

pub next-requires : goal.next-requires
next-requires g c = there_live c.self.inside.chain c.args.name (subst (λ (d : Chained _). IsTrue (is_there (seen_in d) c.args.name)) (sym c.self.view_is) c.requires)

pub returns : goal.returns
returns g c =
    let live = there_live c.self.inside.chain c.args.name (subst (λ (d : Chained _). IsTrue (is_there (seen_in d) c.args.name)) (sym c.self.view_is) c.requires) in
    c.next.ensures.name ∙ after_is c.self.inside.chain c.args.name c.self.invariant.sound live ∙ ap (λ (d : Chained _). name_after (seen_in d) c.args.name) c.self.view_is
