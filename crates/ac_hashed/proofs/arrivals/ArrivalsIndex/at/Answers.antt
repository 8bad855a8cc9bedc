use Rattle.std.proofs.Common.{◌≡◌, IsTrue, Some, sym, subst}
use Rattle.ac_chain.specs.Rows.{Chained}
use Rattle.ac_setwork.specs.Indexed.{is_there, value_of}
use Rattle.ac_hashed.specs.Ties.{seen_in}
use Rattle.ac_hashed.proofs.Standing.{there_live, value_is}
use Rattle.ac_hashed.proofs.arrivals.ArrivalsIndex.at.Goals as goal

pub at-requires : goal.at-requires
at-requires g c = there_live c.self.inside.chain c.args.name (subst (λ (d : Chained _). IsTrue (is_there (seen_in d) c.args.name)) (sym c.self.view_is) c.requires)

pub returns : goal.returns
returns g c =
    let live = there_live c.self.inside.chain c.args.name (subst (λ (d : Chained _). IsTrue (is_there (seen_in d) c.args.name)) (sym c.self.view_is) c.requires) in
    subst (λ (d : Chained _). value_of (seen_in d) c.args.name ≡ Some c.at.result.now) c.self.view_is (value_is c.self.inside.chain c.args.name c.at.result.now c.self.invariant.sound live c.at.ensures.value)
