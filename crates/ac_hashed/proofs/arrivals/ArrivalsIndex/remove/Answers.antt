use Rattle.std.proofs.Common.{◌≡◌, ◌+◌, Contains, IsTrue, Some, ap, sym, ◌∙◌, subst}
use Rattle.ac_base.specs.Rows.{row}
use Rattle.ac_chain.specs.Rows.{Chained}
use Rattle.ac_setwork.specs.Indexed.{is_there, value_of, Becomes, plain_rows}
use Rattle.ac_hashed.specs.Ties.{seen_in}
use Rattle.ac_model.specs.Rows.{cut, place_of}
use Rattle.ac_hashed.proofs.Standing.{there_live, value_is}
use Rattle.ac_hashed.proofs.Shifts.{removed_is}
use Rattle.ac_hashed.proofs.Kept.{IsDropped, dropped, pair_in, tied_removed}
use Rattle.ac_hashed.proofs.arrivals.ArrivalsIndex.remove.Goals as goal

pub remove-row-requires : goal.remove-row-requires
remove-row-requires g c = there_live c.self.inside.chain c.args.name (subst (λ (d : Chained _). IsTrue (is_there (seen_in d) c.args.name)) (sym c.self.view_is) c.requires)

pub invariant_of-self : goal.invariant_of-self
invariant_of-self g c =
    let live = there_live c.self.inside.chain c.args.name (subst (λ (d : Chained _). IsTrue (is_there (seen_in d) c.args.name)) (sym c.self.view_is) c.requires) in
    let hash : c.wide_hash.result ≡ g.S.Key.Hashed.wide_hash_of (g.S.Keys.key_of c.remove-row.result) = c.wide_hash.ensures ∙ ap g.S.Key.Hashed.wide_hash_of c.key.ensures in
    let d = c.drop_one-dropped in
    let there = pair_in (λ v. g.S.Key.Hashed.wide_hash_of (g.S.Keys.key_of v)) (λ v w. g.S.Key.Hashed.is_alike (g.S.Keys.key_of v) (g.S.Keys.key_of w)) c.self.inside.chain c.self.inside.buckets c.self.invariant c.args.name c.remove-row.result live c.remove-row.ensures.value in
    tied_removed (λ v. g.S.Key.Hashed.wide_hash_of (g.S.Keys.key_of v)) (λ v w. g.S.Key.Hashed.is_alike (g.S.Keys.key_of v) (g.S.Keys.key_of w)) c.self.inside.chain c.self.inside.buckets
    c.self.invariant c.remove-row.new.self d.new.self c.args.name c.remove-row.result live c.remove-row.ensures.value c.remove-row.ensures.removed c.remove-row.ensures.sound
    (subst (λ h. IsDropped c.args.name h c.self.inside.buckets d.new.self) hash
    (dropped c.args.name c.wide_hash.result c.self.inside.buckets d.new.self d.result d.ensures.there d.ensures.gone d.ensures.room (subst (λ h. Contains c.self.inside.buckets.pairs (row c.args.name h)) (sym hash) there)))

pub returns-clause-value : goal.returns-clause-value
returns-clause-value g c =
    let live = there_live c.self.inside.chain c.args.name (subst (λ (d : Chained _). IsTrue (is_there (seen_in d) c.args.name)) (sym c.self.view_is) c.requires) in
    subst (λ (d : Chained _). value_of (seen_in d) c.args.name ≡ Some c.remove-row.result) c.self.view_is (value_is c.self.inside.chain c.args.name c.remove-row.result c.self.invariant.sound live c.remove-row.ensures.value)

pub returns-clause-removed : goal.returns-clause-removed
returns-clause-removed g c =
    let live = there_live c.self.inside.chain c.args.name (subst (λ (d : Chained _). IsTrue (is_there (seen_in d) c.args.name)) (sym c.self.view_is) c.requires) in
    subst (λ (d : Chained _). Becomes (seen_in d) (seen_in c.remove-row.new.self) (cut (plain_rows (seen_in d)) (place_of (plain_rows (seen_in d)) c.args.name.serial) 1) d.next_serial (d.spare + 1)) c.self.view_is
    (removed_is c.self.inside.chain c.remove-row.new.self c.args.name c.self.invariant.sound live c.remove-row.ensures.removed c.remove-row.ensures.sound)
