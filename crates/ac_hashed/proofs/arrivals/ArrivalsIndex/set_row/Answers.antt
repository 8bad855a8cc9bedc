use Rattle.std.proofs.Common.{◌≡◌, Bool, Contains, false, IsTrue, ap, sym, ◌∙◌, subst, arith}
use Rattle.ac_base.specs.Rows.{row}
use Rattle.ac_chain.specs.Rows.{Chained}
use Rattle.ac_setwork.specs.Indexed.{is_there, Becomes, plain_rows}
use Rattle.ac_hashed.specs.Ties.{seen_in}
use Rattle.ac_buckets.specs.Pairs.{added}
use Rattle.ac_chain.specs.Rows.{IsSound}
use Rattle.ac_model.specs.Keyed.{another_is_like, by_arrival, with_reordered}
use Rattle.ac_hashed.specs.Ties.{AreTied}
use Rattle.ac_hashed.proofs.Standing.{there_live}
use Rattle.ac_hashed.proofs.Shifts.{reordered_is}
use Rattle.ac_hashed.proofs.Kept.{IsDropped, alike_keys, dropped, gone_absent, pair_in, reordered_differ, tied_anew}
use Rattle.ac_hashed.proofs.Likes.{by_keys}
use Rattle.ac_hashed.proofs.arrivals.ArrivalsIndex.set_row.Goals as goal

pub at-requires : goal.at-requires
at-requires g c = there_live c.self.inside.chain c.args.name (subst (λ (d : Chained _). IsTrue (is_there (seen_in d) c.args.name)) (sym c.self.view_is) c.requires.there)

pub add-requires-clause-spare : goal.add-requires-clause-spare
add-requires-clause-spare g c =
    let live = there_live c.self.inside.chain c.args.name (subst (λ (d : Chained _). IsTrue (is_there (seen_in d) c.args.name)) (sym c.self.view_is) c.requires.there) in
    let old : c.wide_hash.result ≡ g.S.Key.Hashed.wide_hash_of (g.S.Keys.key_of c.at.result.now) = c.wide_hash.ensures ∙ ap g.S.Key.Hashed.wide_hash_of c.key-2.ensures in
    let d = c.drop_one-dropped in
    let there = pair_in (λ v. g.S.Key.Hashed.wide_hash_of (g.S.Keys.key_of v)) (λ v w. g.S.Key.Hashed.is_alike (g.S.Keys.key_of v) (g.S.Keys.key_of w)) c.self.inside.chain c.self.inside.buckets c.self.invariant c.args.name c.at.result.now live c.at.ensures.value in
    let gone = subst (λ h. IsDropped c.args.name h c.self.inside.buckets d.new.self) old
    (dropped c.args.name c.wide_hash.result c.self.inside.buckets d.new.self d.result d.ensures.there d.ensures.gone d.ensures.room (subst (λ h. Contains c.self.inside.buckets.pairs (row c.args.name h)) (sym old) there)) in
    omega (arith, gone.spare)

pub add-requires-clause-absent : goal.add-requires-clause-absent
add-requires-clause-absent g c =
    let live = there_live c.self.inside.chain c.args.name (subst (λ (d : Chained _). IsTrue (is_there (seen_in d) c.args.name)) (sym c.self.view_is) c.requires.there) in
    let old : c.wide_hash.result ≡ g.S.Key.Hashed.wide_hash_of (g.S.Keys.key_of c.at.result.now) = c.wide_hash.ensures ∙ ap g.S.Key.Hashed.wide_hash_of c.key-2.ensures in
    let d = c.drop_one-dropped in
    let there = pair_in (λ v. g.S.Key.Hashed.wide_hash_of (g.S.Keys.key_of v)) (λ v w. g.S.Key.Hashed.is_alike (g.S.Keys.key_of v) (g.S.Keys.key_of w)) c.self.inside.chain c.self.inside.buckets c.self.invariant c.args.name c.at.result.now live c.at.ensures.value in
    let gone = subst (λ h. IsDropped c.args.name h c.self.inside.buckets d.new.self) old
    (dropped c.args.name c.wide_hash.result c.self.inside.buckets d.new.self d.result d.ensures.there d.ensures.gone d.ensures.room (subst (λ h. Contains c.self.inside.buckets.pairs (row c.args.name h)) (sym old) there)) in
    gone_absent (λ v. g.S.Key.Hashed.wide_hash_of (g.S.Keys.key_of v)) (λ v w. g.S.Key.Hashed.is_alike (g.S.Keys.key_of v) (g.S.Keys.key_of w)) c.self.inside.chain c.self.inside.buckets c.self.invariant d.new.self c.args.name c.at.result.now live c.at.ensures.value gone

pub write-requires : goal.write-requires
write-requires g c = there_live c.self.inside.chain c.args.name (subst (λ (d : Chained _). IsTrue (is_there (seen_in d) c.args.name)) (sym c.self.view_is) c.requires.there)

pub invariant_of-self : goal.invariant_of-self
invariant_of-self g c =
    let live = there_live c.self.inside.chain c.args.name (subst (λ (d : Chained _). IsTrue (is_there (seen_in d) c.args.name)) (sym c.self.view_is) c.requires.there) in
    let old : c.wide_hash.result ≡ g.S.Key.Hashed.wide_hash_of (g.S.Keys.key_of c.at.result.now) = c.wide_hash.ensures ∙ ap g.S.Key.Hashed.wide_hash_of c.key-2.ensures in
    let d = c.drop_one-dropped in
    let there = pair_in (λ v. g.S.Key.Hashed.wide_hash_of (g.S.Keys.key_of v)) (λ v w. g.S.Key.Hashed.is_alike (g.S.Keys.key_of v) (g.S.Keys.key_of w)) c.self.inside.chain c.self.inside.buckets c.self.invariant c.args.name c.at.result.now live c.at.ensures.value in
    let gone = subst (λ h. IsDropped c.args.name h c.self.inside.buckets d.new.self) old
    (dropped c.args.name c.wide_hash.result c.self.inside.buckets d.new.self d.result d.ensures.there d.ensures.gone d.ensures.room (subst (λ h. Contains c.self.inside.buckets.pairs (row c.args.name h)) (sym old) there)) in
    let new : c.wide_hash-hash.result ≡ g.S.Key.Hashed.wide_hash_of (g.S.Keys.key_of c.args.row) = c.wide_hash-hash.ensures ∙ ap g.S.Key.Hashed.wide_hash_of c.key.ensures in
    subst (λ (k : Chained _). AreTied (λ v. g.S.Key.Hashed.wide_hash_of (g.S.Keys.key_of v)) (λ v w. g.S.Key.Hashed.is_alike (g.S.Keys.key_of v) (g.S.Keys.key_of w)) k c.add.new.self) (sym c.write.ensures.written)
    (tied_anew (λ v. g.S.Key.Hashed.wide_hash_of (g.S.Keys.key_of v)) (λ v w. g.S.Key.Hashed.is_alike (g.S.Keys.key_of v) (g.S.Keys.key_of w)) c.self.inside.chain c.self.inside.buckets c.self.invariant d.new.self c.add.new.self c.args.name c.at.result.now c.args.row live c.at.ensures.value gone
    (c.add.ensures.added ∙ ap (λ h. added d.new.self (row c.args.name h)) new) (subst IsSound c.write.ensures.written c.write.ensures.sound)
    (reordered_differ (λ v. g.S.Key.Hashed.wide_hash_of (g.S.Keys.key_of v)) (λ v w. g.S.Key.Hashed.is_alike (g.S.Keys.key_of v) (g.S.Keys.key_of w)) c.self.inside.chain c.self.inside.buckets (alike_keys g.met.S.Key.Hashed.equivalence g.S.Keys.key_of) c.self.invariant c.args.name c.args.row live
    (subst (λ (alike : g.row.S-Row.Denot → g.row.S-Row.Denot → Bool). another_is_like (by_arrival alike) (plain_rows (seen_in c.self.inside.chain)) c.args.name.serial c.args.row ≡ false) (by_keys g.S.Key.Hashed.is_alike g.S.Keys.key_of g.S.Alike.is_alike g.met.S.Alike.alike_by_key)
    (subst (λ (k : Chained _). another_is_like (by_arrival g.S.Alike.is_alike) (plain_rows (seen_in k)) c.args.name.serial c.args.row ≡ false) (sym c.self.view_is) c.requires.only))))

pub returns : goal.returns
returns g c =
    let live = there_live c.self.inside.chain c.args.name (subst (λ (d : Chained _). IsTrue (is_there (seen_in d) c.args.name)) (sym c.self.view_is) c.requires.there) in
    subst (λ (d : Chained _). Becomes (seen_in d) (seen_in c.write.new.chain) (with_reordered (by_arrival g.S.Alike.is_alike) (plain_rows (seen_in d)) c.args.name.serial c.args.row) d.next_serial d.spare) c.self.view_is
    (reordered_is g.S.Alike.is_alike c.self.inside.chain c.write.new.chain c.args.name c.args.row c.self.invariant.sound live c.write.ensures.written)
