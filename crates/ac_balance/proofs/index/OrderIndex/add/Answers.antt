use Rattle.std.proofs.Common.{◌≡◌, ◌<◌, Some, None, refl, sym, ap, ◌∙◌, subst}
use Rattle.ac_base.specs.Order.{are_level}
use Rattle.ac_pool.specs.Contents as pool
use Rattle.ac_balance.specs.Indexed.{first_where, added, IsFresh, entry, IsSound}
use Rattle.ac_balance.specs.TreeFields.{alone}
use Rattle.ac_balance.proofs.Indexes.{view_of, stood_root, sound_of}
use Rattle.ac_balance.proofs.Searched.{sought_key}
use Rattle.ac_balance.proofs.Adding.{fresh_vacant, added_index, fresh_name}
use Rattle.ac_balance.proofs.index.OrderIndex.add.Goals as goal

pub place_for-spot-requires : goal.place_for-spot-requires
place_for-spot-requires g c = record { tree = c.self.invariant.closed.tree; stood = stood_root g.K.Rank.is_less c.self.inside.links c.self.invariant }

pub returns-in-Some-clause-present : goal.returns-in-Some-clause-present
returns-in-Some-clause-present g c =
    let s = c.self.invariant in let l = c.self.inside.links in
    let found = (sought_key g.K.Rank.is_less l s g.met.K.Rank.ordered c.args.k c.place_for-spot.result (c.place_for-spot.ensures s.closed.tree (stood_root g.K.Rank.is_less l s))).found in
    record { there = subst (λ x. first_where (λ y. are_level g.K.Rank.is_less y c.args.k) x ≡ Some c.in-Some.at) c.self.view_is (sym found ∙ c.in-Some.is); key = refl; value = refl }

pub returns-in-Some-clause-sound : goal.returns-in-Some-clause-sound
returns-in-Some-clause-sound g c = subst (λ x. IsSound g.K.Rank.is_less x) c.self.view_is (sound_of g.K.Rank.is_less c.self.inside.links c.self.invariant)

pub mend-requires : goal.mend-requires
mend-requires g c =
    let s = c.self.invariant in let l = c.self.inside.links in let put = c.put_reserved-name in let k = c.args.k in let v = c.args.v in let less = g.K.Rank.is_less in let weak = g.met.K.Rank.ordered in
    let is : put.new.self ≡ pool.added l.nodes put.result (alone (entry k v)) = put.ensures.added ∙ ap (pool.added l.nodes put.result) c.alone.ensures in
    let spare : 0 < l.nodes.spare = subst (λ x. 0 < x.spare) (sym c.self.view_is) c.requires.spare in
    let w = fresh_vacant less weak l s put.result k v put.new.self put.ensures.fresh is put.ensures.sound spare c.place_for-spot.result c.in_default.is (c.place_for-spot.ensures s.closed.tree (stood_root less l s)) in
    record { rows = _; climbing = w.climbing }

pub invariant_of-self : goal.invariant_of-self
invariant_of-self g c =
    let s = c.self.invariant in let l = c.self.inside.links in let put = c.put_reserved-name in let k = c.args.k in let v = c.args.v in let less = g.K.Rank.is_less in let weak = g.met.K.Rank.ordered in
    let is : put.new.self ≡ pool.added l.nodes put.result (alone (entry k v)) = put.ensures.added ∙ ap (pool.added l.nodes put.result) c.alone.ensures in
    let spare : 0 < l.nodes.spare = subst (λ x. 0 < x.spare) (sym c.self.view_is) c.requires.spare in
    let w = fresh_vacant less weak l s put.result k v put.new.self put.ensures.fresh is put.ensures.sound spare c.place_for-spot.result c.in_default.is (c.place_for-spot.ensures s.closed.tree (stood_root less l s)) in
    let it = added_index less weak l s put.result k v put.new.self put.ensures.fresh is put.ensures.sound spare c.place_for-spot.result w c.mend.new.links _ (c.mend.ensures _ w.climbing) in
    it.0

pub returns-clause-fresh : goal.returns-clause-fresh
returns-clause-fresh g c =
    let s = c.self.invariant in let l = c.self.inside.links in let put = c.put_reserved-name in let k = c.args.k in let v = c.args.v in let less = g.K.Rank.is_less in let weak = g.met.K.Rank.ordered in
    let is : put.new.self ≡ pool.added l.nodes put.result (alone (entry k v)) = put.ensures.added ∙ ap (pool.added l.nodes put.result) c.alone.ensures in
    let spare : 0 < l.nodes.spare = subst (λ x. 0 < x.spare) (sym c.self.view_is) c.requires.spare in
    subst (λ x. IsFresh x put.result) c.self.view_is (fresh_name less weak l s put.result k v put.new.self put.ensures.fresh is put.ensures.sound spare)

pub returns-clause-absent : goal.returns-clause-absent
returns-clause-absent g c =
    let s = c.self.invariant in let l = c.self.inside.links in
    let found = (sought_key g.K.Rank.is_less l s g.met.K.Rank.ordered c.args.k c.place_for-spot.result (c.place_for-spot.ensures s.closed.tree (stood_root g.K.Rank.is_less l s))).found in
    subst (λ x. first_where (λ y. are_level g.K.Rank.is_less y c.args.k) x ≡ None) c.self.view_is (sym found ∙ c.in_default.is)

pub returns-clause-added : goal.returns-clause-added
returns-clause-added g c =
    let s = c.self.invariant in let l = c.self.inside.links in let put = c.put_reserved-name in let k = c.args.k in let v = c.args.v in let less = g.K.Rank.is_less in let weak = g.met.K.Rank.ordered in
    let is : put.new.self ≡ pool.added l.nodes put.result (alone (entry k v)) = put.ensures.added ∙ ap (pool.added l.nodes put.result) c.alone.ensures in
    let spare : 0 < l.nodes.spare = subst (λ x. 0 < x.spare) (sym c.self.view_is) c.requires.spare in
    let w = fresh_vacant less weak l s put.result k v put.new.self put.ensures.fresh is put.ensures.sound spare c.place_for-spot.result c.in_default.is (c.place_for-spot.ensures s.closed.tree (stood_root less l s)) in
    let it = added_index less weak l s put.result k v put.new.self put.ensures.fresh is put.ensures.sound spare c.place_for-spot.result w c.mend.new.links _ (c.mend.ensures _ w.climbing) in
    subst (λ x. view_of c.mend.new.links ≡ added less x put.result k v) c.self.view_is it.1

pub returns-clause-sound : goal.returns-clause-sound
returns-clause-sound g c =
    let s = c.self.invariant in let l = c.self.inside.links in let put = c.put_reserved-name in let k = c.args.k in let v = c.args.v in let less = g.K.Rank.is_less in let weak = g.met.K.Rank.ordered in
    let is : put.new.self ≡ pool.added l.nodes put.result (alone (entry k v)) = put.ensures.added ∙ ap (pool.added l.nodes put.result) c.alone.ensures in
    let spare : 0 < l.nodes.spare = subst (λ x. 0 < x.spare) (sym c.self.view_is) c.requires.spare in
    let w = fresh_vacant less weak l s put.result k v put.new.self put.ensures.fresh is put.ensures.sound spare c.place_for-spot.result c.in_default.is (c.place_for-spot.ensures s.closed.tree (stood_root less l s)) in
    let it = added_index less weak l s put.result k v put.new.self put.ensures.fresh is put.ensures.sound spare c.place_for-spot.result w c.mend.new.links _ (c.mend.ensures _ w.climbing) in
    sound_of less c.mend.new.links it.0
