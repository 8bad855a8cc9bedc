use Rattle.std.proofs.Common.{◌≡◌, None, sym, subst}
use Rattle.ac_base.specs.Order.{are_level}
use Rattle.ac_balance.specs.Indexed.{IsThere, without, first_where, without_row, with_new_row}
use Rattle.ac_balance.specs.IndexFields.{rows_in}
use Rattle.ac_pool.proofs.Cuts.{live_has}
use Rattle.ac_balance.proofs.Indexes.{view_of, sound_of}
use Rattle.ac_balance.proofs.Taking.{stood_closed, detached_live, renewed, renewed_index}
use Rattle.ac_balance.proofs.index.OrderIndex.set_row.Goals as goal

pub detach-requires : goal.detach-requires
detach-requires g c =
    let l = c.self.inside.links in let i = c.self.invariant in let a = c.args.name in let less = g.K.Rank.is_less in
    let h = live_has a (rows_in l) (subst (λ x. IsThere x a) (sym c.self.view_is) c.requires.there) in
    record { rows = rows_in l; closed = i.closed; has = h }

pub place_for-spot-requires : goal.place_for-spot-requires
place_for-spot-requires g c =
    let l = c.self.inside.links in let i = c.self.invariant in let a = c.args.name in let less = g.K.Rank.is_less in let m = c.detach.new.links in
    let h = live_has a (rows_in l) (subst (λ x. IsThere x a) (sym c.self.view_is) c.requires.there) in
    let e = c.detach.ensures (rows_in l) i.closed h in
    record { tree = e.closed.tree; stood = stood_closed m (without (rows_in l) a) e.closed }

pub renew-requires : goal.renew-requires
renew-requires g c =
    let l = c.self.inside.links in let i = c.self.invariant in let a = c.args.name in let less = g.K.Rank.is_less in let m = c.detach.new.links in
    let h = live_has a (rows_in l) (subst (λ x. IsThere x a) (sym c.self.view_is) c.requires.there) in
    let e = c.detach.ensures (rows_in l) i.closed h in
    detached_live less l i a m h e

pub mend-requires : goal.mend-requires
mend-requires g c =
    let l = c.self.inside.links in let i = c.self.invariant in let a = c.args.name in let less = g.K.Rank.is_less in let m = c.detach.new.links in
    let h = live_has a (rows_in l) (subst (λ x. IsThere x a) (sym c.self.view_is) c.requires.there) in
    let e = c.detach.ensures (rows_in l) i.closed h in
    let k = c.args.k in let v = c.args.v in let weak = g.met.K.Rank.ordered in let s = c.place_for-spot.result in
    let seeks = c.place_for-spot.ensures e.closed.tree (stood_closed m (without (rows_in l) a) e.closed) in
    let only = subst (λ x. first_where (λ y. are_level less y k) (without_row x a) ≡ None) (sym c.self.view_is) c.requires.only in
    record { rows = _; climbing = (renewed less l i a m weak h e k v s seeks only c.renew.new.nodes c.renew.ensures).climbing }

pub invariant_of-self : goal.invariant_of-self
invariant_of-self g c =
    let l = c.self.inside.links in let i = c.self.invariant in let a = c.args.name in let less = g.K.Rank.is_less in let m = c.detach.new.links in
    let h = live_has a (rows_in l) (subst (λ x. IsThere x a) (sym c.self.view_is) c.requires.there) in
    let e = c.detach.ensures (rows_in l) i.closed h in
    let k = c.args.k in let v = c.args.v in let weak = g.met.K.Rank.ordered in let s = c.place_for-spot.result in
    let seeks = c.place_for-spot.ensures e.closed.tree (stood_closed m (without (rows_in l) a) e.closed) in
    let only = subst (λ x. first_where (λ y. are_level less y k) (without_row x a) ≡ None) (sym c.self.view_is) c.requires.only in
    (renewed_index less l i a m weak h e k v s seeks only c.renew.new.nodes c.renew.ensures c.mend.new.links _ (c.mend.ensures _ (renewed less l i a m weak h e k v s seeks only c.renew.new.nodes c.renew.ensures).climbing)).0

pub returns-clause-row : goal.returns-clause-row
returns-clause-row g c =
    let l = c.self.inside.links in let i = c.self.invariant in let a = c.args.name in let less = g.K.Rank.is_less in let m = c.detach.new.links in
    let h = live_has a (rows_in l) (subst (λ x. IsThere x a) (sym c.self.view_is) c.requires.there) in
    let e = c.detach.ensures (rows_in l) i.closed h in
    let k = c.args.k in let v = c.args.v in let weak = g.met.K.Rank.ordered in let s = c.place_for-spot.result in
    let seeks = c.place_for-spot.ensures e.closed.tree (stood_closed m (without (rows_in l) a) e.closed) in
    let only = subst (λ x. first_where (λ y. are_level less y k) (without_row x a) ≡ None) (sym c.self.view_is) c.requires.only in
    subst (λ x. view_of c.mend.new.links ≡ with_new_row less x a k v) c.self.view_is
    (renewed_index less l i a m weak h e k v s seeks only c.renew.new.nodes c.renew.ensures c.mend.new.links _ (c.mend.ensures _ (renewed less l i a m weak h e k v s seeks only c.renew.new.nodes c.renew.ensures).climbing)).1

pub returns-clause-sound : goal.returns-clause-sound
returns-clause-sound g c =
    let l = c.self.inside.links in let i = c.self.invariant in let a = c.args.name in let less = g.K.Rank.is_less in let m = c.detach.new.links in
    let h = live_has a (rows_in l) (subst (λ x. IsThere x a) (sym c.self.view_is) c.requires.there) in
    let e = c.detach.ensures (rows_in l) i.closed h in
    let k = c.args.k in let v = c.args.v in let weak = g.met.K.Rank.ordered in let s = c.place_for-spot.result in
    let seeks = c.place_for-spot.ensures e.closed.tree (stood_closed m (without (rows_in l) a) e.closed) in
    let only = subst (λ x. first_where (λ y. are_level less y k) (without_row x a) ≡ None) (sym c.self.view_is) c.requires.only in
    sound_of less c.mend.new.links
    (renewed_index less l i a m weak h e k v s seeks only c.renew.new.nodes c.renew.ensures c.mend.new.links _ (c.mend.ensures _ (renewed less l i a m weak h e k v s seeks only c.renew.new.nodes c.renew.ensures).climbing)).0
