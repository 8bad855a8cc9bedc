use Rattle.std.proofs.Common.{◌≡◌, ◌<◌, ◌+◌, ◌-◌, ◌∷◌, [], ap, sym, ◌∙◌, subst}
use Rattle.ac_chain.specs.Rows.{Chained}
use Rattle.ac_base.specs.Rows.{row}
use Rattle.ac_buckets.specs.Pairs.{added}
use Rattle.ac_model.specs.Keyed as keyed
use Rattle.ac_model.specs.Keyed.{by_arrival}
use Rattle.ac_model.specs.Objects.{plains}
use Rattle.ac_setwork.specs.Indexed.{Becomes, found_in}
use Rattle.ac_hashed.specs.Ties.{seen_in}
use Rattle.ac_hashed.proofs.Shifts.{added_is}
use Rattle.ac_hashed.proofs.Kept.{alike_keys, fresh_absent, tied_added}
use Rattle.ac_hashed.proofs.Likes.{found_by_keys}
use Rattle.ac_hashed.proofs.arrivals.ArrivalsIndex.add_new.Goals as goal

pub add-requires-clause-absent : goal.add-requires-clause-absent
add-requires-clause-absent g c = fresh_absent (λ v. g.S.Key.Hashed.wide_hash_of (g.S.Keys.key_of v)) (λ v w. g.S.Key.Hashed.is_alike (g.S.Keys.key_of v) (g.S.Keys.key_of w)) c.self.inside.chain c.self.inside.buckets c.self.invariant c.insert_before-name.result c.insert_before-name.ensures.fresh

pub invariant_of-self : goal.invariant_of-self
invariant_of-self g c =
    let hash : c.wide_hash-hash.result ≡ g.S.Key.Hashed.wide_hash_of (g.S.Keys.key_of c.args.row) = c.wide_hash-hash.ensures ∙ ap g.S.Key.Hashed.wide_hash_of c.key.ensures in
    tied_added (λ v. g.S.Key.Hashed.wide_hash_of (g.S.Keys.key_of v)) (λ v w. g.S.Key.Hashed.is_alike (g.S.Keys.key_of v) (g.S.Keys.key_of w)) c.self.inside.chain c.self.inside.buckets
    (alike_keys g.met.S.Key.Hashed.equivalence g.S.Keys.key_of) c.self.invariant c.insert_before-name.new.self c.add.new.self c.insert_before-name.result c.args.row
    (found_by_keys g.S.Key.Hashed.is_alike g.S.Keys.key_of g.S.Alike.is_alike g.met.S.Alike.alike_by_key c.self.inside.chain.rows c.args.row ∙ ap (λ (d : Chained _). found_in (λ w. g.S.Alike.is_alike w c.args.row) d.rows) c.self.view_is ∙ c.requires.absent)
    (subst (λ (d : Chained _). 0 < d.spare) (sym c.self.view_is) c.requires.spare) c.insert_before-name.ensures.fresh c.insert_before-name.ensures.inserted c.insert_before-name.ensures.sound
    (c.add.ensures.added ∙ ap (λ h. added c.self.inside.buckets (row c.insert_before-name.result h)) hash)

pub returns-clause-added : goal.returns-clause-added
returns-clause-added g c =
    let i = c.self.inside.chain in let order = by_arrival g.S.Alike.is_alike in
    subst (λ (d : Chained _). Becomes (seen_in d) (seen_in c.insert_before-name.new.self) (keyed.added order (plains d.rows) d.next_serial (c.args.row ∷ [])) (d.next_serial + 1) (d.spare - 1)) c.self.view_is
    (added_is g.S.Alike.is_alike i c.insert_before-name.new.self c.insert_before-name.result c.args.row c.self.invariant.sound (subst (λ (d : Chained _). 0 < d.spare) (sym c.self.view_is) c.requires.spare) c.insert_before-name.ensures.fresh c.insert_before-name.ensures.inserted)
