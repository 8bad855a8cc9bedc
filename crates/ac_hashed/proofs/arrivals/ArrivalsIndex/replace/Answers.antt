use Rattle.std.proofs.Common.{ap, sym, ◌∙◌, subst}
use Rattle.ac_chain.specs.Rows.{Chained}
use Rattle.ac_setwork.specs.Indexed.{found_in, Becomes, plain_rows}
use Rattle.ac_hashed.specs.Ties.{seen_in}
use Rattle.ac_chain.specs.Rows.{IsSound}
use Rattle.ac_model.specs.Rows as rows
use Rattle.ac_hashed.specs.Ties.{AreTied}
use Rattle.ac_hashed.proofs.Standing.{found_stands}
use Rattle.ac_hashed.proofs.Shifts.{written_is}
use Rattle.ac_hashed.proofs.Kept.{alike_keys, tied_written, replaced_differ}
use Rattle.ac_hashed.proofs.Likes.{found_by_keys}
use Rattle.ac_hashed.proofs.arrivals.ArrivalsIndex.replace.Goals as goal

pub write-requires : goal.write-requires
write-requires g c = (found_stands (λ w. g.S.Key.Hashed.is_alike (g.S.Keys.key_of w) (g.S.Keys.key_of c.args.row)) c.self.inside.chain c.args.name c.self.invariant.sound (found_by_keys g.S.Key.Hashed.is_alike g.S.Keys.key_of g.S.Alike.is_alike g.met.S.Alike.alike_by_key c.self.inside.chain.rows c.args.row ∙ ap (λ (d : Chained _). found_in (λ w. g.S.Alike.is_alike w c.args.row) d.rows) c.self.view_is ∙ c.requires)).0

pub invariant_of-self : goal.invariant_of-self
invariant_of-self g c =
    let one = found_stands (λ w. g.S.Key.Hashed.is_alike (g.S.Keys.key_of w) (g.S.Keys.key_of c.args.row)) c.self.inside.chain c.args.name c.self.invariant.sound (found_by_keys g.S.Key.Hashed.is_alike g.S.Keys.key_of g.S.Alike.is_alike g.met.S.Alike.alike_by_key c.self.inside.chain.rows c.args.row ∙ ap (λ (d : Chained _). found_in (λ w. g.S.Alike.is_alike w c.args.row) d.rows) c.self.view_is ∙ c.requires) in let e = sym one.1.1 in
    subst (λ (d : Chained _). AreTied (λ v. g.S.Key.Hashed.wide_hash_of (g.S.Keys.key_of v)) (λ v w. g.S.Key.Hashed.is_alike (g.S.Keys.key_of v) (g.S.Keys.key_of w)) d c.self.inside.buckets) (sym c.write.ensures.written)
    (tied_written (λ v. g.S.Key.Hashed.wide_hash_of (g.S.Keys.key_of v)) (λ v w. g.S.Key.Hashed.is_alike (g.S.Keys.key_of v) (g.S.Keys.key_of w)) c.self.inside.chain c.self.inside.buckets c.self.invariant c.args.name one.1.0 c.args.row one.0 e (g.met.S.Key.Hashed.alike_wide_hashes (g.S.Keys.key_of one.1.0) (g.S.Keys.key_of c.args.row) one.1.2)
    (subst IsSound c.write.ensures.written c.write.ensures.sound) (replaced_differ (λ v. g.S.Key.Hashed.wide_hash_of (g.S.Keys.key_of v)) (λ v w. g.S.Key.Hashed.is_alike (g.S.Keys.key_of v) (g.S.Keys.key_of w)) c.self.inside.chain c.self.inside.buckets (alike_keys g.met.S.Key.Hashed.equivalence g.S.Keys.key_of) c.self.invariant c.args.name one.1.0 c.args.row one.0 e one.1.2))

pub returns : goal.returns
returns g c =
    let one = found_stands (λ w. g.S.Key.Hashed.is_alike (g.S.Keys.key_of w) (g.S.Keys.key_of c.args.row)) c.self.inside.chain c.args.name c.self.invariant.sound (found_by_keys g.S.Key.Hashed.is_alike g.S.Keys.key_of g.S.Alike.is_alike g.met.S.Alike.alike_by_key c.self.inside.chain.rows c.args.row ∙ ap (λ (d : Chained _). found_in (λ w. g.S.Alike.is_alike w c.args.row) d.rows) c.self.view_is ∙ c.requires) in
    subst (λ (d : Chained _). Becomes (seen_in d) (seen_in c.write.new.chain) (rows.with_value (plain_rows (seen_in d)) c.args.name.serial c.args.row) d.next_serial d.spare) c.self.view_is
    (written_is c.self.inside.chain c.write.new.chain c.args.name c.args.row c.self.invariant.sound one.0 c.write.ensures.written)
