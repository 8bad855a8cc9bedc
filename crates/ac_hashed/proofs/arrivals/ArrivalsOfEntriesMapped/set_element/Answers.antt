use Rattle.std.proofs.Common.{◌≡◌, true, IsTrue, Option, refl, ap, sym, ◌∙◌, subst}
use Rattle.std.specs.Prelude.{option_map}
use Rattle.ac_chain.specs.Rows.{Chained, with_value}
use Rattle.ac_chain.proofs.Marks.{value_live}
use Rattle.ac_model.specs.Rows as rows
use Rattle.ac_model.specs.Rows.{Entry, entry, with_some_value}
use Rattle.ac_setwork.specs.Indexed.{Becomes, is_there, plain_rows}
use Rattle.ac_hashed.specs.Ties.{seen_in}
use Rattle.ac_hashed.proofs.Standing.{there_live}
use Rattle.ac_hashed.proofs.Shifts.{written_is}
use Rattle.ac_hashed.proofs.Kept.{alike_keys, tied_written, replaced_differ}
use Rattle.ac_hashed.proofs.arrivals.ArrivalsOfEntriesMapped.set_element.Goals as goal

pub at_mut-requires : goal.at_mut-requires
at_mut-requires g c = there_live c.self.inside.chain c.args.name (subst (λ (d : Chained _). IsTrue (is_there (seen_in d) c.args.name)) (sym c.self.view_is) c.requires)

pub invariant_of-self : goal.invariant_of-self
invariant_of-self g c =
    let i = c.self.inside in let a = c.args.name in let v = c.at_mut.result.now in let w = c.set_element.new.self in
    let live = there_live i.chain a (subst (λ (d : Chained _). IsTrue (is_there (seen_in d) a)) (sym c.self.view_is) c.requires) in
    let key : w.key ≡ v.key = ap (λ (e : Entry g.row.K.Denot g.row.V.Denot). e.key) c.set_element.ensures in
    let like : g.K.Hashed.is_alike v.key w.key ≡ true = ap (g.K.Hashed.is_alike v.key) key ∙ g.met.K.Hashed.equivalence.refl v.key in
    tied_written (λ (e : Entry g.row.K.Denot g.row.V.Denot). g.K.Hashed.wide_hash_of e.key) (λ (e f : Entry g.row.K.Denot g.row.V.Denot). g.K.Hashed.is_alike e.key f.key) i.chain i.buckets c.self.invariant a v w live c.at_mut.ensures.value
    (ap g.K.Hashed.wide_hash_of (sym key)) c.len-sound.ensures.sound
    (replaced_differ (λ (e : Entry g.row.K.Denot g.row.V.Denot). g.K.Hashed.wide_hash_of e.key) (λ (e f : Entry g.row.K.Denot g.row.V.Denot). g.K.Hashed.is_alike e.key f.key) i.chain i.buckets
    (alike_keys g.met.K.Hashed.equivalence (λ (e : Entry g.row.K.Denot g.row.V.Denot). e.key)) c.self.invariant a v w live c.at_mut.ensures.value like)

pub returns : goal.returns
returns g c =
    let i = c.self.inside in let a = c.args.name in let v = c.at_mut.result.now in let w = c.set_element.new.self in
    let live = there_live i.chain a (subst (λ (d : Chained _). IsTrue (is_there (seen_in d) a)) (sym c.self.view_is) c.requires) in
    let now = with_value i.chain a w in
    let becomes = written_is i.chain now a w c.self.invariant.sound live refl in
    let stood = value_live i.chain a c.self.invariant.sound live ∙ sym c.at_mut.ensures.value in
    let is = ap (λ (f : Option (Entry g.row.K.Denot g.row.V.Denot)). with_some_value (plain_rows (seen_in i.chain)) a.serial (option_map (λ (e : Entry g.row.K.Denot g.row.V.Denot). entry e.key c.args.element) f)) stood
    ∙ ap (rows.with_value (plain_rows (seen_in i.chain)) a.serial) (sym c.set_element.ensures) in
    subst (λ (d : Chained (Entry g.row.K.Denot g.row.V.Denot)). Becomes (seen_in d) (seen_in now)
    (with_some_value (plain_rows (seen_in d)) a.serial (option_map (λ (e : Entry g.row.K.Denot g.row.V.Denot). entry e.key c.args.element) (rows.value_at (plain_rows (seen_in d)) a.serial))) d.next_serial d.spare) c.self.view_is
    (subst (λ rs. Becomes (seen_in i.chain) (seen_in now) rs i.chain.next_serial i.chain.spare) (sym is) becomes)
