use Rattle.std.proofs.Common.{◌≡◌, ◌+◌, ◌≤◌, false, Some, length, sym, subst, arith}
use Rattle.std.specs.Prelude.{OnOk}
use Rattle.ac_base.specs.declared.limit.TheConstants.{GREATEST_LENGTH}
use Rattle.ac_base.specs.Limits.{is_past}
use Rattle.ac_chain.specs.Rows.{Chained, slots_in}
use Rattle.ac_setwork.specs.Indexed.{HasSlots, MakesRoom}
use Rattle.ac_hashed.specs.Ties.{seen_in}
use Rattle.ac_hashed.proofs.Rooms.{few_pairs, makes_room, tied_wide}
use Rattle.ac_hashed.proofs.arrivals.ArrivalsIndex.make_room.Goals as goal

pub grow-requires : goal.grow-requires
grow-requires g c =
    let few = subst (λ (d : Chained _). length d.rows + c.args.n ≤ GREATEST_LENGTH) (sym c.self.view_is) c.requires.few in
    omega (arith, few, few_pairs c.self.inside.chain (λ v. g.S.Key.Hashed.wide_hash_of (g.S.Keys.key_of v)) (λ v w. g.S.Key.Hashed.is_alike (g.S.Keys.key_of v) (g.S.Keys.key_of w)) c.self.inside.buckets c.self.invariant)

pub invariant_of-self-2 : goal.invariant_of-self-2
invariant_of-self-2 g c =
    let grown = c.in_ok-grow.ensures in
    tied_wide c.self.inside.chain (λ v. g.S.Key.Hashed.wide_hash_of (g.S.Keys.key_of v)) (λ v w. g.S.Key.Hashed.is_alike (g.S.Keys.key_of v) (g.S.Keys.key_of w)) c.self.inside.buckets c.self.invariant c.reserve.result c.reserve.new.self c.grow.new.self c.args.n grown.room.0 grown.room.1 grown.wider grown.sound
    c.reserve.ensures.ok c.reserve.ensures.err c.reserve.ensures.sound

pub returns-clause-ok : goal.returns-clause-ok
returns-clause-ok g c =
    let i = c.self.inside.chain in
    subst (λ (d : Chained _). OnOk c.reserve.result (MakesRoom c.args._limit c.args.n (seen_in d) (seen_in c.reserve.new.self))) c.self.view_is
    (makes_room i c.reserve.result c.reserve.new.self c.args._limit c.args.n (subst (λ (d : Chained _). is_past c.args._limit (length d.rows + c.args.n) ≡ false) (sym c.self.view_is) c.requires.within)
    (subst (λ (d : Chained _). HasSlots c.args._limit (Some (slots_in d)) (slots_in d)) (sym c.self.view_is) c.requires.slots) c.reserve.ensures.ok)
