use Rattle.ac_calls.specs.Replied.{told}
use Rattle.ac_keyed_calls.specs.declared.set.Set.TheVariants.{Hashed, Ordered}
use Rattle.ac_keyed_calls.proofs.EitherKeyedSet.{key_replied}
use Rattle.ac_keyed_calls.proofs.keyed_set.KeyedSet.key_call.Goals as goal

pub returns-in-Hashed-clause-replied : goal.returns-in-Hashed-clause-replied
returns-in-Hashed-clause-replied g c =
    let call = c.hashed_key_call in
    key_replied _ _ _ g.met.H.KeyedSetKind.key_of_is g.met.H.KeyedSetKind.keys_is c.args.self.now.set (Hashed c.in-Hashed.set)
    g.met.H.HashedSetKind.is_hashed c.in-Hashed.is call.new.set c.args.call c.args.args.now (told call.new.reply call.result) call.ensures

pub returns-in-Ordered-clause-replied : goal.returns-in-Ordered-clause-replied
returns-in-Ordered-clause-replied g c =
    let call = c.ordered_key_call in
    key_replied _ _ _ g.met.O.KeyedSetKind.key_of_is g.met.O.KeyedSetKind.keys_is c.args.self.now.set (Ordered c.in-Ordered.set)
    g.met.O.OrderedSetKind.is_ordered c.in-Ordered.is call.new.set c.args.call c.args.args.now (told call.new.reply call.result) call.ensures
