use Rattle.ac_keyed_calls.specs.declared.set.Set.TheVariants.{Hashed, Ordered}
use Rattle.ac_keyed_calls.proofs.EitherKeyedSet.{update_ended}
use Rattle.ac_keyed_calls.proofs.keyed_set.KeyedSet.end_update_key.Goals as goal

pub returns-in-Hashed-clause-changed : goal.returns-in-Hashed-clause-changed
returns-in-Hashed-clause-changed g c =
    let call = c.end_update_key in
    update_ended _ _ _ g.met.H.KeyedSetKind.key_of_is g.met.H.KeyedSetKind.keys_is c.args.self.now.set (Hashed c.in-Hashed.set)
    g.met.H.HashedSetKind.is_hashed c.in-Hashed.is call.new.self c.args.c c.args.copy call.result call.ensures.changed

pub returns-in-Ordered-clause-changed : goal.returns-in-Ordered-clause-changed
returns-in-Ordered-clause-changed g c =
    let call = c.end_update_key-in-Ordered in
    update_ended _ _ _ g.met.O.KeyedSetKind.key_of_is g.met.O.KeyedSetKind.keys_is c.args.self.now.set (Ordered c.in-Ordered.set)
    g.met.O.OrderedSetKind.is_ordered c.in-Ordered.is call.new.self c.args.c c.args.copy call.result call.ensures.changed
