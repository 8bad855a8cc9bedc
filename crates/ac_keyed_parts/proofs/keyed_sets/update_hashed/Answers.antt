use Rattle.ac_setwork.proofs.Updates.{underway}
use Rattle.ac_keyed_parts.proofs.keyed_sets.update_hashed.Goals as goal

pub end_update_key-requires-clause-there : goal.end_update_key-requires-clause-there
end_update_key-requires-clause-there c = (underway c.args.set.now c.start_update_key.new.self c.args.c _ c.in-Ok.ensures.changed.0 c.in-Ok.ensures.changed.2.0 c.in-Ok.ensures.rest).there

pub end_update_key-requires-clause-own : goal.end_update_key-requires-clause-own
end_update_key-requires-clause-own c = (underway c.args.set.now c.start_update_key.new.self c.args.c _ c.in-Ok.ensures.changed.0 c.in-Ok.ensures.changed.2.0 c.in-Ok.ensures.rest).own

pub end_update_key-requires-clause-held : goal.end_update_key-requires-clause-held
end_update_key-requires-clause-held c = (underway c.args.set.now c.start_update_key.new.self c.args.c _ c.in-Ok.ensures.changed.0 c.in-Ok.ensures.changed.2.0 c.in-Ok.ensures.rest).held
