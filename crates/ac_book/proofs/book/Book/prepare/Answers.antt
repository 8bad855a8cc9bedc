use Rattle.std.proofs.Common.{rules}
use Rattle.std.specs.Vec.{vec_capacity}
use Rattle.ac_book.proofs.Beginning.{prepared, begun_block}
use Rattle.ac_book.proofs.book.Book.prepare.Goals as goal

pub invariant_of-result : goal.invariant_of-result
invariant_of-result c =
    prepared c.args.queues.items c.in_ok-opened.opened.items c.deref_mut.result.now c.reserve_all.new.queues c.args.queues.len c.args.code.items c.in_ok-tasks.tasks.items c.in_ok-history.history.items c.in_ok-items_added.field-0 (vec_capacity c.in_ok-history.history)
    (search rules) c.deref_mut.ensures.value c.deref_mut.ensures.len c.reserve_all.auto.queues c.reserve_all.ensures.shared c.requires.fits c.requires.few_tasks (search rules) (search rules) (search rules) (search rules) (search rules)

pub returns : goal.returns
returns c = begun_block c.args.queues.items c.in_ok-opened.opened.items c.args.code.items c.in_ok-tasks.tasks.items c.in_ok-history.history.items (search rules) (search rules) (search rules)
