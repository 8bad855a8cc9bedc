use Rattle.std.proofs.Common.{rules, ◌≡◌, ◌<◌, map, subst}
use Rattle.std.specs.Vec.{vec_capacity}
use Rattle.ac_history.specs.Blocks.{present}
use Rattle.ac_history.specs.Histories.{outcome, turn_told}
use Rattle.ac_queue.specs.Shared.{shared}
use Rattle.ac_book.specs.Books.{told_in}
use Rattle.ac_book.proofs.Turning.{spare_lent, in_tasks, whole_turn, stood_still, stands_still, moved_on, moves_on, room_for_entry}
use Rattle.ac_book.proofs.book.Book.turn.Goals as goal

pub take_turn-requires-clause-spare : goal.take_turn-requires-clause-spare
take_turn-requires-clause-spare c =
    let own = c.self.inside in
    spare_lent (map shared own.opened.items) own.queues.items c.deref_mut.result.now own.tasks.items c.args.task c.index_mut.result.now own.history.items (vec_capacity own.history)
    c.self.invariant (in_tasks own.opened.items own.tasks.items own.history.items c.args.self.now c.args.task c.self.view_is c.requires) c.index_mut.ensures.value c.deref_mut.ensures.value

pub returns-in-Err-clause-told : goal.returns-in-Err-clause-told
returns-in-Err-clause-told c =
    let own = c.self.inside in
    let whole = whole_turn own.opened.items own.queues.items c.deref_mut.result.now c.take_turn.new.queues own.queues.len own.tasks.items c.args.task c.index_mut.result.now c.take_turn.new.task own.history.items (vec_capacity own.history) c.take_turn.result c.args.self.now
    c.self.invariant c.self.view_is c.requires c.index_mut.ensures.value c.deref_mut.ensures.value c.deref_mut.ensures.len c.take_turn.auto.queues c.take_turn.ensures.spare c.take_turn.ensures.held_up c.take_turn.ensures.turn in
    subst (λ r. told_in r ≡ turn_told (outcome (present c.args.self.now) c.args.task)) c.in-Err.is whole.told

pub returns-in-Ok-clause-told : goal.returns-in-Ok-clause-told
returns-in-Ok-clause-told c =
    let own = c.self.inside in
    let whole = whole_turn own.opened.items own.queues.items c.deref_mut.result.now c.take_turn.new.queues own.queues.len own.tasks.items c.args.task c.index_mut.result.now c.take_turn.new.task own.history.items (vec_capacity own.history) c.take_turn.result c.args.self.now
    c.self.invariant c.self.view_is c.requires c.index_mut.ensures.value c.deref_mut.ensures.value c.deref_mut.ensures.len c.take_turn.auto.queues c.take_turn.ensures.spare c.take_turn.ensures.held_up c.take_turn.ensures.turn in
    subst (λ r. told_in r ≡ turn_told (outcome (present c.args.self.now) c.args.task)) c.in-Ok.is whole.told

pub invariant_of-self : goal.invariant_of-self
invariant_of-self c =
    let own = c.self.inside in
    let whole = whole_turn own.opened.items own.queues.items c.deref_mut.result.now c.take_turn.new.queues own.queues.len own.tasks.items c.args.task c.index_mut.result.now c.take_turn.new.task own.history.items (vec_capacity own.history) c.take_turn.result c.args.self.now
    c.self.invariant c.self.view_is c.requires c.index_mut.ensures.value c.deref_mut.ensures.value c.deref_mut.ensures.len c.take_turn.auto.queues c.take_turn.ensures.spare c.take_turn.ensures.held_up c.take_turn.ensures.turn in
    stood_still whole c.in-Err.told c.in-Err.is

pub returns-in-Err-clause-history : goal.returns-in-Err-clause-history
returns-in-Err-clause-history c =
    let own = c.self.inside in
    let whole = whole_turn own.opened.items own.queues.items c.deref_mut.result.now c.take_turn.new.queues own.queues.len own.tasks.items c.args.task c.index_mut.result.now c.take_turn.new.task own.history.items (vec_capacity own.history) c.take_turn.result c.args.self.now
    c.self.invariant c.self.view_is c.requires c.index_mut.ensures.value c.deref_mut.ensures.value c.deref_mut.ensures.len c.take_turn.auto.queues c.take_turn.ensures.spare c.take_turn.ensures.held_up c.take_turn.ensures.turn in
    stands_still whole c.in-Err.told c.in-Err.is

pub push_reserved-requires : goal.push_reserved-requires
push_reserved-requires c =
    let own = c.self.inside in
    let whole = whole_turn own.opened.items own.queues.items c.deref_mut.result.now c.take_turn.new.queues own.queues.len own.tasks.items c.args.task c.index_mut.result.now c.take_turn.new.task own.history.items (vec_capacity own.history) c.take_turn.result c.args.self.now
    c.self.invariant c.self.view_is c.requires c.index_mut.ensures.value c.deref_mut.ensures.value c.deref_mut.ensures.len c.take_turn.auto.queues c.take_turn.ensures.spare c.take_turn.ensures.held_up c.take_turn.ensures.turn in
    subst (λ n. n < vec_capacity own.history) (search rules) (room_for_entry whole c.in-Ok.entry c.in-Ok.is)

pub invariant_of-self-in-Ok : goal.invariant_of-self-in-Ok
invariant_of-self-in-Ok c =
    let own = c.self.inside in
    let whole = whole_turn own.opened.items own.queues.items c.deref_mut.result.now c.take_turn.new.queues own.queues.len own.tasks.items c.args.task c.index_mut.result.now c.take_turn.new.task own.history.items (vec_capacity own.history) c.take_turn.result c.args.self.now
    c.self.invariant c.self.view_is c.requires c.index_mut.ensures.value c.deref_mut.ensures.value c.deref_mut.ensures.len c.take_turn.auto.queues c.take_turn.ensures.spare c.take_turn.ensures.held_up c.take_turn.ensures.turn in
    moved_on whole c.in-Ok.entry c.push_reserved.new.self.items (vec_capacity c.push_reserved.new.self) c.in-Ok.is c.push_reserved.ensures.items c.push_reserved.ensures.capacity

pub returns-in-Ok-clause-history : goal.returns-in-Ok-clause-history
returns-in-Ok-clause-history c =
    let own = c.self.inside in
    let whole = whole_turn own.opened.items own.queues.items c.deref_mut.result.now c.take_turn.new.queues own.queues.len own.tasks.items c.args.task c.index_mut.result.now c.take_turn.new.task own.history.items (vec_capacity own.history) c.take_turn.result c.args.self.now
    c.self.invariant c.self.view_is c.requires c.index_mut.ensures.value c.deref_mut.ensures.value c.deref_mut.ensures.len c.take_turn.auto.queues c.take_turn.ensures.spare c.take_turn.ensures.held_up c.take_turn.ensures.turn in
    moves_on whole c.in-Ok.entry c.push_reserved.new.self.items c.in-Ok.is c.push_reserved.ensures.items
