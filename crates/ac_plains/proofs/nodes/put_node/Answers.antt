use Rattle.std.proofs.Common.{◌++◌, ◌∷◌, [], ap, ◌∙◌}
use Rattle.ac_calls.specs.Arguments.{arguments_of}
use Rattle.ac_objects.specs.World.{IsKnown}
use Rattle.ac_plains.proofs.FillingChild.{parent_known, parent_marked, child_allowed, child_placed, child_put, child_path}
use Rattle.ac_plains.proofs.nodes.put_node.Goals as goal

pub call_at-requires-clause-known : goal.call_at-requires-clause-known
call_at-requires-clause-known c =
    let n = c.requires.next.1 in
    c.in_ok-put_child_arguments.ensures.known c.args.objects.now
    (parent_known c.args.path.now.items c.truncate.new.self.items c.args.row.now.depth c.len.result c.index-parent.result.now n.deep n.below
    c.truncate.ensures.items (c.len.ensures ∙ c.truncate.new.self.ok.0) c.index-parent.ensures (IsKnown c.args.objects.now) c.requires.known)

pub unreachable-requires : goal.unreachable-requires
unreachable-requires c =
    let n = c.requires.next.1 in
    let marked = parent_marked c.args.path.now.items c.truncate.new.self.items c.args.row.now.depth c.len.result c.index-parent.result.now n.deep n.below
    c.truncate.ensures.items (c.len.ensures ∙ c.truncate.new.self.ok.0) c.index-parent.ensures in
    child_placed c.args.row.now c.args.place c.args.objects.now c.call_at.new.self c.args.path.now.items c.index-parent.result.now
    (arguments_of c.put_child_arguments.new.args) c.requires.next.0 n marked c.in_ok-put_child_arguments.ensures.put c.call_at.new.frame.reply
    (c.in-Ok.ensures.called n.held n.there) c.in-None.is

pub unreachable-requires-in-Err-Raised : goal.unreachable-requires-in-Err-Raised
unreachable-requires-in-Err-Raised c =
    let n = c.requires.next.1 in
    let marked = parent_marked c.args.path.now.items c.truncate.new.self.items c.args.row.now.depth c.len.result c.index-parent.result.now n.deep n.below
    c.truncate.ensures.items (c.len.ensures ∙ c.truncate.new.self.ok.0) c.index-parent.ensures in
    child_allowed c.args.row.now c.args.place c.args.objects.now c.call_at.new.self c.args.path.now.items c.index-parent.result.now
    (arguments_of c.put_child_arguments.new.args) c.requires.next.0 n marked c.in_ok-put_child_arguments.ensures.put c.in-Err-Raised.field-0-0
    (rw c.in-Err-Raised.field-0-is at (c.in-Err-Raised.ensures.called n.held n.there))

pub returns-in_ok-push-in-Some-clause-put : goal.returns-in_ok-push-in-Some-clause-put
returns-in_ok-push-in-Some-clause-put c h above there found =
    let n = c.requires.next.1 in
    let marked = parent_marked c.args.path.now.items c.truncate.new.self.items c.args.row.now.depth c.len.result c.index-parent.result.now n.deep n.below
    c.truncate.ensures.items (c.len.ensures ∙ c.truncate.new.self.ok.0) c.index-parent.ensures in
    child_put c.args.row.now c.args.place c.args.objects.now c.call_at.new.self c.args.path.now.items c.index-parent.result.now
    (arguments_of c.put_child_arguments.new.args) c.requires.next.0 n marked c.in_ok-put_child_arguments.ensures.put c.call_at.new.frame.reply
    (c.in-Ok.ensures.called n.held n.there) h above there found

pub returns-in_ok-push-in-Some-clause-path : goal.returns-in_ok-push-in-Some-clause-path
returns-in_ok-push-in-Some-clause-path c next n =
    let marked = parent_marked c.args.path.now.items c.truncate.new.self.items c.args.row.now.depth c.len.result c.index-parent.result.now n.deep n.below
    c.truncate.ensures.items (c.len.ensures ∙ c.truncate.new.self.ok.0) c.index-parent.ensures in
    child_path c.args.row.now c.args.place c.args.objects.now c.call_at.new.self c.args.path.now.items c.index-parent.result.now
    (arguments_of c.put_child_arguments.new.args) next n marked c.in_ok-put_child_arguments.ensures.put c.call_at.new.frame.reply
    (c.in-Ok.ensures.called n.held n.there) c.in-Some.placed c.in-Some.is c.push.new.self.items
    (c.in_ok-push-in-Some.ensures.items ∙ ap (λ l. l ++ c.in-Some.placed.cursor ∷ []) c.truncate.ensures.items)
