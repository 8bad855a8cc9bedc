-- What a call of a tree in scripts comes to in the code, where its arguments are as the tree sees them, and as its source does: at the root too.
use Rattle.std.specs.Prelude.{ℕ, Result}
use Rattle.ac_base.specs.declared.fault.Fault.{Fault}
use Rattle.ac_model.specs.Objects.{Object, plain}
use Rattle.ac_model.specs.Containers.{Container}
use Rattle.ac_model.specs.Rows.{Node}
use Rattle.ac_model.specs.Trees.{tree_mark}
use Rattle.ac_syntax.specs.declared.operation.Operation.{Operation}
use Rattle.ac_syntax.specs.declared.operation.TreeCall.{TreeCall}
use Rattle.ac_syntax.specs.declared.operation.TreeChangeCall.{TreeChangeCall}
use Rattle.ac_calls.specs.Elements.{Tools}
use Rattle.ac_calls.specs.Replies as replies
use Rattle.ac_calls.specs.Replies.{Source, itself, another}
use Rattle.ac_calls.specs.TreeReplies.{tree_look_reply, tree_change_reply, tree_reply}
use Rattle.ac_calls.specs.declared.argument.Arguments.{Arguments}
use Rattle.ac_calls.specs.declared.reply.Reply.{Reply}
use Rattle.ac_calls.specs.Arguments.{arguments_marked}
use Rattle.ac_calls.specs.Replied.{Replied, RepliedWith}

module _ {T : Type 0} where
  -- the arguments as the tree sees them
  abbrev pub seen_in : Container (Node T) → Arguments → replies.Arguments
  seen_in tree args = arguments_marked (tree_mark tree.object) args

  -- another tree as the source
  abbrev pub source_of : Container (Node T) → Arguments → Source (Object ℕ (Node T))
  source_of source args = another (plain source.object) (seen_in source args)

module _ {T : Type 0} (tools : Tools T) where
  -- a call that only looks
  abbrev pub TreeLooked : TreeCall → Arguments → (now : Container (Node T)) → Result Reply Fault → Type 0
  TreeLooked call args now result = Replied (tree_look_reply tools (plain now.object) (seen_in now args) call) now now result

  -- one that changes the tree, with the tree itself as the source, and with another one
  abbrev pub TreeChanged : TreeChangeCall → Arguments → (old new : Container (Node T)) → Result Reply Fault → Type 0
  TreeChanged call args old new result = Replied (tree_change_reply tools (plain old.object) itself (seen_in old args) call) old new result

  abbrev pub TreeChangedWith : TreeChangeCall → Arguments → (old source new source_new : Container (Node T)) → Result Reply Fault → Type 0
  TreeChangedWith call args old source new source_new result =
      RepliedWith (tree_change_reply tools (plain old.object) (source_of source args) (seen_in old args) call) old source new source_new result

  -- any operation
  abbrev pub TreeReplied : Operation → Arguments → (old new : Container (Node T)) → Result Reply Fault → Type 0
  TreeReplied operation args old new result = Replied (tree_reply tools (plain old.object) itself (seen_in old args) operation) old new result

  abbrev pub TreeRepliedWith : Operation → Arguments → (old source new source_new : Container (Node T)) → Result Reply Fault → Type 0
  TreeRepliedWith operation args old source new source_new result =
      RepliedWith (tree_reply tools (plain old.object) (source_of source args) (seen_in old args) operation) old source new source_new result
