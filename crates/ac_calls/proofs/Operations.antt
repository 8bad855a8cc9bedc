-- What an operation comes to, by the arguments as the object sees them, is what it comes to by their cursors in scripts: on rows of any kind.
use Rattle.std.proofs.Common.{◌≡◌, ℕ, Bool, false, refl, sym, ap, subst, ◌∙◌}
use Rattle.std.specs.Prelude.{Result, Ok, Err}
use Rattle.ac_base.specs.declared.fault.Fault.{Fault}
use Rattle.ac_base.specs.declared.fault.Fault.TheVariants as fault
use Rattle.ac_base.specs.declared.name.Name.{Name}
use Rattle.ac_model.specs.Objects.{Object, plain}
use Rattle.ac_model.specs.Containers.{Container}
use Rattle.ac_syntax.specs.declared.operation.Operation.{Operation}
use Rattle.ac_calls.specs.Replies as replies
use Rattle.ac_calls.specs.Holdings.{seen_by_root}
use Rattle.ac_calls.specs.Replies.{Source, itself, another, seen_by, arguments_seen}
use Rattle.ac_calls.specs.declared.argument.Arguments.{Arguments}
use Rattle.ac_calls.specs.declared.reply.Reply.{Reply}
use Rattle.ac_calls.specs.Arguments.{AllAgree, arguments_of, marked, arguments_marked, mark_by_root}
use Rattle.ac_calls.specs.Replied.{Replied, RepliedWith, SourceAfter}
use Rattle.ac_calls.proofs.Made.{seen_arguments_by}

module _ {V : Type 0} (rooted : Bool) (reply : Source (Object ℕ V) → replies.Arguments → Operation → replies.Reply (Object ℕ V)) where
  abbrev marks : Object Name V → Arguments → replies.Arguments
  marks o args = arguments_marked (mark_by_root rooted o) args

  abbrev sees : Object Name V → Arguments → replies.Arguments
  sees o args = arguments_seen (seen_by_root rooted (plain o)) (arguments_of args)

  by_arguments : (o : Object Name V) (args : Arguments) (source : Source (Object ℕ V)) (op given : Operation) → AllAgree o args → op ≡ given
      → reply source (marks o args) given ≡ reply source (sees o args) op
  by_arguments o args source op given agree is =
      ap (λ g. reply source (marks o args) g) (sym is) ∙ ap (λ a. reply source a op) (sym (seen_arguments_by rooted o args agree))

  by_source : (o s : Object Name V) (args : Arguments) (op given : Operation) → AllAgree o args → AllAgree s args → op ≡ given
      → reply (another (plain s) (marks s args)) (marks o args) given
      ≡ reply (another (plain s) (sees s args)) (sees o args) op
  by_source o s args op given agree agree_with is =
      by_arguments o args (another (plain s) (marks s args)) op given agree is
      ∙ ap (λ a. reply (another (plain s) a) (sees o args) op) (sym (seen_arguments_by rooted s args agree_with))

  pub replied_by_root : (old new : Container V) (args : Arguments) (op given : Operation) (result : Result Reply Fault) → AllAgree old.object args → op ≡ given
      → Replied (reply itself (marks old.object args) given) old new result
      → Replied (reply itself (sees old.object args) op) old new result
  replied_by_root old new args op given result agree is h = subst (λ r. Replied r old new result) (by_arguments old.object args itself op given agree is) h

  pub replied_with_by_root : (old source new source_new : Container V) (args : Arguments) (op given : Operation) (result : Result Reply Fault)
      → AllAgree old.object args → AllAgree source.object args → op ≡ given
      → RepliedWith (reply (another (plain source.object) (marks source.object args)) (marks old.object args) given) old source new source_new result
      → RepliedWith (reply (another (plain source.object) (sees source.object args)) (sees old.object args) op) old source new source_new result
  replied_with_by_root old source new source_new args op given result agree agree_with is h =
      subst (λ r. RepliedWith r old source new source_new result) (by_source old.object source.object args op given agree agree_with is) h

-- where no root is seen
module _ {V : Type 0} (reply : Source (Object ℕ V) → replies.Arguments → Operation → replies.Reply (Object ℕ V)) where
  pub replied_by : (old new : Container V) (args : Arguments) (op given : Operation) (result : Result Reply Fault) → AllAgree old.object args → op ≡ given
      → Replied (reply itself (marked old.object args) given) old new result
      → Replied (reply itself (seen_by (plain old.object) (arguments_of args)) op) old new result
  replied_by = replied_by_root false reply

  pub replied_with_by : (old source new source_new : Container V) (args : Arguments) (op given : Operation) (result : Result Reply Fault)
      → AllAgree old.object args → AllAgree source.object args → op ≡ given
      → RepliedWith (reply (another (plain source.object) (marked source.object args)) (marked old.object args) given) old source new source_new result
      → RepliedWith (reply (another (plain source.object) (seen_by (plain source.object) (arguments_of args))) (seen_by (plain old.object) (arguments_of args)) op)
      old source new source_new result
  replied_with_by = replied_with_by_root false reply

-- a call without a source leaves another object as it is
pub replied_beside : {V : Type 0} (r : replies.Reply (Object ℕ V)) (old source new : Container V) (result : Result Reply Fault)
    → Replied r old new result → RepliedWith r old source new source result
replied_beside r old source new (Ok made) h = record {
  goes = h.goes;
  reason = h.reason;
  after = h.after;
  source_after = subst (λ s. SourceAfter source source s) (sym h.source) refl;
  says = h.says;
  variable = h.variable;
}
replied_beside r old source new (Err (fault.Raised reason)) h = (h.0, h.1, refl)
replied_beside r old source new (Err fault.NoMemory) h = (h, refl)
