-- What the calls by key come to on a keyed set of either kind, in the words of keyed sets.
use Rattle.std.proofs.Common.{◌≡◌, sym, subst, ap, ◌∙◌}
use Rattle.std.specs.Prelude.{Result}
use Rattle.ac_base.specs.Key.{key_of_text}
use Rattle.ac_base.specs.declared.cursor.Cursor.{Cursor}
use Rattle.ac_base.specs.declared.fault.Fault.{Fault}
use Rattle.ac_model.specs.Calls.{Done, Same}
use Rattle.ac_model.specs.Containers.{Container}
use Rattle.ac_model.specs.Forms.{seen_by}
use Rattle.ac_model.specs.Keyed.{Order}
use Rattle.ac_model.specs.KeyedSets.{end_update_key_call}
use Rattle.ac_setwork.specs.KeyCalls.{DoesAlways}
use Rattle.ac_syntax.specs.declared.operation.KeyedCall.{KeyedCall}
use Rattle.ac_calls.specs.Elements.{Text, texts}
use Rattle.ac_calls.specs.KeyedReplies.{KeyedKind, order_by}
use Rattle.ac_calls.specs.declared.argument.Arguments.{Arguments}
use Rattle.ac_calls.specs.declared.reply.Reply.{Reply}
use Rattle.ac_keyed_calls.specs.KeyCalls.{KeyRepliedBy}
use Rattle.ac_keyed_calls.specs.declared.set.Set.{Set}
use Rattle.ac_keyed_calls.specs.Sets.{items_of, set_kind_of}

module _ {H O P I J : Type 0} (key : Text → Text) (keys : Order Text) (which : KeyedKind) (key_is : key ≡ key_of_text) (keys_are : keys ≡ order_by texts which)
    (s t : Set Text H O P I J) (kind : which ≡ set_kind_of t) (is : s ≡ t) (new : Container Text) where
  orders : keys ≡ order_by texts (set_kind_of t)
  orders = keys_are ∙ ap (order_by texts) kind

  pub key_replied : (call : KeyedCall) (args : Arguments) (result : Result Reply Fault)
      → KeyRepliedBy key keys (set_kind_of t) call args (items_of t) new result
      → KeyRepliedBy key_of_text (order_by texts (set_kind_of s)) (set_kind_of s) call args (items_of s) new result
  key_replied call args result h =
      subst (λ (x : Set Text H O P I J). KeyRepliedBy key_of_text (order_by texts (set_kind_of x)) (set_kind_of x) call args (items_of x) new result) (sym is)
      (coe 0 1 (i. KeyRepliedBy (key_is i) (orders i) (set_kind_of t) call args (items_of t) new result) h)

  pub update_ended : (c : Cursor) (copy : Text) (result : Result Done Fault)
      → DoesAlways (Same {A = Done}) (λ o. end_update_key_call key keys o (seen_by (items_of t) c) copy) (items_of t) new result
      → DoesAlways (Same {A = Done}) (λ o. end_update_key_call key_of_text (order_by texts (set_kind_of s)) o (seen_by (items_of s) c) copy) (items_of s) new result
  update_ended c copy result h =
      subst (λ (x : Set Text H O P I J). DoesAlways (Same {A = Done}) (λ o. end_update_key_call key_of_text (order_by texts (set_kind_of x)) o (seen_by (items_of x) c) copy)
      (items_of x) new result) (sym is)
      (coe 0 1 (i. DoesAlways (Same {A = Done}) (λ o. end_update_key_call (key_is i) (orders i) o (seen_by (items_of t) c) copy) (items_of t) new result) h)
