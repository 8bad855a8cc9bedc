-- Trees stay valid through every call on them, and so do those that a call takes nodes from.
use Rattle.std.proofs.Common.{◌≡◌, ◌==◌, ℕ, Bool, true, false, refl, sym, subst, ◌∙◌, option_map, Option, Some, None, if◌then◌else◌}
use Rattle.std.specs.Prelude.{⊤}
use Rattle.ac_base.specs.declared.value.Value.{Value}
use Rattle.ac_model.specs.Letters.{Mark}
use Rattle.ac_model.specs.Objects.{Object}
use Rattle.ac_model.specs.Outline.{IsValidTree}
use Rattle.ac_model.specs.Rows.{Node}
use Rattle.ac_model.proofs.FirstValid.{empty_is_valid}
use Rattle.ac_model.proofs.TreeLaws.{clear_keeps, assign_keeps, move_from_keeps, replace_element_keeps, write_keeps, swap_keeps, insert_child_keeps, insert_child_pos_keeps, append_child_keeps, prepend_child_keeps, delete_leaf_keeps, delete_subtree_keeps, delete_children_keeps, copy_subtree_keeps, splice_subtree_from_keeps, splice_children_from_keeps}
use Rattle.ac_model.proofs.TreeWithin.{splice_subtree_keeps, splice_subtree_from_self_keeps, splice_children_keeps}
use Rattle.ac_syntax.specs.declared.kind.ElemKind.{ElemKind}
use Rattle.ac_syntax.specs.declared.kind.Kind.{Kind}
use Rattle.ac_syntax.specs.declared.kind.Kind.TheVariants as kind
use Rattle.ac_syntax.specs.declared.operation.Operation.{Operation}
use Rattle.ac_syntax.specs.declared.operation.Operation.TheVariants as operation
use Rattle.ac_syntax.specs.declared.operation.CommonCall.{CommonCall}
use Rattle.ac_syntax.specs.declared.operation.CommonCall.TheVariants as common_call
use Rattle.ac_syntax.specs.declared.operation.TreeCall.{TreeCall}
use Rattle.ac_syntax.specs.declared.operation.TreeCall.TheVariants as tree_call
use Rattle.ac_syntax.specs.declared.operation.TreeChangeCall.{TreeChangeCall}
use Rattle.ac_syntax.specs.declared.operation.TreeChangeCall.TheVariants as tree_change_call
use Rattle.ac_syntax.specs.declared.type_def.TypeDef.{TypeDef}
use Rattle.ac_calls.specs.Elements.{Tools, tools_of}
use Rattle.ac_calls.specs.Holdings.{a_sequence, a_map, a_set, a_keyed_set, a_tree, Held, of_rows, of_holder, of_queue, Guards, held_under, rows_in, seen_in, reply_of, write, key_updated, new_held}
use Rattle.ac_calls.specs.Replies.{Arguments, arguments_seen, Source, without, itself, another, by_source, source_in, Reply}
use Rattle.ac_calls.specs.SequenceReplies.{common_reply}
use Rattle.ac_calls.specs.TreeReplies.{tree_own, tree_look_reply, tree_change_reply, tree_reply}
use Rattle.ac_meaning.specs.ValueTypes.{IsSound}
use Rattle.ac_meaning.proofs.CallsStay.{none_some}
use Rattle.ac_meaning.proofs.CommandsStay.{mapped, rows_found}
use Rattle.ac_meaning.proofs.TypeShapes.{def_by}

-- of the source, which may be the tree itself
abbrev SourceValid : {T : Type 0} → Source (Object ℕ (Node T)) → Type 0
SourceValid without = ⊤
SourceValid itself = ⊤
SourceValid (another s args) = IsValidTree s

-- a call that isn't refused leaves valid trees
record LeavesValid {T : Type 0} (r : Reply (Object ℕ (Node T))) : Type 0 where
  after : r.reason ≡ None → IsValidTree r.after
  source : r.reason ≡ None → (t : Object ℕ (Node T)) → r.source ≡ Some t → IsValidTree t

alone : {T : Type 0} (r : Reply (Object ℕ (Node T))) → r.source ≡ None → (r.reason ≡ None → IsValidTree r.after) → LeavesValid r
alone r none h = record { after = h; source = λ _ t f. none_some t (sym none ∙ f) }

both_left : {T : Type 0} (r : Reply (Object ℕ (Node T))) (s : Object ℕ (Node T)) → r.source ≡ Some s → (r.reason ≡ None → IsValidTree r.after × IsValidTree s) →
    LeavesValid r
both_left r s is h = record {
  after = λ none. (h none).0;
  source = λ none t f. let p : s ≡ t = cc in subst (λ x. IsValidTree x) p (h none).1;
}

by_source_leaves : {T : Type 0} (source : Source (Object ℕ (Node T))) (own : Reply (Object ℕ (Node T)))
    (two : Object ℕ (Node T) → Arguments → Reply (Object ℕ (Node T))) → SourceValid source → LeavesValid own →
    ((s : Object ℕ (Node T)) (args : Arguments) → IsValidTree s → LeavesValid (two s args)) → LeavesValid (by_source source own two)
by_source_leaves without own two valid h k = h
by_source_leaves itself own two valid h k = h
by_source_leaves (another s args) own two valid h k = k s args valid

module _ {T : Type 0} (tools : Tools T) (o : Object ℕ (Node T)) (source : Source (Object ℕ (Node T))) (args : Arguments) (valid : IsValidTree o)
    (from_valid : SourceValid source) where
  common_leaves : (c : CommonCall) → LeavesValid (common_reply o source args (tree_own tools o) c)
  common_leaves common_call.IsEmpty = alone _ refl (λ none. valid)
  common_leaves common_call.Clear = alone _ refl (clear_keeps o valid)
  common_leaves common_call.Assign =
      by_source_leaves source _ _ from_valid (alone _ refl (λ none. valid)) (λ s seen v. alone _ refl (assign_keeps o s v valid))
  common_leaves common_call.MoveFrom =
      by_source_leaves source _ _ from_valid (alone _ refl (λ none. valid)) (λ s seen v. both_left _ _ refl (move_from_keeps o s valid v))
  common_leaves common_call.Equal = alone _ refl (λ none. valid)
  common_leaves common_call.HasElement = alone _ refl (λ none. valid)
  common_leaves common_call.Element = alone _ refl (λ none. valid)
  common_leaves common_call.ReplaceElement =
      alone _ refl (replace_element_keeps o args.first.cursor (tools.from_value args.second.value) valid)
  common_leaves common_call.Print = alone _ refl (λ none. valid)
  common_leaves common_call.Length = alone _ refl (λ none. valid)

  look_leaves : (c : TreeCall) → LeavesValid (tree_look_reply tools o args c)
  look_leaves tree_call.NodeCount = alone _ refl (λ none. valid)
  look_leaves tree_call.Root = alone _ refl (λ none. valid)
  look_leaves tree_call.IsRoot = alone _ refl (λ none. valid)
  look_leaves tree_call.IsLeaf = alone _ refl (λ none. valid)
  look_leaves tree_call.Depth = alone _ refl (λ none. valid)
  look_leaves tree_call.SubtreeNodeCount = alone _ refl (λ none. valid)
  look_leaves tree_call.ChildCount = alone _ refl (λ none. valid)
  look_leaves tree_call.Parent = alone _ refl (λ none. valid)
  look_leaves tree_call.NextSibling = alone _ refl (λ none. valid)
  look_leaves tree_call.PreviousSibling = alone _ refl (λ none. valid)
  look_leaves tree_call.FirstChild = alone _ refl (λ none. valid)
  look_leaves tree_call.LastChild = alone _ refl (λ none. valid)
  look_leaves tree_call.Find = alone _ refl (λ none. valid)
  look_leaves tree_call.Contains = alone _ refl (λ none. valid)
  look_leaves tree_call.FindInSubtree = alone _ refl (λ none. valid)
  look_leaves tree_call.AncestorFind = alone _ refl (λ none. valid)

  change_leaves : (c : TreeChangeCall) → LeavesValid (tree_change_reply tools o source args c)
  change_leaves tree_change_call.InsertChild =
      alone _ refl (insert_child_keeps o args.first.cursor args.second.cursor (tools.from_value args.third.value) args.fourth.count valid)
  change_leaves tree_change_call.InsertChildPos =
      alone _ refl (insert_child_pos_keeps o args.first.cursor args.second.cursor (tools.from_value args.third.value) args.fifth valid)
  change_leaves tree_change_call.AppendChild =
      alone _ refl (append_child_keeps o args.first.cursor (tools.from_value args.second.value) args.third.count valid)
  change_leaves tree_change_call.PrependChild =
      alone _ refl (prepend_child_keeps o args.first.cursor (tools.from_value args.second.value) args.third.count valid)
  change_leaves tree_change_call.DeleteLeaf = alone _ refl (delete_leaf_keeps o args.first.cursor valid)
  change_leaves tree_change_call.DeleteSubtree = alone _ refl (delete_subtree_keeps o args.first.cursor valid)
  change_leaves tree_change_call.DeleteChildren = alone _ refl (delete_children_keeps o args.first.cursor valid)
  change_leaves tree_change_call.Swap = alone _ refl (swap_keeps o args.first.cursor args.second.cursor valid)
  change_leaves tree_change_call.CopySubtree =
      by_source_leaves source _ _ from_valid
      (alone _ refl (copy_subtree_keeps o args.first.cursor args.second.cursor o args.fourth.cursor valid valid))
      (λ s seen v. alone _ refl (copy_subtree_keeps o args.first.cursor args.second.cursor s seen.fourth.cursor v valid))
  change_leaves tree_change_call.SpliceSubtreeFrom =
      by_source_leaves source _ _ from_valid
      (alone _ refl (splice_subtree_from_self_keeps o args.first.cursor args.second.cursor args.fourth.cursor valid))
      (λ s seen v. both_left _ _ refl (splice_subtree_from_keeps o args.first.cursor args.second.cursor s seen.fourth.cursor valid v))
  change_leaves tree_change_call.SpliceSubtree =
      alone _ refl (splice_subtree_keeps o args.first.cursor args.second.cursor args.third.cursor valid)
  change_leaves tree_change_call.SpliceChildrenFrom =
      by_source_leaves source _ _ from_valid
      (alone _ refl (splice_children_keeps o args.first.cursor args.second.cursor args.fourth.cursor valid))
      (λ s seen v. both_left _ _ refl (splice_children_from_keeps o args.first.cursor args.second.cursor s seen.fourth.cursor valid v))
  change_leaves tree_change_call.SpliceChildren =
      alone _ refl (splice_children_keeps o args.first.cursor args.second.cursor args.third.cursor valid)

  tree_leaves : (op : Operation) → LeavesValid (tree_reply tools o source args op)
  tree_leaves (operation.Common c) = common_leaves c
  tree_leaves (operation.Tree c) = look_leaves c
  tree_leaves (operation.TreeChange c) = change_leaves c
  tree_leaves _ = alone _ refl (λ none. valid)

-- Objects of any kind

-- what a call on an object leaves
pub record LeavesSound (r : Reply Held) : Type 0 where
  pub after : r.reason ≡ None → IsSound r.after
  pub source : r.reason ≡ None → (t : Held) → r.source ≡ Some t → IsSound t

itself_or_valid : {T : Type 0} (s : Object ℕ (Node T)) (args : Arguments) (b : Bool) → IsValidTree s → SourceValid (if b then itself else another s args)
itself_or_valid s args true valid = tt
itself_or_valid s args false valid = valid

source_valid : {T : Type 0} (see : Object ℕ (Node T) → Mark → Mark) (o : Object ℕ (Node T)) (found : Option (Object ℕ (Node T))) (args : Arguments) →
    ((s : Object ℕ (Node T)) → found ≡ Some s → IsValidTree s) → SourceValid (source_in see o found args)
source_valid see o None args valid = tt
source_valid see o (Some s) args valid = itself_or_valid s (arguments_seen (see s) args) (o.number == s.number) (valid s refl)

-- what is held in another way than as a tree
other_sound : {S : Type 0} (f : S → Held) (found : Option S) (t : Held) → ((s : S) → IsSound (f s)) → option_map f found ≡ Some t → IsSound t
other_sound f found t each is = let m = mapped f found t is in subst (λ h. IsSound h) m.2 (each m.0)

pub reply_sound : (h : Held) (source : Option Held) (op : Operation) (args : Arguments) → IsSound h → ((s : Held) → source ≡ Some s → IsSound s) →
    LeavesSound (reply_of h source op args)
reply_sound (of_rows (a_sequence which e) o) source op args sound each =
    record { after = λ none. tt; source = λ none t f. other_sound (of_rows (a_sequence which e)) _ t (λ s. tt) f }
reply_sound (of_rows (a_map which k e) o) source op args sound each =
    record { after = λ none. tt; source = λ none t f. other_sound (of_rows (a_map which k e)) _ t (λ s. tt) f }
reply_sound (of_rows (a_set which e) o) source op args sound each =
    record { after = λ none. tt; source = λ none t f. other_sound (of_rows (a_set which e)) _ t (λ s. tt) f }
reply_sound (of_rows (a_keyed_set which) o) source op args sound each =
    record { after = λ none. tt; source = λ none t f. other_sound (of_rows (a_keyed_set which)) _ t (λ s. tt) f }
reply_sound (of_rows (a_tree e) o) source op args sound each =
    let found = rows_in (a_tree e) source in
    let from = source_in (seen_in (a_tree e)) o found args in
    let leaves = tree_leaves (tools_of e) o from (arguments_seen (seen_in (a_tree e) o) args) sound
    (source_valid (seen_in (a_tree e)) o found args (λ s f. each (of_rows (a_tree e) s) (rows_found (a_tree e) source s f))) op in
    record {
      after = leaves.after;
      source = λ none t f.
          let m = mapped (of_rows (a_tree e)) _ t f in subst (λ h. IsSound h) m.2 (leaves.source none m.0 m.1);
    }
reply_sound (of_holder e h) source op args sound each =
    record { after = λ none. tt; source = λ none t f. other_sound (of_holder e) _ t (λ s. tt) f }
reply_sound (of_queue number q) source op args sound each =
    record { after = λ none. tt; source = λ none t f. other_sound (of_queue number) _ t (λ s. tt) f }

-- a write through a name that isn't refused
pub write_sound : (h : Held) (at : Mark) (v : Value) → IsSound h → (write h at v).reason ≡ None → IsSound (write h at v).after
write_sound (of_rows (a_sequence which e) o) at v sound none = tt
write_sound (of_rows (a_map which k e) o) at v sound none = tt
write_sound (of_rows (a_set which e) o) at v sound none = tt
write_sound (of_rows (a_keyed_set which) o) at v sound none = tt
write_sound (of_rows (a_tree e) o) at v sound none = write_keeps o (seen_in (a_tree e) o at) ((tools_of e).from_value v) sound none
write_sound (of_holder e h) at v sound none = tt
write_sound (of_queue number q) at v sound none = tt

-- the end of an update of a key
pub key_sound : (h : Held) (at : Mark) (v : Value) → IsSound h → IsSound (key_updated h at v).after
key_sound (of_rows (a_sequence which e) o) at v sound = tt
key_sound (of_rows (a_map which k e) o) at v sound = tt
key_sound (of_rows (a_set which e) o) at v sound = tt
key_sound (of_rows (a_keyed_set which) o) at v sound = tt
key_sound (of_rows (a_tree e) o) at v sound = sound
key_sound (of_holder e h) at v sound = tt
key_sound (of_queue number q) at v sound = tt

pub under_sound : (guards : Guards) (h : Held) → IsSound h → IsSound (held_under guards h)
under_sound guards (of_rows (a_sequence which e) o) sound = tt
under_sound guards (of_rows (a_map which k e) o) sound = tt
under_sound guards (of_rows (a_set which e) o) sound = tt
under_sound guards (of_rows (a_keyed_set which) o) sound = tt
under_sound guards (of_rows (a_tree e) o) sound = record {
  as_object = record {
    names_differ = sound.as_object.names_differ;
    names_below_next = sound.as_object.names_below_next;
    names_from_one = sound.as_object.names_from_one;
    next_from_one = sound.as_object.next_from_one;
    next_in_range = sound.as_object.next_in_range;
    within_limit = sound.as_object.within_limit;
    within_greatest = sound.as_object.within_greatest;
    capacity_fits = sound.as_object.capacity_fits;
  };
  outline = sound.outline;
}
under_sound guards (of_holder e h) sound = tt
under_sound guards (of_queue number q) sound = tt

-- a new object
new_by : (bounded : Bool) (k : Kind) (first : ElemKind) (second : Option ElemKind) (keyed : Bool) (number : ℕ) (capacity : Option ℕ) →
    IsSound (new_held (def_by bounded k first second keyed) number capacity)
new_by bounded kind.Vector first second keyed number capacity = tt
new_by bounded kind.List first second keyed number capacity = tt
new_by bounded kind.HashedMap first second keyed number capacity = tt
new_by bounded kind.OrderedMap first second keyed number capacity = tt
new_by bounded kind.HashedSet first second true number capacity = tt
new_by bounded kind.HashedSet first second false number capacity = tt
new_by bounded kind.OrderedSet first second true number capacity = tt
new_by bounded kind.OrderedSet first second false number capacity = tt
new_by bounded kind.Tree first second keyed number capacity = record { as_object = empty_is_valid false number _; outline = refl }
new_by bounded kind.Holder first second keyed number capacity = tt
new_by bounded kind.Queue first second keyed number capacity = tt
new_by bounded kind.PriorityQueue first second keyed number capacity = tt

pub new_sound : (def : TypeDef) (number : ℕ) (capacity : Option ℕ) → IsSound (new_held def number capacity)
new_sound def number capacity = new_by def.bounded def.kind def.first def.second def.keyed number capacity
