-- What stays of holders through every call on them.
use Rattle.std.proofs.Common.{◌≡◌, ◌==◌, Bool, true, false, not, List, [], ◌∷◌, refl, sym, ap, subst, ◌∙◌, Option, Some, None, if◌then◌else◌}
use Rattle.std.specs.Prelude.{is_none}
use Rattle.ac_base.specs.declared.reason.Reason.{Reason}
use Rattle.ac_base.specs.declared.reason.Reason.TheVariants.{Empty}
use Rattle.ac_base.specs.declared.guard.Class.TheVariants as class
use Rattle.ac_base.specs.declared.value.Value.{Value}
use Rattle.ac_base.specs.FirstReason.{first_reason}
use Rattle.ac_base.specs.Tampering.{forbids}
use Rattle.ac_model.specs.Letters.{Mark, reason_if}
use Rattle.ac_model.specs.Holders as holder
use Rattle.ac_model.specs.Holders.{Holder, with_element, tampers, fits}
use Rattle.ac_syntax.specs.declared.kind.ElemKind.{ElemKind}
use Rattle.ac_syntax.specs.declared.operation.Operation.{Operation}
use Rattle.ac_syntax.specs.declared.operation.Operation.TheVariants as operation
use Rattle.ac_syntax.specs.declared.operation.HolderCall.{HolderCall}
use Rattle.ac_syntax.specs.declared.operation.HolderCall.TheVariants as holder_call
use Rattle.ac_calls.specs.Elements.{Tools, ElementOf}
use Rattle.ac_calls.specs.Replies.{Arguments, Source, without, itself, another, by_source, Reply, changes_ok}
use Rattle.ac_calls.specs.HolderReplies.{holder_source, holder_write, holder_alone_reply, holder_reply}
use Rattle.ac_calls.specs.Holdings.{Held, of_rows, of_holder, of_queue, holds_element, element_value}
use Rattle.ac_meaning.specs.Stays.{HolderStays, HolderSourceStays, HolderReplyStays}
use Rattle.ac_meaning.proofs.CallsStay.{none_some, first_none, second_none}

pub holder_same : {T : Type 0} (h : Holder T) (reason : Option Reason) → HolderStays h reason h
holder_same h reason =
    record { number = refl; limit = refl; cursor_guards = refl; element_guards = refl; element = λ none tampering t. refl }

-- where no call with this check goes on
changed : {T : Type 0} (h : Holder T) (reason : Option Reason) (element : Option T) → (reason ≡ None → tampers h ≡ None) →
    HolderStays h reason (with_element h element)
changed h reason element checked = record {
  number = refl;
  limit = refl;
  cursor_guards = refl;
  element_guards = refl;
  element = λ none tampering t. none_some tampering (sym (checked none) ∙ t);
}

-- a call that isn't refused
pub holder_passed : {T : Type 0} (h : Holder T) (reason : Option Reason) (after : Holder T) → reason ≡ None → HolderStays h reason after →
    HolderStays h None after
holder_passed h reason after none s = record {
  number = s.number;
  limit = s.limit;
  cursor_guards = s.cursor_guards;
  element_guards = s.element_guards;
  element = λ _. s.element none;
}

-- one call after another
pub holder_then : {T : Type 0} (h a b : Holder T) → HolderStays h None a → HolderStays a None b → HolderStays h None b
holder_then h a b s t = record {
  number = t.number ∙ s.number;
  limit = t.limit ∙ s.limit;
  cursor_guards = t.cursor_guards ∙ s.cursor_guards;
  element_guards = t.element_guards ∙ s.element_guards;
  element = λ none tampering e. t.element none tampering
      (ap (λ n. forbids class.Elements n a.element_guards) s.cursor_guards
      ∙ (ap (λ n. forbids class.Elements h.cursor_guards n) s.element_guards ∙ e))
      ∙ s.element none tampering e;
}

-- a write, which is refused where there is no element
some_there : {T : Type 0} (element : Option T) (others : List (Option Reason)) → first_reason (reason_if (is_none element) Empty ∷ others) ≡ None →
    is_none element ≡ false
some_there None others none = none_some Empty (sym (first_none (Some Empty) others none))
some_there (Some v) others none = refl

pub holder_write_stays : {T : Type 0} (tools : Tools T) (h : Holder T) (v : Value) → (holder_write tools h v).reason ≡ None →
    HolderStays h None (holder_write tools h v).after
holder_write_stays tools h v none = record {
  number = refl;
  limit = refl;
  cursor_guards = refl;
  element_guards = refl;
  element = λ _ tampering t. sym (some_there h.element (fits tools.size h (Some (tools.from_value v)) ∷ []) none);
}

-- Element is refused where there is none
pub element_stands : (h : Held) (at : Mark) → holds_element h ≡ true → (element_value h at).reason ≡ None
element_stands (of_rows kind o) at has = absurd (cc)
element_stands (of_queue number q) at has = absurd (cc)
element_stands (of_holder e h) at has = go h.element has
  where
    go : {T : Type 0} (element : Option T) → not (is_none element) ≡ true → first_reason (reason_if (is_none element) Empty ∷ []) ≡ None
    go None has = absurd (cc)
    go (Some v) has = refl

pub stands_there : (e : ElemKind) (h : Holder (ElementOf e)) (at : Mark) → (element_value (of_holder e h) at).reason ≡ None →
    holds_element (of_holder e h) ≡ true
stands_there e h at none = ap not (some_there h.element [] none)

-- Replies

none_stays : {T : Type 0} (source : Source (Holder T)) (reason : Option Reason) (after : Option (Holder T)) → after ≡ None →
    HolderSourceStays source reason after
none_stays without reason after e = e
none_stays itself reason after e = e
none_stays (another s args) reason after e = rw e tt

alone : {T : Type 0} (h : Holder T) (source : Source (Holder T)) (r : Reply (Holder T)) → r.source ≡ None → HolderStays h r.reason r.after →
    HolderReplyStays h source r
alone h source r e stays = record { target = stays; source_stays = none_stays source r.reason r.source e }

by_source_stays : {T : Type 0} (h : Holder T) (source : Source (Holder T)) (own : Reply (Holder T))
    (two : Holder T → Arguments → Reply (Holder T)) → own.source ≡ None → HolderStays h own.reason own.after →
    ((s : Holder T) (args : Arguments) → HolderReplyStays h (another s args) (two s args)) → HolderReplyStays h source (by_source source own two)
by_source_stays h without own two e stays each = alone h without own e stays
by_source_stays h itself own two e stays each = alone h itself own e stays
by_source_stays h (another s args) own two e stays each = each s args

module _ {T : Type 0} (tools : Tools T) (h : Holder T) (source : Source (Holder T)) (args : Arguments) where
  alone_stays : (c : HolderCall) → HolderReplyStays h source (holder_alone_reply tools h source args c)
  alone_stays holder_call.IsEmpty = alone h source _ refl (holder_same h _)
  alone_stays holder_call.Element = alone h source _ refl (holder_same h _)
  alone_stays holder_call.ReplaceElement =
      let element = Some (tools.from_value args.first.value) in
      alone h source _ refl (changed h _ element (first_none (tampers h) (fits tools.size h element ∷ [])))
  alone_stays holder_call.Clear = alone h source _ refl (changed h _ None (first_none (tampers h) []))
  alone_stays holder_call.Assign =
      by_source_stays h source _ _ refl (holder_same h _)
      (λ s seen. alone h (another s seen) (changes_ok (holder.assign_call tools.size h s)) refl
      (changed h _ s.element (first_none (tampers h) (fits tools.size h s.element ∷ []))))
  alone_stays holder_call.MoveFrom =
      by_source_stays h source _ _ refl (holder_same h _)
      (λ s seen. record {
        target = changed h _ s.element (first_none (tampers h) (tampers s ∷ fits tools.size h s.element ∷ []));
        source_stays = changed s _ None (second_none (tampers h) (tampers s) (fits tools.size h s.element ∷ []));
      })
  alone_stays holder_call.Swap =
      by_source_stays h source _ _ refl (holder_same h _)
      (λ s seen.
      let limits = fits tools.size h s.element ∷ fits tools.size s h.element ∷ [] in
      record {
        target = changed h _ s.element (first_none (tampers h) (tampers s ∷ limits));
        source_stays = changed s _ h.element (second_none (tampers h) (tampers s) limits);
      })
  alone_stays holder_call.Equal = alone h source _ refl (holder_same h _)
  alone_stays holder_call.Print = alone h source _ refl (holder_same h _)

  pub holder_stays : (op : Operation) → HolderReplyStays h source (holder_reply tools h source args op)
  holder_stays (operation.Holder c) = alone_stays c
  holder_stays _ = alone h source _ refl (holder_same h _)

-- the source that was found

itself_or : {T : Type 0} (s : Holder T) (args : Arguments) (b : Bool) (reason : Option Reason) (after : Option (Holder T)) →
    HolderSourceStays (if b then itself else another s args) reason after → (t : Holder T) → after ≡ Some t → HolderStays s reason t
itself_or s args true reason after stays t f = none_some t (sym stays ∙ f)
itself_or s args false reason None stays t f = none_some t f
itself_or s args false reason (Some u) stays t f = let p : u ≡ t = cc in subst (λ x. HolderStays s reason x) p stays

pub another_holder_stays : {T : Type 0} (h : Holder T) (found : Option (Holder T)) (args : Arguments) (reason : Option Reason) (after : Option (Holder T)) →
    HolderSourceStays (holder_source h found args) reason after → (t : Holder T) → after ≡ Some t →
    (s : Holder T) × (found ≡ Some s) × HolderStays s reason t
another_holder_stays h None args reason after stays t f = none_some t (sym stays ∙ f)
another_holder_stays h (Some s) args reason after stays t f = (s, refl, itself_or s args (h.number == s.number) reason after stays t f)
