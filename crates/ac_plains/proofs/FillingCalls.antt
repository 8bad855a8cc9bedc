-- Calls on an object in its place that aren't refused and don't wait.
use Rattle.std.proofs.Common.{◌≡◌, inl, inr, arith, ℕ, zero, suc, Bool, true, false, List, [], ◌∷◌, ◌++◌, take, slice_get, refl, sym, ap, subst, ◌∙◌, Option, Some, None, Ok, Err}
use Rattle.std.specs.Prelude.{All}
use Rattle.std.proofs.lemmas.Bool.{true≢false}
use Rattle.ac_base.specs.declared.cursor.Cursor.{Cursor}
use Rattle.ac_base.specs.declared.fault.Fault.TheVariants as fault
use Rattle.ac_base.specs.declared.reason.Reason.{Reason}
use Rattle.ac_model.specs.Cursors.{plain_mark}
use Rattle.ac_model.specs.Letters.{Mark, no_mark, mark_at}
use Rattle.ac_syntax.specs.declared.operation.Operation.TheVariants as operation
use Rattle.ac_syntax.specs.declared.operation.TreeCall.TheVariants as tree_call
use Rattle.ac_calls.specs.Answers.{Answer, answers_ok, answers_value, answers_truth, answers_place}
use Rattle.ac_calls.specs.Holdings.{Held, of_rows, a_tree, number_of, reply_of}
use Rattle.ac_calls.specs.Replies as replies
use Rattle.ac_calls.specs.declared.reply.Placed.{Placed}
use Rattle.ac_calls.specs.declared.reply.Reply.{Reply}
use Rattle.ac_calls.specs.declared.reply.Said.{Said}
use Rattle.ac_calls.specs.declared.reply.Said.TheVariants as said
use Rattle.ac_meaning.specs.Environment.{binds_object, object_at, with_bound}
use Rattle.ac_meaning.proofs.CallsStay.{none_some}
use Rattle.ac_meaning.proofs.Places.{same_some, all_by}
use Rattle.ac_objects.specs.Shown.{Shows}
use Rattle.ac_objects.specs.Steps.{CalledAt, IsCalledAt, SaidKnown, PlacedKnown, placed_of}
use Rattle.ac_objects.specs.World.{World, state_of, IsKnown}
use Rattle.ac_plains.specs.Nodes.{HasTree}
use Rattle.ac_plains.proofs.FillingPlaces.{put_same}

module _ (r : replies.Reply Held) (place : ℕ) (old new : World) where
  pub is_made : (m : Reply) → r.stalls ≡ false → CalledAt r place None old new (Ok m) → IsCalledAt r place None old new m
  is_made m goes (inl c) = c
  is_made m goes (inr c) = absurd (true≢false (sym c.stalls.waits ∙ goes))

  pub not_raised : (reason : Reason) → r.reason ≡ None → CalledAt r place None old new (Err (fault.Raised reason)) → ⊥
  not_raised reason none h = none_some reason (sym none ∙ h.0)

  pub leaves : (m : Reply) → r.stalls ≡ false → CalledAt r place None old new (Ok m) →
      state_of new ≡ with_bound (state_of old) place (binds_object r.after)
  leaves m goes h = let c : IsCalledAt r place None old new m = is_made m goes h in c.after

-- The cursor that a call sets

mark_in : Option replies.Placed → Mark
mark_in None = no_mark
mark_in (Some p) = p.mark

pub placed_mark : (variable : Option replies.Placed) (set : Option Placed) (p : Placed) (place : ℕ) (next : Mark) → set ≡ Some p → variable ≡ placed_of set →
    variable ≡ replies.placed place next → plain_mark p.cursor ≡ next
unfolding mark_in
placed_mark variable set p place next is of put = ap mark_in (sym (ap placed_of is)) ∙ (ap mark_in (sym of) ∙ ap mark_in put)

pub none_placed : (variable : Option replies.Placed) (set : Option Placed) (place : ℕ) (next : Mark) → set ≡ None → variable ≡ placed_of set →
    variable ≡ replies.placed place next → ⊥
none_placed variable set place next is of put = none_some _ (sym (ap placed_of is) ∙ (sym of ∙ put))

pub placed_known : (w : World) (set : Option Placed) (p : Placed) → set ≡ Some p → PlacedKnown w set → IsKnown w p.cursor
placed_known w set p is known = subst (λ x. PlacedKnown w x) is known

-- a path cut, with one more at its end
pushed : {A : Type 0} (P Q : A → Type 0) → ((x : A) → P x → Q x) → (c : A) → Q c → (xs : List A) (n : ℕ) → All P xs → (k : ℕ) (x : A) →
    slice_get (take n xs ++ c ∷ []) k ≡ Some x → Q x
pushed P Q g c q [] zero h zero x e = subst Q (same_some c x e) q
pushed P Q g c q [] zero h (suc k) x e = none_some x e
pushed P Q g c q [] (suc n) h zero x e = subst Q (same_some c x e) q
pushed P Q g c q [] (suc n) h (suc k) x e = none_some x e
pushed P Q g c q (y ∷ xs) zero h zero x e = subst Q (same_some c x e) q
pushed P Q g c q (y ∷ xs) zero h (suc k) x e = none_some x e
pushed P Q g c q (y ∷ xs) (suc n) h zero x e = g x (subst P (same_some y x e) (h 0 y (omega arith)))
pushed P Q g c q (y ∷ xs) (suc n) h (suc k) x e = pushed P Q g c q xs n (λ i d l. h (suc i) d (omega (arith, l))) k x e

pub all_pushed : {A : Type 0} (P Q : A → Type 0) → ((x : A) → P x → Q x) → (c : A) → Q c → (xs : List A) (n : ℕ) → All P xs → All Q (take n xs ++ c ∷ [])
all_pushed P Q g c q xs n h = all_by Q (take n xs ++ c ∷ []) (pushed P Q g c q xs n h)

-- Root

place_in : Answer → Mark
place_in answers_ok = no_mark
place_in (answers_value v) = no_mark
place_in (answers_truth b) = no_mark
place_in (answers_place mark) = mark
place_in _ = no_mark

is_place : Answer → Bool
is_place (answers_place mark) = true
is_place _ = false

module _ (place : ℕ) (old new : World) (t : HasTree (state_of old) place) (args : replies.Arguments) (m : Reply) where
  abbrev tree : Held
  tree = of_rows (a_tree t.elements) t.tree

  abbrev root : replies.Reply Held
  root = reply_of tree None (operation.Tree tree_call.Root) args

  module _ (called : CalledAt root place None old new (Ok m)) where
    made : IsCalledAt root place None old new m
    made = is_made root place old new m refl called

    pub root_stays : state_of new ≡ state_of old
    root_stays = made.after ∙ put_same (state_of old) place tree t.there

    pub root_marked : (c : Cursor) → m.said ≡ said.Place c → (h : Held) → object_at (state_of old) place ≡ Some h → plain_mark c ≡ mark_at (number_of h) 0
    unfolding place_in
    root_marked c is h there =
        let shows = subst (λ s. Shows (state_of new) place s root.answer) is made.says in
        sym (ap place_in shows) ∙ ap (λ x. mark_at (number_of x) 0) (same_some tree h (sym t.there ∙ there))

    pub root_known : (c : Cursor) → m.said ≡ said.Place c → IsKnown new c
    root_known c is = subst (λ s. SaidKnown new s) is made.said_known

    not_shown : (s : Said) → Shows (state_of new) place s root.answer → ((c : Cursor) → s ≡ said.Place c → ⊥) → ⊥
    unfolding is_place
    not_shown said.Done shows other = true≢false (ap is_place shows)
    not_shown (said.Value v) shows other = true≢false (ap is_place shows)
    not_shown (said.Truth b) shows other = true≢false (ap is_place shows)
    not_shown (said.Place c) shows other = other c refl
    not_shown said.Listing shows other = true≢false (ap is_place shows.2)
    not_shown said.Stalled shows other = true≢false (ap is_place shows)

    pub root_is_said : ((c : Cursor) → m.said ≡ said.Place c → ⊥) → ⊥
    root_is_said other = not_shown m.said made.says other
