-- The call that puts a node behind the last child of its parent, and the path that goes on to it.
use Rattle.std.proofs.Common.{◌≡◌, ◌+◌, ◌-◌, ◌≤◌, arith, ℕ, List, [], ◌∷◌, ◌++◌, length, map, take, get_or, slice_get, sym, ap, subst, ◌∙◌, option_map, Some, None, Ok, Err}
use Rattle.std.specs.Prelude.{All}
use Rattle.std.proofs.lemmas.List.{length-take-le, get_or-take, length-map, map-append}
use Rattle.ac_base.specs.declared.cursor.Cursor.{Cursor}
use Rattle.ac_base.specs.declared.fault.Fault.TheVariants as fault
use Rattle.ac_base.specs.declared.reason.Reason.{Reason}
use Rattle.ac_model.specs.Cursors.{plain_mark}
use Rattle.ac_model.specs.Letters.{Mark, mark_at}
use Rattle.ac_syntax.specs.declared.kind.Kind.TheVariants as kinds
use Rattle.ac_calls.specs.Holdings.{Held, number_of, reply_of}
use Rattle.ac_calls.specs.Replies as replies
use Rattle.ac_calls.specs.declared.plains.PlainRow.{PlainRow}
use Rattle.ac_calls.specs.declared.reply.Placed.{Placed}
use Rattle.ac_calls.specs.declared.reply.Reply.{Reply}
use Rattle.ac_meaning.specs.Environment.{State, binds_object, object_at, with_bound}
use Rattle.ac_meaning.proofs.Places.{same_some, all_at, get_read, map_get}
use Rattle.ac_objects.specs.Steps.{CalledAt, IsCalledAt}
use Rattle.ac_objects.specs.World.{World, state_of, IsKnown, Persists}
use Rattle.ac_snapshot.specs.Filled.{child_arguments}
use Rattle.ac_plains.specs.Filling.{IsToFill}
use Rattle.ac_plains.specs.Nodes.{NodePut, IsNextNode, put_child}
use Rattle.ac_plains.proofs.FillingCalls.{is_made, not_raised, placed_mark, none_placed, placed_known, all_pushed}
use Rattle.ac_plains.proofs.FillingNodes.{mapped_take, marks, numbered}
use Rattle.ac_plains.proofs.FillingRows.{held_with}

-- The parent: the last on the path that is left

module _ (path cut : List Cursor) (depth len : ℕ) (parent : Cursor) (deep : 2 ≤ depth) (below : depth ≤ length (map plain_mark path) + 1) (is : cut ≡ take (depth - 1) path) (long : len ≡ length cut) (at : parent ≡ get_or cut (len - 1) parent) where
  within : depth - 1 ≤ length path
  within = omega (arith, length-map path plain_mark)

  pub cut_long : length cut ≡ depth - 1
  cut_long = ap length is ∙ length-take-le (depth - 1) path within

  last : len - 1 ≡ depth - 2
  last = let cut_is = cut_long in omega arith

  parent_there : slice_get path (depth - 2) ≡ Some parent
  parent_there =
      let read : get_or path (depth - 2) parent ≡ parent =
      sym (get_or-take (depth - 1) path (depth - 2) parent (omega arith)) ∙ (ap (λ l. get_or l (depth - 2) parent) (sym is)
      ∙ (ap (λ i. get_or cut i parent) (sym last) ∙ sym at)) in
      get_read path (depth - 2) parent (let w = within in omega arith) ∙ ap (λ c. Some c) read

  pub parent_marked : slice_get (map plain_mark path) (depth - 2) ≡ Some (plain_mark parent)
  parent_marked = map_get plain_mark path (depth - 2) ∙ ap (option_map plain_mark) parent_there

  pub parent_known : (P : Cursor → Type 0) → All P path → P parent
  parent_known P known = all_at P path (depth - 2) parent known parent_there

-- The path at first

module _ (path : List Cursor) (root : Cursor) (is : path ≡ root ∷ []) where
  pub root_alone : (P : Cursor → Type 0) → P root → All P path
  root_alone P known = subst (λ l. All P l) (sym is) (all_pushed P P (λ x h. h) root known [] 0 (λ k d l. absurd (omega (arith, l))))

  pub path_begins : {rows : List PlainRow} {e : State} {place : ℕ} (f : IsToFill kinds.Tree rows e place) →
      ((h : Held) → object_at e place ≡ Some h → plain_mark root ≡ mark_at (number_of h) 0) → map plain_mark path ≡ marks f 0
  path_begins f at_root =
      ap (map plain_mark) is
      ∙ ap (λ m. m ∷ []) (at_root (held_with f 0 []) f.there ∙ ap (λ n. mark_at n 0) (numbered f (held_with f 0 []) f.there))

-- The call

module _ (row : PlainRow) (place : ℕ) (old new : World) (path : List Cursor) (parent : Cursor) (args : replies.Arguments) (next : Mark) (n : IsNextNode row (map plain_mark path) next (state_of old) place) (at : slice_get (map plain_mark path) (row.depth - 2) ≡ Some (plain_mark parent)) (put : args ≡ child_arguments (plain_mark parent) row.value) where
  abbrev pub child_reply : replies.Reply Held
  child_reply = reply_of n.held None put_child args

  goes_on : NodePut child_reply next
  goes_on = subst (λ a. NodePut (reply_of n.held None put_child a) next) (sym put) (n.goes (plain_mark parent) at)

  pub child_allowed : (reason : Reason) → CalledAt child_reply place None old new (Err (fault.Raised reason)) → ⊥
  child_allowed reason called = let g = goes_on in not_raised child_reply place old new reason g.allowed called

  module _ (m : Reply) (called : CalledAt child_reply place None old new (Ok m)) where
    made : IsCalledAt child_reply place None old new m
    made = let g = goes_on in is_made child_reply place old new m g.goes called

    pub child_placed : m.variable ≡ None → ⊥
    child_placed none = let g = goes_on in let made_so = made in none_placed child_reply.variable m.variable 3 next none made_so.variable g.position

    pub child_put : (h : Held) (above : Mark) → object_at (state_of old) place ≡ Some h → slice_get (map plain_mark path) (row.depth - 2) ≡ Some above →
        state_of new ≡ with_bound (state_of old) place (binds_object (reply_of h None put_child (child_arguments above row.value)).after)
    child_put h above there found =
        let made_so = made in
        let same : n.held ≡ h = same_some n.held h (sym n.there ∙ there) in
        let mark : plain_mark parent ≡ above = same_some (plain_mark parent) above (sym at ∙ found) in
        made_so.after
        ∙ (ap (λ a. with_bound (state_of old) place (binds_object (reply_of n.held None put_child a).after)) put
        ∙ (λ i. with_bound (state_of old) place (binds_object (reply_of (same i) None put_child (child_arguments (mark i) row.value)).after)))

    module _ (p : Placed) (is : m.variable ≡ Some p) where
      pub child_path : (now : List Cursor) → now ≡ take (row.depth - 1) path ++ p.cursor ∷ [] →
          map plain_mark now ≡ take (row.depth - 1) (map plain_mark path) ++ next ∷ []
      child_path now pushed =
          let g = goes_on in
          let made_so = made in
          let marked = placed_mark child_reply.variable m.variable p 3 next is made_so.variable g.position in
          ap (map plain_mark) pushed
          ∙ (map-append plain_mark (take (row.depth - 1) path) (p.cursor ∷ [])
          ∙ (λ i. sym (mapped_take plain_mark (row.depth - 1) path) i ++ marked i ∷ []))

      pub child_known : Persists old new → All (IsKnown old) path → (now : List Cursor) → now ≡ take (row.depth - 1) path ++ p.cursor ∷ [] → All (IsKnown new) now
      child_known persists known now pushed =
          let made_so = made in
          subst (λ l. All (IsKnown new) l) (sym pushed)
          (all_pushed (IsKnown old) (IsKnown new) persists p.cursor (placed_known new m.variable p is made_so.placed_known) path (row.depth - 1) known)
