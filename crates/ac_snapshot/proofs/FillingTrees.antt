-- Each call that fills a tree puts a row more.
use Rattle.std.proofs.Common.{◌≡◌, ◌==◌, ◌+◌, ◌-◌, ◌≤◌, ◌<◌, ℕ, zero, suc, pos, Bool, true, false, not, ◌&&◌, List, [], ◌∷◌, ◌++◌, length, take, map, refl, ap, sym, ◌∙◌, subst, arith, Option, Some, None, if◌then◌else◌}
use Rattle.std.specs.Prelude.{slice_get, nat_lt, nat_le}
use Rattle.std.specs.List.{list_all}
use Rattle.std.proofs.lemmas.Bool.{false≢true, and_parts, leb-true, not-true}
use Rattle.std.proofs.lemmas.Bool.Decides.{nat_tests}
use Rattle.std.proofs.lemmas.List.{map-append, length-map, length-append}
use Rattle.ac_base.specs.declared.limit.Limit.{Limit}
use Rattle.ac_base.specs.declared.limit.Limit.TheVariants.{Unbounded, Bounded}
use Rattle.ac_base.specs.declared.limit.TheConstants.{GREATEST_LENGTH}
use Rattle.ac_base.specs.declared.reason.Reason.{Reason}
use Rattle.ac_base.specs.declared.reason.Reason.TheVariants.{DeadCursor, LengthRange, CapacityFull, NamesSpent}
use Rattle.ac_base.specs.FirstReason.{first_reason, AllNone}
use Rattle.ac_base.specs.Limits.{is_past, numbers_end}
use Rattle.ac_model.specs.Rows.{Node, node, fresh, put}
use Rattle.ac_model.specs.Objects.{Object, capacity_after}
use Rattle.ac_model.specs.Letters.{Mark, no_mark, mark_at, stale_mark, reason_if, judged_in, in_range, room, tampers_cursors}
use Rattle.ac_model.specs.Calls.{Call}
use Rattle.ac_model.specs.Outline.{follows, depth_of}
use Rattle.ac_model.specs.Trees as tree
use Rattle.ac_model.proofs.Lengths.{length-fresh}
use Rattle.ac_model.proofs.Depths.{ends, first_of, follows_front, follows_back}
use Rattle.ac_rules.specs.Rules.{is_type}
use Rattle.ac_syntax.specs.declared.kind.ElemKind.{ElemKind}
use Rattle.ac_syntax.specs.declared.kind.Kind.{Kind}
use Rattle.ac_syntax.specs.declared.kind.Kind.TheVariants as kinds
use Rattle.ac_syntax.specs.declared.type_def.TypeDef.{TypeDef}
use Rattle.ac_calls.specs.Elements.{ElementOf, tools_of}
use Rattle.ac_calls.specs.Holdings.{a_tree, Held, of_rows, new_held, limit_by, reply_of}
use Rattle.ac_calls.specs.Replies.{Reply, carried, changes_variable, placed}
use Rattle.ac_calls.specs.declared.plains.PlainRow.{PlainRow}
use Rattle.ac_snapshot.specs.Filled.{filled, fill_operation, child_arguments}
use Rattle.ac_snapshot.specs.FillTrees.{path_from, path_of, FillsTrees}
use Rattle.ac_snapshot.specs.RowValidity.{is_tree, is_given, is_row_of, are_rows_of, are_within, are_lined_up, are_valid_rows}
use Rattle.ac_snapshot.specs.RowValues.{row_kind, row_value, row_values, element_in}
use Rattle.ac_snapshot.specs.Validity.{is_step, is_limit_of, is_capacity_of, is_peak_of, is_valid_object}
use Rattle.ac_snapshot.proofs.PathsOfOutlines.{IsOpen, outline_path, path_pushed, path_below}
use Rattle.ac_snapshot.proofs.FreshNodes.{fresh_is_node, depth_of_open, open_to_end, put_at_end, fresh_pushed}

-- No reason refuses the call

none_first : (found : List (Option Reason)) → AllNone found → first_reason found ≡ None
none_first [] h = refl
none_first (a ∷ others) h = rw h.0 (none_first others h.1)

no_reason : (test : Bool) (reason : Reason) → test ≡ false → reason_if test reason ≡ None
no_reason true reason h = cc
no_reason false reason h = refl

judged_own : (number : ℕ) (there : Bool) → there ≡ true → judged_in number number there ≡ None
judged_own number there h =
    let own : (number == number) ≡ true = grind (arith, nat_tests) in
    rw own (no_reason (not there) DeadCursor (ap not h))

not_past : (limit : Limit) (m n : ℕ) → m ≤ n → is_past limit n ≡ false → is_past limit m ≡ false
not_past Unbounded m n le h = refl
not_past (Bounded most) m n le h = grind (arith, nat_tests)

seen_case : (own there : Bool) (number name : ℕ) → there ≡ true → (if own && not there then stale_mark number else mark_at number name) ≡ mark_at number name
seen_case true true number name h = refl
seen_case false true number name h = refl
seen_case own false number name h = absurd (false≢true h)

no_capacity : (limit : Limit) (need : ℕ) → capacity_after limit None need ≡ None
no_capacity Unbounded need = refl
no_capacity (Bounded most) need = refl

-- The call on a tree that was filled with these nodes

abbrev tree_of : {T : Type 0} → ℕ → Limit → (next : ℕ) → List (Node T) → Object ℕ (Node T)
tree_of number limit next vs = record {
  number = number;
  limit = limit;
  capacity = None;
  next = next;
  rows = fresh 1 vs;
  cursor_guards = 0;
  element_guards = 0;
}

abbrev child_call : {T : Type 0} → Object ℕ (Node T) → Mark → T → Call (Object ℕ (Node T)) Mark
child_call o parent element = tree.insert_child_pos_call o parent no_mark element (pos 1)

module _ {T : Type 0} (number : ℕ) (limit : Limit) (next : ℕ) (vs : List (Node T)) (numbered : next ≡ 1 + length vs) (k parent : ℕ) (o : IsOpen (map (λ v. v.depth) vs) k parent) (element : T) where
  is_there : parent ≤ length vs
  is_there = let within = o.within in omega (arith, length-map vs (λ (v : Node T). v.depth))

  seen_as_itself : tree.seen_in_tree (tree_of number limit next vs) (mark_at number parent) ≡ mark_at number parent
  seen_as_itself = seen_case (number == number) (tree.is_node (tree_of number limit next vs) parent) number parent (fresh_is_node vs parent is_there)

  not_refused : length vs + 1 ≤ GREATEST_LENGTH → is_past limit (length vs + 1) ≡ false → (child_call (tree_of number limit next vs) (mark_at number parent) element).reason ≡ None
  not_refused short fits =
      let now : Object ℕ (Node T) = tree_of number limit next vs in
      let parents = mark_at number parent in
      let long : length (fresh 1 vs) ≡ length vs = length-fresh 1 vs in
      let within : nat_lt GREATEST_LENGTH (length (fresh 1 vs) + 1) ≡ false = rw long (grind (arith, nat_tests)) in
      let under : is_past limit (length (fresh 1 vs) + 1) ≡ false = rw long fits in
      let left : nat_lt numbers_end (next + 1) ≡ false = grind (arith, nat_tests) in
      let there = judged_own number (tree.is_node now parent) (fresh_is_node vs parent is_there) in
      let no_length = no_reason (nat_lt GREATEST_LENGTH (length (fresh 1 vs) + 1)) LengthRange within in
      let not_full = no_reason (is_past limit (length (fresh 1 vs) + 1)) CapacityFull under in
      let named = no_reason (nat_lt numbers_end (next + 1)) NamesSpent left in
      none_first
      (tampers_cursors now ∷ tree.needs_node now parents ∷ tree.may_node now no_mark ∷ tree.child_or_none now parents no_mark ∷ in_range (pos 1)
      ∷ room now (length (fresh 1 vs) + 1) 1)
      (refl, (there, (refl, (refl, (refl, (no_length, (not_full, (named, tt))))))))

  one_more : (child_call (tree_of number limit next vs) (mark_at number parent) element).after ≡ tree_of number limit (next + 1) (vs ++ node (k + 2) element ∷ [])
  one_more =
      let depth : depth_of (fresh 1 vs) parent + 1 ≡ k + 2 = let d = depth_of_open vs k parent o in omega arith in
      let made = fresh next (node (depth_of (fresh 1 vs) parent + 1) element ∷ []) in
      let place = tree.child_place (fresh 1 vs) (mark_at number parent) no_mark in
      let rows = put_at_end (fresh 1 vs) made place (open_to_end vs k parent o)
      ∙ ap (λ d. fresh 1 vs ++ fresh next (node d element ∷ [])) depth
      ∙ sym (fresh_pushed vs 1 next (node (k + 2) element) numbered) in
      λ i. record {
        number = number;
        limit = limit;
        capacity = no_capacity limit (length (put (fresh 1 vs) place made)) i;
        next = next + 1;
        rows = rows i;
        cursor_guards = 0;
        element_guards = 0;
      }

-- Which rows are valid

record Parts (def : TypeDef) (limit capacity : Option ℕ) (rows : List PlainRow) : Type 0 where
  capacity_of : is_capacity_of def rows capacity ≡ true
  short : length rows ≤ GREATEST_LENGTH
  within : are_within def limit rows ≡ true
  are_rows : are_rows_of (row_kind def) (row_values (row_kind def) rows) ≡ true

parts_of : (def : TypeDef) (limit capacity peak : Option ℕ) (rows : List PlainRow) → is_valid_object def limit capacity peak rows ≡ true → Parts def limit capacity rows
parts_of def limit capacity peak rows h =
    let valid = are_valid_rows def limit rows in
    let last = are_rows_of (row_kind def) (row_values (row_kind def) rows) && are_lined_up def rows in
    let a = and_parts (is_type def) (is_limit_of def limit && (is_capacity_of def rows capacity && (is_peak_of def limit rows peak && valid))) h in
    let b = and_parts (is_limit_of def limit) (is_capacity_of def rows capacity && (is_peak_of def limit rows peak && valid)) a.1 in
    let c = and_parts (is_capacity_of def rows capacity) (is_peak_of def limit rows peak && valid) b.1 in
    let d = and_parts (is_peak_of def limit rows peak) valid c.1 in
    let e = and_parts (list_all (is_row_of def) rows) (nat_le (length rows) GREATEST_LENGTH && (are_within def limit rows && last)) d.1 in
    let f = and_parts (nat_le (length rows) GREATEST_LENGTH) (are_within def limit rows && last) e.1 in
    let g = and_parts (are_within def limit rows) last f.1 in
    let i = and_parts (are_rows_of (row_kind def) (row_values (row_kind def) rows)) (are_lined_up def rows) g.1 in
    record { capacity_of = c.0; short = leb-true (length rows) GREATEST_LENGTH f.0; within = g.0; are_rows = i.0 }

none_wanted : (bounded : Bool) (test : ℕ → Bool) (capacity : Option ℕ) → is_given (not bounded && false) test capacity ≡ true → capacity ≡ None
none_wanted bounded test None h = refl
none_wanted true test (Some c) h = absurd (false≢true h)
none_wanted false test (Some c) h = absurd (false≢true h)

node_depths : (e : ElemKind) (rows : List PlainRow) → map (λ n. n.depth) (row_values (a_tree e) rows) ≡ map (λ r. r.depth) rows
node_depths e [] = refl
node_depths e (r ∷ rows) = ap (λ ds. r.depth ∷ ds) (node_depths e rows)

-- Each row

abbrev PutsRow : (after : Held) → Reply Held → (number name : ℕ) → Type 0
PutsRow after reply number name =
    (reply.stalls ≡ false) × (reply.reason ≡ None) × (reply.after ≡ after) × (reply.variable ≡ placed 3 (mark_at number name))

abbrev Puts : TypeDef → (number : ℕ) → (limit capacity : Option ℕ) → (before : List PlainRow) → PlainRow → Type 0
Puts def number limit capacity before r =
    let h = new_held def number limit in
    (2 ≤ r.depth) × (r.depth ≤ length (path_of before) + 1) ×
    ((parent : ℕ) → slice_get (path_of before) (r.depth - 2) ≡ Some parent →
    PutsRow (filled h capacity (Some (length before + 1)) (before ++ r ∷ []))
    (reply_of (filled h capacity (Some (length before)) before) None (fill_operation h) (child_arguments (mark_at number parent) r.value))
    number (length before + 1))

puts_row : (bounded : Bool) (e : ElemKind) (second : Option ElemKind) (keyed : Bool) (number : ℕ) (limit : Option ℕ) (before : List PlainRow) (r : PlainRow) (later : List PlainRow) →
    length (before ++ r ∷ later) ≤ GREATEST_LENGTH → is_past (limit_by limit) (length (before ++ r ∷ later)) ≡ false → 2 ≤ r.depth →
    (parent : ℕ) → IsOpen (map (λ q. q.depth) before) (r.depth - 2) parent →
    let h = new_held (record { bounded = bounded; kind = kinds.Tree; first = e; second = second; keyed = keyed }) number limit in
    PutsRow (filled h None (Some (length before + 1)) (before ++ r ∷ []))
    (reply_of (filled h None (Some (length before)) before) None (fill_operation h) (child_arguments (mark_at number parent) r.value))
    number (length before + 1)
puts_row bounded e second keyed number limit before r later short fits two parent is_open =
    let vs : List (Node (ElementOf e)) = row_values (a_tree e) before in
    let k : ℕ = r.depth - 2 in
    let most : Limit = limit_by limit in
    let next : ℕ = 1 + length before in
    let element : ElementOf e = element_in (tools_of e) r in
    let now : Object ℕ (Node (ElementOf e)) = tree_of number most next vs in
    let after : Object ℕ (Node (ElementOf e)) = tree_of number most (1 + length (before ++ r ∷ [])) (row_values (a_tree e) (before ++ r ∷ [])) in
    let o : IsOpen (map (λ v. v.depth) vs) k parent = subst (λ l. IsOpen l k parent) (sym (node_depths e before)) is_open in
    let long : length vs ≡ length before = length-map before (row_value (a_tree e)) in
    let numbered : next ≡ 1 + length vs = omega arith in
    let longer : length vs + 1 ≤ length (before ++ r ∷ later) = omega (arith, length-append before (r ∷ later)) in
    let short_now : length vs + 1 ≤ GREATEST_LENGTH = omega arith in
    let none = not_refused number most next vs numbered k parent o element short_now (not_past most (length vs + 1) (length (before ++ r ∷ later)) longer fits) in
    let deep : k + 2 ≡ r.depth = omega arith in
    let last : next + 1 ≡ 1 + length (before ++ r ∷ []) = omega (arith, length-append before (r ∷ [])) in
    let nodes : vs ++ node (k + 2) element ∷ [] ≡ row_values (a_tree e) (before ++ r ∷ []) =
    ap (λ d. vs ++ node d element ∷ []) deep ∙ sym (map-append (row_value (a_tree e)) before (r ∷ [])) in
    let one : (child_call now (mark_at number parent) element).after ≡ after =
    one_more number most next vs numbered k parent o element ∙ (λ i. tree_of number most (last i) (nodes i)) in
    let named : next ≡ length before + 1 = omega arith in
    subst (λ m. PutsRow (of_rows (a_tree e) after) (carried (of_rows (a_tree e)) (changes_variable 3 (child_call now m element))) number (length before + 1))
    (sym (seen_as_itself number most next vs numbered k parent o element))
    (refl, none, ap (of_rows (a_tree e)) one, ap (λ n. placed 3 (mark_at number n)) named)

in_a_tree : (bounded : Bool) (e : ElemKind) (second : Option ElemKind) (keyed : Bool) (number : ℕ) (limit : Option ℕ) (before : List PlainRow) (r : PlainRow) (later : List PlainRow) →
    length (before ++ r ∷ later) ≤ GREATEST_LENGTH → is_past (limit_by limit) (length (before ++ r ∷ later)) ≡ false →
    follows 1 (map (λ n. n.depth) (row_values (a_tree e) (before ++ r ∷ later))) ≡ true →
    Puts (record { bounded = bounded; kind = kinds.Tree; first = e; second = second; keyed = keyed }) number limit None before r
in_a_tree bounded e second keyed number limit before r later short fits outline =
    let ds : List ℕ = map (λ q. q.depth) before in
    let more : List ℕ = map (λ q. q.depth) later in
    let all : follows 1 (ds ++ r.depth ∷ more) ≡ true =
    subst (λ l. follows 1 l ≡ true) (node_depths e (before ++ r ∷ later) ∙ map-append (λ q. q.depth) before (r ∷ later)) outline in
    let path = outline_path ds (follows_front 1 ds (r.depth ∷ more) all) in
    let next = first_of (ends 1 ds) r.depth more (follows_back 1 ds (r.depth ∷ more) all) in
    let two : 2 ≤ r.depth = next.from in
    let within : r.depth ≤ length (path_of before) + 1 = let most = next.to in let long = path.long in omega arith in
    (two, within, λ parent at. puts_row bounded e second keyed number limit before r later short fits two parent (path.are_open (r.depth - 2) parent at))

of_kind : (bounded : Bool) (kind : Kind) (first : ElemKind) (second : Option ElemKind) (keyed : Bool) (number : ℕ) (limit capacity : Option ℕ) (before : List PlainRow) (r : PlainRow) (later : List PlainRow) →
    let def : TypeDef = record { bounded = bounded; kind = kind; first = first; second = second; keyed = keyed } in
    Parts def limit capacity (before ++ r ∷ later) → is_tree kind ≡ true → Puts def number limit capacity before r
of_kind bounded kinds.Tree first second keyed number limit capacity before r later p t =
    let def : TypeDef = record { bounded = bounded; kind = kinds.Tree; first = first; second = second; keyed = keyed } in
    let none = none_wanted bounded (λ c. is_step c && nat_le (length (before ++ r ∷ later)) c) capacity p.capacity_of in
    subst (λ c. Puts def number limit c before r) (sym none)
    (in_a_tree bounded first second keyed number limit before r later p.short (not-true (is_past (limit_by limit) (length (before ++ r ∷ later))) p.within) p.are_rows)
of_kind bounded _ first second keyed number limit capacity before r later p t = absurd (false≢true t)

puts : (def : TypeDef) (number : ℕ) (limit capacity peak : Option ℕ) (rows : List PlainRow) (before : List PlainRow) (r : PlainRow) (later : List PlainRow) →
    is_valid_object def limit capacity peak rows ≡ true → rows ≡ before ++ r ∷ later → is_tree def.kind ≡ true → Puts def number limit capacity before r
puts def number limit capacity peak rows before r later h is t =
    of_kind def.bounded def.kind def.first def.second def.keyed number limit capacity before r later
    (subst (λ l. Parts def limit capacity l) is (parts_of def limit capacity peak rows h)) t

-- The path

goes_on : (before : List PlainRow) (r : PlainRow) → path_of (before ++ r ∷ []) ≡ take (r.depth - 1) (path_of before) ++ (length before + 1) ∷ []
goes_on before r =
    let ds : List ℕ = map (λ q. q.depth) before in
    let same : 1 + length ds ≡ length before + 1 = omega (arith, length-map before (λ (q : PlainRow). q.depth)) in
    ap (λ l. path_from (0 ∷ []) 1 l) (map-append (λ q. q.depth) before (r ∷ []))
    ∙ path_pushed ds (0 ∷ []) 1 r.depth ∙ ap (λ n. take (r.depth - 1) (path_of before) ++ n ∷ []) same

root_below : (k name : ℕ) → slice_get (0 ∷ []) k ≡ Some name → name < 1
root_below zero name h = let is : 0 ≡ name = cc in omega arith
root_below (suc k) name h = cc

known : (before : List PlainRow) (k name : ℕ) → slice_get (path_of before) k ≡ Some name → name ≤ length before
known before k name h =
    let below = path_below (map (λ q. q.depth) before) (0 ∷ []) 1 root_below k name h in
    omega (arith, length-map before (λ (q : PlainRow). q.depth))

pub trees_filled : FillsTrees
trees_filled = record { begins = refl; puts = puts; goes_on = goes_on; known = known }
