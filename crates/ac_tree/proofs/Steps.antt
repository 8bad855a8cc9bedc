-- Reasons of cursors and guards come before a tree's own conditions.
use Rattle.std.proofs.Common.{◌≡◌, ◌≤◌, ◌+◌, ℕ, ℤ, pos, negsuc, length, Bool, true, false, true≢false, not, [], ◌∷◌, Option, Some, None, is_some, refl, sym, ap, ◌∙◌, arith}
use Rattle.std.specs.Prelude.{◌==◌, nat_lt, if◌then◌else◌, IfSome}
use Rattle.std.proofs.lemmas.Bool.{cond-false, le-ltb}
use Rattle.ac_base.specs.declared.reason.Reason.{Reason}
use Rattle.ac_base.specs.declared.reason.Reason.TheVariants.{CursorTampering, ElementTampering, ForeignCursor, DeadCursor, RootNode, RootSource, BelowItself, NotChild, NotLeaf, LengthRange, CapacityFull, NamesSpent}
use Rattle.ac_base.specs.Limits.{is_past, numbers_end}
use Rattle.ac_base.specs.declared.limit.TheConstants.{GREATEST_LENGTH}
use Rattle.ac_base.specs.FirstReason.{first_reason, earlier, step_of}
use Rattle.ac_model.specs.Objects.{Object, length_of}
use Rattle.ac_model.specs.Letters.{Mark, no_mark, mark_at, stale_mark, judged_in, reason_if, in_range, room, count_of, tampers_cursors}
use Rattle.ac_model.specs.Sequences.{room_for_copies}
use Rattle.ac_model.specs.Trees.{is_node, needs_node, may_node, needs_element, is_root}

abbrev pub Early : Option Reason → Type 0
Early a = IfSome a (λ r. step_of r ≤ 5)

abbrev pub Late : Option Reason → Type 0
Late a = IfSome a (λ r. 6 ≤ step_of r)

-- the first of two that is there
abbrev pub or_else : Option Reason → Option Reason → Option Reason
or_else None b = b
or_else (Some r) b = Some r

both_by : (P : Reason → Type 0) (a b : Option Reason) → IfSome a P → IfSome b P → IfSome (earlier a b) P
both_by P None b p q = q
both_by P (Some r) None p q = p
both_by P (Some r) (Some s) p q = chosen (nat_lt (step_of s) (step_of r))
  where
    chosen : (t : Bool) → IfSome (if t then Some s else Some r) P
    chosen true = q
    chosen false = p

pub absorbed : (x p late : Option Reason) → Early x → Late late → earlier x (or_else p late) ≡ or_else (earlier x p) late
absorbed None p late e l = refl
absorbed (Some r) None None e l = refl
absorbed (Some r) None (Some q) e l = cond-false _ _ _ (le-ltb (step_of q) (step_of r) (omega (arith, e, l)))
absorbed (Some r) (Some s) late e l = chosen (nat_lt (step_of s) (step_of r))
  where
    chosen : (t : Bool) → (if t then Some s else Some r) ≡ or_else (if t then Some s else Some r) late
    chosen true = refl
    chosen false = refl

reason_by : (P : Reason → Type 0) (t : Bool) (r : Reason) → P r → IfSome (reason_if t r) P
reason_by P true r p = p
reason_by P false r p = tt

pub tampers_early : {V : Type 0} (o : Object ℕ V) → Early (tampers_cursors o)
tampers_early o = by_tests (nat_lt 0 o.cursor_guards) (nat_lt 0 o.element_guards)
  where
    by_tests : (a b : Bool) → Early (if a then Some CursorTampering else if b then Some ElementTampering else None)
    by_tests true b = omega arith
    by_tests false true = omega arith
    by_tests false false = tt

judged_early : (number object : ℕ) (there : Bool) → Early (judged_in number object there)
judged_early number object there = by_tests (object == number) there
  where
    by_tests : (a b : Bool) → Early (if a then reason_if (not b) DeadCursor else Some ForeignCursor)
    by_tests false b = omega arith
    by_tests true true = tt
    by_tests true false = omega arith

pub needs_early : {V : Type 0} (o : Object ℕ V) (m : Mark) → Early (needs_node o m)
needs_early o no_mark = omega arith
needs_early o (mark_at object name) = judged_early o.number object (is_node o name)
needs_early o (stale_mark object) = judged_early o.number object false

pub may_early : {V : Type 0} (o : Object ℕ V) (m : Mark) → Early (may_node o m)
may_early o no_mark = tt
may_early o (mark_at object name) = judged_early o.number object (is_node o name)
may_early o (stale_mark object) = judged_early o.number object false

range_late : (n : ℤ) → Late (in_range n)
range_late (pos n) = reason_by (λ r. 6 ≤ step_of r) (nat_lt GREATEST_LENGTH n) LengthRange (omega arith)
range_late (negsuc n) = omega arith

room_late : {V : Type 0} (o : Object ℕ V) (length more : ℕ) → Late (first_reason (room o length more))
room_late o length more =
    let late : Reason → Type 0 = λ r. 6 ≤ step_of r in
    both_by late (reason_if (nat_lt GREATEST_LENGTH length) LengthRange) _ (reason_by late (nat_lt GREATEST_LENGTH length) LengthRange (omega arith))
    (both_by late (reason_if (is_past o.limit length) CapacityFull) _ (reason_by late (is_past o.limit length) CapacityFull (omega arith))
    (both_by late (reason_if (nat_lt numbers_end (o.next + more)) NamesSpent) None (reason_by late (nat_lt numbers_end (o.next + more)) NamesSpent (omega arith)) tt))

-- why children are refused, once their place isn't
pub late_child : {V : Type 0} (o : Object ℕ V) (t : Bool) (n : ℤ) → Late (first_reason (reason_if t NotChild ∷ room_for_copies o n))
late_child o t n =
    let late : Reason → Type 0 = λ r. 6 ≤ step_of r in
    both_by late (reason_if t NotChild) (first_reason (room_for_copies o n)) (reason_by late t NotChild (omega arith))
    (both_by late (in_range n) (first_reason (room o (length_of o + count_of n) (count_of n))) (range_late n) (room_late o (length_of o + count_of n) (count_of n)))

pub three_first : (a b c late : Option Reason) → Early a → Early b → Early c → Late late → earlier a (earlier b (earlier c late)) ≡ or_else (first_reason (a ∷ b ∷ c ∷ [])) late
three_first a b c late ea eb ec l =
    ap (λ z. earlier a (earlier b z)) (absorbed c None late ec l)
    ∙ ap (earlier a) (absorbed b (earlier c None) late eb l)
    ∙ absorbed a (earlier b (earlier c None)) late ea l

-- where there is a first reason it is the one, and else the later one
pub or_else_some : (a late : Option Reason) → is_some a ≡ true → a ≡ or_else a late
or_else_some None late e = absurd (true≢false (sym e))
or_else_some (Some r) late e = refl

pub or_else_none : (a late : Option Reason) → is_some a ≡ false → late ≡ or_else a late
or_else_none None late e = refl
or_else_none (Some r) late e = absurd (true≢false e)

pub element_early : {V : Type 0} (o : Object ℕ V) (m : Mark) → Early (needs_element o m)
element_early o m = both_by (λ r. step_of r ≤ 5) (needs_node o m) (reason_if (is_root m) RootNode) (needs_early o m) (reason_by (λ r. step_of r ≤ 5) (is_root m) RootNode (omega arith))

pub late_leaf : (t : Bool) → Late (first_reason (reason_if t NotLeaf ∷ []))
late_leaf t = both_by (λ r. 6 ≤ step_of r) (reason_if t NotLeaf) None (reason_by (λ r. 6 ≤ step_of r) t NotLeaf (omega arith)) tt

pub two_first : (a b late : Option Reason) → Early a → Early b → Late late → earlier a (earlier b late) ≡ or_else (first_reason (a ∷ b ∷ [])) late
two_first a b late ea eb l = ap (earlier a) (absorbed b None late eb l) ∙ absorbed a (earlier b None) late ea l

pub none_if : (a : Option Reason) → is_some a ≡ false → a ≡ None
none_if None h = refl
none_if (Some r) h = absurd (true≢false h)

pub leaf_if : (b : Bool) → reason_if (not b) NotLeaf ≡ None → b ≡ true
leaf_if true h = refl
leaf_if false h = absurd (let k : Some NotLeaf ≡ None = h in cc)

-- why a splice is refused, once its cursors aren't
pub late_splice : (a b : Bool) → Late (first_reason (reason_if a NotChild ∷ reason_if b BelowItself ∷ []))
late_splice a b =
    let late : Reason → Type 0 = λ r. 6 ≤ step_of r in
    both_by late (reason_if a NotChild) (first_reason (reason_if b BelowItself ∷ [])) (reason_by late a NotChild (omega arith))
    (both_by late (reason_if b BelowItself) None (reason_by late b BelowItself (omega arith)) tt)

pub four_first : (a b c d late : Option Reason) → Early a → Early b → Early c → Early d → Late late → earlier a (earlier b (earlier c (earlier d late))) ≡ or_else (first_reason (a ∷ b ∷ c ∷ d ∷ [])) late
four_first a b c d late ea eb ec ed l = ap (earlier a) (three_first b c d late eb ec ed l) ∙ absorbed a (first_reason (b ∷ c ∷ d ∷ [])) late ea l

pub source_early : {V : Type 0} (o : Object ℕ V) (m : Mark) → Early (earlier (may_node o m) (reason_if (is_root m) RootSource))
source_early o m = both_by (λ r. step_of r ≤ 5) (may_node o m) (reason_if (is_root m) RootSource) (may_early o m) (reason_by (λ r. step_of r ≤ 5) (is_root m) RootSource (omega arith))

-- why rows are refused, once their cursors aren't
pub late_rows : {V : Type 0} (o : Object ℕ V) (t : Bool) (length more : ℕ) → Late (first_reason (reason_if t NotChild ∷ room o length more))
late_rows o t length more = both_by (λ r. 6 ≤ step_of r) (reason_if t NotChild) (first_reason (room o length more)) (reason_by (λ r. 6 ≤ step_of r) t NotChild (omega arith)) (room_late o length more)

-- two reasons next to each other are one
pub joined_early : (a b late : Option Reason) → Early a → Early b → Late late → earlier a (earlier b late) ≡ earlier (earlier a b) late
joined_early a b late ea eb l =
    two_first a b late ea eb l ∙ ap (λ z. or_else (earlier a z) late) (last_none b) ∙ sym (absorbed (earlier a b) None late (both_by (λ r. step_of r ≤ 5) a b ea eb) l ∙ ap (λ z. or_else z late) (last_none (earlier a b)))
  where
    last_none : (c : Option Reason) → earlier c None ≡ c
    last_none None = refl
    last_none (Some r) = refl

pub five_first : (a b c d e late : Option Reason) → Early a → Early b → Early c → Early d → Early e → Late late → earlier a (earlier b (earlier c (earlier d (earlier e late)))) ≡ or_else (first_reason (a ∷ b ∷ c ∷ d ∷ e ∷ [])) late
five_first a b c d e late ea eb ec ed ee l = ap (earlier a) (four_first b c d e late eb ec ed ee l) ∙ absorbed a (first_reason (b ∷ c ∷ d ∷ e ∷ [])) late ea l

pub root_early : (m : Mark) → Early (reason_if (is_root m) RootSource)
root_early m = reason_by (λ r. step_of r ≤ 5) (is_root m) RootSource (omega arith)
