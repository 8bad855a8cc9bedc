-- Which cursors designate elements: those of the object's number at a name of its rows, other than a tree's root. So they go on to while
-- the number, the names and whether there is a root stay, whatever else the object has.
use Rattle.std.proofs.Common.{◌≡◌, ◌==◌, ◌||◌, ◌&&◌, ℕ, Bool, true, false, not, List, [], ◌∷◌, refl, sym, ap, ◌∙◌, arith, Option, Some, None, if◌then◌else◌}
use Rattle.std.proofs.lemmas.Bool.Decides.{nat_tests}
use Rattle.std.specs.List.{list_any}
use Rattle.ac_base.specs.declared.reason.Reason.{Reason}
use Rattle.ac_base.specs.declared.reason.Reason.TheVariants.{NoElement, ForeignCursor, DeadCursor, RootNode}
use Rattle.ac_base.specs.FirstReason.{first_reason}
use Rattle.ac_base.specs.Rows.{Row, names}
use Rattle.ac_model.specs.Rows.{is_named}
use Rattle.ac_model.specs.Objects.{Object}
use Rattle.ac_model.specs.Letters.{Mark, no_mark, mark_at, stale_mark, reason_if, needs}
use Rattle.ac_model.specs.Cursors.{seen}
use Rattle.ac_model.specs.Trees.{seen_in_tree, needs_node, needs_element, is_root, view_reason}
use Rattle.ac_calls.specs.Holdings.{RowKind, a_sequence, a_map, a_set, a_keyed_set, a_tree, RowOf, have_root, seen_in, own_calls}
use Rattle.ac_meaning.proofs.CallsStay.{none_some, first_none, earlier_none}

-- why an element is refused, in objects with a root and in others
abbrev pub element_reason : {V : Type 0} → (rooted : Bool) → Object ℕ V → Mark → Option Reason
element_reason false o at = first_reason (needs o (seen o at) ∷ [])
element_reason true o at = view_reason o (seen_in_tree o at)

pub element_refused : (kind : RowKind) (o : Object ℕ (RowOf kind)) (at : Mark) →
    ((own_calls kind o).element (seen_in kind o at)).reason ≡ element_reason (have_root kind) o at
element_refused (a_sequence which e) o at = refl
element_refused (a_map which k e) o at = refl
element_refused (a_set which e) o at = refl
element_refused (a_keyed_set which) o at = refl
element_refused (a_tree e) o at = refl

pub record Designates {V : Type 0} (rooted : Bool) (o : Object ℕ V) (at : Mark) : Type 0 where
  pub name : ℕ
  pub named : is_named o.rows name ≡ true
  pub no_root : rooted ≡ true → name ≡ 0 → ⊥
  pub is : at ≡ mark_at o.number name

-- What is designated

stale : (t : Bool) → (if t then reason_if (not false) DeadCursor else Some ForeignCursor) ≡ None → ⊥
stale true e = cc
stale false e = cc

foreign : (t there : Bool) → t ≡ false → (if t then reason_if (not there) DeadCursor else Some ForeignCursor) ≡ None → ⊥
foreign true there e none = absurd (cc)
foreign false there e none = cc

own_number : (number own : ℕ) → (number == own) ≡ true → number ≡ own
own_number number own e = grind (arith, nat_tests)

row_at : {V : Type 0} (o : Object ℕ V) (number name : ℕ) (t b : Bool) → (number == o.number) ≡ t → is_named o.rows name ≡ b →
    needs o (if t && not b then stale_mark number else mark_at number name) ≡ None → (number ≡ o.number) × (b ≡ true)
row_at o number name true true e there none = (own_number number o.number e, refl)
row_at o number name true false e there none = absurd (stale (number == o.number) none)
row_at o number name false b e there none = absurd (foreign (number == o.number) (is_named o.rows name) e none)

designates_row : {V : Type 0} (o : Object ℕ V) (at : Mark) → needs o (seen o at) ≡ None → Designates false o at
designates_row o no_mark none = none_some NoElement (sym none)
designates_row o (stale_mark number) none = absurd (stale (number == o.number) none)
designates_row o (mark_at number name) none =
    let r = row_at o number name (number == o.number) (is_named o.rows name) refl refl none in
    record { name = name; named = r.1; no_root = λ rooted. absurd (cc); is = ap (λ n. mark_at n name) r.0 }

no_root : (b : Bool) → b ≡ true → reason_if b RootNode ≡ None → ⊥
no_root true e none = cc
no_root false e none = cc

not_zero : (name : ℕ) → (name == 0) ≡ false → name ≡ 0 → ⊥
not_zero name e zero = grind (arith, nat_tests)

node_at : {V : Type 0} (o : Object ℕ V) (number name : ℕ) (t z b : Bool) → (number == o.number) ≡ t → (name == 0) ≡ z → is_named o.rows name ≡ b →
    let at = if t && not (z || b) then stale_mark number else mark_at number name in
    needs_node o at ≡ None → reason_if (is_root at) RootNode ≡ None → (number ≡ o.number) × ((name ≡ 0 → ⊥) × (b ≡ true))
node_at o number name true true b e zero there none root = absurd (no_root (name == 0) zero root)
node_at o number name true false true e zero there none root = (own_number number o.number e, (not_zero name zero, refl))
node_at o number name true false false e zero there none root = absurd (stale (number == o.number) none)
node_at o number name false z b e zero there none root =
    absurd (foreign (number == o.number) ((name == 0) || is_named o.rows name) e none)

designates_node : {V : Type 0} (o : Object ℕ V) (at : Mark) → needs_node o (seen_in_tree o at) ≡ None →
    reason_if (is_root (seen_in_tree o at)) RootNode ≡ None → Designates true o at
designates_node o no_mark none root = none_some NoElement (sym none)
designates_node o (stale_mark number) none root = absurd (stale (number == o.number) none)
designates_node o (mark_at number name) none root =
    let r = node_at o number name (number == o.number) (name == 0) (is_named o.rows name) refl refl refl none root in
    record { name = name; named = r.1.1; no_root = λ _. r.1.0; is = ap (λ n. mark_at n name) r.0 }

pub designates : {V : Type 0} (rooted : Bool) (o : Object ℕ V) (at : Mark) → element_reason rooted o at ≡ None → Designates rooted o at
designates false o at none = designates_row o at (first_none (needs o (seen o at)) [] none)
designates true o at none =
    let c = seen_in_tree o at in
    let both = earlier_none (needs_node o c) (reason_if (is_root c) RootNode) (first_none (needs_element o c) [] none) in
    designates_node o at both.0 both.1

-- It isn't refused

same_number : (n : ℕ) → (n == n) ≡ true
same_number n = grind (arith, nat_tests)

row_there : {V : Type 0} (o : Object ℕ V) (name : ℕ) (t b : Bool) → (o.number == o.number) ≡ t → t ≡ true → is_named o.rows name ≡ b → b ≡ true →
    first_reason (needs o (if t && not b then stale_mark o.number else mark_at o.number name) ∷ []) ≡ None
row_there o name true true e own there named = rw (e, there) refl
row_there o name true false e own there named = absurd (cc)
row_there o name false b e own there named = absurd (cc)

node_there : {V : Type 0} (o : Object ℕ V) (name : ℕ) (t z b : Bool) → (o.number == o.number) ≡ t → t ≡ true → (name == 0) ≡ z → (name ≡ 0 → ⊥) →
    is_named o.rows name ≡ b → b ≡ true →
    view_reason o (if t && not (z || b) then stale_mark o.number else mark_at o.number name) ≡ None
node_there o name true false true e own zero other there named = rw (e, zero, there) refl
node_there o name true true b e own zero other there named = absurd (other (grind (arith, nat_tests)))
node_there o name true false false e own zero other there named = absurd (cc)
node_there o name false z b e own zero other there named = absurd (cc)

there : {V : Type 0} (rooted : Bool) (o : Object ℕ V) (name : ℕ) → is_named o.rows name ≡ true → (rooted ≡ true → name ≡ 0 → ⊥) →
    element_reason rooted o (mark_at o.number name) ≡ None
there false o name named other = row_there o name (o.number == o.number) (is_named o.rows name) refl (same_number o.number) refl named
there true o name named other =
    node_there o name (o.number == o.number) (name == 0) (is_named o.rows name) refl (same_number o.number) refl (other refl) refl named

pub designated : {V : Type 0} (rooted : Bool) (o : Object ℕ V) (at : Mark) → Designates rooted o at → element_reason rooted o at ≡ None
designated rooted o at d = ap (element_reason rooted o) d.is ∙ there rooted o d.name d.named d.no_root

-- It goes on

pub named_by_names : {V : Type 0} (rows : List (Row ℕ V)) (n : ℕ) → is_named rows n ≡ list_any (λ (m : ℕ). m == n) (names rows)
named_by_names [] n = refl
named_by_names (r ∷ rows) n = ap (λ b. (r.name == n) || b) (named_by_names rows n)

pub designates_on : {V W : Type 0} (rooted : Bool) (o : Object ℕ V) (now : Object ℕ W) (at : Mark) → now.number ≡ o.number →
    names now.rows ≡ names o.rows → Designates rooted o at → Designates rooted now at
designates_on rooted o now at number same d = record {
  name = d.name;
  named = named_by_names now.rows d.name ∙ (ap (list_any (λ (m : ℕ). m == d.name)) same ∙ (sym (named_by_names o.rows d.name) ∙ d.named));
  no_root = d.no_root;
  is = d.is ∙ ap (λ n. mark_at n d.name) (sym number);
}
