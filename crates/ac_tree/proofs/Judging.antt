-- Cursors of a tree: which are refused, and at which node one is that isn't.
use Rattle.std.proofs.Common.{◌≡◌, ℕ, Bool, true, false, true≢false, not, ◌&&◌, ◌||◌, List, [], ◌∷◌, Option, Some, None, is_some, is_none, refl, sym, ap, ◌∙◌, subst, inl, inr, arith, eq-eqb, ne_eqb, eqb-true}
use Rattle.std.specs.Prelude.{◌==◌, if◌then◌else◌}
use Rattle.std.proofs.lemmas.Bool.{cond-true, cond-false, cases_Bool}
use Rattle.std.proofs.lemmas.Option.{none-some}
use Rattle.ac_base.specs.declared.name.Name.{Name}
use Rattle.ac_base.specs.declared.cursor.Cursor.{Cursor}
use Rattle.ac_base.specs.declared.cursor.Cursor.TheVariants.{NoElement, At}
use Rattle.ac_base.specs.declared.reason.Reason.{Reason}
use Rattle.ac_base.specs.declared.reason.Reason.TheVariants.{RootNode, RootSource, DeadCursor, ForeignCursor}
use Rattle.ac_base.specs.FirstReason.{earlier}
use Rattle.ac_base.proofs.FirstReason.{none_found}
use Rattle.ac_base.specs.Rows.{Row, names}
use Rattle.ac_pool.specs.Contents.{value_of, IsLive}
use Rattle.ac_pool.specs.NamedRows.{HasName}
use Rattle.ac_chain.proofs.Marks.{among_has, has_among, judged_none}
use Rattle.ac_chain.proofs.Looks.{bool_is}
use Rattle.ac_model.specs.Rows.{Node, is_named}
use Rattle.ac_model.specs.Objects.{Object, plain, plains}
use Rattle.ac_model.specs.Letters.{Mark, no_mark, mark_at, stale_mark, is_same_name, is_among, judged_in, reason_if, designates, may}
use Rattle.ac_model.specs.Cursors.{cursor_at, name_in}
use Rattle.ac_model.specs.Outline.{Spot}
use Rattle.ac_model.specs.Trees.{root_name, tree_mark, is_node, needs_node, may_node, needs_element, is_root, mark_of_spot}
use Rattle.ac_tree.specs.declared.links.Links.{Links}
use Rattle.ac_tree.specs.Forests.{outline}
use Rattle.ac_tree.specs.TreeFields.{forest_in, IsForest}
use Rattle.ac_tree.specs.TreeCursors.{node_of, node_in, cursor_of_node, is_root_cursor, serial_in}
use Rattle.ac_tree.proofs.Places.{named, has}
use Rattle.ac_tree.proofs.Forests.{live_of}
use Rattle.ac_tree.proofs.Outlines.{serial_of, spot_name}

pub earlier_last : (a : Option Reason) → earlier a None ≡ a
earlier_last None = refl
earlier_last (Some r) = refl

-- what `is_none` answers
pub none_is : {A : Type 0} (a : Option A) (b : Bool) → is_some a ≡ not b → b ≡ is_none a
none_is a true e = ap not (sym e)
none_is a false e = ap not (sym e)

pub both_none : (a b : Option Reason) → earlier a b ≡ None → (a ≡ None) × (b ≡ None)
both_none a b h = let all = none_found (a ∷ b ∷ []) (ap (earlier a) (earlier_last b) ∙ h) in (all.0, all.1.0)

named_true : {V : Type 0} (a : Name) (rows : List (Row Name V)) → HasName a rows → is_named (plains rows) a.serial ≡ true
named_true a [] h = absurd h
named_true a (r ∷ rows) h = elim h [
  | inl e ↦ ap (λ b. b || is_named (plains rows) a.serial) (eq-eqb r.name.serial a.serial (ap (λ (n : Name). n.serial) (sym e)))
  | inr t ↦ or_last (r.name.serial == a.serial) (is_named (plains rows) a.serial) (named_true a rows t)
]
  where
    or_last : (b c : Bool) → c ≡ true → (b || c) ≡ true
    or_last true c e = refl
    or_last false c e = e

is_dead : {V : Type 0} (p : Object ℕ V) (object : ℕ) → (object == p.number) ≡ true → judged_in p.number object false ≡ Some DeadCursor
is_dead p object e = cond-true _ _ _ e

foreign : {V : Type 0} (p : Object ℕ V) (object : ℕ) (b : Bool) → (object == p.number) ≡ false → judged_in p.number object b ≡ Some ForeignCursor
foreign p object b e = cond-false _ _ _ e

-- a cursor that isn't stale is judged by its number, and by whether something is there
judged_mark : {V : Type 0} (p : Object ℕ V) (object serial : ℕ) (among same : Bool) → (object == p.number) ≡ same → (among ≡ true → is_node p serial ≡ true)
    → judged_in p.number object among ≡ needs_node p (if (object == p.number) && not among then stale_mark object else mark_at object serial)
judged_mark p object serial true true e h = let there = h refl in rw (e, there) (sym (cond-true _ _ _ e))
judged_mark p object serial true false e h = rw e (sym (foreign p object (is_node p serial) e))
judged_mark p object serial false true e h = rw e (sym (is_dead p object e))
judged_mark p object serial false false e h = rw e (sym (foreign p object (is_node p serial) e))

may_is : {V : Type 0} (p : Object ℕ V) (object serial : ℕ) (test : Bool) → may_node p (if test then stale_mark object else mark_at object serial) ≡ needs_node p (if test then stale_mark object else mark_at object serial)
may_is p object serial true = refl
may_is p object serial false = refl

pub may_at : {V : Type 0} (o : Object Name V) (object : ℕ) (a : Name) → may_node (plain o) (tree_mark o (At object a)) ≡ needs_node (plain o) (tree_mark o (At object a))
may_at o object a = may_is (plain o) object a.serial ((object == o.number) && not (is_among (root_name ∷ names o.rows) a))

stale_source : {V : Type 0} (p : Object ℕ V) (object serial : ℕ) (among same : Bool) → (object == p.number) ≡ same
    → earlier (may_node p (if (object == p.number) && not among then stale_mark object else mark_at object serial)) (reason_if (serial == 0) RootSource)
    ≡ earlier (may_node p (if (object == p.number) && not among then stale_mark object else mark_at object serial)) (reason_if (is_root (if (object == p.number) && not among then stale_mark object else mark_at object serial)) RootSource)
stale_source p object serial true true e = rw e refl
stale_source p object serial true false e = rw e refl
stale_source p object serial false false e = rw e refl
stale_source p object serial false true e = rw e (subst (λ z. earlier z (reason_if (serial == 0) RootSource) ≡ earlier z None) (sym (is_dead p object e)) (dead_first (serial == 0)))
  where
    dead_first : (b : Bool) → earlier (Some DeadCursor) (reason_if b RootSource) ≡ Some DeadCursor
    dead_first true = refl
    dead_first false = refl

-- what is found as a root by its serial is the root, or refused before
root_mark : {V : Type 0} (p : Object ℕ V) (object serial : ℕ) (among same : Bool) → (object == p.number) ≡ same
    → earlier (needs_node p (if (object == p.number) && not among then stale_mark object else mark_at object serial)) (reason_if (serial == 0) RootNode)
    ≡ needs_element p (if (object == p.number) && not among then stale_mark object else mark_at object serial)
root_mark p object serial true true e = rw e refl
root_mark p object serial true false e = rw e refl
root_mark p object serial false true e = rw e (subst (λ z. earlier z (reason_if (serial == 0) RootNode) ≡ earlier z None) (sym (is_dead p object e)) (dead_first (serial == 0)))
  where
    dead_first : (b : Bool) → earlier (Some DeadCursor) (reason_if b RootNode) ≡ Some DeadCursor
    dead_first true = refl
    dead_first false = refl
root_mark p object serial false false e = rw e refl

pub root_source : {V : Type 0} (o : Object Name V) (c : Cursor) → earlier (may_node (plain o) (tree_mark o c)) (reason_if (is_root_cursor c) RootSource) ≡ earlier (may_node (plain o) (tree_mark o c)) (reason_if (is_root (tree_mark o c)) RootSource)
root_source o NoElement = refl
root_source o (At object a) = stale_source (plain o) object a.serial (is_among (root_name ∷ names o.rows) a) (object == o.number) refl

pub root_needed : {V : Type 0} (o : Object Name V) (c : Cursor) → earlier (needs_node (plain o) (tree_mark o c)) (reason_if (is_root_cursor c) RootNode) ≡ needs_element (plain o) (tree_mark o c)
root_needed o NoElement = refl
root_needed o (At object a) = root_mark (plain o) object a.serial (is_among (root_name ∷ names o.rows) a) (object == o.number) refl

pub serial_of_node : (a : Name) → serial_in (node_of a) ≡ a.serial
serial_of_node a = elim (cases_Bool (a.serial == 0)) [
  | inl e ↦ ap serial_in (cond-true _ _ _ e) ∙ sym (eqb-true a.serial 0 e)
  | inr n ↦ ap serial_in (cond-false _ _ _ n)
]

pub node_some : (a b : Name) → node_of a ≡ Some b → ((a.serial == 0) ≡ false) × (a ≡ b)
node_some a b e = elim (cases_Bool (a.serial == 0)) [
  | inl t ↦ absurd (let none : None ≡ Some b = sym (cond-true _ _ _ t) ∙ e in cc)
  | inr n ↦ let some : Some a ≡ Some b = sym (cond-false _ _ _ n) ∙ e in (n, cc)
]

-- a mark of no node, and one of a name's serial
abbrev pub mark_named : ℕ → Option ℕ → Mark
mark_named number None = no_mark
mark_named number (Some serial) = mark_at number serial

pub spot_mark : {V : Type 0} (o : Object ℕ V) (p : Option Spot) → mark_of_spot o p ≡ mark_named o.number (spot_name p)
spot_mark o None = refl
spot_mark o (Some s) = refl

module _ {X : Type 0} (l : Links X) (s : IsForest l) (o : Object Name (Node X)) (rows_is : o.rows ≡ outline 2 (forest_in l)) where
  in_rows : (a : Name) → IsLive l.nodes a → HasName a o.rows
  in_rows a h = subst (λ k. HasName a k) (sym rows_is) (named a 2 (forest_in l) (s.all a h))

  pub live_in : (a : Name) → HasName a o.rows → IsLive l.nodes a
  live_in a h = live_of l (forest_in l) s a (has a 2 (forest_in l) (subst (λ k. HasName a k) rows_is h))

  pub live_is : (a : Name) → is_some (value_of l.nodes a) ≡ is_among (names o.rows) a
  live_is a = bool_is (is_some (value_of l.nodes a)) (is_among (names o.rows) a) (λ t. has_among a o.rows (in_rows a t)) (λ t. live_in a (among_has a o.rows t))

  is_node_among : (a : Name) → is_among (root_name ∷ names o.rows) a ≡ true → is_node (plain o) a.serial ≡ true
  is_node_among a h = elim (cases_Bool (is_same_name a root_name)) [
    | inl e ↦ ap (λ b. b || is_named (plains o.rows) a.serial) (and_right (a.slot == 0) (a.serial == 0) e)
    | inr n ↦ or_last (a.serial == 0) (is_named (plains o.rows) a.serial) (named_true a o.rows (among_has a o.rows (sym (ap (λ b. b || is_among (names o.rows) a) n) ∙ h)))
  ]
    where
      and_right : (b c : Bool) → (b && c) ≡ true → c ≡ true
      and_right true c e = e
      and_right false c e = absurd (true≢false (sym e))

      or_last : (b c : Bool) → c ≡ true → (b || c) ≡ true
      or_last true c e = refl
      or_last false c e = e

  pub judged : (object : ℕ) (a : Name) → judged_in o.number object (is_among (root_name ∷ names o.rows) a) ≡ needs_node (plain o) (tree_mark o (At object a))
  judged object a = judged_mark (plain o) object a.serial (is_among (root_name ∷ names o.rows) a) (object == o.number) refl (is_node_among a)

  -- where a cursor stands that isn't refused
  pub record At_node (c : Cursor) : Type 0 where
    pub mark : tree_mark o c ≡ mark_at o.number (serial_in (node_in c))
    pub live : (a : Name) → node_in c ≡ Some a → IsLive l.nodes a
    pub name : (a : Name) → node_in c ≡ Some a → name_in c ≡ a

  pub at_node : (c : Cursor) → needs_node (plain o) (tree_mark o c) ≡ None → At_node c
  at_node NoElement h = absurd (let k : Some _ ≡ None = h in cc)
  at_node (At object a) h =
      let both = judged_none o.number object (is_among (root_name ∷ names o.rows) a) (judged object a ∙ h) in
      let same = eq-eqb object o.number both.0 in let among = both.1 in
      record {
        mark = (rw (same, among) refl) ∙ (λ i. mark_at (both.0 i) (sym (serial_of_node a) i));
        live = λ b e. let it = node_some a b e in
            subst (λ n. IsLive l.nodes n) it.1 (live_in a (among_has a o.rows (sym (ap (λ t. t || is_among (names o.rows) a) (not_root a it.0)) ∙ among)));
        name = λ b e. (node_some a b e).1;
      }
    where
      not_root : (a : Name) → (a.serial == 0) ≡ false → is_same_name a root_name ≡ false
      not_root a e = ap (λ b. (a.slot == 0) && b) e ∙ and_false (a.slot == 0)
        where
          and_false : (b : Bool) → (b && false) ≡ false
          and_false true = refl
          and_false false = refl

  pub may_needed : (c : Cursor) → needs_node (plain o) (tree_mark o c) ≡ None → may_node (plain o) (tree_mark o c) ≡ None
  may_needed NoElement h = refl
  may_needed (At object a) h = may_at o object a ∙ h

  -- one that may be No_Element, and is at a node
  pub needed : (c : Cursor) (a : Name) → node_in c ≡ Some a → may_node (plain o) (tree_mark o c) ≡ None → needs_node (plain o) (tree_mark o c) ≡ None
  needed NoElement a e h = absurd (none-some a e)
  needed (At object b) a e h = sym (may_at o object b) ∙ h

  among_live : (a : Name) → IsLive l.nodes a → is_among (root_name ∷ names o.rows) a ≡ true
  among_live a h = or_last (is_same_name a root_name) (is_among (names o.rows) a) (has_among a o.rows (in_rows a h))
    where
      or_last : (b c : Bool) → c ≡ true → (b || c) ≡ true
      or_last true c e = refl
      or_last false c e = e

  -- the mark of a name, if there is one, and of a node
  pub named_mark : (name : Option Name) → ((a : Name) → name ≡ Some a → IsLive l.nodes a) → tree_mark o (cursor_at o.number name) ≡ mark_named o.number (serial_of name)
  named_mark None h = refl
  named_mark (Some a) h = let same = eq-eqb o.number o.number refl in let among = among_live a (h a refl) in rw (same, among) refl

  pub node_mark : (node : Option Name) → ((a : Name) → node ≡ Some a → IsLive l.nodes a) → tree_mark o (cursor_of_node o.number node) ≡ mark_at o.number (serial_in node)
  node_mark None h = let same = eq-eqb o.number o.number refl in rw same refl
  node_mark (Some a) h = let same = eq-eqb o.number o.number refl in let among = among_live a (h a refl) in rw (same, among) refl

  -- no row has the root's serial
  root_unnamed : is_named (plains o.rows) 0 ≡ false
  root_unnamed = unnamed o.rows (λ a h e. let low = (s.sound.issued a (live_in a h)).0 in omega (arith, e, low))
    where
      unnamed : (rows : List (Row Name (Node X))) → ((a : Name) → HasName a rows → a.serial ≡ 0 → ⊥) → is_named (plains rows) 0 ≡ false
      unnamed [] h = refl
      unnamed (r ∷ rows) h = ap (λ b. b || is_named (plains rows) 0) (ne_eqb r.name.serial 0 (h r.name (inl refl))) ∙ unnamed rows (λ a t. h a (inr t))

  pub designated : (c : Cursor) → is_none (needs_element (plain o) (tree_mark o c)) ≡ designates (plain o) (tree_mark o c)
  designated NoElement = refl
  designated (At object a) = by_test ((object == o.number) && not (is_among (root_name ∷ names o.rows) a))
    where
      of_serial : (serial : ℕ) (same root there : Bool) → (serial == 0) ≡ root → (root ≡ true → there ≡ false)
          → is_none (earlier (if same then reason_if (not (root || there)) DeadCursor else Some ForeignCursor) (reason_if root RootNode)) ≡ (same && there)
      of_serial serial true true true e h = absurd (true≢false (h refl))
      of_serial serial true true false e h = refl
      of_serial serial true false true e h = refl
      of_serial serial true false false e h = refl
      of_serial serial false true true e h = absurd (true≢false (h refl))
      of_serial serial false true false e h = refl
      of_serial serial false false true e h = refl
      of_serial serial false false false e h = refl

      by_test : (test : Bool) → is_none (needs_element (plain o) (if test then stale_mark object else mark_at object a.serial)) ≡ designates (plain o) (if test then stale_mark object else mark_at object a.serial)
      by_test true = stale_none (object == o.number)
        where
          stale_none : (same : Bool) → is_none (earlier (if same then Some DeadCursor else Some ForeignCursor) None) ≡ false
          stale_none true = refl
          stale_none false = refl
      by_test false = of_serial a.serial (object == o.number) (a.serial == 0) (is_named (plains o.rows) a.serial) refl (λ e. ap (is_named (plains o.rows)) (eqb-true a.serial 0 e) ∙ root_unnamed)

  -- a cursor at an element, or at none, where the root is no element
  pub element_judged : (object : ℕ) (a : Name) → judged_in o.number object (is_among (names o.rows) a) ≡ may (plain o) (tree_mark o (At object a))
  element_judged object a =
      by_tests (object == o.number) (is_same_name a root_name) (is_among (names o.rows) a) refl (λ t. named_true a o.rows (among_has a o.rows t))
      (λ t. ap (is_named (plains o.rows)) (eqb-true a.serial 0 (and_right (a.slot == 0) (a.serial == 0) t)) ∙ root_unnamed)
    where
      and_right : (b c : Bool) → (b && c) ≡ true → c ≡ true
      and_right true c e = e
      and_right false c e = absurd (true≢false (sym e))

      by_tests : (same root there : Bool) → (object == o.number) ≡ same → (there ≡ true → is_named (plains o.rows) a.serial ≡ true) → (root ≡ true → is_named (plains o.rows) a.serial ≡ false)
          → judged_in o.number object there ≡ may (plain o) (if (object == o.number) && not (root || there) then stale_mark object else mark_at object a.serial)
      by_tests true true true e h k = absurd (true≢false (sym (h refl) ∙ k refl))
      by_tests true false true e h k = let is = h refl in rw (e, is) (sym (cond-true _ _ _ e))
      by_tests true true false e h k = let is = k refl in rw (e, is) (sym (is_dead (plain o) object e))
      by_tests true false false e h k = rw e (sym (is_dead (plain o) object e))
      by_tests false true there e h k = rw e (sym (foreign (plain o) object (is_named (plains o.rows) a.serial) e))
      by_tests false false there e h k = rw e (sym (foreign (plain o) object (is_named (plains o.rows) a.serial) e))

  -- a cursor that designates an element
  pub record At_element (c : Cursor) : Type 0 where
    pub name : Name
    pub node : node_in c ≡ Some name
    pub needs : needs_node (plain o) (tree_mark o c) ≡ None
    pub live : IsLive l.nodes name
    pub is : name_in c ≡ name
    pub mark : tree_mark o c ≡ mark_at o.number name.serial

  pub at_element : (c : Cursor) → needs_element (plain o) (tree_mark o c) ≡ None → At_element c
  at_element c h =
      let both = both_none (needs_node (plain o) (tree_mark o c)) (reason_if (is_root (tree_mark o c)) RootNode) h in
      let at = at_node c both.0 in
      by_node (node_in c) refl at both.0 (sym (ap is_root at.mark))
      (root_none (is_root (tree_mark o c)) both.1)
    where
      root_none : (b : Bool) → reason_if b RootNode ≡ None → b ≡ false
      root_none true e = absurd (let k : Some RootNode ≡ None = e in cc)
      root_none false e = refl

      by_node : (n : Option Name) → node_in c ≡ n → At_node c → needs_node (plain o) (tree_mark o c) ≡ None → is_root (mark_at o.number (serial_in (node_in c))) ≡ is_root (tree_mark o c) → is_root (tree_mark o c) ≡ false → At_element c
      by_node None is at needs same e = absurd (true≢false (sym (ap (λ k. serial_in k == 0) is) ∙ same ∙ e))
      by_node (Some a) is at needs same e = record { name = a; node = is; needs = needs; live = at.live a is; is = at.name a is; mark = at.mark ∙ ap (λ k. mark_at o.number (serial_in k)) is }
