-- What the tests of rows come to.
use Rattle.std.proofs.Common.{◌≡◌, ◌==◌, ◌&&◌, ◌||◌, ◌-◌, ◌<◌, ◌≤◌, ℕ, zero, suc, Bool, true, false, not, List, [], ◌∷◌, ◌++◌, length, take, drop, map, get_or, refl, sym, ap, ap₂, subst, ◌∙◌, arith, nat_le, Option, Some, None, is_some, unwrap_or}
use Rattle.std.specs.List.{list_all, list_any}
use Rattle.std.specs.Ordering.{on}
use Rattle.std.specs.Str.{bytes_eq}
use Rattle.std.proofs.lemmas.Bool.{and_from, and_parts, and_right, eq-eqb}
use Rattle.std.proofs.lemmas.Bool.Decides.{nat_tests}
use Rattle.std.proofs.lemmas.List.{take-append-drop, map-append}
use Rattle.std.proofs.Math.Bool.{and-true}
use Rattle.std.proofs.Math.Seq.{drop-cons}
use Rattle.ac_base.specs.declared.value.Value.{Value}
use Rattle.ac_base.specs.Key.{key_of_text}
use Rattle.ac_base.specs.Order.{text_less, are_level, IsWeakOrder}
use Rattle.ac_base.specs.OrderLaws.{integer_order, text_order, key_order}
use Rattle.ac_model.specs.Keyed.{is_strictly_ascending, ascending}
use Rattle.ac_model.specs.Outline.{follows}
use Rattle.ac_model.specs.Queues.{are_in_line}
use Rattle.ac_model.specs.Rows.{Entry}
use Rattle.ac_syntax.specs.declared.kind.ElemKind.{ElemKind}
use Rattle.ac_syntax.specs.declared.kind.ElemKind.TheVariants.{Integer, Str}
use Rattle.ac_syntax.specs.declared.kind.Kind.{Kind}
use Rattle.ac_syntax.specs.declared.kind.Kind.TheVariants as kinds
use Rattle.ac_syntax.specs.declared.type_def.TypeDef.{TypeDef}
use Rattle.ac_syntax.specs.Kinds.{is_map, is_set, is_queue, is_built}
use Rattle.ac_syntax.proofs.Fronts.{list_all_weaker}
use Rattle.ac_rules.specs.Rules.{is_elem, is_type}
use Rattle.ac_rules.specs.Scopes.{element_by, element_of}
use Rattle.ac_calls.specs.Elements.{ElementOf, tools_of, keyed_texts, integer_in, text_in}
use Rattle.ac_calls.specs.Holdings.{a_map, a_set, kind_by, element_or}
use Rattle.ac_calls.specs.KeyedReplies.{of_hashed}
use Rattle.ac_calls.specs.declared.plains.PlainRow.{PlainRow}
use Rattle.ac_snapshot.specs.declared.row_test.Turn.TheVariants as turn
use Rattle.ac_snapshot.specs.RowKeys.{key_of, key_text, keys_differ, key_less, each_next, in_turn}
use Rattle.ac_snapshot.specs.RowValues.{key_from, row_value, row_values}
use Rattle.ac_snapshot.specs.RowValidity.{is_tree, is_given, is_value_of, is_row_of, all_differ, are_keyed_by, are_rows_of}
use Rattle.ac_snapshot.proofs.KeyTests.{ascending_apart}
use Rattle.ac_snapshot.proofs.RowsFit.{depths_seen}

-- neighbours

row_at : {A : Type 0} (xs : List A) (i : ℕ) (x : A) → i < length xs → x ≡ get_or xs i x → drop i xs ≡ x ∷ drop (suc i) xs
row_at xs i x within is = drop-cons xs i x within ∙ ap (λ y. y ∷ drop (suc i) xs) (sym is)

pub each_step : {A : Type 0} (test : A → A → Bool) (xs : List A) (at : ℕ) (x y : A) → 1 ≤ at → at < length xs → x ≡ get_or xs (at - 1) x → y ≡ get_or xs at y
    → each_next test (drop (at - 1) xs) ≡ (test x y && each_next test (drop at xs))
each_step test xs at x y some within first second =
    let next : suc (at - 1) ≡ at = omega (arith, some) in
    let two : drop at xs ≡ y ∷ drop (suc at) xs = row_at xs at y within second in
    let one : drop (at - 1) xs ≡ x ∷ drop at xs = row_at xs (at - 1) x (omega (arith, some, within)) first ∙ ap (λ n. x ∷ drop n xs) next in
    ap (each_next test) (one ∙ ap (λ l. x ∷ l) two) ∙ ap (λ l. test x y && each_next test l) (sym two)

pub next_over : {A : Type 0} (test : A → A → Bool) (xs : List A) (k : ℕ) → length xs ≤ suc k → each_next test (drop k xs) ≡ true
next_over test [] zero le = refl
next_over test [] (suc k) le = refl
next_over test (x ∷ []) zero le = refl
next_over test (x ∷ y ∷ xs) zero le = absurd (omega (arith, le))
next_over test (x ∷ xs) (suc k) le = next_over test xs k (omega (arith, le))

pub each_same : {A : Type 0} (p q : A → A → Bool) (test : A → Bool) (xs : List A) → list_all test xs ≡ true → ((x y : A) → test x ≡ true → test y ≡ true → p x y ≡ q x y)
    → each_next p xs ≡ each_next q xs
each_same p q test [] all same = refl
each_same p q test (x ∷ []) all same = refl
each_same p q test (x ∷ y ∷ xs) all same =
    let one = and_parts (test x) (list_all test (y ∷ xs)) all in
    let two = and_parts (test y) (list_all test xs) one.1 in
    ap₂ (λ a b. a && b) (same x y one.0 two.0) (each_same p q test (y ∷ xs) one.1 same)

ascending_rows : {A V : Type 0} (less : V → V → Bool) (f : A → V) (xs : List A) → is_strictly_ascending less (map f xs) ≡ each_next (λ x y. less (f x) (f y)) xs
ascending_rows less f [] = refl
ascending_rows less f (x ∷ []) = refl
ascending_rows less f (x ∷ y ∷ xs) = ap (λ b. less (f x) (f y) && b) (ascending_rows less f (y ∷ xs))

pub lined_rows : (rows : List PlainRow) → are_in_line (map (λ r. integer_in r.value) rows) ≡ each_next (in_turn turn.LinesUp) rows
lined_rows [] = refl
lined_rows (x ∷ []) = refl
lined_rows (x ∷ y ∷ rows) = ap (λ b. in_turn turn.LinesUp x y && b) (lined_rows (y ∷ rows))

nested_rows : (r : PlainRow) (rows : List PlainRow) → follows r.depth (map (λ r. r.depth) rows) ≡ each_next (in_turn turn.Nests) (r ∷ rows)
nested_rows r [] = refl
nested_rows r (s ∷ rows) = ap (λ b. in_turn turn.Nests r s && b) (nested_rows s rows)

first_depth : (d : ℕ) → (nat_le 2 d && nat_le d 2) ≡ (d == 2)
first_depth d = grind (arith, nat_tests)

pub outline_rows : (r : PlainRow) (rows : List PlainRow) → ((r.depth == 2) && each_next (in_turn turn.Nests) (r ∷ rows)) ≡ follows 1 (map (λ r. r.depth) (r ∷ rows))
outline_rows r rows = ap₂ (λ a b. a && b) (sym (first_depth r.depth)) (sym (nested_rows r rows))

pub outline_at : (rows : List PlainRow) (r : PlainRow) → 1 ≤ length rows → r ≡ get_or rows 0 r → r.depth ≡ 2 → each_next (in_turn turn.Nests) rows ≡ follows 1 (map (λ r. r.depth) rows)
outline_at [] r some is two = absurd (omega (arith, some))
outline_at (s ∷ rows) r some is two =
    let first : (s.depth == 2) ≡ true = eq-eqb s.depth 2 (ap (λ (r : PlainRow). r.depth) (sym is) ∙ two) in
    ap (λ b. b && each_next (in_turn turn.Nests) (s ∷ rows)) (sym first) ∙ outline_rows s rows

-- no two alike

any_same : {A V W : Type 0} (alike : V → V → Bool) (rel : W → W → Bool) (f : A → V) (g : A → W) (test : A → Bool) (x : A) (xs : List A) → test x ≡ true → list_all test xs ≡ true
    → ((x y : A) → test x ≡ true → test y ≡ true → alike (f x) (f y) ≡ rel (g x) (g y)) → list_any (alike (f x)) (map f xs) ≡ list_any (rel (g x)) (map g xs)
any_same alike rel f g test x [] one all same = refl
any_same alike rel f g test x (y ∷ xs) one all same =
    let parts = and_parts (test y) (list_all test xs) all in
    ap₂ (λ a b. a || b) (same x y one parts.0) (any_same alike rel f g test x xs one parts.1 same)

differ_same : {A V W : Type 0} (alike : V → V → Bool) (rel : W → W → Bool) (f : A → V) (g : A → W) (test : A → Bool) (xs : List A) → list_all test xs ≡ true
    → ((x y : A) → test x ≡ true → test y ≡ true → alike (f x) (f y) ≡ rel (g x) (g y)) → all_differ alike (map f xs) ≡ all_differ rel (map g xs)
differ_same alike rel f g test [] all same = refl
differ_same alike rel f g test (x ∷ xs) all same =
    let parts = and_parts (test x) (list_all test xs) all in
    ap₂ (λ a b. not a && b) (any_same alike rel f g test x xs parts.0 parts.1 same) (differ_same alike rel f g test xs parts.1 same)

-- what ascends differs

keyed_ascending : {V : Type 0} {less : V → V → Bool} → IsWeakOrder less → (vs : List V) → are_keyed_by (ascending less) vs ≡ is_strictly_ascending less vs
keyed_ascending {V} {less} order vs = by_test (is_strictly_ascending less vs) refl
  where
    by_test : (up : Bool) → is_strictly_ascending less vs ≡ up → are_keyed_by (ascending less) vs ≡ is_strictly_ascending less vs
    by_test true is = and_from (all_differ (are_level less) vs) (is_strictly_ascending less vs) (ascending_apart less order vs is) is ∙ sym is
    by_test false is = and_right (all_differ (are_level less) vs) (is_strictly_ascending less vs) is ∙ sym is

on_order : {V W : Type 0} {less : W → W → Bool} (f : V → W) → IsWeakOrder less → IsWeakOrder (λ v w. less (f v) (f w))
on_order f order =
    record {
      irreflexive = λ x. order.irreflexive (f x);
      transitive = λ x y z. order.transitive (f x) (f y) (f z);
      ties_transitive = λ x y z. order.ties_transitive (f x) (f y) (f z);
    }

-- rows of maps and of sets

abbrev map_row : ElemKind → PlainRow → Bool
map_row e r = is_given true (is_value_of e) r.key

abbrev set_row : ElemKind → PlainRow → Bool
set_row e r = is_given false (is_value_of e) r.key && is_value_of e r.value

map_key : (e : ElemKind) (key : Option Value) (v : Value) → is_given true (is_value_of e) key ≡ true → key_from (tools_of e) key ≡ (tools_of e).from_value (unwrap_or key v)
map_key e None v given = absurd (cc given)
map_key e (Some key) v given = refl

set_key : (test : Value → Bool) (key : Option Value) (v : Value) → is_given false test key ≡ true → v ≡ unwrap_or key v
set_key test None v given = refl
set_key test (Some key) v given = absurd (cc given)

-- what a row's key is among the elements
abbrev key_in : (e : ElemKind) → PlainRow → ElementOf e
key_in e r = (tools_of e).from_value (key_of r)

keys_apart : (e : ElemKind) (rows : List PlainRow) → keys_differ false e rows ≡ all_differ (tools_of e).alike (map (key_in e) rows)
keys_apart Integer rows = refl
keys_apart Str rows = refl

abbrev map_value : (e f : ElemKind) → PlainRow → Entry (ElementOf e) (ElementOf f)
map_value e f r = row_value (a_map of_hashed e f) r

map_alike : (e f : ElemKind) (x y : PlainRow) → map_row e x ≡ true → map_row e y ≡ true
    → (tools_of e).alike (map_value e f x).key (map_value e f y).key ≡ (tools_of e).alike (key_in e x) (key_in e y)
map_alike e f x y one two = ap₂ (tools_of e).alike (map_key e x.key x.value one) (map_key e y.key y.value two)

value_less : (e : ElemKind) (x y : PlainRow) → (tools_of e).less ((tools_of e).from_value (key_of x)) ((tools_of e).from_value (key_of y)) ≡ key_less false e x y
value_less Integer x y = refl
value_less Str x y = refl

map_less : (e f : ElemKind) (x y : PlainRow) → map_row e x ≡ true → map_row e y ≡ true
    → (tools_of e).less (map_value e f x).key (map_value e f y).key ≡ key_less false e x y
map_less e f x y one two =
    ap₂ (tools_of e).less (map_key e x.key x.value one) (map_key e y.key y.value two) ∙ value_less e x y

abbrev set_value : (e : ElemKind) → PlainRow → ElementOf e
set_value e r = row_value (a_set of_hashed e) r

set_seen : (e : ElemKind) (r : PlainRow) → set_row e r ≡ true → r.value ≡ key_of r
set_seen e r h = set_key (is_value_of e) r.key r.value (and_parts (is_given false (is_value_of e) r.key) (is_value_of e r.value) h).0

set_alike : (e : ElemKind) (x y : PlainRow) → set_row e x ≡ true → set_row e y ≡ true
    → (tools_of e).alike (set_value e x) (set_value e y) ≡ (tools_of e).alike (key_in e x) (key_in e y)
set_alike e x y one two = ap₂ (λ v w. (tools_of e).alike ((tools_of e).from_value v) ((tools_of e).from_value w)) (set_seen e x one) (set_seen e y two)

set_less : (e : ElemKind) (x y : PlainRow) → set_row e x ≡ true → set_row e y ≡ true → (tools_of e).less (set_value e x) (set_value e y) ≡ key_less false e x y
set_less e x y one two =
    ap₂ (λ v w. (tools_of e).less ((tools_of e).from_value v) ((tools_of e).from_value w)) (set_seen e x one) (set_seen e y two) ∙ value_less e x y

keyed_alike : (e : ElemKind) (x y : PlainRow) → set_row e x ≡ true → set_row e y ≡ true
    → keyed_texts.alike (text_in x.value) (text_in y.value) ≡ bytes_eq (key_text true x) (key_text true y)
keyed_alike e x y one two = ap₂ (λ v w. bytes_eq (key_of_text (text_in v)) (key_of_text (text_in w))) (set_seen e x one) (set_seen e y two)

keyed_less : (e : ElemKind) (x y : PlainRow) → set_row e x ≡ true → set_row e y ≡ true
    → keyed_texts.less (text_in x.value) (text_in y.value) ≡ key_less true e x y
keyed_less e x y one two = ap₂ (λ v w. on key_of_text text_less (text_in v) (text_in w)) (set_seen e x one) (set_seen e y two)

tools_order : (e : ElemKind) → IsWeakOrder (tools_of e).less
tools_order Integer = integer_order
tools_order Str = text_order

-- the rows of each kind

abbrev pub stand : Kind → ElemKind → Option ElemKind → (keyed : Bool) → List PlainRow → Bool
stand kind first second keyed rows = are_rows_of (kind_by kind first second keyed) (row_values (kind_by kind first second keyed) rows)

hashed_map : (first : ElemKind) (second : Option ElemKind) (rows : List PlainRow) → list_all (map_row first) rows ≡ true
    → keys_differ false first rows ≡ stand kinds.HashedMap first second false rows
hashed_map first second rows all =
    let f = element_or first second in
    keys_apart first rows
    ∙ sym (differ_same (λ v w. (tools_of first).alike v.key w.key) (tools_of first).alike (map_value first f) (key_in first) (map_row first) rows all (map_alike first f))
    ∙ sym (and-true (all_differ (λ v w. (tools_of first).alike v.key w.key) (map (map_value first f) rows)))

ordered_map : (first : ElemKind) (second : Option ElemKind) (rows : List PlainRow) → list_all (map_row first) rows ≡ true
    → each_next (key_less false first) rows ≡ stand kinds.OrderedMap first second false rows
ordered_map first second rows all =
    let f = element_or first second in
    let less = λ (v w : Entry (ElementOf first) (ElementOf f)). (tools_of first).less v.key w.key in
    sym (each_same (λ x y. less (map_value first f x) (map_value first f y)) (key_less false first) (map_row first) rows all (map_less first f))
    ∙ sym (ascending_rows less (map_value first f) rows)
    ∙ sym (keyed_ascending (on_order (λ (v : Entry (ElementOf first) (ElementOf f)). v.key) (tools_order first)) (map (map_value first f) rows))

hashed_set : (first : ElemKind) (second : Option ElemKind) (keyed : Bool) (rows : List PlainRow) → list_all (set_row first) rows ≡ true
    → keys_differ keyed first rows ≡ stand kinds.HashedSet first second keyed rows
hashed_set first second false rows all =
    keys_apart first rows
    ∙ sym (differ_same (tools_of first).alike (tools_of first).alike (set_value first) (key_in first) (set_row first) rows all (set_alike first))
    ∙ sym (and-true (all_differ (tools_of first).alike (map (set_value first) rows)))
hashed_set first second true rows all =
    sym (differ_same keyed_texts.alike bytes_eq (λ r. text_in r.value) (key_text true) (set_row first) rows all (keyed_alike first))
    ∙ sym (and-true (all_differ keyed_texts.alike (map (λ r. text_in r.value) rows)))

ordered_set : (first : ElemKind) (second : Option ElemKind) (keyed : Bool) (rows : List PlainRow) → list_all (set_row first) rows ≡ true
    → each_next (key_less keyed first) rows ≡ stand kinds.OrderedSet first second keyed rows
ordered_set first second false rows all =
    sym (each_same (λ x y. (tools_of first).less (set_value first x) (set_value first y)) (key_less false first) (set_row first) rows all (set_less first))
    ∙ sym (ascending_rows (tools_of first).less (set_value first) rows)
    ∙ sym (keyed_ascending (tools_order first) (map (set_value first) rows))
ordered_set first second true rows all =
    sym (each_same (λ x y. keyed_texts.less (text_in x.value) (text_in y.value)) (key_less true first) (set_row first) rows all (keyed_less first))
    ∙ sym (ascending_rows keyed_texts.less (λ (r : PlainRow). text_in r.value) rows)
    ∙ sym (keyed_ascending key_order (map (λ (r : PlainRow). text_in r.value) rows))

-- what a definition says of its rows

given_in : (def : TypeDef) (r : PlainRow) → is_row_of def r ≡ true → (is_given (is_map def.kind) (is_value_of def.first) r.key ≡ true) × (is_value_of (element_of def) r.value ≡ true)
given_in def r h =
    and_parts (is_given (is_map def.kind) (is_value_of def.first) r.key) (is_value_of (element_of def) r.value)
    (and_parts (is_tree def.kind || r.depth == 0) (is_given (is_map def.kind) (is_value_of def.first) r.key && is_value_of (element_of def) r.value) h).1

map_rows : (def : TypeDef) (rows : List PlainRow) → is_map def.kind ≡ true → list_all (is_row_of def) rows ≡ true → list_all (map_row def.first) rows ≡ true
map_rows def rows is all =
    list_all_weaker (is_row_of def) (map_row def.first) (λ r h. subst (λ b. is_given b (is_value_of def.first) r.key ≡ true) is (given_in def r h).0) rows all

abbrev alike_by : Bool → Bool → Bool
alike_by true b = b
alike_by false b = not b

no_second : (first : ElemKind) (second : Option ElemKind) → not (is_some second) ≡ true → element_by first second ≡ first
no_second first None h = refl
no_second first (Some e) h = absurd (cc h)

-- a set has no second element, and a map no key part
record TypeParts (def : TypeDef) : Type 0 where
  pub single : is_map def.kind ≡ false → element_of def ≡ def.first
  pub whole : is_map def.kind ≡ true → def.keyed ≡ false

set_or_map : (kind : Kind) → is_map kind ≡ true → is_set kind ≡ false
set_or_map kinds.HashedMap h = refl
set_or_map kinds.OrderedMap h = refl
set_or_map kinds.Vector h = absurd (cc h)
set_or_map kinds.List h = absurd (cc h)
set_or_map kinds.HashedSet h = absurd (cc h)
set_or_map kinds.OrderedSet h = absurd (cc h)
set_or_map kinds.Tree h = absurd (cc h)
set_or_map kinds.Holder h = absurd (cc h)
set_or_map kinds.Queue h = absurd (cc h)
set_or_map kinds.PriorityQueue h = absurd (cc h)

second_test : (some among : Bool) → alike_by some among ≡ true → among ≡ false → not some ≡ true
second_test true among h is = absurd (cc (h, is))
second_test false among h is = refl

keyed_test : (keyed set elem : Bool) → (not keyed || (set && elem)) ≡ true → set ≡ false → keyed ≡ false
keyed_test false set elem h is = refl
keyed_test true true elem h is = absurd (cc is)
keyed_test true false elem h is = absurd (cc h)

type_parts : (def : TypeDef) → is_type def ≡ true → TypeParts def
type_parts def h = by_second (is_some def.second) refl h
  where
    by_second : (some : Bool) → is_some def.second ≡ some
        → (is_built def.kind && (alike_by some (is_map def.kind) && ((not (is_queue def.kind) || is_elem Integer def.first) && (not def.keyed || (is_set def.kind && is_elem Str def.first))))) ≡ true
        → TypeParts def
    by_second some is h =
        let one = and_parts (is_built def.kind) (alike_by some (is_map def.kind) && ((not (is_queue def.kind) || is_elem Integer def.first) && (not def.keyed || (is_set def.kind && is_elem Str def.first)))) h in
        let two = and_parts (alike_by some (is_map def.kind)) ((not (is_queue def.kind) || is_elem Integer def.first) && (not def.keyed || (is_set def.kind && is_elem Str def.first))) one.1 in
        let three = and_parts (not (is_queue def.kind) || is_elem Integer def.first) (not def.keyed || (is_set def.kind && is_elem Str def.first)) two.1 in
        record {
          single = λ flat. no_second def.first def.second (ap not is ∙ second_test some (is_map def.kind) two.0 flat);
          whole = λ among. keyed_test def.keyed (is_set def.kind) (is_elem Str def.first) three.1 (set_or_map def.kind among);
        }

set_rows : (def : TypeDef) (rows : List PlainRow) → is_type def ≡ true → is_map def.kind ≡ false → list_all (is_row_of def) rows ≡ true → list_all (set_row def.first) rows ≡ true
set_rows def rows typed is all =
    list_all_weaker (is_row_of def) (set_row def.first)
    (λ r h.
    let parts = given_in def r h in
    and_from (is_given false (is_value_of def.first) r.key) (is_value_of def.first r.value) (subst (λ b. is_given b (is_value_of def.first) r.key ≡ true) is parts.0)
    (subst (λ e. is_value_of e r.value ≡ true) ((type_parts def typed).single is) parts.1)) rows all

-- each kind of object

pub hashed_map_stands : (def : TypeDef) (rows : List PlainRow) → is_type def ≡ true → list_all (is_row_of def) rows ≡ true → def.kind ≡ kinds.HashedMap
    → keys_differ def.keyed def.first rows ≡ stand def.kind def.first def.second def.keyed rows
hashed_map_stands def rows typed all is =
    let among : is_map def.kind ≡ true = ap is_map is in
    let off = (type_parts def typed).whole among in
    ap (λ k. keys_differ k def.first rows) off ∙ hashed_map def.first def.second rows (map_rows def rows among all)
    ∙ ap₂ (λ kind k. stand kind def.first def.second k rows) (sym is) (sym off)

pub ordered_map_stands : (def : TypeDef) (rows : List PlainRow) → is_type def ≡ true → list_all (is_row_of def) rows ≡ true → def.kind ≡ kinds.OrderedMap
    → each_next (in_turn (turn.Ascends def.keyed def.first)) rows ≡ stand def.kind def.first def.second def.keyed rows
ordered_map_stands def rows typed all is =
    let among : is_map def.kind ≡ true = ap is_map is in
    let off = (type_parts def typed).whole among in
    ap (λ k. each_next (key_less k def.first) rows) off ∙ ordered_map def.first def.second rows (map_rows def rows among all)
    ∙ ap₂ (λ kind k. stand kind def.first def.second k rows) (sym is) (sym off)

pub hashed_set_stands : (def : TypeDef) (rows : List PlainRow) → is_type def ≡ true → list_all (is_row_of def) rows ≡ true → def.kind ≡ kinds.HashedSet
    → keys_differ def.keyed def.first rows ≡ stand def.kind def.first def.second def.keyed rows
hashed_set_stands def rows typed all is =
    hashed_set def.first def.second def.keyed rows (set_rows def rows typed (ap is_map is) all) ∙ ap (λ kind. stand kind def.first def.second def.keyed rows) (sym is)

pub ordered_set_stands : (def : TypeDef) (rows : List PlainRow) → is_type def ≡ true → list_all (is_row_of def) rows ≡ true → def.kind ≡ kinds.OrderedSet
    → each_next (in_turn (turn.Ascends def.keyed def.first)) rows ≡ stand def.kind def.first def.second def.keyed rows
ordered_set_stands def rows typed all is =
    ordered_set def.first def.second def.keyed rows (set_rows def rows typed (ap is_map is) all) ∙ ap (λ kind. stand kind def.first def.second def.keyed rows) (sym is)

pub tree_stands : (def : TypeDef) (rows : List PlainRow) → def.kind ≡ kinds.Tree → follows 1 (map (λ r. r.depth) rows) ≡ stand def.kind def.first def.second def.keyed rows
tree_stands def rows is = ap (follows 1) (sym (depths_seen def.first rows)) ∙ ap (λ kind. stand kind def.first def.second def.keyed rows) (sym is)

-- kinds whose rows aren't tested together
pub plain_stands : (kind : Kind) (first : ElemKind) (second : Option ElemKind) (keyed : Bool) (rows : List PlainRow) → (own : Kind) → own ≡ kind
    → true ≡ stand kind first second keyed rows → true ≡ stand own first second keyed rows
plain_stands kind first second keyed rows own is h = h ∙ ap (λ kind. stand kind first second keyed rows) (sym is)

-- keys that were seen, from the last row on

differ_end : {V : Type 0} (rel : V → V → Bool) (vs ws : List V) → all_differ rel ws ≡ false → all_differ rel (vs ++ ws) ≡ false
differ_end rel [] ws h = h
differ_end rel (v ∷ vs) ws h = and_right (not (list_any (rel v) (vs ++ ws))) (all_differ rel (vs ++ ws)) (differ_end rel vs ws h)

pub keys_clash : {A V : Type 0} (rel : V → V → Bool) (f : A → V) (xs : List A) (at : ℕ) (x : A) → 1 ≤ at → at ≤ length xs → x ≡ get_or xs (at - 1) x
    → list_any (rel (f x)) (map f (drop at xs)) ≡ true → false ≡ all_differ rel (map f xs)
keys_clash rel f xs at x some within is clash =
    let next : suc (at - 1) ≡ at = omega (arith, some) in
    let one : drop (at - 1) xs ≡ x ∷ drop at xs = row_at xs (at - 1) x (omega (arith, some, within)) is ∙ ap (λ n. x ∷ drop n xs) next in
    let cut : map f xs ≡ map f (take (at - 1) xs) ++ map f (x ∷ drop at xs) =
    ap (map f) (sym (take-append-drop (at - 1) xs) ∙ ap (λ l. take (at - 1) xs ++ l) one) ∙ map-append f (take (at - 1) xs) (x ∷ drop at xs) in
    sym (ap (all_differ rel) cut ∙ differ_end rel (map f (take (at - 1) xs)) (map f (x ∷ drop at xs)) (ap (λ b. not b && all_differ rel (map f (drop at xs))) clash))
