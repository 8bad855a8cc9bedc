-- What a call answers is what the table says: the parts, and that an element or a key that is looked up is there where nothing refuses the look.
use Rattle.std.proofs.Common.{◌≡◌, ◌==◌, ◌<◌, ◌≤◌, ◌-◌, ◌||◌, ◌&&◌, ℕ, zero, suc, ℤ, Bool, true, false, not, nat_lt, nat_le, List, [], ◌∷◌, length, slice_get, refl, sym, ap, subst, arith, is_some, option_map, Option, Some, None, if◌then◌else◌}
use Rattle.std.specs.Prelude.{pos, negsuc, is_none}
use Rattle.std.proofs.lemmas.Bool.Decides.{nat_tests}
use Rattle.ac_base.specs.declared.reason.Reason.{Reason}
use Rattle.ac_base.specs.declared.reason.Reason.TheVariants.{NoElement, ForeignCursor, DeadCursor, Empty, IndexRange, RootNode}
use Rattle.ac_base.specs.declared.value.Value.{Value}
use Rattle.ac_base.specs.FirstReason.{first_reason}
use Rattle.ac_base.specs.Rows.{Row, values}
use Rattle.ac_model.specs.Calls.{Look}
use Rattle.ac_model.specs.Letters.{Mark, no_mark, mark_at, stale_mark, name_of, needs, reason_if, is_index, index_in, place_of_index}
use Rattle.ac_model.specs.Objects.{Object, contents, length_of}
use Rattle.ac_model.specs.Rows.{is_named, named, value_at}
use Rattle.ac_model.specs.Trees.{needs_node, needs_element, is_root, view_reason}
use Rattle.ac_model.proofs.Moves.{found}
use Rattle.ac_syntax.specs.declared.kind.ElemKind.{ElemKind}
use Rattle.ac_syntax.specs.declared.kind.ElemKind.TheVariants.{Integer, Str}
use Rattle.ac_rules.specs.declared.rows.Answer.{Answer as Told}
use Rattle.ac_rules.specs.declared.rows.Answer.TheVariants as told
use Rattle.ac_rules.proofs.Apart.{neither, and_parts}
use Rattle.ac_calls.specs.Elements.{Tools, tools_of}
use Rattle.ac_calls.specs.Replies.{Arguments, Source, without, itself, another, by_source, Reply, looks, value_answer, as_value}
use Rattle.ac_meaning.specs.ValueTypes.{IsOf, IsAnswer, RepliesAs}
use Rattle.ac_meaning.proofs.CallsStay.{none_some, first_none, earlier_none}

-- Replies

pub by_source_as : {S : Type 0} (key element : ElemKind) (says : Told) (source : Source S) (own : Reply S) (two : S → Arguments → Reply S) →
    RepliesAs key element says own → ((s : S) (args : Arguments) → RepliesAs key element says (two s args)) →
    RepliesAs key element says (by_source source own two)
by_source_as key element says without own two h k = h
by_source_as key element says itself own two h k = h
by_source_as key element says (another s args) own two h k = k s args

-- a value of this type is looked up, and where nothing refuses it there is one
abbrev pub Gives : ElemKind → Look (Option Value) → Type 0
Gives element l = l.reason ≡ None → (v : Value) × (l.answer ≡ Some v) × IsOf element v

-- what the tools make of an element is a value of the type
abbrev pub Makes : {T : Type 0} → ElemKind → Tools T → Type 0
Makes {T} element tools = (x : T) → IsOf element (tools.to_value x)

pub tools_make : (e : ElemKind) → Makes e (tools_of e)
tools_make Integer n = refl
tools_make Str text = refl

made : {T : Type 0} (element : ElemKind) (tools : Tools T) → Makes element tools → (found : Option T) → is_some found ≡ true →
    (v : Value) × (option_map tools.to_value found ≡ Some v) × IsOf element v
made element tools makes None h = neither h
made element tools makes (Some x) h = (tools.to_value x, refl, makes x)

pub gives : {T : Type 0} (element : ElemKind) (tools : Tools T) → Makes element tools → (l : Look (Option T)) →
    (l.reason ≡ None → is_some l.answer ≡ true) → Gives element (as_value tools l)
gives element tools makes l there none = made element tools makes l.answer (there none)

pub element_given : {S : Type 0} (key element : ElemKind) (o : S) (l : Look (Option Value)) → Gives element l →
    RepliesAs key element told.Element (looks o value_answer l)
element_given key element o l h = record {
  answer = λ none. let g = h none in subst (λ a. IsAnswer key element told.Element (value_answer a)) (sym g.1) g.2;
}

key_given : {S : Type 0} (key element : ElemKind) (o : S) (l : Look (Option Value)) → Gives key l →
    RepliesAs key element told.Key (looks o value_answer l)
key_given key element o l h = record {
  answer = λ none. let g = h none in subst (λ a. IsAnswer key element told.Key (value_answer a)) (sym g.1) g.2;
}

-- where a call looks it up
pub element_looked : {S T : Type 0} (key element : ElemKind) (o : S) (tools : Tools T) → Makes element tools → (l : Look (Option T)) →
    (l.reason ≡ None → is_some l.answer ≡ true) → RepliesAs key element told.Element (looks o value_answer (as_value tools l))
element_looked key element o tools makes l there = element_given key element o (as_value tools l) (gives element tools makes l there)

pub key_looked : {S T : Type 0} (key element : ElemKind) (o : S) (keys : Tools T) → Makes key keys → (l : Look (Option T)) →
    (l.reason ≡ None → is_some l.answer ≡ true) → RepliesAs key element told.Key (looks o value_answer (as_value keys l))
key_looked key element o keys makes l there = key_given key element o (as_value keys l) (gives key keys makes l there)

-- What is looked up

pub some_mapped : {A B : Type 0} (f : A → B) (found : Option A) → is_some found ≡ true → is_some (option_map f found) ≡ true
some_mapped f None h = neither h
some_mapped f (Some x) h = refl

pub test_passed : (b : Bool) (reason : Reason) (others : List (Option Reason)) → first_reason (reason_if b reason ∷ others) ≡ None → b ≡ false
test_passed true reason others none = none_some reason (sym (first_none (Some reason) others none))
test_passed false reason others none = refl

pub not_false : (b : Bool) → not b ≡ false → b ≡ true
not_false true h = refl
not_false false h = neither (sym h)

some_named : {V : Type 0} (rows : List (Row ℕ V)) (name : ℕ) → is_named rows name ≡ true → is_some (value_at rows name) ≡ true
some_named {V} rows name there =
    let r = found name rows there in ap (λ (o : Option (Row ℕ V)). is_some (option_map (λ (x : Row ℕ V). x.value) o)) r.1

judged : (t b : Bool) → (if t then reason_if (not b) DeadCursor else Some ForeignCursor) ≡ None → b ≡ true
judged true true none = refl
judged true false none = none_some DeadCursor (sym none)
judged false b none = none_some ForeignCursor (sym none)

pub some_needed : {V : Type 0} (o : Object ℕ V) (c : Mark) → needs o c ≡ None → is_some (value_at o.rows (name_of c)) ≡ true
some_needed o no_mark none = none_some NoElement (sym none)
some_needed o (mark_at number name) none = some_named o.rows name (judged (number == o.number) (is_named o.rows name) none)
some_needed o (stale_mark number) none = neither (judged (number == o.number) false none)

pub some_looked : {V : Type 0} (o : Object ℕ V) (c : Mark) → first_reason (needs o c ∷ []) ≡ None → is_some (value_at o.rows (name_of c)) ≡ true
some_looked o c none = some_needed o c (first_none (needs o c) [] none)

no_root_reason : (b : Bool) → reason_if b RootNode ≡ None → b ≡ false
no_root_reason true none = none_some RootNode (sym none)
no_root_reason false none = refl

other_name : (zero named : Bool) → zero ≡ false → (zero || named) ≡ true → named ≡ true
other_name true named z h = neither (sym z)
other_name false named z h = h

some_node : {V : Type 0} (o : Object ℕ V) (c : Mark) → needs_node o c ≡ None → reason_if (is_root c) RootNode ≡ None →
    is_some (value_at o.rows (name_of c)) ≡ true
some_node o no_mark none root = none_some NoElement (sym none)
some_node o (mark_at number name) none root =
    some_named o.rows name
    (other_name (name == 0) (is_named o.rows name) (no_root_reason (name == 0) root)
    (judged (number == o.number) ((name == 0) || is_named o.rows name) none))
some_node o (stale_mark number) none root = neither (judged (number == o.number) false none)

pub some_viewed : {V : Type 0} (o : Object ℕ V) (c : Mark) → view_reason o c ≡ None → is_some (value_at o.rows (name_of c)) ≡ true
some_viewed o c none =
    let both = earlier_none (needs_node o c) (reason_if (is_root c) RootNode) (first_none (needs_element o c) [] none) in
    some_node o c both.0 both.1

-- by places

some_within : {A : Type 0} (xs : List A) (n : ℕ) → n < length xs → is_some (slice_get xs n) ≡ true
some_within [] n l = absurd (omega (arith, l))
some_within (x ∷ xs) zero l = refl
some_within (x ∷ xs) (suc n) l = some_within xs n (omega (arith, l))

same_length : {V : Type 0} (rows : List (Row ℕ V)) → length (values rows) ≡ length rows
same_length [] = refl
same_length (r ∷ rows) = ap suc (same_length rows)

some_at : {V : Type 0} (o : Object ℕ V) (n : ℕ) → n < length_of o → is_some (slice_get (contents o) n) ≡ true
some_at o n l = some_within (contents o) n (omega (arith, l, same_length o.rows))

not_empty : (n : ℕ) → (n == 0) ≡ false → 0 < n
not_empty n h = grind (arith, nat_tests)

pub some_first : {V : Type 0} (o : Object ℕ V) → first_reason (reason_if (length_of o == 0) Empty ∷ []) ≡ None →
    is_some (slice_get (contents o) 0) ≡ true
some_first o none = some_at o 0 (not_empty (length_of o) (test_passed (length_of o == 0) Empty [] none))

pub some_last : {V : Type 0} (o : Object ℕ V) → first_reason (reason_if (length_of o == 0) Empty ∷ []) ≡ None →
    is_some (slice_get (contents o) (length_of o - 1)) ≡ true
some_last o none =
    let some : 0 < length_of o = not_empty (length_of o) (test_passed (length_of o == 0) Empty [] none) in
    some_at o (length_of o - 1) (omega (arith, some))

below : (a b : ℕ) → nat_lt a b ≡ true → a < b
below a b h = grind (arith, nat_tests)

at_most : (a b : ℕ) → nat_le a b ≡ true → a ≤ b
at_most a b h = grind (arith, nat_tests)

index_within : (n last : ℕ) → (nat_lt 0 n && nat_le n last) ≡ true → n - 1 < last
index_within n last h =
    let both = and_parts (nat_lt 0 n) (nat_le n last) h in omega (arith, below 0 n both.0, at_most n last both.1)

place_within : (index : ℤ) (last : ℕ) → is_index index last ≡ true → place_of_index index < last
place_within (pos n) last h = index_within n last h
place_within (negsuc n) last h = neither h

pub some_indexed : {V : Type 0} (o : Object ℕ V) (index : ℤ) → first_reason (index_in index (length_of o) ∷ []) ≡ None →
    is_some (slice_get (contents o) (place_of_index index)) ≡ true
some_indexed o index none =
    some_at o (place_of_index index)
    (place_within index (length_of o) (not_false (is_index index (length_of o)) (test_passed (not (is_index index (length_of o))) IndexRange [] none)))

pub some_held : {T : Type 0} (element : Option T) → first_reason (reason_if (is_none element) Empty ∷ []) ≡ None → is_some element ≡ true
some_held None none = none_some Empty (sym none)
some_held (Some x) none = refl
