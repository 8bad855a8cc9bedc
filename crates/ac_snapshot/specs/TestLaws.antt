-- What the tests of a state decide, in the words of the types and of the model.
use Rattle.std.specs.Prelude.{◌≡◌, ℕ, ◌+◌, ℤ, Bool, true, not, nat_le, ◌&&◌, FitsSigned, Decides, List}
use Rattle.std.specs.Int.{w64}
use Rattle.std.specs.List.{list_any, sum_by}
use Rattle.std.specs.Str.{bytes_eq}
use Rattle.ac_base.specs.Order.{IsWeakOrder, are_level}
use Rattle.ac_base.specs.Text.{IsText}
use Rattle.ac_model.specs.Capacities.{IsStep}
use Rattle.ac_model.specs.Keyed.{Order, IsValidKeyed, InEachOrder, is_strictly_ascending}
use Rattle.ac_model.specs.Maps.{order_of}
use Rattle.ac_model.specs.Objects.{Object, IsValid, contents}
use Rattle.ac_model.specs.Outline.{IsValidTree}
use Rattle.ac_rules.specs.declared.limits.TheConstants.{MOST_ROOM}
use Rattle.ac_calls.specs.Elements.{tools_of, keyed_texts}
use Rattle.ac_calls.specs.Holdings.{RowKind, RowOf, a_sequence, a_map, a_set, a_keyed_set, a_tree}
use Rattle.ac_calls.specs.KeyedReplies.{order_by}
use Rattle.ac_calls.specs.Plains.{name_of}
use Rattle.ac_calls.specs.declared.plains.Plain.{Plain}
use Rattle.ac_snapshot.specs.RowValidity.{is_integer, is_text, all_differ, are_keyed_by, are_rows_of}
use Rattle.ac_snapshot.specs.Validity.{is_step, room_in, is_valid_entry, is_valid, is_valid_behind}

-- an integer is one that an `i64` can be
abbrev pub DecidesIntegers : Type 0
DecidesIntegers = (z : ℤ) → Decides (is_integer z) (FitsSigned w64 z)

abbrev pub DecidesTexts : Type 0
DecidesTexts = (bytes : List ℕ) → Decides (is_text bytes) (IsText bytes)

-- a Capacity is one that an unbounded object may have
abbrev pub DecidesSteps : Type 0
DecidesSteps = (c : ℕ) → Decides (is_step c) (IsStep c)

-- whether a map or a set is valid, in order of arrival or ascending
abbrev pub DecidesKeys : Type 0 → Type 0
DecidesKeys V = InEachOrder (λ (order : Order V). (o : Object ℕ V) → IsValid o → Decides (are_keyed_by order (contents o)) (IsValidKeyed order o))

-- where rows ascend, no two keys are equivalent
abbrev pub AscendingDiffer : Type 0 → Type 0
AscendingDiffer V =
    (less : V → V → Bool) → IsWeakOrder less → (vs : List V) → is_strictly_ascending less vs ≡ true → all_differ (are_level less) vs ≡ true

-- an entry is valid behind others where they are valid, it is valid, none of them has its name, and there is room for all
abbrev pub BehindInParts : Type 0
BehindInParts =
    (before : List Plain) (e : Plain) →
    is_valid_behind before e
    ≡ (is_valid before
    && (is_valid_entry e
    && (not (list_any (λ f. bytes_eq (name_of f) (name_of e)) before)
    && nat_le (sum_by room_in before + room_in e) MOST_ROOM)))

-- what holds of an object with rows of a kind
abbrev pub AreSound : (kind : RowKind) → Object ℕ (RowOf kind) → Type 0
AreSound (a_sequence _ _) o = IsValid o
AreSound (a_map which k _) o = IsValidKeyed (order_of (order_by (tools_of k) which)) o
AreSound (a_set which e) o = IsValidKeyed (order_by (tools_of e) which) o
AreSound (a_keyed_set which) o = IsValidKeyed (order_by keyed_texts which) o
AreSound (a_tree _) o = IsValidTree o

-- whether its rows are sound, whatever the kind
abbrev pub DecidesRows : Type 0
DecidesRows = (kind : RowKind) (o : Object ℕ (RowOf kind)) → IsValid o → Decides (are_rows_of kind (contents o)) (AreSound kind o)
