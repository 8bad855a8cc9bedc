-- Kinds of objects with rows.
use Rattle.std.proofs.Common.{◌≡◌, ℕ, refl, ap, ◌∙◌, Some, option_map}
use Rattle.ac_model.specs.Objects.{Object}
use Rattle.ac_syntax.specs.declared.kind.ElemKind.{ElemKind}
use Rattle.ac_syntax.specs.declared.kind.ElemKind.TheVariants.{Integer, Str}
use Rattle.ac_calls.specs.KeyedReplies.{KeyedKind, of_hashed, of_ordered}
use Rattle.ac_calls.specs.Holdings.{SequenceKind, of_list, of_vector, RowKind, a_sequence, a_map, a_set, a_keyed_set, a_tree, RowOf, of_rows, both_same, all_same, same_element, same_sequence, same_keyed, same_kind, rows_in}

element_is : (e : ElemKind) → same_element e e ≡ Some refl
element_is Integer = refl
element_is Str = refl

sequence_is : (which : SequenceKind) → same_sequence which which ≡ Some refl
sequence_is of_list = refl
sequence_is of_vector = refl

keyed_is : (which : KeyedKind) → same_keyed which which ≡ Some refl
keyed_is of_hashed = refl
keyed_is of_ordered = refl

kind_is : (kind : RowKind) → same_kind kind kind ≡ Some refl
kind_is (a_sequence which e) = λ i. both_same (λ p q j. a_sequence (q j) (p j)) (element_is e i) (sequence_is which i)
kind_is (a_map which k e) = λ i. all_same (λ p q r j. a_map (r j) (p j) (q j)) (element_is k i) (element_is e i) (keyed_is which i)
kind_is (a_set which e) = λ i. both_same (λ p q j. a_set (q j) (p j)) (element_is e i) (keyed_is which i)
kind_is (a_keyed_set which) = λ i. option_map (λ p j. a_keyed_set (p j)) (keyed_is which i)
kind_is (a_tree e) = λ i. option_map (λ p j. a_tree (p j)) (element_is e i)

-- an object is of its own kind
pub rows_own : (kind : RowKind) (o : Object ℕ (RowOf kind)) → rows_in kind (Some (of_rows kind o)) ≡ Some o
rows_own kind o =
    ap (option_map (λ (p : kind ≡ kind). coe 0 1 (i. Object ℕ (RowOf (p i))) o)) (kind_is kind) ∙ (λ i. Some (coe i 1 (j. Object ℕ (RowOf kind)) o))
