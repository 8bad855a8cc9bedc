-- A list or a vector in one type: what is told of it is told of the one that it is.
use Rattle.std.specs.Prelude.{◌≡◌, Bool}
use Rattle.ac_base.specs.Guards.{GuardCounts}
use Rattle.ac_calls.specs.Holdings.{SequenceKind, of_list, of_vector}
use Rattle.ac_sequence_calls.specs.declared.sequence.Sequence.{Sequence}
use Rattle.ac_sequence_calls.specs.declared.sequence.Sequence.TheVariants.{List, Vector}

abbrev pub kind_of : {L V : Type 0} → Sequence L V → SequenceKind
kind_of (List l) = of_list
kind_of (Vector v) = of_vector

-- by what is told of a list and of a vector
abbrev pub by_kind : {L V X : Type 0} → (L → X) → (V → X) → Sequence L V → X
by_kind of_lists of_vectors (List l) = of_lists l.sequence
by_kind of_lists of_vectors (Vector v) = of_vectors v.sequence

-- with this number and these counts
abbrev pub with_guards_by : {L V : Type 0} → (L → GuardCounts → L) → (V → GuardCounts → V) → Sequence L V → GuardCounts → Sequence L V
with_guards_by list_with vector_with (List l) counts = List (record l { sequence = list_with l.sequence counts })
with_guards_by list_with vector_with (Vector v) counts = Vector (record v { sequence = vector_with v.sequence counts })

-- the laws of guards

module _ {L V : Type 0} (list_guards : L → GuardCounts) (vector_guards : V → GuardCounts) (list_with : L → GuardCounts → L) (vector_with : V → GuardCounts → V) where
  pub given_by : ((l : L) (counts : GuardCounts) → list_guards (list_with l counts) ≡ counts)
      → ((v : V) (counts : GuardCounts) → vector_guards (vector_with v counts) ≡ counts)
      → (s : Sequence L V) (counts : GuardCounts) → by_kind list_guards vector_guards (with_guards_by list_with vector_with s counts) ≡ counts
  given_by of_lists of_vectors (List l) counts = of_lists l.sequence counts
  given_by of_lists of_vectors (Vector v) counts = of_vectors v.sequence counts

  pub own_by : ((l : L) → list_with l (list_guards l) ≡ l) → ((v : V) → vector_with v (vector_guards v) ≡ v)
      → (s : Sequence L V) → with_guards_by list_with vector_with s (by_kind list_guards vector_guards s) ≡ s
  own_by of_lists of_vectors (List l) = λ i. List (record l { sequence = of_lists l.sequence i })
  own_by of_lists of_vectors (Vector v) = λ i. Vector (record v { sequence = of_vectors v.sequence i })

module _ {L V : Type 0} (list_with : L → GuardCounts → L) (vector_with : V → GuardCounts → V) where
  pub rest_by : ((l : L) (counts others : GuardCounts) → list_with (list_with l counts) others ≡ list_with l others)
      → ((v : V) (counts others : GuardCounts) → vector_with (vector_with v counts) others ≡ vector_with v others)
      → (s : Sequence L V) (counts others : GuardCounts)
      → with_guards_by list_with vector_with (with_guards_by list_with vector_with s counts) others ≡ with_guards_by list_with vector_with s others
  rest_by of_lists of_vectors (List l) counts others = λ i. List (record l { sequence = of_lists l.sequence counts others i })
  rest_by of_lists of_vectors (Vector v) counts others = λ i. Vector (record v { sequence = of_vectors v.sequence counts others i })

module _ {L V : Type 0} (list_is_set : L → Bool) (vector_is_set : V → Bool) (list_with : L → GuardCounts → L) (vector_with : V → GuardCounts → V) where
  pub set_by : ((l : L) (counts : GuardCounts) → list_is_set (list_with l counts) ≡ list_is_set l)
      → ((v : V) (counts : GuardCounts) → vector_is_set (vector_with v counts) ≡ vector_is_set v)
      → (s : Sequence L V) (counts : GuardCounts)
      → by_kind list_is_set vector_is_set (with_guards_by list_with vector_with s counts) ≡ by_kind list_is_set vector_is_set s
  set_by of_lists of_vectors (List l) counts = of_lists l.sequence counts
  set_by of_lists of_vectors (Vector v) counts = of_vectors v.sequence counts
