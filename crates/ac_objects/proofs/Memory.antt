-- Cursors, counts and guards of an object in memory, whatever its kind.
use Rattle.std.proofs.Common.{◌≡◌, ℕ, false, refl, ◌∙◌}
use Rattle.ac_base.specs.declared.cursor.Cursor.{Cursor}
use Rattle.ac_base.specs.declared.cursor.Cursor.TheVariants as cursor
use Rattle.ac_base.specs.declared.guard.GuardKind.{GuardKind}
use Rattle.ac_base.specs.declared.guard.GuardKind.TheVariants as guard
use Rattle.ac_base.specs.declared.name.Name.{Name}
use Rattle.ac_base.specs.Guards.{GuardCounts, one_more, one_less, raised_kind}
use Rattle.ac_model.specs.Common.{hold_call, release_call, under_guards, guards_on}
use Rattle.ac_model.specs.Containers.{Container, with_guards}
use Rattle.ac_model.specs.Objects.{plain}
use Rattle.ac_calls.specs.Holdings.{RowKind, RowOf, of_rows, number_of, is_a_set, are_sets, with_rows_by}
use Rattle.ac_calls.specs.declared.argument.Arguments.{Arguments}
use Rattle.ac_calls.specs.Arguments.{SlotAgrees, cursor_in}
use Rattle.ac_objects.specs.Called.{AllAgreeIn}
use Rattle.ac_objects.specs.Counts.{counted_in}
use Rattle.ac_objects.specs.Standing.{counts_in_held}
use Rattle.ac_objects.specs.World.{InMemory, in_rows, in_holder, in_queue, held_in, AgreesIn}

-- cursors

pub none_in : (m : InMemory) → AgreesIn m cursor.NoElement
none_in (in_rows kind l) = tt
none_in (in_holder e h) = tt
none_in (in_queue number q) = tt

pub other_in : (m : InMemory) (object : ℕ) (name : Name) → (object ≡ number_of (held_in m) → ⊥) → AgreesIn m (cursor.At object name)
other_in (in_rows kind l) object name differ = λ e. absurd (differ e)
other_in (in_holder e h) object name differ = tt
other_in (in_queue number q) object name differ = tt

pub agrees_if_own : (m : InMemory) (object : ℕ) (name : Name) → (object ≡ number_of (held_in m) → AgreesIn m (cursor.At object name)) →
    AgreesIn m (cursor.At object name)
agrees_if_own (in_rows kind l) object name f = λ e. f e e
agrees_if_own (in_holder e h) object name f = tt
agrees_if_own (in_queue number q) object name f = tt

pub all_agree_in : (m : InMemory) (args : Arguments) → AgreesIn m (cursor_in args.first) → AgreesIn m (cursor_in args.second) →
    AgreesIn m (cursor_in args.third) → AgreesIn m (cursor_in args.fourth) → AllAgreeIn m args
all_agree_in (in_rows kind l) args first second third fourth = record { first = first; second = second; third = third; fourth = fourth }
all_agree_in (in_holder e h) args first second third fourth = tt
all_agree_in (in_queue number q) args first second third fourth = tt

-- counts of guards

abbrev pub counts_in_memory : InMemory → GuardCounts
counts_in_memory m = counts_in_held (held_in m)

pub own_number_in : (m : InMemory) → (counts_in_memory m).number ≡ number_of (held_in m)
own_number_in (in_rows kind l) = refl
own_number_in (in_holder e h) = refl
own_number_in (in_queue number q) = refl

pub number_counted : (m : InMemory) (counts : GuardCounts) → counts.number ≡ number_of (held_in m) → number_of (held_in (counted_in m counts)) ≡ number_of (held_in m)
number_counted (in_rows kind l) counts same = same
number_counted (in_holder e h) counts same = same
number_counted (in_queue number q) counts same = refl

guards_agree : {V : Type 0} (l : Container V) (counts : GuardCounts) (c : Cursor) → counts.number ≡ l.object.number → SlotAgrees l.object c →
    SlotAgrees (with_guards l counts).object c
guards_agree l counts cursor.NoElement same agrees = tt
guards_agree l counts (cursor.At object name) same agrees =
    λ e. let own = agrees (e ∙ same) in (own.0, record { given = own.1.given; slot = own.1.slot })

pub agrees_counted : (m : InMemory) (counts : GuardCounts) (c : Cursor) → counts.number ≡ number_of (held_in m) → AgreesIn m c →
    AgreesIn (counted_in m counts) c
agrees_counted (in_rows kind l) counts c same agrees = guards_agree l counts c same agrees
agrees_counted (in_holder e h) counts c same agrees = tt
agrees_counted (in_queue number q) counts c same agrees = tt

more_by : (of : RowKind) (l : Container (RowOf of)) (raised : GuardKind) →
    held_in (counted_in (in_rows of l) (one_more raised (counts_in_memory (in_rows of l))))
    ≡ of_rows of (under_guards (plain l.object) (one_more raised (guards_on (plain l.object))))
more_by of l guard.Cursors = refl
more_by of l guard.Elements = refl

pub more_in : (m : InMemory) (kind : GuardKind) →
    held_in (counted_in m (one_more (raised_kind (is_a_set (held_in m)) kind) (counts_in_memory m)))
    ≡ with_rows_by (λ V p. hold_call (is_a_set (held_in m)) kind p) (held_in m)
more_in (in_rows of l) kind = more_by of l (raised_kind (are_sets of) kind)
more_in (in_holder e h) guard.Cursors = refl
more_in (in_holder e h) guard.Elements = refl
more_in (in_queue number q) kind = refl

pub less_in : (m : InMemory) (kind : GuardKind) →
    held_in (counted_in m (one_less kind (counts_in_memory m))) ≡ with_rows_by (λ V p. release_call false kind p) (held_in m)
less_in (in_rows of l) guard.Cursors = refl
less_in (in_rows of l) guard.Elements = refl
less_in (in_holder e h) guard.Cursors = refl
less_in (in_holder e h) guard.Elements = refl
less_in (in_queue number q) kind = refl
