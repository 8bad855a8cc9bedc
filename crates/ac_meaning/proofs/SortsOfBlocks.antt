-- A block of tasks and the end of an update of a key leave each name what it held, by its type.
use Rattle.std.proofs.Common.{◌≡◌, ℕ, Bool, true, false, List, [], ◌∷◌, map, refl, sym, ap, ◌∙◌, Option, Some, None, if◌then◌else◌}
use Rattle.ac_base.specs.declared.value.Value.{Value}
use Rattle.ac_model.specs.Letters.{Mark}
use Rattle.ac_model.specs.Queues.{Discipline, by_arrival, TaskQueue}
use Rattle.ac_history.specs.Blocks.{present}
use Rattle.ac_history.specs.Orders.{run_of}
use Rattle.ac_rules.specs.Resolved.{ResolvedCode}
use Rattle.ac_calls.specs.Holdings.{a_sequence, a_map, a_set, a_keyed_set, a_tree, Held, of_rows, of_holder, of_queue, Guards, key_updated}
use Rattle.ac_meaning.specs.Environment.{Bound, binds_type, binds_object, binds_cursor, binds_value, binds_element, object_in, State, under, bound_at, with_bound, object_at}
use Rattle.ac_meaning.specs.Execution.{outcome as come_to, run_by, gathered, key_end_on}
use Rattle.ac_meaning.specs.HoldsTypes.{has_rows, has_place, has_line, shape_of}
use Rattle.ac_meaning.specs.TaskBlocks.{queue_places, queue_in, queues_at, block_of, block_fits, queue_left, queues_left}
use Rattle.ac_meaning.proofs.BoundsStay.{object_there}
use Rattle.ac_meaning.proofs.QueuesTold.{run_keeps}
use Rattle.ac_meaning.proofs.HoldsOn.{Sort, of_type, of_object, of_cursor, of_value, of_element, sort, sorts, sort_stays, sorts-under, sorts-at_rest, sorts-with_bound}

abbrev discipline_of : TaskQueue → Discipline
discipline_of q = q.discipline

-- Queues that come back

discipline_in : Sort → Discipline
discipline_in of_type = by_arrival
discipline_in (of_object (has_rows kind)) = by_arrival
discipline_in (of_object (has_place e)) = by_arrival
discipline_in (of_object (has_line d)) = d
discipline_in of_cursor = by_arrival
discipline_in of_value = by_arrival
discipline_in (of_element object) = by_arrival

sorted_discipline : (b : Bound) → (queue_in (object_in b)).discipline ≡ discipline_in (sort b)
unfolding discipline_in
sorted_discipline binds_type = refl
sorted_discipline (binds_object (of_rows kind o)) = refl
sorted_discipline (binds_object (of_holder e h)) = refl
sorted_discipline (binds_object (of_queue number q)) = refl
sorted_discipline (binds_cursor mark) = refl
sorted_discipline (binds_value v) = refl
sorted_discipline (binds_element object at) = refl

left_sorts : (e : State) (place : ℕ) (q : TaskQueue) (found : Option Held) → object_at e place ≡ found →
    q.discipline ≡ discipline_in (sort (bound_at e place)) → sorts (queue_left e place q found) ≡ sorts e
unfolding discipline_in
left_sorts e place q None f is = refl
left_sorts e place q (Some (of_rows kind o)) f is = refl
left_sorts e place q (Some (of_holder element h)) f is = refl
left_sorts e place q (Some (of_queue number old)) f is =
    let there = object_there (bound_at e place) (of_queue number old) f in
    sorts-with_bound e place (binds_object (of_queue number q))
    (ap (λ d. of_object (has_line d)) (is ∙ ap (λ b. discipline_in (sort b)) there) ∙ sym (ap sort there))

first_or : List Discipline → Discipline
first_or [] = by_arrival
first_or (d ∷ ds) = d

rest_of : List Discipline → List Discipline
rest_of [] = []
rest_of (d ∷ ds) = ds

queues_sorts : (places : List ℕ) (queues : List TaskQueue) (e now : State) → sorts now ≡ sorts e →
    map discipline_of queues ≡ map (λ place. (queue_in (object_at e place)).discipline) places → sorts (queues_left places queues now) ≡ sorts e
unfolding first_or rest_of
queues_sorts [] queues e now same h = same
queues_sorts (place ∷ places) [] e now same h = same
queues_sorts (place ∷ places) (q ∷ queues) e now same h =
    let here : q.discipline ≡ (queue_in (object_at e place)).discipline = ap first_or h in
    let own = here ∙ sorted_discipline (bound_at e place) ∙ ap discipline_in (sym (sort_stays e now place same)) in
    queues_sorts places queues e (queue_left now place q (object_at now place))
    (left_sorts now place q (object_at now place) refl own ∙ same) (ap rest_of h)

disciplines_at : (e : State) (places : List ℕ) → map discipline_of (queues_at e places) ≡ map (λ place. (queue_in (object_at e place)).discipline) places
disciplines_at e [] = refl
disciplines_at e (place ∷ places) = ap (λ ds. (queue_in (object_at e place)).discipline ∷ ds) (disciplines_at e places)

pub gathered_sorts : (order : List ℕ) (tasks : ResolvedCode) (e : State) → sorts (gathered order tasks e).after ≡ sorts e
gathered_sorts order tasks e = go (block_fits (block_of e tasks))
  where
    go : (fits : Bool) → sorts (if fits then run_by order tasks e else come_to [] e).after ≡ sorts e
    go true =
        queues_sorts (queue_places tasks) (present (run_of (block_of e tasks) order)).queues e e refl
        (run_keeps discipline_of (λ q after same. refl) (block_of e tasks) order ∙ disciplines_at e (queue_places tasks))
    go false = refl

-- The end of an update of a key

key_shape : (h : Held) (at : Mark) (v : Value) → shape_of (key_updated h at v).after ≡ shape_of h
key_shape (of_rows (a_sequence which e) o) at v = refl
key_shape (of_rows (a_map which k e) o) at v = refl
key_shape (of_rows (a_set which e) o) at v = refl
key_shape (of_rows (a_keyed_set which) o) at v = refl
key_shape (of_rows (a_tree e) o) at v = refl
key_shape (of_holder e h) at v = refl
key_shape (of_queue number q) at v = refl

pub key_end_sorts : (number object : ℕ) (held : Guards) (e : State) (at : Mark) (copy : Value) (found : Option Held) →
    object_at (under held e) object ≡ found → sorts (key_end_on number object e at copy found).after ≡ sorts e
key_end_sorts number object held e at copy None f = refl
key_end_sorts number object held e at copy (Some h) f =
    let there = object_there (bound_at (under held e) object) h f in
    sorts-at_rest (with_bound e object (binds_object (key_updated h at copy).after))
    ∙ sorts-with_bound e object (binds_object (key_updated h at copy).after)
    (ap of_object (key_shape h at copy) ∙ (sym (ap sort there) ∙ sort_stays e (under held e) object (sorts-under held e)))
