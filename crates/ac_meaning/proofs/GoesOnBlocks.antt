-- A block of tasks and the end of an update of a key leave each object as it was declared.
use Rattle.std.proofs.Common.{◌≡◌, ℕ, Bool, true, false, List, [], ◌∷◌, map, refl, ap, subst, ◌∙◌, inl, Option, Some, None, if◌then◌else◌}
use Rattle.ac_base.specs.declared.limit.Limit.{Limit}
use Rattle.ac_base.specs.declared.value.Value.{Value}
use Rattle.ac_model.specs.Letters.{Mark}
use Rattle.ac_model.specs.Queues.{Discipline, TaskQueue}
use Rattle.ac_history.specs.Blocks.{present}
use Rattle.ac_history.specs.Orders.{run_of}
use Rattle.ac_rules.specs.Resolved.{ResolvedCode}
use Rattle.ac_syntax.specs.declared.kind.ElemKind.{ElemKind}
use Rattle.ac_calls.specs.Holdings.{RowKind, a_sequence, a_map, a_set, a_keyed_set, a_tree, Held, of_rows, of_holder, of_queue, Guards, key_updated}
use Rattle.ac_meaning.specs.AsDeclared.{HeldGoesOn, BoundGoesOn, StateGoesOn}
use Rattle.ac_meaning.specs.Environment.{Bound, binds_type, binds_object, binds_cursor, binds_value, binds_element, object_in, State, under, at_rest, bound_at, with_bound, object_at}
use Rattle.ac_meaning.specs.Execution.{outcome, run_by, gathered, key_end_on}
use Rattle.ac_meaning.specs.HoldsTypes.{has_rows, has_place, has_line}
use Rattle.ac_meaning.specs.TaskBlocks.{queue_places, queue_in, queues_at, block_of, block_fits, queue_left, queues_left}
use Rattle.ac_meaning.proofs.BoundsStay.{object_there}
use Rattle.ac_meaning.proofs.GoesOnLists.{bound_then, each_same, each_then, each_set, each_at, under_goes, rest_goes}
use Rattle.ac_meaning.proofs.QueuesTold.{run_keeps}

-- Queues that come back

-- of a queue what its declaration says
pub record Told : Type 0 where
  pub discipline : Discipline
  pub limit : Limit

abbrev told : TaskQueue → Told
told q = record { discipline = q.discipline; limit = q.queue.limit }

line_not_rows : (d : Discipline) (kind : RowKind) → has_line d ≡ has_rows kind → ⊥
line_not_rows d kind e = cc

line_not_place : (d : Discipline) (element : ElemKind) → has_line d ≡ has_place element → ⊥
line_not_place d element e = cc

queue_goes : (b : Bound) (number : ℕ) (old q : TaskQueue) → BoundGoesOn b (binds_object (of_queue number old)) → told q ≡ told (queue_in (object_in b)) →
    BoundGoesOn b (binds_object (of_queue number q))
queue_goes binds_type number old q h t = absurd h
queue_goes (binds_object (of_rows kind o)) number old q h t = absurd (line_not_rows old.discipline kind h.shape)
queue_goes (binds_object (of_holder e x)) number old q h t = absurd (line_not_place old.discipline e h.shape)
queue_goes (binds_object (of_queue n own)) number old q h t =
    record { shape = ap (λ (x : Told). has_line x.discipline) t; limit = ap (λ (x : Told). x.limit) t; capacity = inl refl }
queue_goes (binds_cursor mark) number old q h t = absurd h
queue_goes (binds_value v) number old q h t = absurd h
queue_goes (binds_element object at) number old q h t = absurd h

left_goes : (e now : State) (place : ℕ) (q : TaskQueue) (found : Option Held) → object_at now place ≡ found → StateGoesOn e now →
    told q ≡ told (queue_in (object_at e place)) → StateGoesOn e (queue_left now place q found)
left_goes e now place q None f h t = h
left_goes e now place q (Some (of_rows kind o)) f h t = h
left_goes e now place q (Some (of_holder element x)) f h t = h
left_goes e now place q (Some (of_queue number old)) f h t =
    let there = object_there (bound_at now place) (of_queue number old) f in
    each_set e.bounds now.bounds place (binds_object (of_queue number q)) h
    (queue_goes (bound_at e place) number old q
    (subst (λ b. BoundGoesOn (bound_at e place) b) there (each_at e.bounds now.bounds place h)) t)

first_or : Told → List Told → Told
first_or other [] = other
first_or other (t ∷ ts) = t

rest_of : List Told → List Told
rest_of [] = []
rest_of (t ∷ ts) = ts

queues_go : (places : List ℕ) (queues : List TaskQueue) (e now : State) → StateGoesOn e now →
    map told queues ≡ map (λ place. told (queue_in (object_at e place))) places → StateGoesOn e (queues_left places queues now)
unfolding first_or rest_of
queues_go [] queues e now h t = h
queues_go (place ∷ places) [] e now h t = h
queues_go (place ∷ places) (q ∷ queues) e now h t =
    queues_go places queues e (queue_left now place q (object_at now place))
    (left_goes e now place q (object_at now place) refl h (ap (first_or (told q)) t)) (ap rest_of t)

told_at : (e : State) (places : List ℕ) → map told (queues_at e places) ≡ map (λ place. told (queue_in (object_at e place))) places
told_at e [] = refl
told_at e (place ∷ places) = ap (λ ts. told (queue_in (object_at e place)) ∷ ts) (told_at e places)

pub gathered_goes : (order : List ℕ) (tasks : ResolvedCode) (e : State) → StateGoesOn e (gathered order tasks e).after
gathered_goes order tasks e = go (block_fits (block_of e tasks))
  where
    go : (fits : Bool) → StateGoesOn e (if fits then run_by order tasks e else outcome [] e).after
    go true =
        queues_go (queue_places tasks) (present (run_of (block_of e tasks) order)).queues e e (each_same e.bounds)
        (run_keeps told (λ q after same i. record { discipline = q.discipline; limit = same i }) (block_of e tasks) order
        ∙ told_at e (queue_places tasks))
    go false = each_same e.bounds

-- The end of an update of a key

key_goes : (h : Held) (at : Mark) (v : Value) → HeldGoesOn h (key_updated h at v).after
key_goes (of_rows (a_sequence which e) o) at v = record { shape = refl; limit = refl; capacity = inl refl }
key_goes (of_rows (a_map which k e) o) at v = record { shape = refl; limit = refl; capacity = inl refl }
key_goes (of_rows (a_set which e) o) at v = record { shape = refl; limit = refl; capacity = inl refl }
key_goes (of_rows (a_keyed_set which) o) at v = record { shape = refl; limit = refl; capacity = inl refl }
key_goes (of_rows (a_tree e) o) at v = record { shape = refl; limit = refl; capacity = inl refl }
key_goes (of_holder e h) at v = record { shape = refl; limit = refl; capacity = inl refl }
key_goes (of_queue number q) at v = record { shape = refl; limit = refl; capacity = inl refl }

pub key_end_goes : (number object : ℕ) (held : Guards) (e : State) (at : Mark) (copy : Value) (found : Option Held) →
    object_at (under held e) object ≡ found → StateGoesOn e (key_end_on number object e at copy found).after
key_end_goes number object held e at copy None f = each_same e.bounds
key_end_goes number object held e at copy (Some h) f =
    let b = binds_object (key_updated h at copy).after in
    let put = with_bound e object b in
    let there = object_there (bound_at (under held e) object) h f in
    let here = subst (λ x. BoundGoesOn (bound_at e object) x) there (each_at e.bounds (under held e).bounds object (under_goes held e)) in
    each_then e.bounds put.bounds (at_rest put).bounds
    (each_set e.bounds e.bounds object b (each_same e.bounds) (bound_then (bound_at e object) (binds_object h) b here (key_goes h at copy)))
    (rest_goes put)
