-- Queues that leave their places, and others that come there.
use Rattle.std.proofs.Common.{◌≡◌, ◌⊎◌, inl, inr, ◌==◌, ◌||◌, ◌+◌, ◌≤◌, ℕ, zero, suc, Bool, true, false, List, [], ◌∷◌, ◌++◌, append_assoc, drop, map, take, length, replicate, slice_get, slice_set, refl, sym, ap, subst, ◌∙◌, arith, if◌then◌else◌, Option, Some, None}
use Rattle.std.specs.List.{list_any}
use Rattle.std.specs.Ordering.{nat_cmp, is_lt, ord_min}
use Rattle.std.proofs.lemmas.Bool.Decides.{nat_tests}
use Rattle.std.proofs.lemmas.List.{map_push}
use Rattle.std.proofs.lemmas.List.Folds.{list_any-append}
use Rattle.std.proofs.Math.ListN.{drop_of_length-le}
use Rattle.std.proofs.lemmas.Option.{none-some, same_Some}
use Rattle.ac_model.specs.Queues.{TaskQueue}
use Rattle.ac_queue.specs.declared.any_queue.AnyQueue.{AnyQueue}
use Rattle.ac_queue.specs.Shared.{shared}
use Rattle.ac_rules.specs.Resolved.{ResolvedSimple, calls_at, sets_at, sums_at, ResolvedCode, no_statement, a_command, a_block}
use Rattle.ac_calls.specs.Holdings.{Held, of_rows, of_holder, of_queue}
use Rattle.ac_meaning.specs.Environment as meant
use Rattle.ac_meaning.specs.Environment.{State, binds_type, binds_object, binds_cursor, binds_value, binds_element, bound_in, object_in, object_at, with_bound}
use Rattle.ac_meaning.specs.TaskBlocks.{with_place, with_object, places_called, places_shared, queue_places, no_queue, queue_in, queues_at, queue_left, queues_left, one_block_more}
use Rattle.ac_objects.specs.declared.bound.Bound.{Bound}
use Rattle.ac_objects.specs.declared.bound.Bound.TheVariants as bound
use Rattle.ac_objects.specs.declared.numbered_queue.NumberedQueue.{NumberedQueue}
use Rattle.ac_objects.specs.declared.object.Object.{Object}
use Rattle.ac_objects.specs.declared.object.Object.TheVariants.{Integers, Texts, IntegerSet, TextSet, KeyedSet, IntegersByInteger, IntegersByText, TextsByInteger, TextsByText, IntegerTree, TextTree, IntegerHolder, TextHolder, Queue}
use Rattle.ac_objects.specs.Lent.{StandOnce, QueuesLent, bound_with, queue_held, bounds_with, queue_or, put_queue, queue_out, put_queues, queues_out}
use Rattle.ac_objects.specs.Steps.{Advances}
use Rattle.ac_objects.specs.World.{World, Counters, world, counted, bound_of, held_in, held_of, state_of, memory_of, IsSound}
use Rattle.ac_objects.proofs.CalledQueues.{queue_memory, lasts}
use Rattle.ac_meaning.proofs.Places.{get_other, set_same, set_twice}
use Rattle.ac_objects.proofs.Worlds.{state_set, bound_there, bound_past, set_advances, same_advances, advances_then, object_replaces, none_known}

-- A queue that goes to a place of an environment, if one stands there

abbrev put : State → (place : ℕ) → TaskQueue → State
put e place q = queue_left e place q (object_at e place)

-- whether one stands there is told by its number

number_there : Option Held → Option ℕ
number_there None = None
number_there (Some (of_rows kind o)) = None
number_there (Some (of_holder e h)) = None
number_there (Some (of_queue number q)) = Some number

placed : State → (place : ℕ) → TaskQueue → Option ℕ → State
placed e place q None = e
placed e place q (Some number) = with_bound e place (binds_object (of_queue number q))

put_is : (e : State) (place : ℕ) (q : TaskQueue) (found : Option Held) → queue_left e place q found ≡ placed e place q (number_there found)
unfolding placed number_there
put_is e place q None = refl
put_is e place q (Some (of_rows kind o)) = refl
put_is e place q (Some (of_holder element h)) = refl
put_is e place q (Some (of_queue number old)) = refl

set_apart : {A : Type 0} (xs : List A) (i j : ℕ) (a b : A) → (i ≡ j → ⊥) → slice_set (slice_set xs i a) j b ≡ slice_set (slice_set xs j b) i a
set_apart [] i j a b n = refl
set_apart (x ∷ xs) zero zero a b n = absurd (n refl)
set_apart (x ∷ xs) zero (suc j) a b n = refl
set_apart (x ∷ xs) (suc i) zero a b n = refl
set_apart (x ∷ xs) (suc i) (suc j) a b n = ap (λ ys. x ∷ ys) (set_apart xs i j a b (λ e. n (ap suc e)))

placed_apart : (e : State) (p r : ℕ) (q v : TaskQueue) (n m : Option ℕ) → (p ≡ r → ⊥) → placed (placed e p q n) r v m ≡ placed (placed e r v m) p q n
unfolding placed
placed_apart e p r q v None None n = refl
placed_apart e p r q v None (Some m) n = refl
placed_apart e p r q v (Some k) None n = refl
placed_apart e p r q v (Some k) (Some m) n =
    λ i. record e { bounds = set_apart e.bounds p r (binds_object (of_queue k q)) (binds_object (of_queue m v)) n i }

placed_twice : (e : State) (p : ℕ) (v q : TaskQueue) (n : Option ℕ) → placed (placed e p v n) p q n ≡ placed e p q n
unfolding placed
placed_twice e p v q None = refl
placed_twice e p v q (Some k) = λ i. record e { bounds = set_twice e.bounds p (binds_object (of_queue k v)) (binds_object (of_queue k q)) i }

other_there : (e : State) (p r : ℕ) (v : TaskQueue) (n : Option ℕ) → (p ≡ r → ⊥) → object_at (placed e p v n) r ≡ object_at e r
unfolding placed
other_there e p r v None apart = refl
other_there e p r v (Some k) apart = ap (λ b. object_in (bound_in b)) (get_other e.bounds p r (binds_object (of_queue k v)) apart)

-- a queue that went to a place stands there
same_there : (bs : List meant.Bound) (p k : ℕ) (v : TaskQueue) → number_there (object_in (bound_in (slice_get bs p))) ≡ Some k →
    object_in (bound_in (slice_get (slice_set bs p (binds_object (of_queue k v))) p)) ≡ Some (of_queue k v)
unfolding number_there
same_there [] p k v is = absurd (none-some k is)
same_there (b ∷ bs) zero k v is = refl
same_there (b ∷ bs) (suc p) k v is = same_there bs p k v is

number_stays : (e : State) (p : ℕ) (v : TaskQueue) (n : Option ℕ) → number_there (object_at e p) ≡ n → number_there (object_at (placed e p v n) p) ≡ n
unfolding placed number_there
number_stays e p v None is = is
number_stays e p v (Some k) is = ap number_there (same_there e.bounds p k v is)

put_apart : (e : State) (p r : ℕ) (q v : TaskQueue) → (p ≡ r → ⊥) → put (put e r v) p q ≡ put (put e p q) r v
put_apart e p r q v apart =
    let m = number_there (object_at e p) in
    let n = number_there (object_at e r) in
    let at_r : put e r v ≡ placed e r v n = put_is e r v (object_at e r) in
    let at_p : put e p q ≡ placed e p q m = put_is e p q (object_at e p) in
    ap (λ x. put x p q) at_r
    ∙ (put_is (placed e r v n) p q (object_at (placed e r v n) p)
    ∙ (ap (λ x. placed (placed e r v n) p q (number_there x)) (other_there e r p v n (λ same. apart (sym same)))
    ∙ (placed_apart e r p v q n m (λ same. apart (sym same))
    ∙ (ap (λ x. placed (placed e p q m) r v (number_there x)) (sym (other_there e p r q m apart))
    ∙ (sym (put_is (placed e p q m) r v (object_at (placed e p q m) r)) ∙ ap (λ x. put x r v) (sym at_p))))))

put_twice : (e : State) (p : ℕ) (v q : TaskQueue) → put (put e p v) p q ≡ put e p q
put_twice e p v q =
    let n = number_there (object_at e p) in
    ap (λ x. put x p q) (put_is e p v (object_at e p))
    ∙ (put_is (placed e p v n) p q (object_at (placed e p v n) p)
    ∙ (ap (λ x. placed (placed e p v n) p q x) (number_stays e p v n refl)
    ∙ (placed_twice e p v q n ∙ sym (put_is e p q (object_at e p)))))

put_other : (e : State) (p r : ℕ) (v : TaskQueue) → (p ≡ r → ⊥) → object_at (put e p v) r ≡ object_at e r
put_other e p r v apart =
    ap (λ x. object_at x r) (put_is e p v (object_at e p)) ∙ other_there e p r v (number_there (object_at e p)) apart

-- Several of them

no_first : (a b : Bool) → (a || b) ≡ false → (a ≡ false) × (b ≡ false)
no_first true b e = absurd (cc)
no_first false b e = (refl, e)

differ : (r p : ℕ) → (r == p) ≡ false → p ≡ r → ⊥
differ r p e same = grind (arith, nat_tests)

put_behind : (rs : List ℕ) (queues : List TaskQueue) (e : State) (p : ℕ) (q : TaskQueue) → list_any (λ r. r == p) rs ≡ false →
    put (queues_left rs queues e) p q ≡ queues_left rs queues (put e p q)
put_behind [] queues e p q apart = refl
put_behind (r ∷ rs) [] e p q apart = refl
put_behind (r ∷ rs) (v ∷ queues) e p q apart =
    let both = no_first (r == p) (list_any (λ x. x == p) rs) apart in
    put_behind rs queues (put e r v) p q both.1 ∙ ap (queues_left rs queues) (put_apart e p r q v (differ r p both.0))

left_again : (places : List ℕ) (others queues : List TaskQueue) (e : State) → StandOnce places → length others ≡ length places →
    length queues ≡ length places → queues_left places queues (queues_left places others e) ≡ queues_left places queues e
left_again [] others queues e once as_many all = refl
left_again (p ∷ places) [] queues e once as_many all = absurd (omega (arith, as_many))
left_again (p ∷ places) (v ∷ others) [] e once as_many all = absurd (omega (arith, all))
left_again (p ∷ places) (v ∷ others) (q ∷ queues) e once as_many all =
    ap (queues_left places queues) (put_behind places others (put e p v) p q once.0 ∙ ap (queues_left places others) (put_twice e p v q))
    ∙ left_again places others queues (put e p q) once.1 (omega (arith, as_many)) (omega (arith, all))

more_put : (e : State) (p : ℕ) (q : TaskQueue) (found : Option Held) → queue_left (one_block_more e) p q found ≡ one_block_more (queue_left e p q found)
more_put e p q None = refl
more_put e p q (Some (of_rows kind o)) = refl
more_put e p q (Some (of_holder element h)) = refl
more_put e p q (Some (of_queue number old)) = refl

more_left : (places : List ℕ) (queues : List TaskQueue) (e : State) → queues_left places queues (one_block_more e) ≡ one_block_more (queues_left places queues e)
more_left [] queues e = refl
more_left (p ∷ places) [] e = refl
more_left (p ∷ places) (q ∷ queues) e =
    ap (queues_left places queues) (more_put e p q (object_at e p)) ∙ more_left places queues (put e p q)

pub are_lent : (places : List ℕ) (others : List TaskQueue) (e now : State) → StandOnce places → length others ≡ length places →
    now ≡ one_block_more (queues_left places others e) → QueuesLent places e now
are_lent places others e now once as_many is queues all =
    ap (queues_left places queues) is
    ∙ (more_left places queues (queues_left places others e) ∙ ap one_block_more (left_again places others queues e once as_many all))

-- In memory

abbrev state_at : List Bound → Counters → State
state_at bs n = state_of (world bs n)

-- what is no queue there is none in the environment
other_held : (e : State) (p : ℕ) (q : TaskQueue) (o : Object) → queue_held (Some (bound.Object o)) ≡ None →
    (queue_left e p q (Some (held_of o)) ≡ e) × (queue_in (Some (held_of o)) ≡ no_queue)
unfolding memory_of
other_held e p q (Integers s) none = (refl, refl)
other_held e p q (Texts s) none = (refl, refl)
other_held e p q (IntegerSet s) none = (refl, refl)
other_held e p q (TextSet s) none = (refl, refl)
other_held e p q (KeyedSet s) none = (refl, refl)
other_held e p q (IntegersByInteger m) none = (refl, refl)
other_held e p q (IntegersByText m) none = (refl, refl)
other_held e p q (TextsByInteger m) none = (refl, refl)
other_held e p q (TextsByText m) none = (refl, refl)
other_held e p q (IntegerTree t) none = (refl, refl)
other_held e p q (TextTree t) none = (refl, refl)
other_held e p q (IntegerHolder h) none = (refl, refl)
other_held e p q (TextHolder h) none = (refl, refl)
other_held e p q (Queue s) none = absurd (none-some s (sym none))

queue_is : (s : NumberedQueue) → held_of (Queue s) ≡ of_queue s.tag (shared s.queue)
queue_is s = ap held_in (queue_memory s)

-- where none stands nothing changes
none_put : (e : State) (p : ℕ) (q : TaskQueue) (found : Option Bound) (b : meant.Bound) → queue_held found ≡ None →
    ((x : Bound) → found ≡ Some x → b ≡ bound_of x) → (found ≡ None → b ≡ binds_type) →
    (queue_left e p q (object_in b) ≡ e) × (queue_in (object_in b) ≡ no_queue)
none_put e p q None b none there past = subst (λ x. (queue_left e p q (object_in x) ≡ e) × (queue_in (object_in x) ≡ no_queue)) (sym (past refl)) (refl, refl)
none_put e p q (Some bound.Type) b none there past =
    subst (λ x. (queue_left e p q (object_in x) ≡ e) × (queue_in (object_in x) ≡ no_queue)) (sym (there bound.Type refl)) (refl, refl)
none_put e p q (Some (bound.Object o)) b none there past =
    subst (λ x. (queue_left e p q (object_in x) ≡ e) × (queue_in (object_in x) ≡ no_queue)) (sym (there (bound.Object o) refl)) (other_held e p q o none)
none_put e p q (Some (bound.Cursor c)) b none there past =
    subst (λ x. (queue_left e p q (object_in x) ≡ e) × (queue_in (object_in x) ≡ no_queue)) (sym (there (bound.Cursor c) refl)) (refl, refl)
none_put e p q (Some (bound.Value v)) b none there past =
    subst (λ x. (queue_left e p q (object_in x) ≡ e) × (queue_in (object_in x) ≡ no_queue)) (sym (there (bound.Value v) refl)) (refl, refl)
none_put e p q (Some (bound.Element object at)) b none there past =
    subst (λ x. (queue_left e p q (object_in x) ≡ e) × (queue_in (object_in x) ≡ no_queue)) (sym (there (bound.Element object at) refl)) (refl, refl)

found_queue : (found : Option Bound) (s : NumberedQueue) → queue_held found ≡ Some s → found ≡ Some (bound.Object (Queue s))
found_queue None s is = absurd (none-some s is)
found_queue (Some bound.Type) s is = absurd (none-some s is)
found_queue (Some (bound.Object (Queue old))) s is = ap (λ x. Some (bound.Object (Queue x))) (same_Some old s is)
found_queue (Some (bound.Object (Integers x))) s is = absurd (none-some s is)
found_queue (Some (bound.Object (Texts x))) s is = absurd (none-some s is)
found_queue (Some (bound.Object (IntegerSet x))) s is = absurd (none-some s is)
found_queue (Some (bound.Object (TextSet x))) s is = absurd (none-some s is)
found_queue (Some (bound.Object (KeyedSet x))) s is = absurd (none-some s is)
found_queue (Some (bound.Object (IntegersByInteger x))) s is = absurd (none-some s is)
found_queue (Some (bound.Object (IntegersByText x))) s is = absurd (none-some s is)
found_queue (Some (bound.Object (TextsByInteger x))) s is = absurd (none-some s is)
found_queue (Some (bound.Object (TextsByText x))) s is = absurd (none-some s is)
found_queue (Some (bound.Object (IntegerTree x))) s is = absurd (none-some s is)
found_queue (Some (bound.Object (TextTree x))) s is = absurd (none-some s is)
found_queue (Some (bound.Object (IntegerHolder x))) s is = absurd (none-some s is)
found_queue (Some (bound.Object (TextHolder x))) s is = absurd (none-some s is)
found_queue (Some (bound.Cursor c)) s is = absurd (none-some s is)
found_queue (Some (bound.Value v)) s is = absurd (none-some s is)
found_queue (Some (bound.Element object at)) s is = absurd (none-some s is)

module _ (bs : List Bound) (n : Counters) (p : ℕ) (q : AnyQueue) where
  -- with another queue in its place
  abbrev renewed : NumberedQueue → Object
  renewed old = Queue (record old { queue = q })

  where_none : queue_held (slice_get bs p) ≡ None →
      (put (state_at bs n) p (shared q) ≡ state_at bs n) × (queue_in (object_at (state_at bs n) p) ≡ no_queue)
  where_none none =
      none_put (state_at bs n) p (shared q) (slice_get bs p) (meant.bound_at (state_at bs n) p) none (λ x is. bound_there bs n p x is) (bound_past bs n p)

  where_some : (old : NumberedQueue) → queue_held (slice_get bs p) ≡ Some old → object_at (state_at bs n) p ≡ Some (of_queue old.tag (shared old.queue))
  where_some old is = ap object_in (bound_there bs n p (bound.Object (Queue old)) (found_queue (slice_get bs p) old is)) ∙ ap (λ h. Some h) (queue_is old)

  state_with : (found : Option NumberedQueue) → queue_held (slice_get bs p) ≡ found → state_at (bounds_with bs p q found) n ≡ put (state_at bs n) p (shared q)
  state_with None is = sym (where_none is).0
  state_with (Some old) is =
      state_set bs n p (bound.Object (renewed old))
      ∙ (ap (λ h. with_bound (state_at bs n) p (binds_object h)) (queue_is (record old { queue = q }))
      ∙ ap (queue_left (state_at bs n) p (shared q)) (sym (where_some old is)))

  state_put : state_at (put_queue p q bs) n ≡ put (state_at bs n) p (shared q)
  state_put = state_with (queue_held (slice_get bs p)) refl

  out_of : (found : Option NumberedQueue) → queue_held (slice_get bs p) ≡ found → shared q ≡ no_queue →
      shared (queue_or q found) ≡ queue_in (object_at (state_at bs n) p)
  out_of None is plain = plain ∙ sym (where_none is).1
  out_of (Some old) is plain = ap queue_in (sym (where_some old is))

  out_is : shared q ≡ no_queue → shared (queue_out p q bs) ≡ queue_in (object_at (state_at bs n) p)
  out_is plain = out_of (queue_held (slice_get bs p)) refl plain

  advances_by : (found : Option NumberedQueue) → queue_held (slice_get bs p) ≡ found → IsSound (world bs n) →
      Advances (world bs n) (world (bounds_with bs p q found) n)
  advances_by None is sound = same_advances (world bs n) sound
  advances_by (Some old) is sound =
      set_advances bs n p (bound.Object (Queue old)) (bound.Object (renewed old)) sound (found_queue (slice_get bs p) old is)
      (object_replaces (Queue old) (renewed old)
      (lasts old.tag (shared old.queue) (shared q) (Queue old) (renewed old) (queue_memory old) (queue_memory (record old { queue = q }))))
      (none_known (world bs n))

  advances_put : IsSound (world bs n) → Advances (world bs n) (world (put_queue p q bs) n)
  advances_put sound = advances_by (queue_held (slice_get bs p)) refl sound

pub put_all_state : (places : List ℕ) (queues : List AnyQueue) (bs : List Bound) (n : Counters) →
    state_at (put_queues places queues bs) n ≡ queues_left places (map shared queues) (state_at bs n)
put_all_state [] queues bs n = refl
put_all_state (p ∷ places) [] bs n = refl
put_all_state (p ∷ places) (q ∷ queues) bs n =
    put_all_state places queues (put_queue p q bs) n ∙ ap (queues_left places (map shared queues)) (state_put bs n p q)

pub put_all_advances : (places : List ℕ) (queues : List AnyQueue) (bs : List Bound) (n : Counters) → IsSound (world bs n) →
    Advances (world bs n) (world (put_queues places queues bs) n)
put_all_advances [] queues bs n sound = same_advances (world bs n) sound
put_all_advances (p ∷ places) [] bs n sound = same_advances (world bs n) sound
put_all_advances (p ∷ places) (q ∷ queues) bs n sound =
    let first = advances_put bs n p q sound in
    let now = put_queue p q bs in
    advances_then (world bs n) (world now n) (world (put_queues places queues now) n) first (put_all_advances places queues now n first.sound)

others_stay : (rs : List ℕ) (e : State) (p : ℕ) (q : TaskQueue) → list_any (λ r. r == p) rs ≡ false → queues_at (put e p q) rs ≡ queues_at e rs
others_stay [] e p q apart = refl
others_stay (r ∷ rs) e p q apart =
    let both = no_first (r == p) (list_any (λ x. x == p) rs) apart in
    λ i. queue_in (put_other e p r q (differ r p both.0) i) ∷ others_stay rs e p q both.1 i

first_of : TaskQueue → List TaskQueue → TaskQueue
first_of d [] = d
first_of d (x ∷ xs) = x

rest_of : List TaskQueue → List TaskQueue
rest_of [] = []
rest_of (x ∷ xs) = xs

first_same : (x y : TaskQueue) (xs ys : List TaskQueue) → x ∷ xs ≡ y ∷ ys → (x ≡ y) × (xs ≡ ys)
unfolding first_of rest_of
first_same x y xs ys e = (ap (first_of x) e, ap rest_of e)

no_more : (x : TaskQueue) (xs : List TaskQueue) → [] ≡ x ∷ xs → ⊥
no_more x xs e = cc

pub all_out : (places : List ℕ) (queues : List AnyQueue) (bs : List Bound) (n : Counters) → StandOnce places →
    map shared queues ≡ replicate (length places) no_queue → map shared (queues_out places queues bs) ≡ queues_at (state_at bs n) places
all_out [] queues bs n once plain = plain
all_out (p ∷ places) [] bs n once plain = absurd (no_more no_queue (replicate (length places) no_queue) plain)
all_out (p ∷ places) (q ∷ queues) bs n once plain =
    let both = first_same (shared q) no_queue (map shared queues) (replicate (length places) no_queue) plain in
    let now = put_queue p q bs in
    let rest : map shared (queues_out places queues now) ≡ queues_at (state_at bs n) places =
    all_out places queues now n once.1 both.1
    ∙ (ap (λ e. queues_at e places) (state_put bs n p q) ∙ others_stay places (state_at bs n) p (shared q) once.0) in
    λ i. out_is bs n p q both.0 i ∷ rest i

-- what the code exchanges

bound_put : (bs : List Bound) (p : ℕ) (q : AnyQueue) (b : Bound) → slice_get bs p ≡ Some b → slice_set bs p (bound_with q b) ≡ bounds_with bs p q (queue_held (Some b))
bound_put bs p q (bound.Object (Queue old)) there = refl
bound_put bs p q bound.Type there = set_same bs p bound.Type there
bound_put bs p q (bound.Cursor c) there = set_same bs p (bound.Cursor c) there
bound_put bs p q (bound.Value v) there = set_same bs p (bound.Value v) there
bound_put bs p q (bound.Element object at) there = set_same bs p (bound.Element object at) there
bound_put bs p q (bound.Object (Integers x)) there = set_same bs p (bound.Object (Integers x)) there
bound_put bs p q (bound.Object (Texts x)) there = set_same bs p (bound.Object (Texts x)) there
bound_put bs p q (bound.Object (IntegerSet x)) there = set_same bs p (bound.Object (IntegerSet x)) there
bound_put bs p q (bound.Object (TextSet x)) there = set_same bs p (bound.Object (TextSet x)) there
bound_put bs p q (bound.Object (KeyedSet x)) there = set_same bs p (bound.Object (KeyedSet x)) there
bound_put bs p q (bound.Object (IntegersByInteger x)) there = set_same bs p (bound.Object (IntegersByInteger x)) there
bound_put bs p q (bound.Object (IntegersByText x)) there = set_same bs p (bound.Object (IntegersByText x)) there
bound_put bs p q (bound.Object (TextsByInteger x)) there = set_same bs p (bound.Object (TextsByInteger x)) there
bound_put bs p q (bound.Object (TextsByText x)) there = set_same bs p (bound.Object (TextsByText x)) there
bound_put bs p q (bound.Object (IntegerTree x)) there = set_same bs p (bound.Object (IntegerTree x)) there
bound_put bs p q (bound.Object (TextTree x)) there = set_same bs p (bound.Object (TextTree x)) there
bound_put bs p q (bound.Object (IntegerHolder x)) there = set_same bs p (bound.Object (IntegerHolder x)) there
bound_put bs p q (bound.Object (TextHolder x)) there = set_same bs p (bound.Object (TextHolder x)) there

module _ (bs : List Bound) (p : ℕ) (q out : AnyQueue) (b new : Bound) (there : slice_get bs p ≡ Some b) where
  pub exchanged_put : new ≡ bound_with q b → slice_set bs p new ≡ put_queue p q bs
  exchanged_put is = ap (slice_set bs p) is ∙ (bound_put bs p q b there ∙ ap (λ found. bounds_with bs p q (queue_held found)) (sym there))

  pub exchanged_out : out ≡ queue_or q (queue_held (Some b)) → out ≡ queue_out p q bs
  exchanged_out is = is ∙ ap (λ found. queue_or q (queue_held found)) (sym there)

pub none_out : (bs : List Bound) (p : ℕ) (q : AnyQueue) → slice_get bs p ≡ None → q ≡ queue_out p q bs
none_out bs p q there = ap (λ found. queue_or q (queue_held found)) (sym there)

-- one after another

module _ {A : Type 0} where
  drop_at : (xs : List A) (i : ℕ) (x : A) → slice_get xs i ≡ Some x → drop i xs ≡ x ∷ drop (suc i) xs
  drop_at [] i x e = absurd (none-some x e)
  drop_at (y ∷ xs) zero x e = ap (λ z. z ∷ xs) (same_Some y x e)
  drop_at (y ∷ xs) (suc i) x e = drop_at xs i x e

  drop_set : (xs : List A) (i : ℕ) (x : A) → drop (suc i) (slice_set xs i x) ≡ drop (suc i) xs
  drop_set [] i x = refl
  drop_set (y ∷ xs) zero x = refl
  drop_set (y ∷ xs) (suc i) x = drop_set xs i x

  take_set : (xs : List A) (i : ℕ) (old x : A) → slice_get xs i ≡ Some old → take (suc i) (slice_set xs i x) ≡ take i xs ++ x ∷ []
  take_set [] i old x e = absurd (none-some old e)
  take_set (y ∷ xs) zero old x e = refl
  take_set (y ∷ xs) (suc i) old x e = ap (λ ys. y ∷ ys) (take_set xs i old x e)

  take_all : (xs : List A) (i : ℕ) → take i xs ++ drop i xs ≡ xs
  take_all [] zero = refl
  take_all [] (suc i) = refl
  take_all (x ∷ xs) zero = refl
  take_all (x ∷ xs) (suc i) = ap (λ ys. x ∷ ys) (take_all xs i)

put_none : (places : List ℕ) (bs : List Bound) → put_queues places [] bs ≡ bs
put_none [] bs = refl
put_none (p ∷ places) bs = refl

out_none : (places : List ℕ) (bs : List Bound) → queues_out places [] bs ≡ []
out_none [] bs = refl
out_none (p ∷ places) bs = refl

-- the exchanges that are left, behind so many of them
module _ (places : List ℕ) (queues : List AnyQueue) (bs : List Bound) (i : ℕ) where
  abbrev pub still_put : List Bound
  still_put = put_queues (drop i places) (drop i queues) bs

  abbrev pub still_out : List AnyQueue
  still_out = take i queues ++ queues_out (drop i places) (drop i queues) bs

  -- none, at the end of either list
  ends : (length places ≤ i) ⊎ (length queues ≤ i) → (still_put ≡ bs) × (still_out ≡ queues)
  ends (inl past) =
      let none = drop_of_length-le places {i = i} past in (
        ap (λ ps. put_queues ps (drop i queues) bs) none,
        ap (λ ps. take i queues ++ queues_out ps (drop i queues) bs) none ∙ take_all queues i,
      )
  ends (inr past) =
      let none = drop_of_length-le queues {i = i} past in (
        ap (λ qs. put_queues (drop i places) qs bs) none ∙ put_none (drop i places) bs,
        ap (λ qs. take i queues ++ queues_out (drop i places) qs bs) none
            ∙ (ap (λ qs. take i queues ++ qs) (out_none (drop i places) bs ∙ sym none) ∙ take_all queues i),
      )

  at_least : (b : Bool) → (if b then length queues else length places) ≤ i → (length places ≤ i) ⊎ (length queues ≤ i)
  at_least true e = inr e
  at_least false e = inl e

  pub end_put : ord_min nat_cmp (length places) (length queues) ≤ i → still_put ≡ bs
  end_put e = (ends (at_least (is_lt (nat_cmp (length queues) (length places))) e)).0

  pub end_out : ord_min nat_cmp (length places) (length queues) ≤ i → still_out ≡ queues
  end_out e = (ends (at_least (is_lt (nat_cmp (length queues) (length places))) e)).1

  module _ (p : ℕ) (q out : AnyQueue) (now : List Bound) (here : slice_get places i ≡ Some p) (there : slice_get queues i ≡ Some q) where
    next_put : now ≡ put_queue p q bs → put_queues (drop (suc i) places) (drop (suc i) (slice_set queues i out)) now ≡ still_put
    next_put is =
        ap (λ qs. put_queues (drop (suc i) places) qs now) (drop_set queues i out)
        ∙ (ap (put_queues (drop (suc i) places) (drop (suc i) queues)) is
        ∙ sym (λ k. put_queues (drop_at places i p here k) (drop_at queues i q there k) bs))

    next_out : now ≡ put_queue p q bs → out ≡ queue_out p q bs →
        take (suc i) (slice_set queues i out) ++ queues_out (drop (suc i) places) (drop (suc i) (slice_set queues i out)) now ≡ still_out
    next_out is leaves =
        (λ k. take_set queues i q out there k ++ queues_out (drop (suc i) places) (drop_set queues i out k) now)
        ∙ (append_assoc (take i queues) (out ∷ []) (queues_out (drop (suc i) places) (drop (suc i) queues) now)
        ∙ ap (λ qs. take i queues ++ qs)
        ((λ k. leaves k ∷ queues_out (drop (suc i) places) (drop (suc i) queues) (is k))
        ∙ sym (λ k. queues_out (drop_at places i p here k) (drop_at queues i q there k) bs)))

    pub step_put : now ≡ put_queue p q bs → put_queues (drop (i + 1) places) (drop (i + 1) (slice_set queues i out)) now ≡ still_put
    step_put is =
        let more : i + 1 ≡ suc i = omega arith in
        ap (λ k. put_queues (drop k places) (drop k (slice_set queues i out)) now) more ∙ next_put is

    pub step_out : now ≡ put_queue p q bs → out ≡ queue_out p q bs →
        take (i + 1) (slice_set queues i out) ++ queues_out (drop (i + 1) places) (drop (i + 1) (slice_set queues i out)) now ≡ still_out
    step_out is leaves =
        let more : i + 1 ≡ suc i = omega arith in
        ap (λ k. take k (slice_set queues i out) ++ queues_out (drop k places) (drop k (slice_set queues i out)) now) more ∙ next_out is leaves

-- one block more

begun : (n : Counters) (blocks : ℕ) → blocks ≡ n.blocks + 1 → (bs : List Bound) → state_at bs (counted n.next blocks) ≡ one_block_more (state_at bs n)
begun n blocks more bs = ap (λ k. state_at bs (counted n.next k)) more

other_counters : (bs : List Bound) (n : Counters) (blocks : ℕ) → IsSound (world bs n) → Advances (world bs n) (world bs (counted n.next blocks))
other_counters bs n blocks sound = record {
  sound = record {
    numbers_differ = record { once = sound.numbers_differ.once; below_next = sound.numbers_differ.below_next };
    cursors_known = λ i d h. let k = sound.cursors_known i d h in record { made = k.made; agrees = k.agrees };
  };
  persists = λ c k. record { made = k.made; agrees = k.agrees };
  counts = refl;
}

-- What the code does

replicate_length : (count : ℕ) → length (replicate count no_queue) ≡ count
replicate_length zero = refl
replicate_length (suc count) = ap suc (replicate_length count)

module _ (w : World) (bs now : List Bound) (n : Counters) (view : world bs n ≡ w) (sound : IsSound (world bs n)) (places : List ℕ) (queues : List AnyQueue)
    (put_is : now ≡ put_queues places queues bs) where
  pub returned_advances : Advances w (world now n)
  returned_advances =
      subst (λ ys. Advances w (world ys n)) (sym put_is)
      (subst (λ v. Advances v (world (put_queues places queues bs) n)) view (put_all_advances places queues bs n sound))

  pub returned_state : state_at now n ≡ queues_left places (map shared queues) (state_of w)
  returned_state =
      ap (λ ys. state_at ys n) put_is
      ∙ (put_all_state places queues bs n ∙ ap (λ v. queues_left places (map shared queues) (state_of v)) view)

  module _ (blocks : ℕ) (more : blocks ≡ n.blocks + 1) where
    pub lent_advances : Advances w (world now (counted n.next blocks))
    lent_advances =
        advances_then w (world now n) (world now (counted n.next blocks)) returned_advances (other_counters now n blocks returned_advances.sound)

    pub lent_state : StandOnce places → map shared queues ≡ replicate (length places) no_queue →
        QueuesLent places (state_of w) (state_at now (counted n.next blocks))
    lent_state once plain =
        are_lent places (map shared queues) (state_of w) (state_at now (counted n.next blocks)) once (ap length plain ∙ replicate_length (length places))
        (begun n blocks more now ∙ ap one_block_more returned_state)

  pub lent_queues : (out : List AnyQueue) → out ≡ queues_out places queues bs → StandOnce places → map shared queues ≡ replicate (length places) no_queue →
      map shared out ≡ queues_at (state_of w) places
  lent_queues out is once plain =
      ap (map shared) is ∙ (all_out places queues bs n once plain ∙ ap (λ v. queues_at (state_of v) places) view)

-- Of a block of tasks no place stands twice

apart_from : (x place : ℕ) → (x == place) ≡ false → (place == x) ≡ false
apart_from x place e = grind (arith, nat_tests)

neither : (a b : Bool) → a ≡ false → b ≡ false → (a || b) ≡ false
neither true b e f = absurd (cc)
neither false b e f = f

one_behind : (xs : List ℕ) (place : ℕ) → StandOnce xs → list_any (λ p. p == place) xs ≡ false → StandOnce (xs ++ place ∷ [])
one_behind [] place once other = (refl, tt)
one_behind (x ∷ xs) place once other =
    let both = no_first (x == place) (list_any (λ p. p == place) xs) other in (
      list_any-append (λ p. p == x) xs (place ∷ [])
          ∙ neither (list_any (λ p. p == x) xs) (list_any (λ p. p == x) (place ∷ [])) once.0 (neither (place == x) false (apart_from x place both.0) refl),
      one_behind xs place once.1 both.1,
    )

place_once : (places : List ℕ) (place : ℕ) → StandOnce places → StandOnce (with_place places place)
place_once places place once = go (list_any (λ p. p == place) places) refl
  where
    go : (b : Bool) → list_any (λ p. p == place) places ≡ b → StandOnce (if b then places else places ++ place ∷ [])
    go true is = once
    go false is = one_behind places place once is

object_once : (places : List ℕ) (simple : ResolvedSimple) → StandOnce places → StandOnce (with_object places simple)
object_once places (calls_at number target object operation args) once = place_once places object once
object_once places (sets_at number target from) once = once
object_once places (sums_at number target from minus k) once = once

called_once : (code : ResolvedCode) (places : List ℕ) → StandOnce places → StandOnce (places_called code places)
called_once no_statement places once = once
called_once (a_command simple rest) places once = called_once rest (with_object places simple) (object_once places simple once)
called_once (a_block head body rest) places once = called_once rest places once

shared_once : (tasks : ResolvedCode) (places : List ℕ) → StandOnce places → StandOnce (places_shared tasks places)
shared_once no_statement places once = once
shared_once (a_command simple rest) places once = shared_once rest places once
shared_once (a_block head steps rest) places once = shared_once rest (places_called steps places) (called_once steps places once)

pub places_stand_once : (tasks : ResolvedCode) → StandOnce (queue_places tasks)
places_stand_once tasks = shared_once tasks [] tt
