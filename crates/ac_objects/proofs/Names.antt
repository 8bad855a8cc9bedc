-- What a name holds, read and set.
use Rattle.std.proofs.Common.{◌≡◌, ℕ, ℤ, false, List, [], ◌∷◌, get_or, slice_get, slice_set, refl, sym, ap, subst, ◌∙◌, arith, is_none, Option, Some, None, IfSome, Result, Ok, Err, IfOk}
use Rattle.std.proofs.lemmas.Bool.Decides.{nat_tests}
use Rattle.std.specs.Borrow.{Bor}
use Rattle.ac_base.specs.declared.cursor.Cursor.{Cursor}
use Rattle.ac_base.specs.declared.fault.Fault.{Fault}
use Rattle.ac_base.specs.declared.fault.Fault.TheVariants as fault
use Rattle.ac_base.specs.declared.fault.NoMemory.{NoMemory}
use Rattle.ac_base.specs.declared.limit.Limit.{Limit}
use Rattle.ac_base.specs.declared.limit.Limit.TheVariants.{Unbounded, Bounded}
use Rattle.ac_base.specs.declared.reason.Reason.TheVariants.{Empty, TooLarge}
use Rattle.ac_base.specs.declared.value.Value.{Value}
use Rattle.ac_base.specs.declared.value.Value.TheVariants.{Int}
use Rattle.ac_base.specs.FirstReason.{first_reason}
use Rattle.ac_base.specs.Limits.{is_past}
use Rattle.ac_model.specs.Calls.{Done}
use Rattle.ac_model.specs.Cursors.{plain_mark}
use Rattle.ac_model.specs.Holders.{is_too_large}
use Rattle.ac_model.specs.Letters.{Mark, no_mark, reason_if}
use Rattle.ac_model.specs.Objects as model
use Rattle.ac_syntax.specs.declared.kind.ElemKind.{ElemKind}
use Rattle.ac_syntax.specs.declared.kind.ElemKind.TheVariants.{Integer, Str}
use Rattle.ac_meaning.specs.Commands.{argument_in, answer_in, assigned_to, element_written, mark_set, value_set}
use Rattle.ac_meaning.specs.Environment as meant
use Rattle.ac_meaning.specs.Environment.{State, value_in, value_or_zero, element_in, mark_in, bound_at, object_at, binds_object, with_bound}
use Rattle.ac_calls.specs.Elements.{ElementOf, tools_of, integer_in}
use Rattle.ac_calls.specs.Replies.{value_argument}
use Rattle.ac_calls.specs.Holdings.{RowKind, RowOf, a_sequence, a_map, a_set, a_keyed_set, a_tree, Held, of_rows, of_holder, of_queue, element_value, Written, write}
use Rattle.ac_objects.specs.declared.bound.Bound.{Bound}
use Rattle.ac_objects.specs.declared.bound.Bound.TheVariants as bound
use Rattle.ac_objects.specs.declared.object.Object.{Object}
use Rattle.ac_objects.specs.Called.{WritesTo, NotRaised, IsWithinLimit, Lasts}
use Rattle.ac_objects.specs.Given.{HoldsObject, HoldsValue, IsVariable, HoldsCursor}
use Rattle.ac_objects.specs.Standing.{ElementsStand}
use Rattle.ac_objects.specs.Steps.{Advances, CanRead, AssignsTo, WritesAt, SetsMark, SetsValue, StandsSomewhere, marked}
use Rattle.ac_objects.specs.World.{World, Counters, world, state_of, bound_of, held_of, IsKnown, IsSound, cursor_in}
use Rattle.ac_meaning.proofs.Places.{all_at, set_same, found_or}
use Rattle.ac_objects.proofs.Worlds.{stands_in, object_there_in, bound_there, bound_past, state_set, set_advances, same_advances, object_replaces, none_known, known_agrees}

-- Reading

pub read_found : (w : World) (bs : List Bound) (n : Counters) (i : ℕ) (b : Bound) → world bs n ≡ w → slice_get bs i ≡ Some b →
    argument_in (state_of w) (bound_of b) ≡ argument_in (state_of w) (bound_at (state_of w) i)
read_found w bs n i b view there =
    subst (λ x. argument_in (state_of x) (bound_of b) ≡ argument_in (state_of x) (bound_at (state_of x) i)) view
    (ap (argument_in (state_of (world bs n))) (sym (bound_there bs n i b there)))

pub say_found : (w : World) (bs : List Bound) (n : Counters) (i : ℕ) (b : Bound) → world bs n ≡ w → slice_get bs i ≡ Some b →
    answer_in (state_of w) (bound_of b) ≡ answer_in (state_of w) (bound_at (state_of w) i)
say_found w bs n i b view there =
    subst (λ x. answer_in (state_of x) (bound_of b) ≡ answer_in (state_of x) (bound_at (state_of x) i)) view
    (ap (answer_in (state_of (world bs n))) (sym (bound_there bs n i b there)))

pub read_past : (w : World) (bs : List Bound) (n : Counters) (i : ℕ) → world bs n ≡ w → slice_get bs i ≡ None →
    argument_in (state_of w) meant.binds_type ≡ argument_in (state_of w) (bound_at (state_of w) i)
read_past w bs n i view past =
    subst (λ x. argument_in (state_of x) meant.binds_type ≡ argument_in (state_of x) (bound_at (state_of x) i)) view
    (ap (argument_in (state_of (world bs n))) (sym (bound_past bs n i past)))

pub say_past : (w : World) (bs : List Bound) (n : Counters) (i : ℕ) → world bs n ≡ w → slice_get bs i ≡ None →
    answer_in (state_of w) meant.binds_type ≡ answer_in (state_of w) (bound_at (state_of w) i)
say_past w bs n i view past =
    subst (λ x. answer_in (state_of x) meant.binds_type ≡ answer_in (state_of x) (bound_at (state_of x) i)) view
    (ap (answer_in (state_of (world bs n))) (sym (bound_past bs n i past)))

-- the value that an argument is read as is the present value
pub value_read : (e : State) (b : meant.Bound) → (argument_in e b).value ≡ value_in e b
value_read e meant.binds_type = refl
value_read e (meant.binds_object h) = refl
value_read e (meant.binds_cursor mark) = refl
value_read e (meant.binds_value v) = refl
value_read e (meant.binds_element object at) = refl

pub can_read : (bs : List Bound) (n : Counters) (i object : ℕ) (at : Cursor) → IsSound (world bs n) → ElementsStand (state_of (world bs n)) →
    slice_get bs i ≡ Some (bound.Element object at) → CanRead bs object at
can_read bs n i object at sound stand there =
    let st = stand i object (plain_mark at) (bound_there bs n i (bound.Element object at) there) in
    let s = stands_in bs n object st.held st.there in
    let known = all_at (λ b. IsKnown (world bs n) (cursor_in b)) bs i (bound.Element object at) sound.cursors_known there in
    record {
      held = s.object;
      there = s.there;
      agrees = known_agrees bs n object s.object at known s.there;
      stands = subst (λ h. (element_value h (plain_mark at)).reason ≡ None) (sym s.is_held) st.stands;
    }

pub can_read_in : (w : World) (bs : List Bound) (n : Counters) (i object : ℕ) (at : Cursor) → world bs n ≡ w → IsSound (world bs n) → ElementsStand (state_of w) →
    slice_get bs i ≡ Some (bound.Element object at) → CanRead bs object at
can_read_in w bs n i object at view sound stand there = can_read bs n i object at sound (subst (λ x. ElementsStand (state_of x)) (sym view) stand) there

-- what is found at the object's place is the object
pub read_object : (bs : List Bound) (i : ℕ) (at : Cursor) (b : Bound) (found : Option (Bor Object)) (r : CanRead bs i at) → b ≡ get_or bs i b → HoldsObject b found →
    HoldsObject (bound.Object r.held) found
read_object bs i at b found r e holds = subst (λ x. HoldsObject x found) (e ∙ found_or bs i (bound.Object r.held) b r.there) holds

pub reads_value : (bs : List Bound) (i : ℕ) (at : Cursor) (r : CanRead bs i at) (o : Object) → o ≡ r.held → (result : Result Value NoMemory) →
    IfOk result (λ v. (element_value (held_of o) (plain_mark at)).answer ≡ Some v) → (n : Counters) →
    IfOk result (λ v. v ≡ value_in (state_of (world bs n)) (meant.binds_element i (plain_mark at)))
reads_value bs i at r o same (Ok v) e n =
    let m = plain_mark at in
    sym (ap (λ h. value_or_zero (element_in h m)) (object_there_in bs n i r.held r.there)
    ∙ ap value_or_zero (ap (λ x. (element_value (held_of x) m).answer) (sym same) ∙ e))
reads_value bs i at r o same (Err none) e n = tt

-- A variable

held_variable : (b : Bound) (r : Option (Bor Value)) → HoldsValue b r → IsVariable (bound_of b) r
held_variable bound.Type None h = h
held_variable bound.Type (Some w) h = h
held_variable (bound.Object o) None h = h
held_variable (bound.Object o) (Some w) h = h
held_variable (bound.Cursor held) None h = h
held_variable (bound.Cursor held) (Some w) h = h
held_variable (bound.Value v) None h = h
held_variable (bound.Value v) (Some w) h = h
held_variable (bound.Element object at) None h = h
held_variable (bound.Element object at) (Some w) h = h

pub variable_found : (w : World) (bs : List Bound) (n : Counters) (i : ℕ) (b : Bound) (r : Option (Bor Value)) → world bs n ≡ w → slice_get bs i ≡ Some b → HoldsValue b r →
    IsVariable (bound_at (state_of w) i) r
variable_found w bs n i b r view there holds =
    subst (λ x. IsVariable (bound_at (state_of x) i) r) view (subst (λ k. IsVariable k r) (sym (bound_there bs n i b there)) (held_variable b r holds))

pub variable_past : (w : World) (bs : List Bound) (n : Counters) (i : ℕ) → world bs n ≡ w → slice_get bs i ≡ None → IsVariable (bound_at (state_of w) i) None
variable_past w bs n i view past = subst (λ x. IsVariable (bound_at (state_of x) i) None) view (subst (λ k. IsVariable k None) (sym (bound_past bs n i past)) tt)

-- a variable as an argument, and as an integer
pub variable_argument : (e : State) (b : meant.Bound) (r : Option (Bor Value)) → IsVariable b r → IfSome r (λ w. argument_in e b ≡ value_argument w.now)
variable_argument e b None h = tt
variable_argument e meant.binds_type (Some w) h = absurd h
variable_argument e (meant.binds_object o) (Some w) h = absurd h
variable_argument e (meant.binds_cursor mark) (Some w) h = absurd h
variable_argument e (meant.binds_value v) (Some w) h = ap value_argument (sym h)
variable_argument e (meant.binds_element object at) (Some w) h = absurd h

pub variable_integer : (e : State) (b : meant.Bound) (w : Bor Value) → IsVariable b (Some w) → integer_in w.now ≡ integer_in (value_in e b)
variable_integer e meant.binds_type w h = absurd h
variable_integer e (meant.binds_object o) w h = absurd h
variable_integer e (meant.binds_cursor mark) w h = absurd h
variable_integer e (meant.binds_value v) w h = ap integer_in h
variable_integer e (meant.binds_element object at) w h = absurd h

-- A cursor

held_mark : (b : Bound) (c : Cursor) → HoldsCursor b c → plain_mark c ≡ mark_in (bound_of b)
held_mark bound.Type c e = ap plain_mark e
held_mark (bound.Object o) c e = ap plain_mark e
held_mark (bound.Cursor held) c e = ap plain_mark e
held_mark (bound.Value v) c e = ap plain_mark e
held_mark (bound.Element object at) c e = ap plain_mark e

pub mark_found : (w : World) (bs : List Bound) (n : Counters) (i : ℕ) (b : Bound) (c : Cursor) → world bs n ≡ w → slice_get bs i ≡ Some b → HoldsCursor b c →
    plain_mark c ≡ mark_in (bound_at (state_of w) i)
mark_found w bs n i b c view there holds =
    subst (λ x. plain_mark c ≡ mark_in (bound_at (state_of x) i)) view (held_mark b c holds ∙ ap mark_in (sym (bound_there bs n i b there)))

pub mark_past : (w : World) (bs : List Bound) (n : Counters) (i : ℕ) → world bs n ≡ w → slice_get bs i ≡ None → no_mark ≡ mark_in (bound_at (state_of w) i)
mark_past w bs n i view past = subst (λ x. no_mark ≡ mark_in (bound_at (state_of x) i)) view (ap mark_in (sym (bound_past bs n i past)))

advances_marked : (bs : List Bound) (n : Counters) (i : ℕ) (c : Cursor) (b : Bound) → slice_get bs i ≡ Some b → IsSound (world bs n) → IsKnown (world bs n) c →
    Advances (world bs n) (world (slice_set bs i (marked c b)) n)
advances_marked bs n i c (bound.Cursor old) there sound known =
    set_advances bs n i (bound.Cursor old) (bound.Cursor c) sound there (record { counts = refl; agrees = λ x h. tt }) known
advances_marked bs n i c bound.Type there sound known =
    subst (λ ys. Advances (world bs n) (world ys n)) (sym (set_same bs i bound.Type there)) (same_advances (world bs n) sound)
advances_marked bs n i c (bound.Object o) there sound known =
    subst (λ ys. Advances (world bs n) (world ys n)) (sym (set_same bs i (bound.Object o) there)) (same_advances (world bs n) sound)
advances_marked bs n i c (bound.Value v) there sound known =
    subst (λ ys. Advances (world bs n) (world ys n)) (sym (set_same bs i (bound.Value v) there)) (same_advances (world bs n) sound)
advances_marked bs n i c (bound.Element object at) there sound known =
    subst (λ ys. Advances (world bs n) (world ys n)) (sym (set_same bs i (bound.Element object at) there)) (same_advances (world bs n) sound)

state_marked : (bs : List Bound) (n : Counters) (i : ℕ) (c : Cursor) (b : Bound) → slice_get bs i ≡ Some b →
    state_of (world (slice_set bs i (marked c b)) n) ≡ mark_set (state_of (world bs n)) i (plain_mark c) (bound_of b)
state_marked bs n i c (bound.Cursor old) there = state_set bs n i (bound.Cursor c)
state_marked bs n i c bound.Type there = ap (λ ys. state_of (world ys n)) (set_same bs i bound.Type there)
state_marked bs n i c (bound.Object o) there = ap (λ ys. state_of (world ys n)) (set_same bs i (bound.Object o) there)
state_marked bs n i c (bound.Value v) there = ap (λ ys. state_of (world ys n)) (set_same bs i (bound.Value v) there)
state_marked bs n i c (bound.Element object at) there = ap (λ ys. state_of (world ys n)) (set_same bs i (bound.Element object at) there)

pub sets_mark : (bs : List Bound) (i : ℕ) (c : Cursor) (b new : Bound) → slice_get bs i ≡ Some b → new ≡ marked c b → SetsMark i c bs (slice_set bs i new)
sets_mark bs i c b new there is =
    subst (λ x. SetsMark i c bs (slice_set bs i x)) (sym is)
    (record {
      advances = λ n sound known. advances_marked bs n i c b there sound known;
      set = λ n. state_marked bs n i c b there ∙ ap (mark_set (state_of (world bs n)) i (plain_mark c)) (sym (bound_there bs n i b there));
    })

pub marked_advances : (w : World) (bs now : List Bound) (n : Counters) → world bs n ≡ w → IsSound (world bs n) → (i : ℕ) (c : Cursor) → SetsMark i c bs now →
    IsKnown w c → Advances w (world now n)
marked_advances w bs now n view sound i c s known =
    subst (λ v. Advances v (world now n)) view (s.advances n sound (subst (λ v. IsKnown v c) (sym view) known))

-- A value

pub sets_nothing : (bs : List Bound) (i : ℕ) (v : Value) (b : Bound) → slice_get bs i ≡ Some b →
    ((e : State) → value_set e i v (bound_of b) ≡ assigned_to None e) → SetsValue i v bs bs (Ok tt)
sets_nothing bs i v b there none = record {
  advances = λ n sound. same_advances (world bs n) sound;
  set = λ n stand.
      subst (λ a. AssignsTo a (world bs n) (world bs n) (Ok tt))
      (sym (ap (value_set (state_of (world bs n)) i v) (bound_there bs n i b there) ∙ none (state_of (world bs n)))) (refl, refl);
}

pub sets_past : (bs : List Bound) (i : ℕ) (v : Value) → slice_get bs i ≡ None → SetsValue i v bs bs (Ok tt)
sets_past bs i v past = record {
  advances = λ n sound. same_advances (world bs n) sound;
  set = λ n stand.
      subst (λ x. AssignsTo (value_set (state_of (world bs n)) i v x) (world bs n) (world bs n) (Ok tt)) (sym (bound_past bs n i past)) (refl, refl);
}

pub sets_variable : (bs now : List Bound) (i : ℕ) (v old : Value) → slice_get bs i ≡ Some (bound.Value old) → now ≡ slice_set bs i (bound.Value v) →
    SetsValue i v bs now (Ok tt)
sets_variable bs now i v old there is =
    subst (λ ys. SetsValue i v bs ys (Ok tt)) (sym is)
    (record {
      advances = λ n sound.
          set_advances bs n i (bound.Value old) (bound.Value v) sound there (record { counts = refl; agrees = λ x h. tt }) (none_known (world bs n));
      set = λ n stand.
          subst (λ x. AssignsTo (value_set (state_of (world bs n)) i v x) (world bs n) (world (slice_set bs i (bound.Value v)) n) (Ok tt))
          (sym (bound_there bs n i (bound.Value old) there)) (refl, state_set bs n i (bound.Value v));
    })

-- an element that is written in its place

pub object_is : (bs : List Bound) (i : ℕ) (o p : Object) (b : Bound) → b ≡ get_or bs i b → b ≡ bound.Object p → slice_get bs i ≡ Some (bound.Object o) → p ≡ o
object_is bs i o p b e is there =
    let same : bound.Object p ≡ bound.Object o = sym is ∙ (e ∙ found_or bs i (bound.Object o) b there) in
    cc

pub writes_at : (bs : List Bound) (i : ℕ) (at : Cursor) (v : Value) (o p now : Object) (b : Bound) (result : Result Done Fault) → b ≡ get_or bs i b →
    b ≡ bound.Object p → slice_get bs i ≡ Some (bound.Object o) → WritesTo (write (held_of p) (plain_mark at) v) p now result → Lasts p now →
    WritesAt i at v o bs (slice_set bs i (bound.Object now)) result
writes_at bs i at v o p now b result e is there written lasts =
    subst (λ x. WritesAt i at v x bs (slice_set bs i (bound.Object now)) result) (object_is bs i o p b e is there)
    (record { now = now; bounds = refl; written = written; lasts = lasts })

assigns_element : (bs now : List Bound) (n : Counters) (object : ℕ) (at : Cursor) (v : Value) (o : Object) (result : Result Done Fault) →
    slice_get bs object ≡ Some (bound.Object o) → WritesAt object at v o bs now result →
    AssignsTo (element_written (state_of (world bs n)) object (plain_mark at) v (Some (held_of o))) (world bs n) (world now n) result
assigns_element bs now n object at v o (Ok done) there k = (
  k.written.0,
  ap (λ ys. state_of (world ys n)) k.bounds
      ∙ (state_set bs n object (bound.Object k.now) ∙ ap (λ h. with_bound (state_of (world bs n)) object (binds_object h)) k.written.1),
)
assigns_element bs now n object at v o (Err (fault.Raised reason)) there k = (
  k.written.0,
  ap (λ ys. world ys n)
      (k.bounds ∙ (ap (λ x. slice_set bs object (bound.Object x)) k.written.1 ∙ set_same bs object (bound.Object o) there)),
)
assigns_element bs now n object at v o (Err fault.NoMemory) there k = tt

pub sets_element : (bs now : List Bound) (i object : ℕ) (at : Cursor) (v : Value) (result : Result Done Fault) → StandsSomewhere bs →
    slice_get bs i ≡ Some (bound.Element object at) →
    ((o : Object) → slice_get bs object ≡ Some (bound.Object o) → WritesAt object at v o bs now result) → SetsValue i v bs now result
sets_element bs now i object at v result s there f =
    let r = can_read bs s.counters i object at s.sound s.stand there in
    let k = f r.held r.there in
    record {
      advances = λ n sound.
          subst (λ ys. Advances (world bs n) (world ys n)) (sym k.bounds)
          (set_advances bs n object (bound.Object r.held) (bound.Object k.now) sound r.there (object_replaces r.held k.now k.lasts) (none_known (world bs n)));
      set = λ n stand.
          let e = state_of (world bs n) in
          subst (λ x. AssignsTo (value_set e i v x) (world bs n) (world now n) result) (sym (bound_there bs n i (bound.Element object at) there))
          (subst (λ x. AssignsTo (element_written e object (plain_mark at) v x) (world bs n) (world now n) result)
          (sym (object_there_in bs n object r.held r.there)) (assigns_element bs now n object at v r.held result r.there k));
    }

-- an integer is never refused: an element that stands is of rows, or of a holder, whose limit has room for one as for the element that is there

rows_taken : (kind : RowKind) (o : model.Object ℕ (RowOf kind)) (m : Mark) (v : Value) → (element_value (of_rows kind o) m).reason ≡ None →
    (write (of_rows kind o) m v).reason ≡ None
rows_taken (a_sequence which e) o m v h = h
rows_taken (a_map which k e) o m v h = h
rows_taken (a_set which e) o m v h = refl
rows_taken (a_keyed_set which) o m v h = refl
rows_taken (a_tree e) o m v h = h

none_past : (limit : Limit) → is_past limit 0 ≡ false
none_past Unbounded = refl
none_past (Bounded most) = grind (arith, nat_tests)

holder_taken : (e : ElemKind) (limit : Limit) (element : Option (ElementOf e)) (n : ℤ) → is_too_large (tools_of e).size limit element ≡ false →
    first_reason (reason_if (is_none element) Empty ∷ []) ≡ None →
    first_reason (reason_if (is_none element) Empty ∷ reason_if (is_past limit ((tools_of e).size ((tools_of e).from_value (Int n)))) TooLarge ∷ []) ≡ None
holder_taken e limit None n within h = absurd (cc)
holder_taken Integer limit (Some x) n within h = ap (λ b. first_reason (None ∷ reason_if b TooLarge ∷ [])) within
holder_taken Str limit (Some x) n within h = ap (λ b. first_reason (None ∷ reason_if b TooLarge ∷ [])) (none_past limit)

integer_taken : (h : Held) (m : Mark) (n : ℤ) → IsWithinLimit h → (element_value h m).reason ≡ None → (write h m (Int n)).reason ≡ None
integer_taken (of_rows kind o) m n within stands = rows_taken kind o m (Int n) stands
integer_taken (of_holder e h) m n within stands = holder_taken e h.limit h.element n within.within_limit stands
integer_taken (of_queue number q) m n within stands = absurd (cc)

not_raised : (w : Written) (old new : Object) (result : Result Done Fault) → w.reason ≡ None → WritesTo w old new result → NotRaised result
not_raised w old new (Ok done) none h = tt
not_raised w old new (Err (fault.Raised reason)) none h = absurd (cc (none, h.0))
not_raised w old new (Err fault.NoMemory) none h = tt

pub takes_integer : (bs : List Bound) (i : ℕ) (at : Cursor) (v : Value) (p now : Object) (b : Bound) (result : Result Done Fault) (r : CanRead bs i at) →
    b ≡ get_or bs i b → b ≡ bound.Object p → IsWithinLimit (held_of p) → WritesTo (write (held_of p) (plain_mark at) v) p now result →
    (n : ℤ) → v ≡ Int n → NotRaised result
takes_integer bs i at v p now b result r e is within written n integer =
    let same = object_is bs i r.held p b e is r.there in
    let stands : (element_value (held_of p) (plain_mark at)).reason ≡ None = ap (λ o. (element_value (held_of o) (plain_mark at)).reason) same ∙ r.stands in
    not_raised (write (held_of p) (plain_mark at) v) p now result
    (ap (λ x. (write (held_of p) (plain_mark at) x).reason) integer ∙ integer_taken (held_of p) (plain_mark at) n within stands) written
