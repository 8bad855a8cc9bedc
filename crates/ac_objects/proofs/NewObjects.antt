-- A new object in scope.
use Rattle.std.proofs.Common.{◌≡◌, ◌+◌, ◌<◌, ◌++◌, ◌&&◌, ℕ, Bool, true, false, not, List, [], ◌∷◌, get_or, nat_lt, refl, sym, ap, subst, ◌∙◌, arith, Option, if◌then◌else◌}
use Rattle.std.proofs.lemmas.List.{map_push}
use Rattle.std.proofs.lemmas.List.Elements.{All-push}
use Rattle.std.proofs.lemmas.Bool.{lt-ltb}
use Rattle.ac_base.specs.Limits.{numbers_end, IsLimit}
use Rattle.ac_base.specs.declared.cursor.Cursor.{Cursor}
use Rattle.ac_base.specs.declared.cursor.Cursor.TheVariants as cursor
use Rattle.ac_base.specs.declared.limit.Limit.{Limit}
use Rattle.ac_base.specs.declared.limit.Limit.TheVariants.{Unbounded, Bounded}
use Rattle.ac_model.specs.Holders.{Holder, empty_holder}
use Rattle.ac_model.specs.Objects.{empty_object}
use Rattle.ac_model.specs.Queues.{LimitInRange, empty_queue, TaskQueue}
use Rattle.ac_syntax.specs.declared.kind.Kind.{Kind}
use Rattle.ac_syntax.specs.declared.kind.Kind.TheVariants as kinds
use Rattle.ac_model.specs.Objects as model
use Rattle.ac_syntax.specs.declared.kind.ElemKind.{ElemKind}
use Rattle.ac_syntax.specs.declared.type_def.TypeDef.{TypeDef}
use Rattle.ac_syntax.specs.Kinds.{has_cursors, is_holder, is_queue}
use Rattle.ac_rules.specs.declared.resolved.ResolvedDecl.TheVariants as decl
use Rattle.ac_calls.specs.Elements.{ElementOf}
use Rattle.ac_calls.specs.Holdings.{RowKind, RowOf, Held, of_rows, of_holder, of_queue, discipline_by, number_of, have_capacity, kind_by, limit_by, new_within, new_held}
use Rattle.ac_meaning.specs.Environment as meant
use Rattle.ac_meaning.specs.Environment.{Declared, declared, number_taken}
use Rattle.ac_meaning.specs.Numbers.{NumbersDiffer}
use Rattle.ac_meaning.proofs.NumbersApart.{numbers_go_on}
use Rattle.ac_objects.specs.declared.object.Object.{Object}
use Rattle.ac_objects.specs.declared.bound.Bound.{Bound}
use Rattle.ac_objects.specs.declared.bound.Bound.TheVariants as bound
use Rattle.ac_objects.specs.Declarations.{object_declared}
use Rattle.ac_objects.specs.World.{World, Counters, world, counted, held_of, bound_of, state_of, ObjectAgrees, BoundAgrees, IsKnown, cursor_in, IsSound, Persists}
use Rattle.ac_objects.proofs.Given.{none_agrees, other_agrees}
use Rattle.ac_objects.proofs.InScope.{no_cursor}
use Rattle.ac_meaning.proofs.Sources.{if_true, if_false}

-- a number is taken

abbrev pub taken : Counters → Counters
taken n = counted (n.next + 1) n.blocks

taken_known : (bounds : List Bound) (n : Counters) (c : Cursor) → IsKnown (world bounds n) c → IsKnown (world bounds (taken n)) c
taken_known bounds n cursor.NoElement known = record { made = tt; agrees = known.agrees }
taken_known bounds n (cursor.At object name) known = record { made = omega (arith, known.made); agrees = known.agrees }

taken_sound : (bounds : List Bound) (n : Counters) → IsSound (world bounds n) → IsSound (world bounds (taken n))
taken_sound bounds n sound = record {
  numbers_differ = record {
    once = sound.numbers_differ.once;
    below_next = λ number h. sound.numbers_differ.below_next number (omega (arith, h));
  };
  cursors_known = λ i d h. taken_known bounds n (cursor_in (get_or bounds i d)) (sound.cursors_known i d h);
}

-- an object without elements
abbrev empty : RowKind → ℕ → Limit → Held
empty kind number limit = of_rows kind (empty_object (have_capacity kind) number limit)

abbrev a_queue : TypeDef → ℕ → Limit → Held
a_queue def number limit = of_queue number (record { discipline = discipline_by def.kind; queue = empty_queue limit })

-- one of this kind, of the type that was declared
pub of_type : (kind : RowKind) (o : model.Object ℕ (RowOf kind)) (def : TypeDef) (number : ℕ) (limit : Limit) →
    has_cursors def.kind ≡ true → kind_by def.kind def.first def.second def.keyed ≡ kind → o ≡ empty_object (have_capacity kind) number limit →
    of_rows kind o ≡ new_within def number limit
of_type kind o def number limit rows kind_is is =
    let neither = no_others (is_holder def.kind) (is_queue def.kind) rows in
    ap (of_rows kind) is
    ∙ (ap (λ k. empty k number limit) (sym kind_is)
    ∙ (sym (if_false (a_queue def number limit) _ (is_queue def.kind) neither.1)
    ∙ sym (if_false (of_holder def.first (empty_holder number limit)) _ (is_holder def.kind) neither.0)))
  where
    no_others : (a b : Bool) → (not a && not b) ≡ true → (a ≡ false) × (b ≡ false)
    no_others true b e = absurd (cc)
    no_others false true e = absurd (cc)
    no_others false false e = (refl, refl)

-- a holder
pub of_holder_type : (e : ElemKind) (h : Holder (ElementOf e)) (def : TypeDef) (number : ℕ) (limit : Limit) →
    is_holder def.kind ≡ true → def.first ≡ e → h ≡ empty_holder number limit → of_holder e h ≡ new_within def number limit
of_holder_type e h def number limit holds first is =
    ap (of_holder e) is
    ∙ (ap (λ x. of_holder x (empty_holder number limit)) (sym first) ∙ sym (if_true (of_holder def.first (empty_holder number limit)) _ (is_holder def.kind) holds))

no_holder : (k : Kind) → is_queue k ≡ true → is_holder k ≡ false
no_holder kinds.Vector e = refl
no_holder kinds.List e = refl
no_holder kinds.HashedMap e = refl
no_holder kinds.OrderedMap e = refl
no_holder kinds.HashedSet e = refl
no_holder kinds.OrderedSet e = refl
no_holder kinds.Tree e = refl
no_holder kinds.Holder e = absurd (cc)
no_holder kinds.Queue e = refl
no_holder kinds.PriorityQueue e = refl

-- and a queue
pub of_queue_type : (q : TaskQueue) (def : TypeDef) (number : ℕ) (limit : Limit) → is_queue def.kind ≡ true →
    q ≡ record { discipline = discipline_by def.kind; queue = empty_queue limit } → of_queue number q ≡ new_within def number limit
of_queue_type q def number limit queued is =
    ap (of_queue number) is
    ∙ (sym (if_true (a_queue def number limit) _ (is_queue def.kind) queued)
    ∙ sym (if_false (of_holder def.first (empty_holder number limit)) _ (is_holder def.kind) (no_holder def.kind queued)))

-- a queue's limit is one that objects may have
pub limit_in_range : (limit : Limit) → IsLimit limit → LimitInRange limit
limit_in_range Unbounded is = tt
limit_in_range (Bounded most) is = is

new_number : (def : TypeDef) (number : ℕ) (capacity : Option ℕ) → number_of (new_held def number capacity) ≡ number
new_number def number capacity = go (is_holder def.kind) (is_queue def.kind)
  where
    go : (a b : Bool) →
        number_of (if a then of_holder def.first (empty_holder number (limit_by capacity))
        else (if b then a_queue def number (limit_by capacity)
        else empty (kind_by def.kind def.first def.second def.keyed) number (limit_by capacity))) ≡ number
    go true b = refl
    go false true = refl
    go false false = refl

-- the declaration of an object, where a number is left

unspent : (b : Bool) (x y : Declared) → b ≡ true → (if b then x else y) ≡ x
unspent true x y e = refl
unspent false x y e = absurd (cc)

declared_below : (def : TypeDef) (line : ℕ) (capacity : Option ℕ) (e : meant.State) → e.next < numbers_end →
    object_declared def line capacity e ≡ declared (number_taken (meant.with_name e (meant.binds_object (new_held def e.next capacity))))
declared_below def line capacity e h = unspent (nat_lt e.next numbers_end) _ _ (lt-ltb e.next numbers_end h)

differ_taken : (def : TypeDef) (capacity : Option ℕ) (e : meant.State) → e.next < numbers_end → NumbersDiffer e →
    NumbersDiffer (number_taken (meant.with_name e (meant.binds_object (new_held def e.next capacity))))
differ_taken def capacity e h d =
    let step : meant.unless_spent (meant.after_decls []) (object_declared def 0 capacity e)
    ≡ declared (number_taken (meant.with_name e (meant.binds_object (new_held def e.next capacity)))) =
    ap (meant.unless_spent (meant.after_decls [])) (declared_below def 0 capacity e h) in
    subst NumbersDiffer (ap (λ (x : Declared). x.after) step) (numbers_go_on.decls (decl.Object 0 def capacity ∷ []) e d)

module _ (bounds : List Bound) (n : Counters) (o : Object) (def : TypeDef) (capacity : Option ℕ) (is : held_of o ≡ new_held def n.next capacity) where
  abbrev pub after_making : World
  after_making = world (bounds ++ bound.Object o ∷ []) (taken n)

  own_number : number_of (held_of o) ≡ n.next
  own_number = ap number_of is ∙ new_number def n.next capacity

  new_agrees : (c : Cursor) → IsKnown (world bounds n) c → ObjectAgrees o c
  new_agrees cursor.NoElement known = none_agrees (bound.Object o)
  new_agrees (cursor.At object name) known = other_agrees o object name (λ e. absurd (omega (arith, known.made, e ∙ own_number)))

  pub made_persists : Persists (world bounds n) after_making
  made_persists c known = record {
    made = (taken_known bounds n c known).made;
    agrees = All-push (λ b. BoundAgrees b c) bounds (bound.Object o) known.agrees (new_agrees c known);
  }

  pub made_state : state_of after_making ≡ number_taken (meant.with_name (state_of (world bounds n)) (meant.binds_object (new_held def n.next capacity)))
  made_state =
      ap (λ bs. record { bounds = bs; next = n.next + 1; blocks = n.blocks }) (map_push bound_of bounds (bound.Object o))
      ∙ ap (λ h. number_taken (meant.with_name (state_of (world bounds n)) (meant.binds_object h))) is

  pub made_sound : n.next < numbers_end → IsSound (world bounds n) → IsSound after_making
  made_sound below sound = record {
    numbers_differ = subst NumbersDiffer (sym made_state) (differ_taken def capacity (state_of (world bounds n)) below sound.numbers_differ);
    cursors_known = All-push (λ b. IsKnown after_making (cursor_in b)) bounds (bound.Object o)
        (λ i d h. made_persists (cursor_in (get_or bounds i d)) (sound.cursors_known i d h))
        (no_cursor after_making);
  }

-- What the code does: it takes a number, and puts the object in scope where memory is found

module _ (w : World) (bounds : List Bound) (n : Counters) (after tag : ℕ) (view : world bounds n ≡ w) (tag_is : tag ≡ n.next) (raised : after ≡ tag + 1) where
  next_now : n.next + 1 ≡ after
  next_now = omega (arith, tag_is, raised)

  pub number_persists : Persists w (world bounds (counted after n.blocks))
  number_persists = subst (λ v. Persists v (world bounds (counted after n.blocks))) view
      (subst (λ m. Persists (world bounds n) (world bounds (counted m n.blocks))) next_now (taken_known bounds n))

  module _ (now : List Bound) (o : Object) (def : TypeDef) (capacity : Option ℕ) (ok : Bool)
      (pushed : now ≡ (if ok then bounds ++ bound.Object o ∷ [] else bounds)) (is : held_of o ≡ new_held def tag capacity) where
    is_next : held_of o ≡ new_held def n.next capacity
    is_next = is ∙ ap (λ m. new_held def m capacity) tag_is

    either_persists : (ok : Bool) → Persists (world bounds n) (world (if ok then bounds ++ bound.Object o ∷ [] else bounds) (taken n))
    either_persists true = made_persists bounds n o def capacity is_next
    either_persists false = taken_known bounds n

    either_sound : (ok : Bool) → n.next < numbers_end → IsSound (world bounds n) →
        IsSound (world (if ok then bounds ++ bound.Object o ∷ [] else bounds) (taken n))
    either_sound true below sound = made_sound bounds n o def capacity is_next below sound
    either_sound false below sound = taken_sound bounds n sound

    pub object_persists : Persists w (world now (counted after n.blocks))
    object_persists = subst (λ v. Persists v (world now (counted after n.blocks))) view
        (subst (λ m. Persists (world bounds n) (world now (counted m n.blocks))) next_now
        (subst (λ bs. Persists (world bounds n) (world bs (taken n))) (sym pushed) (either_persists ok)))

    pub object_sound : tag < numbers_end → IsSound (world bounds n) → IsSound (world now (counted after n.blocks))
    object_sound below sound =
        subst (λ m. IsSound (world now (counted m n.blocks))) next_now
        (subst (λ bs. IsSound (world bs (taken n))) (sym pushed) (either_sound ok (omega (arith, tag_is, below)) sound))
