-- What the names of declarations hold is as it was declared, up to a script's end.
use Rattle.std.proofs.Common.{◌≡◌, ◌++◌, ℕ, Bool, true, false, List, [], ◌∷◌, nat_lt, refl, sym, ap, subst, ◌∙◌, append_assoc, inl, inr, is_some, Option, Some, None, IfSome, if◌then◌else◌}
use Rattle.std.specs.Prelude.{pos}
use Rattle.std.proofs.lemmas.List.{append-nil}
use Rattle.ac_base.specs.Limits.{numbers_end}
use Rattle.ac_base.specs.declared.limit.Limit.{Limit}
use Rattle.ac_base.specs.declared.limit.Limit.TheVariants.{Unbounded, Bounded}
use Rattle.ac_base.specs.declared.value.Value.TheVariants as value
use Rattle.ac_model.specs.Holders.{empty_holder}
use Rattle.ac_model.specs.Letters.{no_mark}
use Rattle.ac_model.specs.Objects.{empty_object, first_capacity}
use Rattle.ac_model.specs.Queues.{empty_queue}
use Rattle.ac_syntax.specs.Canonical.{propagates_in}
use Rattle.ac_syntax.specs.Kinds.{is_holder, is_queue}
use Rattle.ac_syntax.specs.declared.script.Script.{Script}
use Rattle.ac_syntax.specs.declared.type_def.TypeDef.{TypeDef}
use Rattle.ac_rules.specs.declared.resolved.ResolvedDecl.{ResolvedDecl}
use Rattle.ac_rules.specs.declared.resolved.ResolvedDecl.TheVariants as decl
use Rattle.ac_rules.specs.Resolved.{resolve_decls}
use Rattle.ac_rules.specs.Scopes.{with_decls}
use Rattle.ac_calls.specs.Holdings.{Held, of_rows, of_holder, of_queue, have_capacity, discipline_by, kind_by, limit_by, new_held}
use Rattle.ac_meaning.specs.AsDeclared.{capacity_of, HeldGoesOn, BoundGoesOn, EachGoesOn, has_capacity, IsCapacityIn, IsObjectOf, declared_shape, IsAsDeclared, AreAsDeclared, StaysDeclared}
use Rattle.ac_meaning.specs.Environment.{Bound, binds_type, binds_object, binds_cursor, binds_value, State, first_state, Declared, unless_spent, declared, number_taken, with_name, after_decl, after_decls}
use Rattle.ac_meaning.specs.Execution.{Orders, exec, run_with}
use Rattle.ac_meaning.specs.HoldsTypes.{Shape, shape_of}
use Rattle.ac_meaning.specs.Stays.{CapacityGoesOn}
use Rattle.ac_meaning.proofs.CallsStay.{none_some}
use Rattle.ac_meaning.proofs.ExecGoesOn.{exec_goes}

-- What goes on

has_on : (limit : Limit) (before after : Option ℕ) (there : Bool) → is_some before ≡ there → CapacityGoesOn limit before after → is_some after ≡ there
has_on limit before after there h (inl stays) = ap is_some stays ∙ h
has_on limit before after there h (inr grew) = ap is_some grew.is ∙ (sym grew.had ∙ h)

capacity_on : (limit own : Limit) (before after : Option ℕ) → own ≡ limit → IfSome before (IsCapacityIn limit) → CapacityGoesOn own before after →
    IfSome after (IsCapacityIn limit)
capacity_on limit own before after same h (inl stays) = subst (λ c. IfSome c (IsCapacityIn limit)) (sym stays) h
capacity_on limit own before after same h (inr grew) =
    let free : limit ≡ Unbounded = sym same ∙ grew.unbounded in
    subst (λ c. IfSome c (IsCapacityIn limit)) (sym grew.is) (subst (λ l. IsCapacityIn l grew.step) (sym free) grew.is_step)

object_on : (shape : Shape) (limit : Limit) (h now : Held) → HeldGoesOn h now → IsObjectOf shape limit h → IsObjectOf shape limit now
object_on shape limit h now g is = record {
  of_shape = g.shape ∙ is.of_shape;
  within = g.limit ∙ is.within;
  has = has_on _ (capacity_of h) (capacity_of now) (has_capacity shape) is.has g.capacity;
  capacity = capacity_on limit _ (capacity_of h) (capacity_of now) is.within is.capacity g.capacity;
}

name_on : (d : ResolvedDecl) (b c : Bound) → BoundGoesOn b c → IsAsDeclared d b → IsAsDeclared d c
name_on decl.TypeDecl binds_type binds_type g h = tt
name_on (decl.Object line def capacity) (binds_object x) (binds_object y) g h = object_on (declared_shape def) (limit_by capacity) x y g h
name_on decl.Cursor (binds_cursor m) (binds_cursor n) g h = tt
name_on decl.Integer (binds_value v) (binds_value w) g h = tt
name_on decl.Text (binds_value v) (binds_value w) g h = tt
name_on decl.TypeDecl binds_type _ g h = absurd g
name_on (decl.Object line def capacity) (binds_object x) _ g h = absurd g
name_on decl.Cursor (binds_cursor m) _ g h = absurd g
name_on decl.Integer (binds_value v) _ g h = absurd g
name_on decl.Text (binds_value v) _ g h = absurd g
name_on _ _ c g h = absurd h

names_on : (ds : List ResolvedDecl) (bs cs : List Bound) → EachGoesOn bs cs → AreAsDeclared ds bs → AreAsDeclared ds cs
names_on ds [] [] g h = h
names_on ds [] (c ∷ cs) g h = absurd g
names_on ds (b ∷ bs) [] g h = absurd g
names_on [] (b ∷ bs) (c ∷ cs) g h = absurd h
names_on (d ∷ ds) (b ∷ bs) (c ∷ cs) g h = (name_on d b c g.0 h.0, names_on ds bs cs g.1 h.1)

-- A new object

first_has : (has : Bool) (limit : Limit) → is_some (first_capacity has limit) ≡ has
first_has false limit = refl
first_has true Unbounded = refl
first_has true (Bounded most) = refl

first_is : (has : Bool) (limit : Limit) → IfSome (first_capacity has limit) (IsCapacityIn limit)
first_is false limit = tt
first_is true Unbounded = inl refl
first_is true (Bounded most) = refl

-- by whether it is a holder, and whether a queue
abbrev made : TypeDef → ℕ → Limit → (holder queue : Bool) → Held
made def number limit holder queue =
    let kind = kind_by def.kind def.first def.second def.keyed in
    if holder then of_holder def.first (empty_holder number limit)
    else if queue then of_queue number (record { discipline = discipline_by def.kind; queue = empty_queue limit })
    else of_rows kind (empty_object (have_capacity kind) number limit)

made_is : (def : TypeDef) (number : ℕ) (limit : Limit) (holder queue : Bool) →
    IsObjectOf (shape_of (made def 0 Unbounded holder queue)) limit (made def number limit holder queue)
made_is def number limit true queue = record { of_shape = refl; within = refl; has = refl; capacity = tt }
made_is def number limit false true = record { of_shape = refl; within = refl; has = refl; capacity = tt }
made_is def number limit false false =
    let has = have_capacity (kind_by def.kind def.first def.second def.keyed) in
    record { of_shape = refl; within = refl; has = first_has has limit; capacity = first_is has limit }

new_is : (def : TypeDef) (number : ℕ) (capacity : Option ℕ) → IsObjectOf (declared_shape def) (limit_by capacity) (new_held def number capacity)
new_is def number capacity = made_is def number (limit_by capacity) (is_holder def.kind) (is_queue def.kind)

-- Declarations

-- names that are as these declarations say stand behind those that were there
pub record Adds (ds : List ResolvedDecl) (e now : State) : Type 0 where
  pub more : List Bound
  pub is : now.bounds ≡ e.bounds ++ more
  pub are : AreAsDeclared ds more

one_added : (d : ResolvedDecl) (e now : State) (b : Bound) → now.bounds ≡ e.bounds ++ b ∷ [] → IsAsDeclared d b → Adds (d ∷ []) e now
one_added d e now b is h = record { more = b ∷ []; is = is; are = (h, tt) }

-- by whether a number is left
abbrev object_declared : ℕ → TypeDef → Option ℕ → State → Bool → Declared
object_declared line def capacity e left =
    if left then declared (number_taken (with_name e (binds_object (new_held def e.next capacity)))) else record { after = e; spent = Some line }

object_added : (line : ℕ) (def : TypeDef) (capacity : Option ℕ) (e : State) (left : Bool) → (object_declared line def capacity e left).spent ≡ None →
    Adds (decl.Object line def capacity ∷ []) e (object_declared line def capacity e left).after
object_added line def capacity e true none =
    one_added (decl.Object line def capacity) e _ (binds_object (new_held def e.next capacity)) refl (new_is def e.next capacity)
object_added line def capacity e false none = none_some line (sym none)

decl_added : (d : ResolvedDecl) (e : State) → (after_decl e d).spent ≡ None → Adds (d ∷ []) e (after_decl e d).after
decl_added decl.TypeDecl e none = one_added decl.TypeDecl e _ binds_type refl tt
decl_added (decl.Object line def capacity) e none = object_added line def capacity e (nat_lt e.next numbers_end) none
decl_added decl.Cursor e none = one_added decl.Cursor e _ (binds_cursor no_mark) refl tt
decl_added decl.Integer e none = one_added decl.Integer e _ (binds_value (value.Int (pos 0))) refl tt
decl_added decl.Text e none = one_added decl.Text e _ (binds_value (value.Text [])) refl tt

both_declared : (d : ResolvedDecl) (ds : List ResolvedDecl) (bs more : List Bound) → AreAsDeclared (d ∷ []) bs → AreAsDeclared ds more →
    AreAsDeclared (d ∷ ds) (bs ++ more)
both_declared d ds [] more h k = absurd h
both_declared d ds (b ∷ []) more h k = (h.0, k)
both_declared d ds (b ∷ c ∷ bs) more h k = absurd h.1

then_added : (d : ResolvedDecl) (ds : List ResolvedDecl) (e now later : State) → Adds (d ∷ []) e now → Adds ds now later → Adds (d ∷ ds) e later
then_added d ds e now later h k = record {
  more = h.more ++ k.more;
  is = k.is ∙ (ap (λ bs. bs ++ k.more) h.is ∙ append_assoc e.bounds h.more k.more);
  are = both_declared d ds h.more k.more h.are k.are;
}

decls_step : (d : ResolvedDecl) (ds : List ResolvedDecl) (e : State) (others : State → Declared) (first : Declared) (spent : Option ℕ) →
    first.spent ≡ spent → (unless_spent others first).spent ≡ None →
    (first.spent ≡ None → (others first.after).spent ≡ None → Adds (d ∷ ds) e (others first.after).after) → Adds (d ∷ ds) e (unless_spent others first).after
decls_step d ds e others first None f none rest =
    rw f (rest f (subst (λ s. (elim s as (λ s. Declared) [ None ↦ others first.after | Some line ↦ first ]).spent ≡ None) f none))
decls_step d ds e others first (Some line) f none rest =
    none_some line (sym (subst (λ s. (elim s as (λ s. Declared) [ None ↦ others first.after | Some line ↦ first ]).spent ≡ None) f none) ∙ f)

decls_added : (ds : List ResolvedDecl) (e : State) → (after_decls ds e).spent ≡ None → Adds ds e (after_decls ds e).after
decls_added [] e none = record { more = []; is = sym (append-nil e.bounds); are = tt }
decls_added (d ∷ ds) e none =
    let first = after_decl e d in
    decls_step d ds e (after_decls ds) first first.spent refl none
    (λ f rest. then_added d ds e first.after (after_decls ds first.after).after (decl_added d e f) (decls_added ds first.after rest))

decls_declared : (ds : List ResolvedDecl) → (after_decls ds first_state).spent ≡ None → AreAsDeclared ds (after_decls ds first_state).after.bounds
decls_declared ds none = let added = decls_added ds first_state none in subst (AreAsDeclared ds) (sym added.is) added.are

script_declared : (orders : Orders) (script : Script) → (after_decls (resolve_decls [] script.decls) first_state).spent ≡ None →
    AreAsDeclared (resolve_decls [] script.decls) (run_with orders script).after.bounds
unfolding run_with
script_declared orders script none =
    let ds = resolve_decls [] script.decls in
    let e = (after_decls ds first_state).after in
    let scope = with_decls [] script.decls in
    names_on ds e.bounds (exec (propagates_in script) orders script.stmts scope [] e).after.bounds
    (exec_goes (propagates_in script) orders script.stmts scope [] None e) (decls_declared ds none)

pub stays_declared : StaysDeclared
stays_declared = record {
  decls = decls_declared;
  goes_on = λ ds e now g h. names_on ds e.bounds now.bounds g h;
  script = script_declared;
}
