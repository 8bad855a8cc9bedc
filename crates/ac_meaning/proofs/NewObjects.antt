-- A new object has no guard.
use Rattle.std.proofs.Common.{◌≡◌, ◌==◌, ◌&&◌, ◌+◌, ◌≤◌, ℕ, Bool, true, false, List, [], ◌∷◌, nat_lt, refl, ap, ◌∙◌, arith, Option, Some, None, if◌then◌else◌}
use Rattle.std.specs.Prelude.{pos}
use Rattle.std.proofs.lemmas.Bool.Decides.{nat_tests}
use Rattle.ac_base.specs.Limits.{numbers_end}
use Rattle.ac_base.specs.declared.value.Value.TheVariants as value
use Rattle.ac_base.specs.declared.limit.Limit.{Limit}
use Rattle.ac_base.specs.declared.guard.GuardKind.{GuardKind}
use Rattle.ac_base.specs.declared.guard.GuardKind.TheVariants as guard
use Rattle.ac_base.specs.Guards.{HeldGuard}
use Rattle.ac_model.specs.Objects.{Object, empty_object}
use Rattle.ac_model.specs.Holders.{empty_holder}
use Rattle.ac_model.specs.Letters.{no_mark}
use Rattle.ac_calls.specs.Elements.{ElementOf}
use Rattle.ac_syntax.specs.declared.type_def.TypeDef.{TypeDef}
use Rattle.ac_syntax.specs.declared.kind.ElemKind.{ElemKind}
use Rattle.ac_syntax.specs.Kinds.{is_holder, is_queue}
use Rattle.ac_rules.specs.declared.resolved.ResolvedDecl.{ResolvedDecl}
use Rattle.ac_rules.specs.declared.resolved.ResolvedDecl.TheVariants as decl
use Rattle.ac_calls.specs.Holdings.{RowKind, Held, of_rows, of_holder, as_object, counted_as, have_capacity, kind_by, Guards, is_kind, held_on, guard_on, guarded, held_under, number_of, limit_by, new_within, new_held}
use Rattle.ac_meaning.specs.Environment.{binds_type, binds_object, binds_cursor, binds_value, State, under, object_at, with_name, number_taken, Declared, unless_spent, after_decl, after_decls}
use Rattle.ac_meaning.specs.Numbers.{NumbersDiffer, GuardsBelow, NewObjectsAreUnguarded}
use Rattle.ac_meaning.proofs.CountsStay.{parts_under, blocks_keep_counts}
use Rattle.ac_meaning.proofs.NumbersApart.{is_there}
use Rattle.ac_meaning.proofs.NextRises.{decl_next}

another_number : (g : HeldGuard) (guards : Guards) (number : ℕ) (kind : GuardKind) (b : Bool) → (g.object == number) ≡ b → (g.object ≡ number → ⊥) →
    held_on guards number kind ≡ 0 → held_on (g ∷ guards) number kind ≡ 0
another_number g guards number kind true e differ none = absurd (differ (grind (arith, nat_tests)))
another_number g guards number kind false e differ none =
    ap (λ b. (if b && is_kind g.kind kind then 1 else 0) + held_on guards number kind) e ∙ omega (arith, none)

one_more : (guards : Guards) (e : State) (place : ℕ) (h : Held) (kind : GuardKind) → NumbersDiffer e → object_at e place ≡ Some h →
    GuardsBelow guards e → GuardsBelow (guard_on h kind ∷ guards) e
one_more guards e place h kind d there below = record {
  none_from_next = λ number other k.
      another_number (guard_on h kind) guards number other (number_of h == number) refl
      (λ same. absurd (omega (arith, is_there e.bounds place h there, d.below_next (number_of h) (omega (arith, k, same)))))
      (below.none_from_next number other k);
}

new_object : {V : Type 0} (guards : Guards) (o : Object ℕ V) → held_on guards o.number guard.Cursors ≡ o.cursor_guards →
    held_on guards o.number guard.Elements ≡ o.element_guards → guarded guards V o ≡ o
new_object guards o c e = λ i. record o { cursor_guards = c i; element_guards = e i }

module _ (guards : Guards) (number : ℕ) (limit : Limit) (none : (kind : GuardKind) → held_on guards number kind ≡ 0) where
  rows_unguarded : (kind : RowKind) →
      let start = of_rows kind (empty_object (have_capacity kind) number limit) in held_under guards start ≡ start
  rows_unguarded kind =
      ap (of_rows kind) (new_object guards (empty_object (have_capacity kind) number limit) (none guard.Cursors) (none guard.Elements))

  holder_unguarded : (e : ElemKind) → let start = of_holder e (empty_holder number limit) in held_under guards start ≡ start
  holder_unguarded e =
      ap (λ o. of_holder e (counted_as (empty_holder number limit) o))
      (new_object guards (as_object (empty_holder {T = ElementOf e} number limit)) (none guard.Cursors) (none guard.Elements))

  either_unguarded : (b : Bool) (x y : Held) → held_under guards x ≡ x → held_under guards y ≡ y →
      held_under guards (if b then x else y) ≡ (if b then x else y)
  either_unguarded true x y h k = h
  either_unguarded false x y h k = k

  new_unguarded : (def : TypeDef) → held_under guards (new_within def number limit) ≡ new_within def number limit
  new_unguarded def =
      either_unguarded (is_holder def.kind) _ _ (holder_unguarded def.first)
      (either_unguarded (is_queue def.kind) _ _ refl (rows_unguarded (kind_by def.kind def.first def.second def.keyed)))

object_under : (guards : Guards) (e : State) (h : Held) → under guards e ≡ e → held_under guards h ≡ h →
    under guards (number_taken (with_name e (binds_object h))) ≡ number_taken (with_name e (binds_object h))
object_under guards e h is same =
    ap number_taken (parts_under.named guards e (binds_object h) ∙ (λ i. with_name (is i) (binds_object (same i))))

either_under : (guards : Guards) (b : Bool) (x y : Declared) → under guards x.after ≡ x.after → under guards y.after ≡ y.after →
    under guards (if b then x else y).after ≡ (if b then x else y).after
either_under guards true x y h k = h
either_under guards false x y h k = k

decl_under : (guards : Guards) (e : State) (d : ResolvedDecl) → under guards e ≡ e → GuardsBelow guards e →
    under guards (after_decl e d).after ≡ (after_decl e d).after
decl_under guards e decl.TypeDecl is below = blocks_keep_counts.named guards e binds_type is refl
decl_under guards e (decl.Object line def capacity) is below =
    either_under guards (nat_lt e.next numbers_end) _ _
    (object_under guards e (new_held def e.next capacity) is
    (new_unguarded guards e.next (limit_by capacity) (λ kind. below.none_from_next e.next kind (omega arith)) def))
    is
decl_under guards e decl.Cursor is below = blocks_keep_counts.named guards e (binds_cursor no_mark) is refl
decl_under guards e decl.Integer is below = blocks_keep_counts.named guards e (binds_value (value.Int (pos 0))) is refl
decl_under guards e decl.Text is below = blocks_keep_counts.named guards e (binds_value (value.Text [])) is refl

later : (guards : Guards) (e now : State) → e.next ≤ now.next → GuardsBelow guards e → GuardsBelow guards now
later guards e now h below = record { none_from_next = λ number kind k. below.none_from_next number kind (omega (arith, h, k)) }

decls_step : (guards : Guards) (others : State → Declared) (first : Declared) (spent : Option ℕ) → first.spent ≡ spent →
    under guards first.after ≡ first.after → GuardsBelow guards first.after →
    ((now : State) → under guards now ≡ now → GuardsBelow guards now → under guards (others now).after ≡ (others now).after) →
    under guards (unless_spent others first).after ≡ (unless_spent others first).after
decls_step guards others first None f is below rest = rw (f, unless_spent) (rest first.after is below)
decls_step guards others first (Some line) f is below rest = rw (f, unless_spent) is

decls_under : (guards : Guards) (ds : List ResolvedDecl) (e : State) → under guards e ≡ e → GuardsBelow guards e →
    under guards (after_decls ds e).after ≡ (after_decls ds e).after
decls_under guards [] e is below = is
decls_under guards (d ∷ ds) e is below =
    let first = after_decl e d in
    decls_step guards (after_decls ds) first first.spent refl (decl_under guards e d is below)
    (later guards e first.after (decl_next e d) below) (decls_under guards ds)

pub new_objects_are_unguarded : NewObjectsAreUnguarded
new_objects_are_unguarded = record {
  none = λ e. record { none_from_next = λ number kind h. refl };
  one_more = one_more;
  later = later;
  decls = decls_under;
}
