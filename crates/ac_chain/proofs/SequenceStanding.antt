-- Where a cursor stands: the rows of the chain, and the same rows as the definitions see them.
use Rattle.std.proofs.Common.{◌≡◌, ℕ, Option, Some, None, sym, ap, ◌∙◌, subst}
use Rattle.std.specs.Option.{ForSome}
use Rattle.std.proofs.lemmas.Option.{none-some}
use Rattle.ac_base.specs.declared.limit.Limit.{Limit}
use Rattle.ac_base.specs.declared.cursor.Cursor.{Cursor}
use Rattle.ac_base.specs.declared.cursor.Cursor.TheVariants.{NoElement, At}
use Rattle.ac_base.specs.Guards.{GuardCounts}
use Rattle.ac_base.specs.declared.name.Name.{Name}
use Rattle.ac_chain.specs.Rows.{Chained, IsLive}
use Rattle.ac_pool.proofs.Cuts.{has_live}
use Rattle.ac_base.specs.Rows.{names}
use Rattle.ac_model.specs.Objects.{Object}
use Rattle.ac_model.specs.Letters.{is_among, mark_of}
use Rattle.ac_model.specs.Cursors.{needs_cursor, may_cursor, place_in}
use Rattle.ac_chain.specs.Sequence.{object_of}
use Rattle.ac_chain.proofs.Marks.{judged_none, among_has, judged_by_name, may_by_name, Stands, marked_live}

module _ {X : Type 0} where
  pub stands : (g : GuardCounts) (l : Limit) (capacity : Option ℕ) (c : Chained X) (cursor : Cursor) → needs_cursor (object_of g l capacity c) cursor ≡ None → Stands g.number c cursor
  stands g l capacity c NoElement h = absurd (let k : Some _ ≡ None = h in cc)
  stands g l capacity c (At object a) h =
      let both = judged_none g.number object (is_among (names c.rows) a) (sym (judged_by_name (object_of g l capacity c) object a) ∙ h) in
      let has = among_has a c.rows both.1 in
      record {
        live = has_live a c.rows has;
        marked = ap (λ n. mark_of g.number (names c.rows) (At n a)) both.0 ∙ marked_live g.number c.rows a has;
        at = ap (λ n. At n a) both.0;
      }

  pub placed_live : (g : GuardCounts) (l : Limit) (capacity : Option ℕ) (k : Chained X) (o : Object Name X) → object_of g l capacity k ≡ o → (b : Cursor) (place : Option Name) → place ≡ place_in b → may_cursor o b ≡ None → ForSome place (IsLive k)
  placed_live g l capacity k o view b place e h = subst (λ p. ForSome p (IsLive k)) (sym e) (at b (ap (λ (p : Object Name X). may_cursor p b) view ∙ h))
    where
      at : (b : Cursor) → may_cursor (object_of g l capacity k) b ≡ None → ForSome (place_in b) (IsLive k)
      at NoElement e = λ a q. absurd (none-some a q)
      at (At object a) e = λ n q. subst (λ m. IsLive k m) (let same : a ≡ n = cc in same) (stands g l capacity k (At object a) (sym (may_by_name (object_of g l capacity k) object a) ∙ e)).live
