-- A walk that knows its depth, as the cursors of a tree tell it.
use Rattle.std.proofs.Common.{◌≡◌, ℕ, List, [], ◌∷◌, ◌++◌, ◌+◌, Option, None, refl, sym, ap, ◌∙◌, subst, append_assoc}
use Rattle.std.specs.Option.{ForSome}
use Rattle.ac_base.specs.declared.cursor.Cursor.{Cursor}
use Rattle.ac_base.specs.declared.name.Name.{Name}
use Rattle.ac_base.specs.Rows.{Row}
use Rattle.ac_chain.specs.ChainFields.{first_or}
use Rattle.ac_pool.specs.Contents.{IsLive}
use Rattle.ac_model.specs.Cursors.{cursor_at, name_in}
use Rattle.ac_model.specs.Objects.{Object}
use Rattle.ac_model.specs.Rows.{Node}
use Rattle.ac_tree.specs.declared.links.Links.{Links}
use Rattle.ac_tree.specs.Copying.{level_of}
use Rattle.ac_tree.specs.Forests.{Forest, bare, grove, outline}
use Rattle.ac_chain.specs.TreeWalk.{StandsBefore, IsMet, MeetsNext}
use Rattle.ac_tree.specs.TreeFields.{forest_in, IsForest, first_of}
use Rattle.ac_tree.specs.Walking.{Follows}
use Rattle.ac_tree.proofs.Following.{first_row}
use Rattle.ac_tree.proofs.Levels.{met}

module _ {X : Type 0} (l : Links X) (s : IsForest l) (o : Object Name (Node X)) (rows_is : o.rows ≡ outline 2 (forest_in l)) where
  cut_rows : (before : List (Row Name (Node X))) (at : Row Name (Node X)) (left : List (Row Name (Node X))) → o.rows ≡ before ++ at ∷ left →
      outline 2 (forest_in l) ≡ before ++ at ∷ left
  cut_rows before at left is = sym rows_is ∙ is

  depth_at : (before : List (Row Name (Node X))) (at : Row Name (Node X)) (left : List (Row Name (Node X))) → o.rows ≡ before ++ at ∷ left →
      at.value.depth ≡ level_of l at.name
  depth_at before at left is = ap (λ (n : Node X). n.depth) (met l s before left at (cut_rows before at left is)).is

  pub met_live : (c : Cursor) (depth : ℕ) → IsMet o c depth → (name : Name) → name ≡ name_in c → IsLive l.nodes name
  met_live c depth m name is =
      subst (λ n. IsLive l.nodes n) (sym (is ∙ ap name_in m.stands)) (met l s m.before m.left m.at (cut_rows m.before m.at m.left m.is)).live

  pub met_level : (c : Cursor) (depth : ℕ) → IsMet o c depth → (name : Name) → name ≡ name_in c → depth ≡ level_of l name
  met_level c depth m name is =
      m.depth_is ∙ (depth_at m.before m.at m.left m.is ∙ ap (level_of l) (sym (is ∙ ap name_in m.stands)))

  by_forest : (f : Forest X) (r : Cursor) → r ≡ cursor_at o.number (first_or (outline 2 f) None) → StandsBefore o.number (outline 2 f) r 2
  by_forest bare r e = e
  by_forest (grove x below rest) r e = (e, refl)

  pub starts : (name : Option Name) (r : Cursor) → name ≡ first_of l None → r ≡ cursor_at o.number name → StandsBefore o.number o.rows r 2
  starts name r n e =
      subst (λ rows. StandsBefore o.number rows r 2) (sym rows_is)
      (by_forest (forest_in l) r (e ∙ ap (cursor_at o.number) (n ∙ s.framed.0 ∙ sym (first_row 2 (forest_in l)))))

  module _ (name : Name) (next : Option Name) (now : ℕ) (follows : Follows l None name next) (level : ForSome next (λ b. now ≡ level_of l b)) where
    by_left : (before : List (Row Name (Node X))) (at : Row Name (Node X)) (left : List (Row Name (Node X))) → o.rows ≡ before ++ at ∷ left →
        next ≡ first_or left None → StandsBefore o.number left (cursor_at o.number next) now
    by_left before at [] is e = ap (cursor_at o.number) e
    by_left before at (q ∷ left) is e = (
      ap (cursor_at o.number) e,
      level q.name e ∙ sym (depth_at (before ++ at ∷ []) q left (is ∙ sym (append_assoc before (at ∷ []) (q ∷ left)))),
    )

    pub meets_next : (c : Cursor) (r : Cursor) → name ≡ name_in c → r ≡ cursor_at o.number next → MeetsNext o c r now
    meets_next c r named is before at left cut stands =
        let own : name ≡ at.name = named ∙ ap name_in stands in
        let first = (met l s before left at (cut_rows before at left cut)).next_is next (subst (λ n. Follows l None n next) own follows) in
        subst (λ x. StandsBefore o.number left x now) (sym is) (by_left before at left cut first)
