-- Two forests that are compared in one walk through both.
use Rattle.std.proofs.Common.{◌≡◌, ℕ, Bool, true, false, ◌&&◌, [], Option, Some, None, is_none, refl, sym, ap, ◌∙◌, eq-eqb}
use Rattle.std.specs.Prelude.{◌==◌}
use Rattle.std.specs.Option.{ForSome, option_map}
use Rattle.ac_base.specs.declared.name.Name.{Name}
use Rattle.ac_base.specs.Rows.{values}
use Rattle.ac_pool.specs.Contents.{value_of}
use Rattle.ac_chain.proofs.Searches.{some_value}
use Rattle.ac_model.specs.Sequences.{are_equal}
use Rattle.ac_tree.specs.declared.links.TreeNode.{TreeNode}
use Rattle.ac_tree.specs.declared.links.Links.{Links}
use Rattle.ac_tree.specs.Comparing.{same_node}
use Rattle.ac_tree.specs.Forests.{outline}
use Rattle.ac_tree.specs.TreeFields.{forest_in, IsForest, first_of}
use Rattle.ac_tree.specs.Walking.{Follows}
use Rattle.ac_tree.proofs.Counting.{node_depth}
use Rattle.ac_tree.proofs.Levels.{Walk, Here, walk_start, walk_here, walk_more, none_left}

module _ {X : Type 0} (same : X → X → Bool) where
  -- what is left on both sides is as equal as all is
  pub record Compared (l r : Links X) (place other : Option Name) (depth level : ℕ) : Type 0 where
    pub mine : Walk l place depth
    pub theirs : Walk r other level
    pub rest : are_equal (same_node same) (values (outline 2 (forest_in l))) (values (outline 2 (forest_in r))) ≡ are_equal (same_node same) (values mine.left) (values theirs.left)

  pub compare_start : (l r : Links X) → IsForest l → IsForest r → (place other : Option Name) → place ≡ first_of l None → other ≡ first_of r None → Compared l r place other 2 2
  compare_start l r s t place other p q =
      let a = walk_start l s place p in let b = walk_start r t other q in
      record { mine = a.0; theirs = b.0; rest = sym (λ i. are_equal (same_node same) (values (a.2 i)) (values (b.2 i))) }

  module _ (l r : Links X) (s : IsForest l) (t : IsForest r) (place other : Option Name) (depth level : ℕ) (k : Compared l r place other depth level) where
    -- nothing is left on the other side, or on this one
    pub compare_short : (name : Name) → place ≡ Some name → other ≡ None → false ≡ are_equal (same_node same) (values (outline 2 (forest_in l))) (values (outline 2 (forest_in r)))
    compare_short name e none =
        let a = walk_here l s place depth k.mine name e in
        sym (k.rest ∙ (λ i. are_equal (same_node same) (values (a.left_is i)) (values (none_left r other level k.theirs none i))))

    pub compare_end : place ≡ None → is_none other ≡ are_equal (same_node same) (values (outline 2 (forest_in l))) (values (outline 2 (forest_in r)))
    compare_end none = by_other other refl ∙ sym (k.rest ∙ ap (λ z. are_equal (same_node same) (values z) (values k.theirs.left)) (none_left l place depth k.mine none))
      where
        by_other : (o : Option Name) → other ≡ o → is_none other ≡ are_equal (same_node same) [] (values k.theirs.left)
        by_other None e = ap is_none e ∙ sym (ap (λ z. are_equal (same_node same) [] (values z)) (none_left r other level k.theirs e))
        by_other (Some its) e = ap is_none e ∙ sym (ap (λ z. are_equal (same_node same) [] (values z)) (walk_here r t other level k.theirs its e).left_is)

    module _ (name its : Name) (e : place ≡ Some name) (q : other ≡ Some its) where
      heads : (a : Here l place depth name k.mine) (b : Here r other level its k.theirs) (c : Bool) → ((depth == level) && same a.at.value.element b.at.value.element) ≡ c
          → are_equal (same_node same) (values k.mine.left) (values k.theirs.left) ≡ (c && are_equal (same_node same) (values a.rest) (values b.rest))
      heads a b c is =
          (λ i. are_equal (same_node same) (values (a.left_is i)) (values (b.left_is i)))
          ∙ ap (λ z. z && are_equal (same_node same) (values a.rest) (values b.rest)) ((λ i. same_node same (sym a.is i) (sym b.is i)) ∙ is)

      pub compare_levels : (depth == level) ≡ false → false ≡ are_equal (same_node same) (values (outline 2 (forest_in l))) (values (outline 2 (forest_in r)))
      compare_levels apart =
          let a = walk_here l s place depth k.mine name e in let b = walk_here r t other level k.theirs its q in
          sym (k.rest ∙ heads a b false (ap (λ z. z && same a.at.value.element b.at.value.element) apart))

      values_are : (a : Here l place depth name k.mine) (b : Here r other level its k.theirs) (v w : X) → option_map (λ (n : TreeNode X). n.value) (value_of l.nodes name) ≡ Some v → option_map (λ (n : TreeNode X). n.value) (value_of r.nodes its) ≡ Some w
          → depth ≡ level → ((depth == level) && same a.at.value.element b.at.value.element) ≡ same v w
      values_are a b v w x y alike =
          ap (λ z. z && same a.at.value.element b.at.value.element) (eq-eqb depth level alike)
          ∙ sym (λ i. same (some_value v a.at.value.element (sym x ∙ a.value) i) (some_value w b.at.value.element (sym y ∙ b.value) i))

      pub compare_values : (v w : X) → option_map (λ (n : TreeNode X). n.value) (value_of l.nodes name) ≡ Some v → option_map (λ (n : TreeNode X). n.value) (value_of r.nodes its) ≡ Some w → depth ≡ level → same v w ≡ false
          → false ≡ are_equal (same_node same) (values (outline 2 (forest_in l))) (values (outline 2 (forest_in r)))
      compare_values v w x y alike apart =
          let a = walk_here l s place depth k.mine name e in let b = walk_here r t other level k.theirs its q in
          sym (k.rest ∙ heads a b false (values_are a b v w x y alike ∙ apart))

      pub compare_more : (v w : X) → option_map (λ (n : TreeNode X). n.value) (value_of l.nodes name) ≡ Some v → option_map (λ (n : TreeNode X). n.value) (value_of r.nodes its) ≡ Some w → depth ≡ level → same v w ≡ true
          → (next after : Option Name) (now deep : ℕ) → Follows l None name next → ForSome next (λ b. now ≡ node_depth l (Some b)) → Follows r None its after → ForSome after (λ b. deep ≡ node_depth r (Some b)) → Compared l r next after now deep
      compare_more v w x y alike equal next after now deep f on g also =
          let a = walk_more l s place depth k.mine name e next now f on in let b = walk_more r t other level k.theirs its q after deep g also in
          record {
            mine = a.walk;
            theirs = b.walk;
            rest = k.rest ∙ heads a.here b.here true (values_are a.here b.here v w x y alike ∙ equal) ∙ (λ i. are_equal (same_node same) (values (a.left_is i)) (values (b.left_is i)));
          }
