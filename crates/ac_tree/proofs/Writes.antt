-- What a write of one link leaves of the nodes.
use Rattle.std.proofs.Common.{◌≡◌, ◌≢◌, Option, Some, None, is_some, refl, sym, ap, ◌∙◌, inl, inr}
use Rattle.std.specs.Option.{option_map}
use Rattle.ac_base.specs.declared.name.Name.{Name}
use Rattle.ac_pool.specs.Contents.{Contents, value_of, with_value, live_count, IsSound}
use Rattle.ac_pool.proofs.NameLaws.{cases_name}
use Rattle.ac_pool.proofs.ContentsLaws.{value_of-with_value_same, value_of-with_value_other, live_count-with_value, IsSound-with_value}
use Rattle.ac_tree.specs.declared.links.TreeNode.{TreeNode}
use Rattle.ac_tree.specs.declared.links.Links.{Links}
use Rattle.ac_tree.specs.TreeFields.{written, written_at, with_next, with_prev, first_put, last_put, prev_put, next_put}

abbrev pub Nodes : Type 0 → Type 0
Nodes X = Name → Option (TreeNode X)

module _ {X : Type 0} where
  -- the same names are live, and nothing but nodes has changed
  pub record Keeps (c d : Contents (TreeNode X)) : Type 0 where
    pub live : (a : Name) → is_some (value_of d a) ≡ is_some (value_of c a)
    pub count : live_count d ≡ live_count c
    pub next : d.next_serial ≡ c.next_serial
    pub spare : d.spare ≡ c.spare
    pub sound : IsSound c → IsSound d

  pub keeps_then : (c d e : Contents (TreeNode X)) → Keeps c d → Keeps d e → Keeps c e
  keeps_then c d e p q = record { live = λ a. q.live a ∙ p.live a; count = q.count ∙ p.count; next = q.next ∙ p.next; spare = q.spare ∙ p.spare; sound = λ s. q.sound (p.sound s) }

  pub keeps_itself : (c : Contents (TreeNode X)) → Keeps c c
  keeps_itself c = record { live = λ a. refl; count = refl; next = refl; spare = refl; sound = λ s. s }

  pub keeps_value : (c : Contents (TreeNode X)) (a : Name) (n w : TreeNode X) → value_of c a ≡ Some n → Keeps c (with_value c a w)
  keeps_value c a n w is = record {
    live = λ b. elim (cases_name b a) [
      | inl same ↦ ap (λ k. is_some (value_of (with_value c a w) k)) same ∙ ap is_some (value_of-with_value_same c a w) ∙ sym (ap is_some is) ∙ ap (λ k. is_some (value_of c k)) (sym same)
      | inr ne ↦ ap is_some (value_of-with_value_other c a b w ne)
    ];
    count = live_count-with_value c a w (ap is_some is);
    next = refl;
    spare = refl;
    sound = λ s. IsSound-with_value c a w (ap is_some is) s;
  }

  keeps_written : (c : Contents (TreeNode X)) (a : Name) (w : TreeNode X → TreeNode X) (o : Option (TreeNode X)) → value_of c a ≡ o → Keeps c (written c a w o)
  keeps_written c a w None is = keeps_itself c
  keeps_written c a w (Some n) is = keeps_value c a n (w n) is

  pub keeps_at : (c : Contents (TreeNode X)) (a : Name) (w : TreeNode X → TreeNode X) → Keeps c (written_at c a w)
  unfolding written_at
  keeps_at c a w = keeps_written c a w (value_of c a) refl

  pub keeps_next : (l : Links X) (p q to : Option Name) → Keeps l.nodes (with_next l p q to).nodes
  unfolding with_next
  keeps_next l p (Some q) to = keeps_at l.nodes q (next_put to)
  keeps_next l (Some p) None to = keeps_at l.nodes p (first_put to)
  keeps_next l None None to = keeps_itself l.nodes

  pub keeps_prev : (l : Links X) (p q to : Option Name) → Keeps l.nodes (with_prev l p q to).nodes
  unfolding with_prev
  keeps_prev l p (Some q) to = keeps_at l.nodes q (prev_put to)
  keeps_prev l (Some p) None to = keeps_at l.nodes p (last_put to)
  keeps_prev l None None to = keeps_itself l.nodes

  -- the name's node is written, and no other
  pub record Writes (f g : Nodes X) (a : Name) (w : TreeNode X → TreeNode X) : Type 0 where
    pub here : g a ≡ option_map w (f a)
    pub there : (b : Name) → b ≢ a → g b ≡ f b

  written-writes : (c : Contents (TreeNode X)) (a : Name) (w : TreeNode X → TreeNode X) (o : Option (TreeNode X)) → value_of c a ≡ o → Writes (value_of c) (value_of (written c a w o)) a w
  written-writes c a w None is = record { here = is ∙ sym (ap (option_map w) is); there = λ b n. refl }
  written-writes c a w (Some n) is = record {
    here = value_of-with_value_same c a (w n) ∙ sym (ap (option_map w) is);
    there = λ b n. value_of-with_value_other c a b _ n;
  }

  pub writes : (c : Contents (TreeNode X)) (a : Name) (w : TreeNode X → TreeNode X) → Writes (value_of c) (value_of (written_at c a w)) a w
  unfolding written_at
  writes c a w = written-writes c a w (value_of c a) refl
