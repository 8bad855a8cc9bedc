-- Writes of links keep which names are live, and the pool sound.
use Rattle.std.proofs.Common.{◌≡◌, ◌<◌, ◌^◌, ℕ, true, false, Bool, Option, Some, None, is_some, refl, sym, ap, ◌∙◌, subst, inl, inr, arith}
use Rattle.ac_base.specs.declared.name.Name.{Name}
use Rattle.ac_pool.specs.Contents.{Contents, value_of, with_value, IsLive, IsSound}
use Rattle.ac_pool.proofs.NameLaws.{cases_name}
use Rattle.ac_pool.proofs.ContentsLaws.{value_of-with_value_same, value_of-with_value_other, live_count-with_value}
use Rattle.ac_balance.specs.declared.links.Node.{Node}
use Rattle.ac_balance.specs.Climbing.{Keeps}
use Rattle.ac_balance.specs.TreeFields.{parent_written, sides_written, side_written, with_parent, with_sides, with_side, fastened_at}

module _ {X : Type 0} where
  pub keeps_itself : (c : Contents (Node X)) → Keeps c c
  keeps_itself c = record { live = λ a. refl; count = refl; next = refl; spare = refl }

  pub keeps_then : (c d e : Contents (Node X)) → Keeps c d → Keeps d e → Keeps c e
  keeps_then c d e p q = record { live = λ a. q.live a ∙ p.live a; count = q.count ∙ p.count; next = q.next ∙ p.next; spare = q.spare ∙ p.spare }

  pub keeps_value : (c : Contents (Node X)) (a : Name) (n w : Node X) → value_of c a ≡ Some n → Keeps c (with_value c a w)
  keeps_value c a n w is = record {
    live = λ b. elim (cases_name b a) [
      | inl same ↦ ap (λ k. is_some (value_of (with_value c a w) k)) same ∙ ap is_some (value_of-with_value_same c a w) ∙ sym (ap is_some is) ∙ ap (λ k. is_some (value_of c k)) (sym same)
      | inr ne ↦ ap is_some (value_of-with_value_other c a b w ne)
    ];
    count = live_count-with_value c a w (ap is_some is);
    next = refl;
    spare = refl;
  }

  keeps_parent_at : (c : Contents (Node X)) (a : Name) (to : Option Name) (o : Option (Node X)) → value_of c a ≡ o → Keeps c (parent_written c a to o)
  keeps_parent_at c a to None is = keeps_itself c
  keeps_parent_at c a to (Some n) is = keeps_value c a n _ is

  pub keeps_parent : (c : Contents (Node X)) (o to : Option Name) → Keeps c (with_parent c o to)
  unfolding with_parent
  keeps_parent c None to = keeps_itself c
  keeps_parent c (Some a) to = keeps_parent_at c a to (value_of c a) refl

  keeps_sides_at : (c : Contents (Node X)) (a : Name) (l r : Option Name) (h : ℕ) (o : Option (Node X)) → value_of c a ≡ o → Keeps c (sides_written c a l r h o)
  keeps_sides_at c a l r h None is = keeps_itself c
  keeps_sides_at c a l r h (Some n) is = keeps_value c a n _ is

  pub keeps_sides : (c : Contents (Node X)) (a : Name) (l r : Option Name) (h : ℕ) → Keeps c (with_sides c a l r h)
  unfolding with_sides
  keeps_sides c a l r h = keeps_sides_at c a l r h (value_of c a) refl

  keeps_side_at : (c : Contents (Node X)) (a : Name) (b : Bool) (to : Option Name) (o : Option (Node X)) → value_of c a ≡ o → Keeps c (side_written c a b to o)
  keeps_side_at c a b to None is = keeps_itself c
  keeps_side_at c a true to (Some n) is = keeps_value c a n _ is
  keeps_side_at c a false to (Some n) is = keeps_value c a n _ is

  pub keeps_side : (c : Contents (Node X)) (a : Name) (b : Bool) (to : Option Name) → Keeps c (with_side c a b to)
  unfolding with_side
  keeps_side c a b to = keeps_side_at c a b to (value_of c a) refl

  pub keeps_fastened : (c : Contents (Node X)) (a : Name) (l r : Option Name) (h : ℕ) → Keeps c (fastened_at c a l r h)
  unfolding fastened_at
  keeps_fastened c a l r h =
      let one = with_parent c l (Some a) in let two = with_parent one r (Some a) in let three = with_sides two a l r h in
      keeps_then c two three (keeps_then c one two (keeps_parent c l (Some a)) (keeps_parent one r (Some a))) (keeps_sides two a l r h)

  live_still : (c d : Contents (Node X)) → Keeps c d → (a : Name) → IsLive d a → IsLive c a
  live_still c d k a h = sym (k.live a) ∙ h

  pub sound_still : (c d : Contents (Node X)) → Keeps c d → IsSound c → IsSound d
  sound_still c d k s = record {
    slots = λ a b p q. s.slots a b (live_still c d k a p) (live_still c d k b q);
    serials = λ a b p q. s.serials a b (live_still c d k a p) (live_still c d k b q);
    within = λ a p. let it = s.within a (live_still c d k a p) in let n = k.count in let m = k.spare in omega (arith, it, n, m);
    issued = λ a p. subst (λ n. (0 < a.serial) × (a.serial < n)) (sym k.next) (s.issued a (live_still c d k a p));
    next = subst (λ n. (0 < n) × (n < 2 ^ 64)) (sym k.next) s.next;
    few = let it = s.few in let n = k.count in let m = k.spare in omega (arith, it, n, m);
  }
