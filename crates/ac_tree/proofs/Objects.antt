-- A tree's fields as a sequence of rows: what holds of them after each change.
use Rattle.std.proofs.Common.{◌≡◌, ℕ, ◌<◌, ◌≤◌, [], length, sym, ap, subst, arith}
use Rattle.ac_base.specs.declared.limit.Limit.{Limit}
use Rattle.ac_base.specs.declared.limit.Limit.TheVariants.{Unbounded, Bounded}
use Rattle.ac_base.specs.declared.limit.TheConstants.{GREATEST_LENGTH}
use Rattle.ac_base.specs.declared.name.Name.{Name}
use Rattle.ac_base.specs.Limits.{IsLimit}
use Rattle.ac_pool.specs.Contents as pool
use Rattle.ac_chain.specs.Rows.{chained, IsSound}
use Rattle.ac_pool.specs.NamedRows.{index_of}
use Rattle.ac_chain.specs.Sequence.{IsSequence}
use Rattle.ac_pool.proofs.Cuts.{live_has, once_at}
use Rattle.ac_model.specs.Containers.{HasSlots, first_spare}
use Rattle.ac_tree.specs.declared.links.TreeNode.{TreeNode}
use Rattle.ac_tree.specs.declared.links.Links.{Links}
use Rattle.ac_tree.specs.Forests.{Forest, bare, outline, size}
use Rattle.ac_tree.specs.TreeFields.{StandsFor, forest_in, IsEmptied}
use Rattle.ac_tree.specs.TreeRows.{rows_of, IsTree}
use Rattle.ac_tree.proofs.Places.{size_is, has, once_rows}
use Rattle.ac_tree.proofs.Forests.{live_of, forest-is, is_forest, empty_stands}

slots_from : (limit : Limit) (m n spare : ℕ) → n ≡ m → HasSlots limit m spare → HasSlots limit n spare
slots_from limit m n spare e h = subst (λ k. HasSlots limit k spare) (sym e) h

first_slots : (limit : Limit) (spare : ℕ) → spare ≡ first_spare limit → HasSlots limit 0 spare
first_slots Unbounded spare e = tt
first_slots (Bounded most) spare e = let same : spare ≡ most = e in omega arith

module _ {X : Type 0} where
  pub sound_of : (l : Links X) (t : Forest X) → StandsFor l t → IsSound (chained (outline 2 t) l.nodes.next_serial l.nodes.spare)
  sound_of l t s =
      let live : (a : Name) → index_of a (outline 2 t) < length (outline 2 t) → pool.IsLive l.nodes a = λ a h. live_of l t s a (has a 2 t (live_has a (outline 2 t) h)) in record {
        once = once_at (outline 2 t) (once_rows 2 t s.once);
        slots = λ a b p q e. s.sound.slots a b (live a p) (live b q) e;
        serials = λ a b p q e. s.sound.serials a b (live a p) (live b q) e;
        issued = λ a p. s.sound.issued a (live a p);
        next = s.sound.next;
        few = omega (arith, s.sound.few, s.count, size_is 2 t);
      }

  pub rows-are : (l : Links X) (t : Forest X) → StandsFor l t → rows_of l ≡ chained (outline 2 t) l.nodes.next_serial l.nodes.spare
  rows-are l t s = ap (λ u. chained (outline 2 u) l.nodes.next_serial l.nodes.spare) (forest-is l t s)

  pub tree_from : (limit : Limit) (l : Links X) (t : Forest X) → StandsFor l t → IsLimit limit → size t ≤ GREATEST_LENGTH → HasSlots limit (size t) l.nodes.spare → IsTree limit l
  tree_from limit l t s is few slots = record {
    forest = is_forest l t s;
    sequence = subst (λ c. IsSequence limit c) (sym (rows-are l t s)) (record {
      sound = sound_of l t s;
      within_greatest = let e = size_is 2 t in omega (arith, e, few);
      is_limit = is;
      has_slots = slots_from limit (size t) (length (outline 2 t)) l.nodes.spare (size_is 2 t) slots;
    });
  }

  emptied_stands : (l : Links X) (n : ℕ) → IsEmptied l n → StandsFor l bare
  emptied_stands l n e =
      let s = empty_stands l.nodes (ap (λ (c : pool.Contents (TreeNode X)). c.entries) e.nodes) e.sound in
      record { framed = (e.first, e.last); stands = tt; once = tt; all = s.all; count = s.count; sound = e.sound }

  pub empty_tree : (limit : Limit) (l : Links X) → IsLimit limit → IsEmptied l (first_spare limit) → IsTree limit l
  empty_tree limit l is e = tree_from limit l bare (emptied_stands l (first_spare limit) e) is (omega arith) (first_slots limit l.nodes.spare (ap (λ (c : pool.Contents (TreeNode X)). c.spare) e.nodes))

  pub empty_rows : (l : Links X) (n : ℕ) → IsEmptied l n → outline 2 (forest_in l) ≡ []
  empty_rows l n e = ap (outline 2) (forest-is l bare (emptied_stands l n e))
