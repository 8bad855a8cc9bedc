-- What holds of every sequence, in the words of the definitions.
use Rattle.std.proofs.Common.{◌≡◌, ℕ, false, length, Option, IfSome, refl, sym, subst, arith}
use Rattle.std.proofs.lemmas.Bool.{le-ltb}
use Rattle.ac_base.specs.declared.limit.Limit.{Limit}
use Rattle.ac_base.specs.declared.limit.Limit.TheVariants.{Unbounded, Bounded}
use Rattle.ac_base.specs.declared.name.Name.{Name}
use Rattle.ac_base.specs.Guards.{GuardCounts}
use Rattle.ac_chain.specs.Rows.{Chained}
use Rattle.ac_pool.proofs.Cuts.{has_live}
use Rattle.ac_chain.proofs.Moves.{once_from}
use Rattle.ac_base.specs.Limits.{is_past}
use Rattle.ac_model.specs.Objects.{Object, plain, IsValid, CapacityFits}
use Rattle.ac_model.specs.Objects.{plains}
use Rattle.ac_model.specs.Containers.{HasSlots}
use Rattle.ac_chain.specs.Sequence.{object_of, IsSequence}
use Rattle.ac_model.proofs.Plains.{length-plains}
use Rattle.ac_chain.proofs.Valid.{times_none, times_once}

module _ {X : Type 0} where
  within : (l : Limit) (k : Chained X) → IsSequence l k → is_past l (length (plains k.rows)) ≡ false
  within Unbounded k s = refl
  within (Bounded most) k s = let count = length-plains k.rows in let sum = s.has_slots in le-ltb most (length (plains k.rows)) (omega arith)

  pub valid : (g : GuardCounts) (l : Limit) (capacity : Option ℕ) (k : Chained X) (o : Object Name X) → object_of g l capacity k ≡ o → IsSequence l k → IfSome capacity (λ n. CapacityFits l (length k.rows) n) → IsValid (plain o)
  valid g l capacity k o view s fits = subst (λ (p : Object Name X). IsValid (plain p)) view (record {
    names_differ = λ n. times_once n k.rows (once_from k.rows s.sound.once) (λ a b t q e. s.sound.serials a b (has_live a k.rows t) (has_live b k.rows q) e);
    names_below_next = λ n low. times_none n k.rows (λ a t e. let issued = s.sound.issued a (has_live a k.rows t) in absurd (omega arith));
    names_from_one = times_none 0 k.rows (λ a t e. let issued = s.sound.issued a (has_live a k.rows t) in absurd (omega arith));
    next_from_one = let next = s.sound.next in omega arith;
    next_in_range = let next = s.sound.next in omega arith;
    within_limit = within l k s;
    within_greatest = let count = length-plains k.rows in let most = s.within_greatest in omega arith;
    capacity_fits = subst (λ n. IfSome capacity (λ c. CapacityFits l n c)) (sym (length-plains k.rows)) fits;
  })

  pub has_slots : (l : Limit) (k : Chained X) → IsSequence l k → HasSlots l (length k.rows) k.spare
  has_slots Unbounded k s = tt
  has_slots (Bounded most) k s = s.has_slots
