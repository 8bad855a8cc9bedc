-- The live name of a slot, and of a link.
use Rattle.std.proofs.Common.{◌≡◌, ◌≢◌, ℕ, zero, suc, ◌<◌, Bool, true, false, Option, Some, None, is_some, IfSome, IfNone, refl, sym, ap, ◌∙◌, subst, arith}
use Rattle.std.proofs.lemmas.Bool.{cond-true, cond-false}
use Rattle.std.proofs.lemmas.Option.{none-some, same_Some}
use Rattle.ac_base.specs.declared.name.Name.{Name}
use Rattle.ac_pool.specs.Contents.{Contents, value_of, IsLive, slot_count, IsSound}
use Rattle.ac_pool.specs.PoolFields.{name_at}
use Rattle.ac_pool.specs.Link.{link_of, name_below, name_in, value_at, value_in}

module _ {Y : Type 0} where
  below_live : (n : ℕ) (c : Contents Y) (a : Name) → ((b : Name) → IsLive c b → b.slot ≡ a.slot → b ≡ a) → IsLive c a → a.serial < n → name_below n c a.slot ≡ Some a
  below_live zero c a only live lt = absurd (omega arith)
  below_live (suc n) c a only live lt = by_test (λ le. below_live n c a only live le) (is_some (value_of c (name_at a.slot n))) refl
    where
      by_test : (a.serial < n → name_below n c a.slot ≡ Some a) → (b : Bool) → is_some (value_of c (name_at a.slot n)) ≡ b → name_below (suc n) c a.slot ≡ Some a
      by_test before true e = cond-true _ _ _ e ∙ ap Some (only (name_at a.slot n) e refl)
      by_test before false e =
          let other : n ≢ a.serial = λ same. let there : IsLive c (name_at a.slot n) = subst (λ k. IsLive c (name_at a.slot k)) (sym same) live in let both : true ≡ false = sym there ∙ e in cc in
          cond-false _ _ _ e ∙ before (omega arith)

  below_none : (n : ℕ) (c : Contents Y) (slot : ℕ) → ((b : Name) → IsLive c b → b.slot ≢ slot) → name_below n c slot ≡ None
  below_none zero c slot none = refl
  below_none (suc n) c slot none = by_test (below_none n c slot none) (is_some (value_of c (name_at slot n))) refl
    where
      by_test : name_below n c slot ≡ None → (b : Bool) → is_some (value_of c (name_at slot n)) ≡ b → name_below (suc n) c slot ≡ None
      by_test before true e = absurd (none (name_at slot n) e refl)
      by_test before false e = cond-false _ _ _ e ∙ before

  pub name_in_live : (c : Contents Y) → IsSound c → (a : Name) → IsLive c a → name_in c a.slot ≡ Some a
  unfolding name_in
  name_in_live c sound a live = below_live c.next_serial c a (λ b h e. sound.slots b a h live e) live (sound.issued a live).1

  pub name_in_none : (c : Contents Y) (slot : ℕ) → ((b : Name) → IsLive c b → b.slot ≢ slot) → name_in c slot ≡ None
  unfolding name_in
  name_in_none c slot none = below_none c.next_serial c slot none

  below_slot : (n : ℕ) (c : Contents Y) (slot : ℕ) (a : Name) → name_below n c slot ≡ Some a → a.slot ≡ slot
  below_slot zero c slot a is = absurd (none-some a is)
  below_slot (suc n) c slot a is = by_test (below_slot n c slot a) (is_some (value_of c (name_at slot n))) refl
    where
      by_test : (name_below n c slot ≡ Some a → a.slot ≡ slot) → (b : Bool) → is_some (value_of c (name_at slot n)) ≡ b → a.slot ≡ slot
      by_test before true e = ap (λ (q : Name). q.slot) (same_Some a (name_at slot n) (sym is ∙ cond-true _ _ _ e))
      by_test before false e = before (sym (cond-false _ _ _ e) ∙ is)

  named_slot : (c : Contents Y) (slot : ℕ) (a : Name) → name_in c slot ≡ Some a → a.slot ≡ slot
  unfolding name_in
  named_slot c slot a is = below_slot c.next_serial c slot a is

  -- a slot under whose live name a value lies is one of the pool's
  pub value_within : (c : Contents Y) → IsSound c → (slot : ℕ) (v : Y) → value_in c slot ≡ Some v → slot < slot_count c
  value_within c sound slot v is = by_name (name_in c slot) refl is
    where
      by_name : (o : Option Name) → name_in c slot ≡ o → value_at c o ≡ Some v → slot < slot_count c
      by_name None named is = absurd (none-some v is)
      by_name (Some a) named is = omega (arith, named_slot c slot a named, sound.within a (ap is_some is))

  -- what a pool says of a slot
  pub found_is : (c : Contents Y) → IsSound c → (slot : ℕ) (o : Option Name) → IfSome o (λ a. (a.slot ≡ slot) × IsLive c a) → IfNone o ((a : Name) → IsLive c a → a.slot ≢ slot) → o ≡ name_in c slot
  found_is c sound slot None found none = sym (name_in_none c slot none)
  found_is c sound slot (Some a) found none = sym (name_in_live c sound a found.1) ∙ ap (name_in c) found.0

  -- a link leads to its name where that is live
  pub linked_name : (c : Contents Y) → IsSound c → (o : Option Name) → ((a : Name) → o ≡ Some a → IsLive c a) → name_in c (link_of o) ≡ o
  linked_name c sound None live = name_in_none c (link_of None) (λ b h e. let within = sound.within b h in let few = sound.few in absurd (omega arith))
  linked_name c sound (Some a) live = name_in_live c sound a (live a refl)
