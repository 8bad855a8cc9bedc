-- What the writes of names' places leave of a pool.
use Rattle.std.proofs.Common.{◌≡◌, ◌≢◌, ℕ, zero, suc, ◌+◌, List, [], ◌∷◌, Option, Some, None, is_some, refl, sym, ap, ◌∙◌, subst, inl, inr, arith}
use Rattle.ac_base.specs.declared.name.Name.{Name}
use Rattle.ac_base.specs.Rows.{Row, names}
use Rattle.ac_pool.specs.Contents.{Contents, value_of, IsLive, live_count, with_value, IsSound}
use Rattle.ac_pool.proofs.NameLaws.{cases_name}
use Rattle.ac_pool.proofs.ContentsLaws.{live_value, value_of-with_value_same, value_of-with_value_other, live_count-with_value, IsSound-with_value}
use Rattle.ac_pool.specs.NamedRows.{name_at, HasName, IsOnce}
use Rattle.ac_vector.specs.ArrayFields.{place_written, with_place, renumbered}
use Rattle.ac_vector.proofs.NamesAt.{no_name}

-- the names of d are those of c
pub record KeepsNames (c d : Contents ℕ) : Type 0 where
  pub live : (a : Name) → is_some (value_of d a) ≡ is_some (value_of c a)
  pub count : live_count d ≡ live_count c
  pub next : d.next_serial ≡ c.next_serial
  pub spare : d.spare ≡ c.spare
  pub sound : IsSound c → IsSound d

keeps_all : (c : Contents ℕ) → KeepsNames c c
keeps_all c = record { live = λ a. refl; count = refl; next = refl; spare = refl; sound = λ s. s }

keeps_both : (c d e : Contents ℕ) → KeepsNames c d → KeepsNames d e → KeepsNames c e
keeps_both c d e k l = record {
  live = λ a. l.live a ∙ k.live a;
  count = l.count ∙ k.count;
  next = l.next ∙ k.next;
  spare = l.spare ∙ k.spare;
  sound = λ s. l.sound (k.sound s);
}

keeps-written : (c : Contents ℕ) (a : Name) (i : ℕ) (o : Option ℕ) → value_of c a ≡ o → KeepsNames c (place_written c a i o)
keeps-written c a i None e = keeps_all c
keeps-written c a i (Some old) e =
    let live : IsLive c a = ap is_some e in record {
      live = λ b. elim (cases_name b a) [
        | inl same ↦ ap (λ k. is_some (value_of (with_value c a i) k)) same ∙ ap is_some (value_of-with_value_same c a i) ∙ sym (ap (λ k. is_some (value_of c k)) same ∙ live)
        | inr ne ↦ ap is_some (value_of-with_value_other c a b i ne)
      ];
      count = live_count-with_value c a i live;
      next = refl;
      spare = refl;
      sound = IsSound-with_value c a i live;
    }

pub with_place-keeps : (c : Contents ℕ) (a : Name) (i : ℕ) → KeepsNames c (with_place c a i)
with_place-keeps c a i = keeps-written c a i (value_of c a) refl

with_place-other : (c : Contents ℕ) (a b : Name) (i : ℕ) → b ≢ a → value_of (with_place c a i) b ≡ value_of c b
with_place-other c a b i ne = step (value_of c a)
  where
    step : (o : Option ℕ) → value_of (place_written c a i o) b ≡ value_of c b
    step None = refl
    step (Some old) = value_of-with_value_other c a b i ne

with_place-same : (c : Contents ℕ) (a : Name) (i : ℕ) → IsLive c a → value_of (with_place c a i) a ≡ Some i
with_place-same c a i live = let x = live_value (value_of c a) live in ap (λ o. value_of (place_written c a i o) a) x.1 ∙ value_of-with_value_same c a i

pub renumbered-keeps_names : (ns : List Name) (i : ℕ) (c : Contents ℕ) → KeepsNames c (renumbered ns i c)
renumbered-keeps_names [] i c = keeps_all c
renumbered-keeps_names (a ∷ ns) i c = let d = with_place c a i in keeps_both c d (renumbered ns (i + 1) d) (with_place-keeps c a i) (renumbered-keeps_names ns (i + 1) d)

module _ {X : Type 0} where
  pub renumbered-keeps : (rs : List (Row Name X)) (i : ℕ) (c : Contents ℕ) → KeepsNames c (renumbered (names rs) i c)
  renumbered-keeps rs i c = renumbered-keeps_names (names rs) i c

  pub renumbered-other : (rs : List (Row Name X)) (i : ℕ) (c : Contents ℕ) (a : Name) → (HasName a rs → ⊥) → value_of (renumbered (names rs) i c) a ≡ value_of c a
  renumbered-other [] i c a gone = refl
  renumbered-other (r ∷ rs) i c a gone = renumbered-other rs (i + 1) (with_place c r.name i) a (λ h. gone (inr h)) ∙ with_place-other c r.name a i (λ e. gone (inl e))

  pub renumbered-at : (rs : List (Row Name X)) → IsOnce rs → (i : ℕ) (c : Contents ℕ) (k : ℕ) (a : Name) → name_at rs k ≡ Some a → IsLive c a → value_of (renumbered (names rs) i c) a ≡ Some (i + k)
  renumbered-at [] once i c k a e live = absurd (no_name a e)
  renumbered-at (r ∷ rs) once i c zero a e live =
      let same : a ≡ r.name = (let is : Some r.name ≡ Some a = e in cc) in
      let gone : HasName a rs → ⊥ = λ h. once.0 (subst (λ n. HasName n rs) same h) in
      let place : i ≡ i + 0 = omega arith in
      renumbered-other rs (i + 1) (with_place c r.name i) a gone ∙ ap (λ n. value_of (with_place c n i) a) (sym same) ∙ with_place-same c a i live ∙ ap Some place
  renumbered-at (r ∷ rs) once i c (suc k) a e live =
      let place : i + 1 + k ≡ i + suc k = omega arith in
      renumbered-at rs once.1 (i + 1) (with_place c r.name i) k a e ((with_place-keeps c r.name i).live a ∙ live) ∙ ap Some place
