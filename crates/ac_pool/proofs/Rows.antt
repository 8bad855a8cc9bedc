-- One entry of a row is taken out and put back, or seen. Assumes `Logic`.
use Prim.Native.Nat.{ℕ, zero, suc, ◌<◌}
use native.Mathlib.Omega.{arith}
use mathlib.Core.List.{List, [], ◌∷◌}
use lib.ListN.{length, set, get_or}
use seplogic.Ra.Ura.{Ura}
use base.Logic.{SProp, ent, sep, wand, via, all_e, apply∗, fst∗}
use base.Fml.{Fml, fwand, fall}
use types.Logic.{Logic, sem}
use types.Kit.{‵, raw, ◌⊛◌, ◌$◌, ◌∵◌, !, qed, by, move, use1, use2, split, frame, each, assume, fsplit, fjoin, done}
use Rattle.ac_pool.specs.Memory.{row}

-- the row without its i-th entry: it takes any back
abbrev pub gap : {A : Type 0} → List A → (ℕ → A → Fml) → ℕ → Fml
gap {A} cs F i = fall A (λ c. fwand (F i c) (row (set cs i c) F))

module _ {A : Type 0} {M : Type 1} {𝓤 : Ura M} (𝓛 : Logic 𝓤) where
  abbrev Back : List A → (ℕ → A → Fml) → ℕ → A → SProp 𝓤
  Back cs F i c = wand 𝓤 (sem 𝓛 (F i c)) (sem 𝓛 (row (set cs i c) F))

  pub fill : (cs : List A) (F : ℕ → A → Fml) (i : ℕ) (c : A) → ent 𝓤 (sep 𝓤 (sem 𝓛 (F i c)) (sem 𝓛 (gap cs F i))) (sem 𝓛 (row (set cs i c) F))
  fill cs F i c =
      qed 𝓛 (‵ (F i c) ∷ ‵ (gap cs F i) ∷ []) ∵ move ! (1 ∷ []) $ use1 𝓛 (raw (Back cs F i c)) (all_e 𝓤 (Back cs F i) c) $ move ! (1 ∷ 0 ∷ []) $
      by ! (apply∗ 𝓤 (sem 𝓛 (F i c)) (sem 𝓛 (row (set cs i c) F)))

  pub lift : (cs : List A) (F : ℕ → A → Fml) (i : ℕ) (d : A) → i < length cs → ent 𝓤 (sem 𝓛 (row cs F)) (sep 𝓤 (sem 𝓛 (F i (get_or cs i d))) (sem 𝓛 (gap cs F i)))
  lift [] F i d lt = absurd (omega arith)
  lift (c ∷ cs) F zero d lt =
      qed 𝓛 (‵ (row (c ∷ cs) F) ∷ []) ∵ fsplit ! $ frame ! $ each ! (Back (c ∷ cs) F zero) (λ w. assume ! (‵ (F zero w)) $ fjoin ! $ done !)
  lift (c ∷ cs) F (suc i) d lt =
      let G : ℕ → A → Fml = λ j. F (suc j) in
      qed 𝓛 (‵ (row (c ∷ cs) F) ∷ []) ∵ fsplit ! $ move ! (1 ∷ []) $ use1 𝓛 (‵ (G i (get_or cs i d)) ⊛ ‵ (gap cs G i)) (lift cs G i d (omega arith)) $ split ! $ frame ! $
      each ! (Back (c ∷ cs) F (suc i)) (λ w. assume ! (‵ (G i w)) $ use2 𝓛 (‵ (row (set cs i w) G)) (fill cs G i w) $ move ! (1 ∷ 0 ∷ []) $ fjoin ! $ done !)

  pub see : (cs : List A) (F : ℕ → A → Fml) (i : ℕ) (d : A) → i < length cs → ent 𝓤 (sem 𝓛 (row cs F)) (sem 𝓛 (F i (get_or cs i d)))
  see cs F i d lt = let entry = sem 𝓛 (F i (get_or cs i d)) in let others = sem 𝓛 (gap cs F i) in via 𝓤 (sep 𝓤 entry others) (lift cs F i d lt) (fst∗ 𝓤 entry others)
