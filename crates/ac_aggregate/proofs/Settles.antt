-- What making a part of what stands for its own parts comes to.
use Rattle.std.proofs.Common.{◌≡◌, ◌∷◌, ℕ, Bool, List, Result, Ok, Err, IfOk, sym, subst}
use Rattle.std.specs.Global.{Box}
use Rattle.ac_base.specs.declared.fault.NoMemory.{NoMemory}
use Rattle.ac_aggregate.specs.declared.oper.Comparison.{Comparison}
use Rattle.ac_aggregate.specs.declared.oper.Oper.{Oper}
use Rattle.ac_aggregate.specs.declared.part.Part.{Part}
use Rattle.ac_calls.specs.declared.plains.Plain.{Plain}
use Rattle.ac_aggregate.specs.Asked.{Asked, group, product, sum, each, reduced, compares, both, negated}
use Rattle.ac_aggregate.specs.Settled.{StandsFor}
use Rattle.ac_aggregate.specs.Views.{asked_in}
use Rattle.ac_aggregate.proofs.Stands.{group_stands, negated_stands, product_stands, sum_stands, compares_stands, both_stand, reduced_stands, each_stands}

at_part : (ps : List Plain) (ws : List (List ℕ)) (made other q : Asked) → q ≡ other → StandsFor ps ws made other → StandsFor ps ws made q
at_part ps ws made other q is h = subst (StandsFor ps ws made) (sym is) h

module _ (ps : List Plain) (ws : List (List ℕ)) where
  pub group_ok : (r : Result (Box Part) NoMemory) (e f q : Asked) → IfOk r (λ made. asked_in made ≡ group e) → StandsFor ps ws e f → q ≡ group f
      → IfOk r (λ made. StandsFor ps ws (asked_in made) q)
  group_ok (Ok made) e f q is h at = at_part ps ws (asked_in made) (group f) q at (group_stands ps ws (asked_in made) e f is h)
  group_ok (Err _) e f q is h at = tt

  pub negated_ok : (r : Result (Box Part) NoMemory) (c d q : Asked) → IfOk r (λ made. asked_in made ≡ negated c) → StandsFor ps ws c d → q ≡ negated d
      → IfOk r (λ made. StandsFor ps ws (asked_in made) q)
  negated_ok (Ok made) c d q is h at = at_part ps ws (asked_in made) (negated d) q at (negated_stands ps ws (asked_in made) c d is h)
  negated_ok (Err _) c d q is h at = tt

  pub product_ok : (r : Result (Box Part) NoMemory) (l o m s q : Asked) → IfOk r (λ made. asked_in made ≡ product l o) → StandsFor ps ws l m → StandsFor ps ws o s
      → q ≡ product m s → IfOk r (λ made. StandsFor ps ws (asked_in made) q)
  product_ok (Ok made) l o m s q is h k at = at_part ps ws (asked_in made) (product m s) q at (product_stands ps ws (asked_in made) l o m s is h k)
  product_ok (Err _) l o m s q is h k at = tt

  pub sum_ok : (minus : Bool) (r : Result (Box Part) NoMemory) (l o m s q : Asked) → IfOk r (λ made. asked_in made ≡ sum l minus o) → StandsFor ps ws l m
      → StandsFor ps ws o s → q ≡ sum m minus s → IfOk r (λ made. StandsFor ps ws (asked_in made) q)
  sum_ok minus (Ok made) l o m s q is h k at = at_part ps ws (asked_in made) (sum m minus s) q at (sum_stands ps ws minus (asked_in made) l o m s is h k)
  sum_ok minus (Err _) l o m s q is h k at = tt

  pub compares_ok : (by : Comparison) (r : Result (Box Part) NoMemory) (l o m s q : Asked) → IfOk r (λ made. asked_in made ≡ compares l by o) → StandsFor ps ws l m
      → StandsFor ps ws o s → q ≡ compares m by s → IfOk r (λ made. StandsFor ps ws (asked_in made) q)
  compares_ok by (Ok made) l o m s q is h k at = at_part ps ws (asked_in made) (compares m by s) q at (compares_stands ps ws by (asked_in made) l o m s is h k)
  compares_ok by (Err _) l o m s q is h k at = tt

  pub both_ok : (r : Result (Box Part) NoMemory) (l o m s q : Asked) → IfOk r (λ made. asked_in made ≡ both l o) → StandsFor ps ws l m → StandsFor ps ws o s
      → q ≡ both m s → IfOk r (λ made. StandsFor ps ws (asked_in made) q)
  both_ok (Ok made) l o m s q is h k at = at_part ps ws (asked_in made) (both m s) q at (both_stand ps ws (asked_in made) l o m s is h k)
  both_ok (Err _) l o m s q is h k at = tt

  pub each_ok : (own object : List ℕ) (r : Result (Box Part) NoMemory) (c e d f q : Asked) → IfOk r (λ made. asked_in made ≡ each own object c e)
      → StandsFor ps (own ∷ ws) c d → StandsFor ps (own ∷ ws) e f → q ≡ each own object d f → IfOk r (λ made. StandsFor ps ws (asked_in made) q)
  each_ok own object (Ok made) c e d f q is h k at =
      at_part ps ws (asked_in made) (each own object d f) q at (each_stands ps ws own object (asked_in made) c e d f is h k)
  each_ok own object (Err _) c e d f q is h k at = tt

  pub reduced_at : (by : Oper) (minus : Bool) (x : ℕ) (made s t q : Asked) → made ≡ reduced s by minus x → StandsFor ps ws s t → q ≡ reduced t by minus x
      → StandsFor ps ws made q
  reduced_at by minus x made s t q is h at = at_part ps ws made (reduced t by minus x) q at (reduced_stands ps ws by minus x made s t is h)
