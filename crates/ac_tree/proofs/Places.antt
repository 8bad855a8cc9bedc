-- Places in a forest: each name stands once, and which are round a place; the rows before it and after it.
use Rattle.std.proofs.Common.{◌≡◌, ℕ, ◌+◌, ◌⊎◌, List, [], ◌∷◌, ◌++◌, length, Some, None, refl, sym, ap, ◌∙◌, subst, inl, inr, arith, append-nil, append_assoc}
use Rattle.std.proofs.lemmas.List.{length-append}
use Rattle.ac_base.specs.declared.name.Name.{Name}
use Rattle.ac_base.specs.Rows.{Row, row}
use Rattle.ac_model.specs.Rows.{node}
use Rattle.ac_pool.specs.NamedRows.{HasName, IsOnce}
use Rattle.ac_pool.proofs.Cuts.{HasName-left, HasName-right, HasName-either, once-append}
use Rattle.ac_tree.specs.Forests.{Forest, bare, grove, Step, under, after, outline, size, last_in, or_name, Has, Once, joined, plugged, parent_in, prev_in, name_of, side_of, depth_in, before_in, after_in}

module _ {X : Type 0} where
  -- the names round a place
  abbrev pub IsAround : Name → List (Step X) → Type 0
  IsAround a [] = ⊥
  IsAround a (s ∷ steps) = (a ≡ name_of s) ⊎ (Has a (side_of s) ⊎ IsAround a steps)

  abbrev pub OnceAround : List (Step X) → Type 0
  OnceAround [] = Unit {0}
  OnceAround (s ∷ steps) = (Has (name_of s) (side_of s) → ⊥) × (IsAround (name_of s) steps → ⊥) × ((a : Name) → Has a (side_of s) → IsAround a steps → ⊥) × Once (side_of s) × OnceAround steps

  -- each name stands once, in the part or round its place
  pub record Parted (steps : List (Step X)) (t : Forest X) : Type 0 where
    pub once : Once t
    pub around : OnceAround steps
    pub apart : (a : Name) → Has a t → IsAround a steps → ⊥

  joined_has : (s : Step X) (t : Forest X) (a : Name) → Has a t → Has a (joined s t)
  joined_has (under x rest) t a h = inr (inl h)
  joined_has (after x below) t a h = inr (inr h)

  joined_name : (s : Step X) (t : Forest X) → Has (name_of s) (joined s t)
  joined_name (under x rest) t = inl refl
  joined_name (after x below) t = inl refl

  joined_side : (s : Step X) (t : Forest X) (a : Name) → Has a (side_of s) → Has a (joined s t)
  joined_side (under x rest) t a h = inr (inr h)
  joined_side (after x below) t a h = inr (inl h)

  joined_either : (s : Step X) (t : Forest X) (a : Name) → Has a (joined s t) → (a ≡ name_of s) ⊎ (Has a (side_of s) ⊎ Has a t)
  joined_either (under x rest) t a h = elim h [ inl e ↦ inl e | inr k ↦ elim k [ inl p ↦ inr (inr p) | inr q ↦ inr (inl q) ] ]
  joined_either (after x below) t a h = elim h [ inl e ↦ inl e | inr k ↦ elim k [ inl p ↦ inr (inl p) | inr q ↦ inr (inr q) ] ]

  -- one step: the part, the step's name and its side
  pub record Apart (s : Step X) (t : Forest X) : Type 0 where
    pub part : Once t
    pub side : Once (side_of s)
    pub not_side : Has (name_of s) (side_of s) → ⊥
    pub not_part : Has (name_of s) t → ⊥
    pub both : (a : Name) → Has a t → Has a (side_of s) → ⊥

  joined_apart : (s : Step X) (t : Forest X) → Once (joined s t) → Apart s t
  joined_apart (under x rest) t h = record { part = h.3; side = h.4; not_side = h.1; not_part = h.0; both = h.2 }
  joined_apart (after x below) t h = record { part = h.4; side = h.3; not_side = h.0; not_part = h.1; both = λ a k m. h.2 a m k }

  joined_once : (s : Step X) (t : Forest X) → Apart s t → Once (joined s t)
  joined_once (under x rest) t p = (p.not_part, p.not_side, p.both, p.part, p.side)
  joined_once (after x below) t p = (p.not_side, p.not_part, (λ a k m. p.both a m k), p.side, p.part)

  pub parted : (steps : List (Step X)) (t : Forest X) → Once (plugged steps t) → Parted steps t
  parted [] t h = record { once = h; around = tt; apart = λ a k m. m }
  parted (s ∷ steps) t h =
      let up = parted steps (joined s t) h in let here = joined_apart s t up.once in
      record {
        once = here.part;
        around = (here.not_side, (λ m. up.apart (name_of s) (joined_name s t) m), (λ a k m. up.apart a (joined_side s t a k) m), here.side, up.around);
        apart = λ a k m. elim m [
          | inl e ↦ here.not_part (subst (λ n. Has n t) e k)
          | inr n ↦ elim n [ inl q ↦ here.both a k q | inr z ↦ up.apart a (joined_has s t a k) z ]
        ];
      }

  pub joint : (steps : List (Step X)) (t : Forest X) → Parted steps t → Once (plugged steps t)
  joint [] t p = p.once
  joint (s ∷ steps) t p =
      joint steps (joined s t) (record {
        once = joined_once s t (record { part = p.once; side = p.around.3; not_side = p.around.0; not_part = λ k. p.apart (name_of s) k (inl refl); both = λ a k m. p.apart a k (inr (inl m)) });
        around = p.around.4;
        apart = λ a k m. elim (joined_either s t a k) [
          | inl e ↦ p.around.1 (subst (λ n. IsAround n steps) e m)
          | inr n ↦ elim n [ inl q ↦ p.around.2 a q m | inr z ↦ p.apart a z (inr (inr m)) ]
        ];
      })

  pub plugged_has : (steps : List (Step X)) (t : Forest X) (a : Name) → Has a t → Has a (plugged steps t)
  plugged_has [] t a h = h
  plugged_has (s ∷ steps) t a h = plugged_has steps (joined s t) a (joined_has s t a h)

  pub around_has : (steps : List (Step X)) (t : Forest X) (a : Name) → IsAround a steps → Has a (plugged steps t)
  around_has [] t a h = absurd h
  around_has (s ∷ steps) t a h = elim h [
    | inl e ↦ plugged_has steps (joined s t) a (subst (λ k. Has k (joined s t)) (sym e) (joined_name s t))
    | inr m ↦ elim m [ inl q ↦ plugged_has steps (joined s t) a (joined_side s t a q) | inr z ↦ around_has steps (joined s t) a z ]
  ]

  pub plugged_either : (steps : List (Step X)) (t : Forest X) (a : Name) → Has a (plugged steps t) → Has a t ⊎ IsAround a steps
  plugged_either [] t a h = inl h
  plugged_either (s ∷ steps) t a h = elim (plugged_either steps (joined s t) a h) [
    | inl k ↦ elim (joined_either s t a k) [ inl e ↦ inr (inl e) | inr n ↦ elim n [ inl q ↦ inr (inr (inl q)) | inr z ↦ inl z ] ]
    | inr m ↦ inr (inr (inr m))
  ]

  -- where a name stands
  pub record Place (a : Name) (t : Forest X) : Type 0 where
    pub steps : List (Step X)
    pub at : Row Name X
    pub below : Forest X
    pub rest : Forest X
    pub is : plugged steps (grove at below rest) ≡ t
    pub named : at.name ≡ a

  pub placed : (a : Name) (steps : List (Step X)) (t : Forest X) → Has a t → Place a (plugged steps t)
  placed a steps bare h = absurd h
  placed a steps (grove x below rest) h = elim h [
    | inl e ↦ record { steps = steps; at = x; below = below; rest = rest; is = refl; named = sym e }
    | inr k ↦ elim k [ inl p ↦ placed a (under x rest ∷ steps) below p | inr q ↦ placed a (after x below ∷ steps) rest q ]
  ]

  -- the place behind all that stands at one
  abbrev pub to_end : List (Step X) → Forest X → List (Step X)
  to_end steps bare = steps
  to_end steps (grove x below rest) = to_end (after x below ∷ steps) rest

  pub plugged_end : (steps : List (Step X)) (t : Forest X) → plugged (to_end steps t) bare ≡ plugged steps t
  plugged_end steps bare = refl
  plugged_end steps (grove x below rest) = plugged_end (after x below ∷ steps) rest

  pub parent_end : (steps : List (Step X)) (t : Forest X) → parent_in (to_end steps t) ≡ parent_in steps
  parent_end steps bare = refl
  parent_end steps (grove x below rest) = parent_end (after x below ∷ steps) rest

  prev_after : (steps : List (Step X)) (x : Row Name X) (below rest : Forest X) → prev_in (to_end (after x below ∷ steps) rest) ≡ Some (or_name x.name (last_in rest))
  prev_after steps x below bare = refl
  prev_after steps x below (grove y c r) = prev_after (after x below ∷ steps) y c r

  pub prev_end : (steps : List (Step X)) (t : Forest X) → prev_in steps ≡ None → prev_in (to_end steps t) ≡ last_in t
  prev_end steps bare e = e
  prev_end steps (grove x below rest) e = prev_after steps x below rest

  pub depth_end : (steps : List (Step X)) (t : Forest X) → depth_in (to_end steps t) ≡ depth_in steps
  depth_end steps bare = refl
  depth_end steps (grove x below rest) = depth_end (after x below ∷ steps) rest

  pub size_is : (depth : ℕ) (t : Forest X) → length (outline depth t) ≡ size t
  size_is depth bare = refl
  size_is depth (grove x below rest) = let b = size_is (depth + 1) below in let r = size_is depth rest in let e = length-append (outline (depth + 1) below) (outline depth rest) in omega (arith, b, r, e)

  joined_size : (s : Step X) (t u : Forest X) (n : ℕ) → size u ≡ size t + n → size (joined s u) ≡ size (joined s t) + n
  joined_size (under x rest) t u n e = omega (arith, e)
  joined_size (after x below) t u n e = omega (arith, e)

  pub plugged_size : (steps : List (Step X)) (t u : Forest X) (n : ℕ) → size u ≡ size t + n → size (plugged steps u) ≡ size (plugged steps t) + n
  plugged_size [] t u n e = e
  plugged_size (s ∷ steps) t u n e = plugged_size steps (joined s t) (joined s u) n (joined_size s t u n e)

  -- the rows before the place, those at it, and those after it
  pub outline_plugged : (steps : List (Step X)) (t : Forest X) → outline 2 (plugged steps t) ≡ before_in steps ++ (outline (depth_in steps) t ++ after_in steps)
  outline_plugged [] t = sym (append-nil (outline 2 t))
  outline_plugged (under x rest ∷ steps) t =
      let d = depth_in steps in let r = row x.name (node d x.value) in
      outline_plugged steps (grove x t rest)
      ∙ ap (λ zs. before_in steps ++ r ∷ zs) (append_assoc (outline (d + 1) t) (outline d rest) (after_in steps))
      ∙ sym (append_assoc (before_in steps) (r ∷ []) (outline (d + 1) t ++ (outline d rest ++ after_in steps)))
  outline_plugged (after x below ∷ steps) t =
      let d = depth_in steps in let r = row x.name (node d x.value) in
      outline_plugged steps (grove x below t)
      ∙ ap (λ zs. before_in steps ++ r ∷ zs) (append_assoc (outline (d + 1) below) (outline d t) (after_in steps))
      ∙ sym (append_assoc (before_in steps) (r ∷ outline (d + 1) below) (outline d t ++ after_in steps))

  -- the forest's names are its rows'
  pub named : (a : Name) (depth : ℕ) (t : Forest X) → Has a t → HasName a (outline depth t)
  named a depth bare h = h
  named a depth (grove x below rest) h = elim h [
    | inl e ↦ inl e
    | inr k ↦ elim k [
      | inl p ↦ inr (HasName-left a (outline (depth + 1) below) (outline depth rest) (named a (depth + 1) below p))
      | inr q ↦ inr (HasName-right a (outline (depth + 1) below) (outline depth rest) (named a depth rest q))
    ]
  ]

  pub has : (a : Name) (depth : ℕ) (t : Forest X) → HasName a (outline depth t) → Has a t
  has a depth bare h = h
  has a depth (grove x below rest) h = elim h [
    | inl e ↦ inl e
    | inr k ↦ elim (HasName-either a (outline (depth + 1) below) (outline depth rest) k) [ inl p ↦ inr (inl (has a (depth + 1) below p)) | inr q ↦ inr (inr (has a depth rest q)) ]
  ]

  pub once_rows : (depth : ℕ) (t : Forest X) → Once t → IsOnce (outline depth t)
  once_rows depth bare h = tt
  once_rows depth (grove x below rest) h = (
    λ k. elim (HasName-either x.name (outline (depth + 1) below) (outline depth rest) k) [ inl p ↦ h.0 (has x.name (depth + 1) below p) | inr q ↦ h.1 (has x.name depth rest q) ],
    once-append (outline (depth + 1) below) (outline depth rest) (once_rows (depth + 1) below h.3) (once_rows depth rest h.4)
        (λ a p q. h.2 a (has a (depth + 1) below p) (has a depth rest q)),
  )
