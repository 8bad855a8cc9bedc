-- Links that stand for a forest: seen from a place in it, and after a change at that place.
use Rattle.std.proofs.Common.{◌≡◌, List, [], ◌∷◌, Option, Some, None, is_some, IsSome, refl, sym, ap, ◌∙◌, subst, inl, inr}
use Rattle.std.specs.Option.{option_map}
use Rattle.ac_base.specs.declared.name.Name.{Name}
use Rattle.ac_base.specs.Rows.{Row}
use Rattle.ac_pool.specs.Contents.{value_of}
use Rattle.ac_tree.specs.declared.links.Links.{Links}
use Rattle.ac_tree.specs.Forests.{Forest, bare, grove, Step, under, after, first_in, last_in, or_name, Has, Once, plugged, parent_in, prev_in}
use Rattle.ac_tree.specs.TreeFields.{linked, Stands, Framed, first_put, last_put, prev_put, next_put, written_at, with_next, with_prev, tied, closed}
use Rattle.ac_tree.proofs.Places.{IsAround, OnceAround, Parted}
use Rattle.ac_tree.proofs.Writes.{Nodes, Writes, writes}

pub some_name : (a b : Name) → Some a ≡ Some b → a ≡ b
some_name a b e = cc

module _ {X : Type 0} where
  pub Stands-live : (f : Nodes X) (p q : Option Name) (t : Forest X) → Stands f p q t → (a : Name) → Has a t → IsSome (f a)
  Stands-live f p q bare h a k = absurd k
  Stands-live f p q (grove x below rest) h a k = elim k [
    | inl e ↦ ap (λ z. is_some (f z)) e ∙ ap is_some h.0
    | inr m ↦ elim m [ inl b ↦ Stands-live f (Some x.name) None below h.1 a b | inr r ↦ Stands-live f p (Some x.name) rest h.2 a r ]
  ]

  pub Stands-same : (f g : Nodes X) (p q : Option Name) (t : Forest X) → ((a : Name) → Has a t → g a ≡ f a) → Stands f p q t → Stands g p q t
  Stands-same f g p q bare same h = tt
  Stands-same f g p q (grove x below rest) same h = (
    same x.name (inl refl) ∙ h.0,
    Stands-same f g (Some x.name) None below (λ a k. same a (inr (inl k))) h.1,
    Stands-same f g p (Some x.name) rest (λ a k. same a (inr (inr k))) h.2,
  )

  -- another node, or none, before the first
  pub Stands-behind : (f g : Nodes X) (p q o : Option Name) (x : Row Name X) (below rest : Forest X) → Once (grove x below rest) → Writes f g x.name (prev_put o) → Stands f p q (grove x below rest) → Stands g p o (grove x below rest)
  Stands-behind f g p q o x below rest once w h = (
    w.here ∙ ap (option_map (prev_put o)) h.0,
    Stands-same f g (Some x.name) None below (λ a k. w.there a (λ e. once.0 (subst (λ n. Has n below) e k))) h.1,
    Stands-same f g p (Some x.name) rest (λ a k. w.there a (λ e. once.1 (subst (λ n. Has n rest) e k))) h.2,
  )

  pub Framed-same : (l m : Links X) (steps : List (Step X)) (o e : Option Name) → ((a : Name) → IsAround a steps → value_of m.nodes a ≡ value_of l.nodes a) → m.first ≡ l.first → m.last ≡ l.last → Framed l steps o e → Framed m steps o e
  Framed-same l m [] o e same first last h = (first ∙ h.0, last ∙ h.1)
  Framed-same l m (under x rest ∷ steps) o e same first last h = (
    same x.name (inl refl) ∙ h.0,
    Stands-same (value_of l.nodes) (value_of m.nodes) (parent_in steps) (Some x.name) rest (λ a k. same a (inr (inl k))) h.1,
    Framed-same l m steps (Some x.name) (Some (or_name x.name (last_in rest))) (λ a k. same a (inr (inr k))) first last h.2,
  )
  Framed-same l m (after x below ∷ steps) o e same first last h = (
    same x.name (inl refl) ∙ h.0,
    Stands-same (value_of l.nodes) (value_of m.nodes) (Some x.name) None below (λ a k. same a (inr (inl k))) h.1,
    Framed-same l m steps (Some x.name) (Some (or_name x.name e)) (λ a k. same a (inr (inr k))) first last h.2,
  )

  -- the forest from a place, and what is round it
  pub record Open (l : Links X) (steps : List (Step X)) (t : Forest X) : Type 0 where
    pub framed : Framed l steps (first_in t) (last_in t)
    pub stands : Stands (value_of l.nodes) (parent_in steps) (prev_in steps) t

  pub opened : (l : Links X) (steps : List (Step X)) (t : Forest X) → Open l [] (plugged steps t) → Open l steps t
  opened l [] t h = h
  opened l (under x rest ∷ steps) t h = let up = opened l steps (grove x t rest) h in record { framed = (up.stands.0, up.stands.2, up.framed); stands = up.stands.1 }
  opened l (after x below ∷ steps) t h = let up = opened l steps (grove x below t) h in record { framed = (up.stands.0, up.stands.1, up.framed); stands = up.stands.2 }

  pub shut : (l : Links X) (steps : List (Step X)) (t : Forest X) → Open l steps t → Open l [] (plugged steps t)
  shut l [] t h = h
  shut l (under x rest ∷ steps) t h = shut l steps (grove x t rest) (record { framed = h.framed.2; stands = (h.framed.0, h.stands, h.framed.1) })
  shut l (after x below ∷ steps) t h = shut l steps (grove x below t) (record { framed = h.framed.2; stands = (h.framed.0, h.framed.1, h.stands) })

  -- a link to what stands at the place
  pub framed-next : (l : Links X) (steps : List (Step X)) (o e to : Option Name) → OnceAround steps → Framed l steps o e → Framed (with_next l (parent_in steps) (prev_in steps) to) steps to e
  unfolding with_next
  framed-next l [] o e to once h = (refl, h.1)
  framed-next l (under x rest ∷ steps) o e to once h =
      let w = writes l.nodes x.name (first_put to) in let m = with_next l (Some x.name) None to in (
        w.here ∙ ap (option_map (first_put to)) h.0,
        Stands-same (value_of l.nodes) (value_of m.nodes) (parent_in steps) (Some x.name) rest (λ a k. w.there a (λ e. once.0 (subst (λ n. Has n rest) e k))) h.1,
        Framed-same l m steps (Some x.name) (Some (or_name x.name (last_in rest))) (λ a k. w.there a (λ e. once.1 (subst (λ n. IsAround n steps) e k))) refl refl h.2,
      )
  framed-next l (after x below ∷ steps) o e to once h =
      let w = writes l.nodes x.name (next_put to) in let m = with_next l (parent_in steps) (Some x.name) to in (
        w.here ∙ ap (option_map (next_put to)) h.0,
        Stands-same (value_of l.nodes) (value_of m.nodes) (Some x.name) None below (λ a k. w.there a (λ e. once.0 (subst (λ n. Has n below) e k))) h.1,
        Framed-same l m steps (Some x.name) (Some (or_name x.name e)) (λ a k. w.there a (λ e. once.1 (subst (λ n. IsAround n steps) e k))) refl refl h.2,
      )

  -- the name is written alone
  pub next-aside : (l : Links X) (steps : List (Step X)) (to : Option Name) (a : Name) → (IsAround a steps → ⊥) → value_of (with_next l (parent_in steps) (prev_in steps) to).nodes a ≡ value_of l.nodes a
  unfolding with_next
  next-aside l [] to a n = refl
  next-aside l (under x rest ∷ steps) to a n = (writes l.nodes x.name (first_put to)).there a (λ e. n (inl e))
  next-aside l (after x below ∷ steps) to a n = (writes l.nodes x.name (next_put to)).there a (λ e. n (inl e))

  -- the last of all siblings at the place, where the last from the place on is e
  abbrev pub last_at : List (Step X) → Option Name → Option Name
  last_at [] e = e
  last_at (under x rest ∷ steps) e = e
  last_at (after x below ∷ steps) e = last_at steps (Some (or_name x.name e))

  parent_around : (steps : List (Step X)) (p : Name) → parent_in steps ≡ Some p → IsAround p steps
  parent_around [] p e = cc
  parent_around (under x rest ∷ steps) p e = inl (some_name p x.name (sym e))
  parent_around (after x below ∷ steps) p e = inr (inr (parent_around steps p e))

  -- a link from the parent to the last of its children
  pub record Lasts (l m : Links X) (p to : Option Name) : Type 0 where
    pub here : (a : Name) → p ≡ Some a → value_of m.nodes a ≡ option_map (last_put to) (value_of l.nodes a)
    pub there : (a : Name) → (p ≡ Some a → ⊥) → value_of m.nodes a ≡ value_of l.nodes a
    pub first : m.first ≡ l.first
    pub last : p ≡ None → m.last ≡ to
    pub last_kept : (a : Name) → p ≡ Some a → m.last ≡ l.last

  lasts : (l : Links X) (p to : Option Name) → Lasts l (with_prev l p None to) p to
  unfolding with_prev
  lasts l None to = record { here = λ a e. cc; there = λ a n. refl; first = refl; last = λ e. refl; last_kept = λ a e. cc }
  lasts l (Some p) to = let w = writes l.nodes p (last_put to) in record {
    here = λ a e. subst (λ k. value_of (written_at l.nodes p (last_put to)) k ≡ option_map (last_put to) (value_of l.nodes k)) (some_name p a e) w.here;
    there = λ a n. w.there a (λ e. n (ap Some (sym e)));
    first = refl;
    last = λ e. cc;
    last_kept = λ a e. refl;
  }

  last-framed : (l m : Links X) (steps : List (Step X)) (o e to : Option Name) → OnceAround steps → Lasts l m (parent_in steps) (last_at steps to) → Framed l steps o e → Framed m steps o to
  last-framed l m [] o e to once w h = (w.first ∙ h.0, w.last refl)
  last-framed l m (under x rest ∷ steps) o e to once w h = (
    w.here x.name refl ∙ ap (option_map (last_put to)) h.0,
    Stands-same (value_of l.nodes) (value_of m.nodes) (parent_in steps) (Some x.name) rest (λ a k. w.there a (λ e. once.0 (subst (λ n. Has n rest) (sym (some_name x.name a e)) k))) h.1,
    Framed-same l m steps (Some x.name) (Some (or_name x.name (last_in rest))) (λ a k. w.there a (λ e. once.1 (subst (λ n. IsAround n steps) (sym (some_name x.name a e)) k))) w.first (w.last_kept x.name refl) h.2,
  )
  last-framed l m (after x below ∷ steps) o e to once w h = (
    w.there x.name (λ q. once.1 (parent_around steps x.name q)) ∙ h.0,
    Stands-same (value_of l.nodes) (value_of m.nodes) (Some x.name) None below (λ a k. w.there a (λ q. once.2 a k (parent_around steps a q))) h.1,
    last-framed l m steps (Some x.name) (Some (or_name x.name e)) (Some (or_name x.name to)) once.4 w h.2,
  )

  pub framed-last : (l : Links X) (steps : List (Step X)) (o e to : Option Name) → OnceAround steps → Framed l steps o e → Framed (with_prev l (parent_in steps) None (last_at steps to)) steps o to
  framed-last l steps o e to once h = last-framed l (with_prev l (parent_in steps) None (last_at steps to)) steps o e to once (lasts l (parent_in steps) (last_at steps to)) h

  pub last-aside : (l : Links X) (steps : List (Step X)) (to : Option Name) (a : Name) → (IsAround a steps → ⊥) → value_of (with_prev l (parent_in steps) None to).nodes a ≡ value_of l.nodes a
  last-aside l steps to a n = (lasts l (parent_in steps) to).there a (λ e. n (parent_around steps a e))

  pub last_some : (steps : List (Step X)) (a : Name) → last_at steps (Some a) ≡ Some a
  last_some [] a = refl
  last_some (under x rest ∷ steps) a = refl
  last_some (after x below ∷ steps) a = last_some steps a

  pub last_none : (steps : List (Step X)) → last_at steps None ≡ prev_in steps
  last_none [] = refl
  last_none (under x rest ∷ steps) = refl
  last_none (after x below ∷ steps) = last_some steps x.name

  closed-some : (l : Links X) (steps : List (Step X)) (x : Row Name X) (c : Forest X) (y : Row Name X) (below rest : Forest X) → Parted steps (grove x c (grove y below rest)) → Open l steps (grove x c (grove y below rest))
      → Open (closed l (parent_in steps) (prev_in steps) (Some y.name)) steps (grove y below rest)
  unfolding with_prev
  closed-some l steps x c y below rest part h =
      let t = grove y below rest in
      let m = with_next l (parent_in steps) (prev_in steps) (Some y.name) in
      let w = writes m.nodes y.name (prev_put (prev_in steps)) in
      let k = with_prev m (parent_in steps) (Some y.name) (prev_in steps) in
      let moved = Stands-same (value_of l.nodes) (value_of m.nodes) (parent_in steps) (Some x.name) t (λ a n. next-aside l steps (Some y.name) a (part.apart a (inr (inr n)))) h.stands.2 in
      record {
        framed = Framed-same m k steps (Some y.name) (last_in (grove x c t)) (λ a n. w.there a (λ e. part.apart y.name (inr (inr (inl refl))) (subst (λ z. IsAround z steps) e n))) refl refl
            (framed-next l steps (Some x.name) (last_in (grove x c t)) (Some y.name) part.around h.framed);
        stands = Stands-behind (value_of m.nodes) (value_of k.nodes) (parent_in steps) (Some x.name) (prev_in steps) y below rest part.once.4 w moved;
      }

  -- a node goes from the place, with what is below it
  pub closed-open : (l : Links X) (steps : List (Step X)) (x : Row Name X) (c t : Forest X) → Parted steps (grove x c t) → Open l steps (grove x c t) → Open (closed l (parent_in steps) (prev_in steps) (first_in t)) steps t
  closed-open l steps x c bare part h =
      let m = with_next l (parent_in steps) (prev_in steps) None in
      record {
        framed = subst (λ z. Framed (with_prev m (parent_in steps) None z) steps None None) (last_none steps)
            (framed-last m steps None (Some x.name) None part.around (framed-next l steps (Some x.name) (Some x.name) None part.around h.framed));
        stands = tt;
      }
  closed-open l steps x c (grove y below rest) part h = closed-some l steps x c y below rest part h

  -- and the nodes that are neither round the place nor left at it keep their links
  pub closed-aside : (l : Links X) (steps : List (Step X)) (t : Forest X) (a : Name) → (IsAround a steps → ⊥) → (Has a t → ⊥) → value_of (closed l (parent_in steps) (prev_in steps) (first_in t)).nodes a ≡ value_of l.nodes a
  unfolding with_prev
  closed-aside l steps bare a out not_in = last-aside (with_next l (parent_in steps) (prev_in steps) None) steps (prev_in steps) a out ∙ next-aside l steps None a out
  closed-aside l steps (grove y below rest) a out not_in =
      let m = with_next l (parent_in steps) (prev_in steps) (Some y.name) in
      (writes m.nodes y.name (prev_put (prev_in steps))).there a (λ e. not_in (inl e)) ∙ next-aside l steps (Some y.name) a out

  tied-some : (l : Links X) (steps : List (Step X)) (x : Row Name X) (c : Forest X) (y : Row Name X) (below rest : Forest X) → Parted steps (grove x c (grove y below rest)) → Open l steps (grove y below rest)
      → value_of l.nodes x.name ≡ Some (linked x.value (parent_in steps) (first_in c) (last_in c) (prev_in steps) (Some y.name)) → Stands (value_of l.nodes) (Some x.name) None c
      → Open (tied l (parent_in steps) (prev_in steps) (Some y.name) x.name) steps (grove x c (grove y below rest))
  unfolding with_prev
  tied-some l steps x c y below rest part h at low =
      let t = grove y below rest in
      let m = with_next l (parent_in steps) (prev_in steps) (Some x.name) in
      let w = writes m.nodes y.name (prev_put (Some x.name)) in
      let k = with_prev m (parent_in steps) (Some y.name) (Some x.name) in
      let moved = Stands-same (value_of l.nodes) (value_of m.nodes) (parent_in steps) (prev_in steps) t (λ a n. next-aside l steps (Some x.name) a (part.apart a (inr (inr n)))) h.stands in
      record {
        framed = Framed-same m k steps (Some x.name) (last_in t) (λ a n. w.there a (λ e. part.apart y.name (inr (inr (inl refl))) (subst (λ z. IsAround z steps) e n))) refl refl
            (framed-next l steps (Some y.name) (last_in t) (Some x.name) part.around h.framed);
        stands = (
          w.there x.name (λ e. part.once.1 (inl e)) ∙ next-aside l steps (Some x.name) x.name (part.apart x.name (inl refl)) ∙ at,
          Stands-same (value_of l.nodes) (value_of k.nodes) (Some x.name) None c
              (λ a n. w.there a (λ e. part.once.2 y.name (subst (λ z. Has z c) e n) (inl refl)) ∙ next-aside l steps (Some x.name) a (part.apart a (inr (inl n)))) low,
          Stands-behind (value_of m.nodes) (value_of k.nodes) (parent_in steps) (prev_in steps) (Some x.name) y below rest part.once.4 w moved,
        );
      }

  -- a node that has its own links, and what is below it, comes to the place
  pub tied-open : (l : Links X) (steps : List (Step X)) (x : Row Name X) (c t : Forest X) → Parted steps (grove x c t) → Open l steps t
      → value_of l.nodes x.name ≡ Some (linked x.value (parent_in steps) (first_in c) (last_in c) (prev_in steps) (first_in t)) → Stands (value_of l.nodes) (Some x.name) None c
      → Open (tied l (parent_in steps) (prev_in steps) (first_in t) x.name) steps (grove x c t)
  tied-open l steps x c bare part h at low =
      let m = with_next l (parent_in steps) (prev_in steps) (Some x.name) in
      let aside = λ (a : Name) (out : IsAround a steps → ⊥). last-aside m steps (last_at steps (Some x.name)) a out ∙ next-aside l steps (Some x.name) a out in
      subst (λ z. Open (with_prev m (parent_in steps) None z) steps (grove x c bare)) (last_some steps x.name) (record {
        framed = framed-last m steps (Some x.name) None (Some x.name) part.around (framed-next l steps None None (Some x.name) part.around h.framed);
        stands = (
          aside x.name (part.apart x.name (inl refl)) ∙ at,
          Stands-same (value_of l.nodes) (value_of (with_prev m (parent_in steps) None (last_at steps (Some x.name))).nodes) (Some x.name) None c (λ a n. aside a (part.apart a (inr (inl n)))) low,
          tt,
        );
      })
  tied-open l steps x c (grove y below rest) part h at low = tied-some l steps x c y below rest part h at low
