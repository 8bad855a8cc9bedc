-- One step down in a search.
use Rattle.std.proofs.Common.{◌≡◌, ℕ, ◌+◌, ◌*◌, ◌≤◌, ◌<◌, Bool, true, false, List, [], ◌∷◌, Option, Some, None, is_some, refl, sym, ap, ◌∙◌, subst, arith}
use Rattle.ac_base.specs.declared.name.Name.{Name}
use Rattle.ac_pool.specs.Contents.{Contents, value_of, IsLive, IsSound}
use Rattle.ac_balance.specs.declared.links.Node.{Node}
use Rattle.ac_balance.specs.declared.search.Spot.{Spot}
use Rattle.ac_base.specs.Rows.{Row}
use Rattle.ac_balance.specs.Trees.{Tree, leaf, node, height, Step, on_left, on_right}
use Rattle.ac_balance.specs.TreeFields.{left_of, right_of, high}
use Rattle.ac_balance.specs.Seeking.{start, Stood, lowered, Seeking, Seeks}
use Rattle.ac_balance.proofs.Standing.{high-is, left-is, right-is}

module _ {X : Type 0} where
  -- on the way down: what was found so far, with the number of steps that were and may yet be taken
  pub record Descends (c : Contents (Node X)) (t : Tree X) (lo hi : X → Bool) (s : Spot) (before now : ℕ) : Type 0 where
    pub steps : List (Step X)
    pub rest : Tree X
    pub seeking : Seeking c t lo hi s steps rest
    pub few : now + 2 * height rest ≤ before + 2 * height t
    pub counted : before ≤ now

  pub starts : (c : Contents (Node X)) (o : Option Name) (t : Tree X) (lo hi : X → Bool) (n : ℕ) → Stood c o t → Descends c t lo hi (start o) n n
  starts c o t lo hi n h = record {
    steps = [];
    rest = t;
    seeking = record { whole = refl; hangs = h.hangs; part = h.top; parent = refl; side = tt; below = refl; above = refl; led = tt };
    few = omega arith;
    counted = omega arith;
  }

  -- the part is a node under the name
  pub record Lies (c : Contents (Node X)) (t : Tree X) (lo hi : X → Bool) (s : Spot) (a : Name) (before now : ℕ) : Type 0 where
    pub steps : List (Step X)
    pub l : Tree X
    pub x : Row Name X
    pub r : Tree X
    pub seeking : Seeking c t lo hi s steps (node l x r)
    pub few : now + 2 * height (node l x r) ≤ before + 2 * height t
    pub counted : before ≤ now
    pub name : x.name ≡ a
    pub node : Node X
    pub found : value_of c a ≡ Some node
    pub value : node.value ≡ x.value

  lies_in : (c : Contents (Node X)) (t : Tree X) (lo hi : X → Bool) (s : Spot) (a : Name) (before now : ℕ) (steps : List (Step X)) (u : Tree X) → s.part ≡ Some a → Seeking c t lo hi s steps u → now + 2 * height u ≤ before + 2 * height t → before ≤ now → Lies c t lo hi s a before now
  lies_in c t lo hi s a before now steps leaf e k few counted = let bad = sym e ∙ k.part in cc
  lies_in c t lo hi s a before now steps (node l x r) e k few counted =
      let both : Some x.name ≡ Some a = sym k.part ∙ e in let same : x.name ≡ a = cc in
      record { steps = steps; l = l; x = x; r = r; seeking = k; few = few; counted = counted; name = same; node = _; found = ap (value_of c) (sym same) ∙ k.hangs.stands.0; value = refl }

  pub lies : (c : Contents (Node X)) (t : Tree X) (lo hi : X → Bool) (s : Spot) (a : Name) (before now : ℕ) → s.part ≡ Some a → Descends c t lo hi s before now → Lies c t lo hi s a before now
  lies c t lo hi s a before now e d = lies_in c t lo hi s a before now d.steps d.rest e d.seeking d.few d.counted

  pub goes_left : (c : Contents (Node X)) (sound : IsSound c) (t : Tree X) (lo hi : X → Bool) (s q : Spot) (a : Name) (before now after : ℕ) (k : Lies c t lo hi s a before now) → hi k.node.value ≡ true → now ≤ after → after ≤ now + 2 → q ≡ lowered c s a true → Descends c t lo hi q before after
  goes_left c sound t lo hi s q a before now after k h more le e = let n = k.x.name in let f = k.few in
      subst (λ z. Descends c t lo hi z before after) (sym e)
      (subst (λ b. Descends c t lo hi (lowered c s b true) before after) k.name
      (record {
        steps = on_left k.x k.r ∷ k.steps;
        rest = k.l;
        seeking = record {
          whole = k.seeking.whole;
          hangs = record { parent = Some n; stands = k.seeking.hangs.stands.1 };
          part = left-is c sound k.l k.x k.r k.seeking.hangs;
          parent = refl;
          side = refl;
          below = k.seeking.below;
          above = refl;
          led = (ap hi (sym k.value) ∙ h, k.seeking.led);
        };
        few = omega arith;
        counted = let were = k.counted in omega (arith, were, more);
      }))

  pub goes_right : (c : Contents (Node X)) (sound : IsSound c) (t : Tree X) (lo hi : X → Bool) (s q : Spot) (a : Name) (before now after : ℕ) (k : Lies c t lo hi s a before now) → lo k.node.value ≡ true → now ≤ after → after ≤ now + 2 → q ≡ lowered c s a false → Descends c t lo hi q before after
  goes_right c sound t lo hi s q a before now after k h more le e = let n = k.x.name in let f = k.few in
      subst (λ z. Descends c t lo hi z before after) (sym e)
      (subst (λ b. Descends c t lo hi (lowered c s b false) before after) k.name
      (record {
        steps = on_right k.l k.x ∷ k.steps;
        rest = k.r;
        seeking = record {
          whole = k.seeking.whole;
          hangs = record { parent = Some n; stands = k.seeking.hangs.stands.2 };
          part = right-is c sound k.l k.x k.r k.seeking.hangs;
          parent = refl;
          side = refl;
          below = refl;
          above = k.seeking.above;
          led = (ap lo (sym k.value) ∙ h, k.seeking.led);
        };
        few = omega arith;
        counted = let were = k.counted in omega (arith, were, more);
      }))

  pub meets : (c : Contents (Node X)) (t : Tree X) (lo hi : X → Bool) (s : Spot) (a : Name) (before now : ℕ) (k : Lies c t lo hi s a before now) → lo k.node.value ≡ false → hi k.node.value ≡ false → Seeks c t lo hi s
  meets c t lo hi s a before now k p q = record { steps = k.steps; rest = node k.l k.x k.r; seeking = k.seeking; met = (ap lo (sym k.value) ∙ p, ap hi (sym k.value) ∙ q) }

  misses_in : (c : Contents (Node X)) (t : Tree X) (lo hi : X → Bool) (s : Spot) (steps : List (Step X)) (u : Tree X) → s.part ≡ None → Seeking c t lo hi s steps u → Seeks c t lo hi s
  misses_in c t lo hi s steps leaf e k = record { steps = steps; rest = leaf; seeking = k; met = tt }
  misses_in c t lo hi s steps (node l x r) e k = let bad = sym e ∙ k.part in cc

  pub misses : (c : Contents (Node X)) (t : Tree X) (lo hi : X → Bool) (s : Spot) (before now : ℕ) → s.part ≡ None → Descends c t lo hi s before now → Seeks c t lo hi s
  misses c t lo hi s before now e d = misses_in c t lo hi s d.steps d.rest e d.seeking

  pub shrinks_left : (c : Contents (Node X)) (sound : IsSound c) (t : Tree X) (lo hi : X → Bool) (s q : Spot) (a : Name) (before now : ℕ) → Lies c t lo hi s a before now → q ≡ lowered c s a true → high c q.part < high c s.part
  shrinks_left c sound t lo hi s q a before now k e =
      let n = k.x.name in let l = high-is c k.l (record { parent = Some n; stands = k.seeking.hangs.stands.1 }) in
      let part : high c q.part ≡ height k.l = ap (λ (z : Spot). high c z.part) e ∙ ap (λ b. high c (left_of c b)) (sym k.name) ∙ ap (high c) (left-is c sound k.l k.x k.r k.seeking.hangs) ∙ l in
      let whole = ap (high c) k.seeking.part ∙ high-is c (node k.l k.x k.r) k.seeking.hangs in
      omega (arith, part, whole)

  pub shrinks_right : (c : Contents (Node X)) (sound : IsSound c) (t : Tree X) (lo hi : X → Bool) (s q : Spot) (a : Name) (before now : ℕ) → Lies c t lo hi s a before now → q ≡ lowered c s a false → high c q.part < high c s.part
  shrinks_right c sound t lo hi s q a before now k e =
      let n = k.x.name in let r = high-is c k.r (record { parent = Some n; stands = k.seeking.hangs.stands.2 }) in
      let part : high c q.part ≡ height k.r = ap (λ (z : Spot). high c z.part) e ∙ ap (λ b. high c (right_of c b)) (sym k.name) ∙ ap (high c) (right-is c sound k.l k.x k.r k.seeking.hangs) ∙ r in
      let whole = ap (high c) k.seeking.part ∙ high-is c (node k.l k.x k.r) k.seeking.hangs in
      omega (arith, part, whole)

  pub live : (c : Contents (Node X)) (t : Tree X) (lo hi : X → Bool) (s : Spot) (a : Name) (before now : ℕ) → Lies c t lo hi s a before now → IsLive c a
  live c t lo hi s a before now k = ap is_some k.found

  pub few_left : (c : Contents (Node X)) (t : Tree X) (lo hi : X → Bool) (s : Spot) (a : Name) (before now after : ℕ) → Lies c t lo hi s a before now → after ≤ now + 2 → after ≤ before + 2 * height t
  few_left c t lo hi s a before now after k le = let f = k.few in omega arith

  pub starts_at : (c : Contents (Node X)) (o : Option Name) (t : Tree X) (lo hi : X → Bool) (s : Spot) (n : ℕ) → s ≡ start o → Stood c o t → Descends c t lo hi s n n
  starts_at c o t lo hi s n e h = subst (λ z. Descends c t lo hi z n n) (sym e) (starts c o t lo hi n h)
