-- The spots to which the links of a search lead.
use Rattle.std.proofs.Common.{◌≡◌, Bool, true, false, ℕ, Option, Some, None, refl, sym, ap, ◌∙◌, subst}
use Rattle.ac_base.specs.declared.name.Name.{Name}
use Rattle.ac_pool.specs.Contents.{Contents, value_of, IsSound}
use Rattle.ac_balance.specs.declared.links.Node.{Node}
use Rattle.ac_balance.specs.declared.search.Spot.{Spot}
use Rattle.ac_balance.specs.declared.search.Trail.{Trail}
use Rattle.ac_pool.specs.Link.{link_of, name_in, value_at, value_in}
use Rattle.ac_balance.specs.Seeking.{spot, start, lowered, Stood, Seeks}
use Rattle.ac_balance.specs.Trails.{spot_at, trail_from, trail_lowered}
use Rattle.ac_balance.specs.TreeFields.{left_link, right_link}
use Rattle.ac_balance.specs.Trees.{Tree}
use Rattle.ac_balance.proofs.Lowering.{Descends, lies}
use Rattle.ac_pool.proofs.SlotNames.{linked_name}
use Rattle.ac_balance.proofs.Standing.{linked_root}

module _ {X : Type 0} where
  start_of : (c : Contents (Node X)) → IsSound c → (o : Option Name) → name_in c (link_of o) ≡ o → spot_at c (trail_from o) ≡ start o
  start_of c sound o first =
      let none : name_in c (link_of None) ≡ None = linked_name c sound None (λ a e. cc) in
      λ i. spot (first i) (none i) false (none i) (none i)

  pub starts_from : (c : Contents (Node X)) (o : Option Name) (t : Tree X) → Stood c o t → spot_at c (trail_from o) ≡ start o
  starts_from c o t h = start_of c h.sound o (subst (λ z. name_in c (link_of z) ≡ z) (sym h.top) (linked_root c h.sound h.hangs.parent t h.hangs.stands))

  -- the node to which a link leads, with its name
  pub record Met (c : Contents (Node X)) (slot : ℕ) (n : Node X) : Type 0 where
    pub name : Name
    pub leads : name_in c slot ≡ Some name
    pub value : value_of c name ≡ Some n

  met_at : (c : Contents (Node X)) (slot : ℕ) (n : Node X) (o : Option Name) → name_in c slot ≡ o → value_at c o ≡ Some n → Met c slot n
  met_at c slot n None leads is = let bad : None ≡ Some n = is in cc
  met_at c slot n (Some a) leads is = record { name = a; leads = leads; value = is }

  pub met : (c : Contents (Node X)) (slot : ℕ) (n : Node X) → value_in c slot ≡ Some n → Met c slot n
  met c slot n is = met_at c slot n (name_in c slot) refl is

  -- the node of the name that was met is that node
  pub answers_at : (c : Contents (Node X)) (slot : ℕ) (n : Node X) (m : Met c slot n) (k : Node X) → value_of c m.name ≡ Some k → k ≡ n
  answers_at c slot n m k is = let both : Some k ≡ Some n = sym is ∙ m.value in cc

  -- a step leads to the sides of the node that was met
  lowers : (c : Contents (Node X)) (r : Trail) (n : Node X) (b : Bool) (m : Met c r.part n) → spot_at c (trail_lowered n r b) ≡ lowered c (spot_at c r) m.name b
  lowers c r n true m = let side = ap (λ o. name_in c (left_link o)) (sym m.value) in let here = m.leads in λ i. spot (side i) (here i) true (name_in c r.below) (here i)
  lowers c r n false m = let side = ap (λ o. name_in c (right_link o)) (sym m.value) in let here = m.leads in λ i. spot (side i) (here i) false (here i) (name_in c r.above)

  -- what a step leaves, told by links
  pub lowers_left : (c : Contents (Node X)) (r q : Trail) (n : Node X) (m : Met c r.part n) → q ≡ trail_lowered n r true → spot_at c q ≡ lowered c (spot_at c r) m.name true
  lowers_left c r q n m e = ap (spot_at c) e ∙ lowers c r n true m

  pub lowers_right : (c : Contents (Node X)) (r q : Trail) (n : Node X) (m : Met c r.part n) → q ≡ trail_lowered n r false → spot_at c q ≡ lowered c (spot_at c r) m.name false
  lowers_right c r q n m e = ap (spot_at c) e ∙ lowers c r n false m

  pub at_spot : (c : Contents (Node X)) (t : Tree X) (lo hi : X → Bool) (s q : Spot) → q ≡ s → Seeks c t lo hi s → Seeks c t lo hi q
  at_spot c t lo hi s q e h = subst (λ z. Seeks c t lo hi z) (sym e) h

  unmet_at : (c : Contents (Node X)) (t : Tree X) (lo hi : X → Bool) (r : Trail) (before now : ℕ) → Descends c t lo hi (spot_at c r) before now → (o : Option Name) → name_in c r.part ≡ o → value_at c o ≡ None → name_in c r.part ≡ None
  unmet_at c t lo hi r before now d None e is = e
  unmet_at c t lo hi r before now d (Some a) e is = let k = lies c t lo hi (spot_at c r) a before now e d in let bad = sym k.found ∙ is in cc

  -- a link on the way down that leads to no node leads to no name
  pub unmet : (c : Contents (Node X)) (t : Tree X) (lo hi : X → Bool) (r : Trail) (before now : ℕ) → Descends c t lo hi (spot_at c r) before now → value_in c r.part ≡ None → name_in c r.part ≡ None
  unmet c t lo hi r before now d is = unmet_at c t lo hi r before now d (name_in c r.part) refl is
