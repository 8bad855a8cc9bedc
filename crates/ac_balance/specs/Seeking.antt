-- What a search from the root down has come to.
use Rattle.std.specs.Prelude.{◌≡◌, Bool, true, false, List, [], ◌∷◌, Option, Some, None}
use Rattle.ac_base.specs.declared.name.Name.{Name}
use Rattle.ac_pool.specs.Contents.{Contents, value_of, IsSound}
use Rattle.ac_balance.specs.declared.links.Node.{Node}
use Rattle.ac_balance.specs.declared.entry.Entry.{Entry}
use Rattle.ac_balance.specs.declared.search.Spot.{Spot}
use Rattle.ac_balance.specs.Trees.{Tree, leaf, node, Step, on_left, on_right, plugged}
use Rattle.ac_balance.specs.TreeFields.{root, left_of, right_of}
use Rattle.ac_balance.specs.Climbing.{Hangs, above_in, IsSide}

abbrev pub spot : Option Name → Option Name → Bool → Option Name → Option Name → Spot
spot part parent b below above = record { part = part; parent = parent; is_left = b; below = below; above = above }

abbrev pub start : Option Name → Spot
start o = spot o None false None None

abbrev pub entry : {K V : Type 0} → K → V → Entry K V
entry k v = record { key = k; value = v }

module _ {X : Type 0} where
  pub record Stood (c : Contents (Node X)) (o : Option Name) (t : Tree X) : Type 0 where
    pub top : o ≡ root t
    pub hangs : Hangs (value_of c) t
    pub sound : IsSound c

  pub record IsTree (c : Contents (Node X)) (o : Option Name) : Type 0 where
    pub tree : Tree X
    pub stood : Stood c o tree

  abbrev pub lowered : Contents (Node X) → Spot → Name → Bool → Spot
  lowered c s a true = spot (left_of c a) (Some a) true s.below (Some a)
  lowered c s a false = spot (right_of c a) (Some a) false (Some a) s.above

  -- the nearest rows before and after the place
  abbrev pub below_in : List (Step X) → Option Name
  below_in [] = None
  below_in (on_left x r ∷ steps) = below_in steps
  below_in (on_right l x ∷ steps) = Some x.name

  abbrev pub after_in : List (Step X) → Option Name
  after_in [] = None
  after_in (on_left x r ∷ steps) = Some x.name
  after_in (on_right l x ∷ steps) = after_in steps

  -- each row above the place is on the side that its key says
  abbrev pub IsLed : (X → Bool) → (X → Bool) → List (Step X) → Type 0
  IsLed low high [] = Unit {0}
  IsLed low high (on_left x r ∷ steps) = (high x.value ≡ true) × IsLed low high steps
  IsLed low high (on_right l x ∷ steps) = (low x.value ≡ true) × IsLed low high steps

  abbrev pub IsMet : (X → Bool) → (X → Bool) → Tree X → Type 0
  IsMet low high leaf = Unit {0}
  IsMet low high (node l x r) = (low x.value ≡ false) × (high x.value ≡ false)

  pub record Seeking (c : Contents (Node X)) (t : Tree X) (low high : X → Bool) (s : Spot) (steps : List (Step X)) (u : Tree X) : Type 0 where
    pub whole : plugged steps u ≡ t
    pub hangs : Hangs (value_of c) u
    pub part : s.part ≡ root u
    pub parent : s.parent ≡ above_in steps
    pub side : IsSide s.is_left steps
    pub below : s.below ≡ below_in steps
    pub above : s.above ≡ after_in steps
    pub led : IsLed low high steps

  pub record Seeks (c : Contents (Node X)) (t : Tree X) (low high : X → Bool) (s : Spot) : Type 0 where
    pub steps : List (Step X)
    pub rest : Tree X
    pub seeking : Seeking c t low high s steps rest
    pub met : IsMet low high rest

  -- the search in a standing tree has come to a place
  abbrev pub Leads : Contents (Node X) → Option Name → (X → Bool) → (X → Bool) → Spot → Type 0
  Leads c o low high s = (t : Tree X) → Stood c o t → Seeks c t low high s
