-- Trees of rows, whose two sides differ in height by at most one, and the turns that keep them so.
use Rattle.std.specs.Prelude.{ℕ, ◌+◌, ◌-◌, ◌≤◌, max, List, [], ◌∷◌, ◌++◌, nat_le, nat_lt, if◌then◌else◌}
use Rattle.ac_base.specs.declared.name.Name.{Name}
use Rattle.ac_base.specs.Rows.{Row}

pub data Tree (X : Type 0) : Type 0 where
  leaf : Tree X
  node : Tree X → Row Name X → Tree X → Tree X

-- two heights differ by at most one
pub record Level (h k : ℕ) : Type 0 where
  pub up : h ≤ k + 1
  pub down : k ≤ h + 1

-- one step up from a place: the place is the left side of the row, or its right side
pub data Step (X : Type 0) : Type 0 where
  on_left : Row Name X → Tree X → Step X
  on_right : Tree X → Row Name X → Step X

module _ {X : Type 0} where
  abbrev pub in_order : Tree X → List (Row Name X)
  in_order leaf = []
  in_order (node l x r) = in_order l ++ x ∷ in_order r

  abbrev pub height : Tree X → ℕ
  height leaf = 0
  height (node l x r) = max (height l) (height r) + 1

  abbrev pub Balanced : Tree X → Type 0
  Balanced leaf = Unit {0}
  Balanced (node l x r) = Level (height l) (height r) × Balanced l × Balanced r

  abbrev pub twice_left : Tree X → Row Name X → Tree X → Row Name X → Tree X → Tree X
  twice_left a y leaf x r = node (node a y leaf) x r
  twice_left a y (node b z c) x r = node (node a y b) z (node c x r)

  -- the left side is too high
  abbrev pub from_left : Tree X → Row Name X → Tree X → Tree X
  from_left leaf x r = node leaf x r
  from_left (node a y b) x r = if nat_le (height b) (height a) then node a y (node b x r) else twice_left a y b x r

  abbrev pub twice_right : Tree X → Row Name X → Tree X → Row Name X → Tree X → Tree X
  twice_right l x leaf y c = node l x (node leaf y c)
  twice_right l x (node a z b) y c = node (node l x a) z (node b y c)

  abbrev pub from_right : Tree X → Row Name X → Tree X → Tree X
  from_right l x leaf = node l x leaf
  from_right l x (node a y b) = if nat_le (height a) (height b) then node (node l x a) y b else twice_right l x a y b

  -- the row between two sides whose heights differ by at most two
  abbrev pub balanced : Tree X → Row Name X → Tree X → Tree X
  balanced l x r =
      if nat_lt 1 (height l - height r) then from_left l x r
      else if nat_lt 1 (height r - height l) then from_right l x r
      else node l x r

  abbrev pub side_of : Step X → Tree X
  side_of (on_left x r) = r
  side_of (on_right l x) = l

  abbrev pub joined : Step X → Tree X → Tree X
  joined (on_left x r) t = node t x r
  joined (on_right l x) t = node l x t

  abbrev pub settled : Step X → Tree X → Tree X
  settled (on_left x r) t = balanced t x r
  settled (on_right l x) t = balanced l x t

  -- the tree whose place is taken by t, from the place up
  abbrev pub plugged : List (Step X) → Tree X → Tree X
  plugged [] t = t
  plugged (s ∷ steps) t = plugged steps (joined s t)

  abbrev pub before : List (Step X) → List (Row Name X)
  before [] = []
  before (on_left x r ∷ steps) = before steps
  before (on_right l x ∷ steps) = before steps ++ (in_order l ++ x ∷ [])

  abbrev pub after : List (Step X) → List (Row Name X)
  after [] = []
  after (on_left x r ∷ steps) = (x ∷ in_order r) ++ after steps
  after (on_right l x ∷ steps) = after steps

  -- around a place of that height the tree is balanced
  abbrev pub Fits : List (Step X) → ℕ → Type 0
  Fits [] h = Unit {0}
  Fits (s ∷ steps) h = Level h (height (side_of s)) × Balanced (side_of s) × Fits steps (max h (height (side_of s)) + 1)

  -- the whole height over a place of that height
  abbrev pub tall : List (Step X) → ℕ → ℕ
  tall [] h = h
  tall (s ∷ steps) h = tall steps (max h (height (side_of s)) + 1)
