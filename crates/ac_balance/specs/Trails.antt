-- How far a search is, told by links.
use Rattle.std.specs.Prelude.{ℕ, Bool, true, false, Option, None}
use Rattle.ac_base.specs.declared.name.Name.{Name}
use Rattle.ac_pool.specs.Contents.{Contents}
use Rattle.ac_balance.specs.declared.links.Node.{Node}
use Rattle.ac_balance.specs.declared.search.Spot.{Spot}
use Rattle.ac_balance.specs.declared.search.Trail.{Trail}
use Rattle.ac_pool.specs.Link.{link_of, name_in}
use Rattle.ac_balance.specs.Seeking.{spot}

abbrev pub trail : ℕ → ℕ → Bool → ℕ → ℕ → Trail
trail part parent b below above = record { part = part; parent = parent; is_left = b; below = below; above = above }

abbrev pub trail_from : Option Name → Trail
trail_from o = trail (link_of o) (link_of None) false (link_of None) (link_of None)

module _ {X : Type 0} where
  -- the spot to which the links lead
  abbrev pub spot_at : Contents (Node X) → Trail → Spot
  spot_at c r = spot (name_in c r.part) (name_in c r.parent) r.is_left (name_in c r.below) (name_in c r.above)

  -- one step down, from the node to which the links lead
  abbrev pub trail_lowered : Node X → Trail → Bool → Trail
  trail_lowered n r true = trail n.left r.part true r.below r.part
  trail_lowered n r false = trail n.right r.part false r.part r.above
