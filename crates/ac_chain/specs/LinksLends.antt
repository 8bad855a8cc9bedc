-- What linked nodes end as, once a `&mut` to a value of one has ended.
use Rattle.std.specs.Borrow.{Fml, RattleType, MutBor, Lends}
use Rattle.ac_base.specs.declared.name.Name.{Name}
use Rattle.ac_chain.specs.declared.links.Links.{Links}
use Rattle.ac_chain.specs.contracts.links.Links.{the_row}
use Rattle.ac_chain.specs.ChainFields.{with_node_value}

-- the value in the name's node is the last one written through r
abbrev pub lends_node_value : (R : RattleType) → MutBor (Links R.Denot) → Name → MutBor R.Denot → Fml
lends_node_value R l a r = Lends (the_row R) R l r (λ w. with_node_value l.now a w)
