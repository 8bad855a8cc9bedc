use Rattle.std.proofs.Common.{◌≡◌, Some, None, is_some, sym, ap, ◌∙◌, subst}
use Rattle.ac_pool.specs.Contents as pool
use Rattle.ac_balance.specs.TreeFields.{links}
use Rattle.ac_balance.specs.Indexed.{row_of, taken, IsSound}
use Rattle.ac_balance.specs.IndexFields.{rows_in}
use Rattle.ac_balance.proofs.Indexes.{view_of, sound_of}
use Rattle.ac_balance.proofs.Taking.{read_some, read_none, there, detached_live, taken_row, taken_index, none_taken}
use Rattle.ac_balance.proofs.index.OrderIndex.take.Goals as goal

pub returns-then-is_none-clause-row : goal.returns-then-is_none-clause-row
returns-then-is_none-clause-row g c =
    let l = c.self.inside.links in let i = c.self.invariant in let a = c.args.name in
    let none = none_taken g.K.Rank.is_less l i a l (read_none c.get.result (pool.value_of l.nodes a) c.is_none.result c.get.ensures c.is_none.ensures c.if-is_none.true) in
    subst (λ x. None ≡ row_of x a) c.self.view_is (sym none.0)

pub returns-then-is_none-clause-taken : goal.returns-then-is_none-clause-taken
returns-then-is_none-clause-taken g c =
    let l = c.self.inside.links in let i = c.self.invariant in let a = c.args.name in
    let none = none_taken g.K.Rank.is_less l i a l (read_none c.get.result (pool.value_of l.nodes a) c.is_none.result c.get.ensures c.is_none.ensures c.if-is_none.true) in
    subst (λ x. x ≡ taken x a) c.self.view_is none.1

pub returns-then-is_none-clause-sound : goal.returns-then-is_none-clause-sound
returns-then-is_none-clause-sound g c = subst (λ x. IsSound g.K.Rank.is_less x) c.self.view_is (sound_of g.K.Rank.is_less c.self.inside.links c.self.invariant)

pub detach-requires : goal.detach-requires
detach-requires g c =
    let l = c.self.inside.links in let i = c.self.invariant in let a = c.args.name in let less = g.K.Rank.is_less in
    let live = read_some c.get.result (pool.value_of l.nodes a) c.is_none.result c.get.ensures c.is_none.ensures c.if-is_none.false in
    record { rows = rows_in l; closed = i.closed; has = i.all a live }

pub unwrap-node-requires : goal.unwrap-node-requires
unwrap-node-requires g c =
    let l = c.self.inside.links in let i = c.self.invariant in let a = c.args.name in let less = g.K.Rank.is_less in
    let live = read_some c.get.result (pool.value_of l.nodes a) c.is_none.result c.get.ensures c.is_none.ensures c.if-is_none.false in
    let h = there less l i a c.detach.new.links live in let e = c.detach.ensures (rows_in l) i.closed h in let m = c.detach.new.links in
    ap is_some c.take.ensures.value ∙ detached_live less l i a m h e

pub invariant_of-self : goal.invariant_of-self
invariant_of-self g c =
    let l = c.self.inside.links in let i = c.self.invariant in let a = c.args.name in let less = g.K.Rank.is_less in
    let live = read_some c.get.result (pool.value_of l.nodes a) c.is_none.result c.get.ensures c.is_none.ensures c.if-is_none.false in
    let h = there less l i a c.detach.new.links live in let e = c.detach.ensures (rows_in l) i.closed h in let m = c.detach.new.links in
    (taken_index less l i a m h e c.take.new.self c.take.ensures.taken c.take.ensures.sound).0

pub returns-clause-row : goal.returns-clause-row
returns-clause-row g c =
    let l = c.self.inside.links in let i = c.self.invariant in let a = c.args.name in let less = g.K.Rank.is_less in
    let live = read_some c.get.result (pool.value_of l.nodes a) c.is_none.result c.get.ensures c.is_none.ensures c.if-is_none.false in
    let h = there less l i a c.detach.new.links live in let e = c.detach.ensures (rows_in l) i.closed h in let m = c.detach.new.links in
    subst (λ x. Some (c.unwrap-node.result.value.key, c.unwrap-node.result.value.value) ≡ row_of x a) c.self.view_is
    (sym (taken_row less l i a m h e c.unwrap-node.result (sym c.take.ensures.value ∙ c.unwrap-node.ensures)))

pub returns-clause-taken : goal.returns-clause-taken
returns-clause-taken g c =
    let l = c.self.inside.links in let i = c.self.invariant in let a = c.args.name in let less = g.K.Rank.is_less in
    let live = read_some c.get.result (pool.value_of l.nodes a) c.is_none.result c.get.ensures c.is_none.ensures c.if-is_none.false in
    let h = there less l i a c.detach.new.links live in let e = c.detach.ensures (rows_in l) i.closed h in let m = c.detach.new.links in
    subst (λ x. view_of (links c.take.new.self m.root) ≡ taken x a) c.self.view_is (taken_index less l i a m h e c.take.new.self c.take.ensures.taken c.take.ensures.sound).1

pub returns-clause-sound : goal.returns-clause-sound
returns-clause-sound g c =
    let l = c.self.inside.links in let i = c.self.invariant in let a = c.args.name in let less = g.K.Rank.is_less in
    let live = read_some c.get.result (pool.value_of l.nodes a) c.is_none.result c.get.ensures c.is_none.ensures c.if-is_none.false in
    let h = there less l i a c.detach.new.links live in let e = c.detach.ensures (rows_in l) i.closed h in let m = c.detach.new.links in
    sound_of less (links c.take.new.self m.root) (taken_index less l i a m h e c.take.new.self c.take.ensures.taken c.take.ensures.sound).0
