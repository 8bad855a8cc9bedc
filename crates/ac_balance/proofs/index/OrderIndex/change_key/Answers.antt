use Rattle.std.proofs.Common.{rules, ◌≡◌, Some, sym, ap, ◌∙◌, subst}
use Rattle.std.specs.Option.{option_copied_mut}
use Rattle.ac_base.specs.Order.{IsTied}
use Rattle.ac_pool.specs.Contents as pool
use Rattle.ac_balance.specs.TreeFields.{links}
use Rattle.ac_balance.specs.Indexed.{entry, IsThere, key_of, with_changed}
use Rattle.ac_balance.proofs.Indexes.{view_of, live_in, sound_of}
use Rattle.ac_balance.proofs.Writing.{Changed, changed, revalued}
use Rattle.ac_balance.proofs.index.OrderIndex.change_key.Goals as goal

pub unwrap-requires : goal.unwrap-requires
unwrap-requires g c =
    let l = c.self.inside.links in let live = live_in g.K.Rank.is_less l c.self.invariant c.args.name (subst (λ x. IsThere x c.args.name) (sym c.self.view_is) c.requires.there) in
    let value = c.get_mut.ensures.value in search rules

pub invariant_of-self : goal.invariant_of-self
invariant_of-self g c =
    let l = c.self.inside.links in let a = c.args.name in let less = g.K.Rank.is_less in let i = c.self.invariant in let n = c.unwrap.result.now in let f = g.C.Change.changed c.args.change in
    let is : pool.value_of l.nodes a ≡ Some n = sym c.get_mut.ensures.value ∙ ap option_copied_mut c.unwrap.ensures in
    let level = subst (λ x. (k : g.row.K.Denot) → key_of x a ≡ Some k → IsTied less k (f k)) (sym c.self.view_is) c.requires.level in
    (subst (λ k. Changed less l i a f (pool.with_value l.nodes a (revalued less l i n (entry k n.value.value)))) (sym c.make.ensures) (changed less l i g.met.K.Rank.ordered a n f is level)).0

pub returns-clause-key : goal.returns-clause-key
returns-clause-key g c =
    let l = c.self.inside.links in let a = c.args.name in let less = g.K.Rank.is_less in let i = c.self.invariant in let n = c.unwrap.result.now in let f = g.C.Change.changed c.args.change in
    let is : pool.value_of l.nodes a ≡ Some n = sym c.get_mut.ensures.value ∙ ap option_copied_mut c.unwrap.ensures in
    let level = subst (λ x. (k : g.row.K.Denot) → key_of x a ≡ Some k → IsTied less k (f k)) (sym c.self.view_is) c.requires.level in
    let done = subst (λ k. Changed less l i a f (pool.with_value l.nodes a (revalued less l i n (entry k n.value.value)))) (sym c.make.ensures) (changed less l i g.met.K.Rank.ordered a n f is level) in
    subst (λ x. view_of (links (pool.with_value l.nodes a (revalued less l i n (entry c.make.new.key n.value.value))) l.root) ≡ with_changed x a f) c.self.view_is done.1

pub returns-clause-sound : goal.returns-clause-sound
returns-clause-sound g c =
    let l = c.self.inside.links in let a = c.args.name in let less = g.K.Rank.is_less in let i = c.self.invariant in let n = c.unwrap.result.now in let f = g.C.Change.changed c.args.change in
    let is : pool.value_of l.nodes a ≡ Some n = sym c.get_mut.ensures.value ∙ ap option_copied_mut c.unwrap.ensures in
    let level = subst (λ x. (k : g.row.K.Denot) → key_of x a ≡ Some k → IsTied less k (f k)) (sym c.self.view_is) c.requires.level in
    let d = pool.with_value l.nodes a (revalued less l i n (entry c.make.new.key n.value.value)) in
    let done : Changed less l i a f d = subst (λ k. Changed less l i a f (pool.with_value l.nodes a (revalued less l i n (entry k n.value.value)))) (sym c.make.ensures) (changed less l i g.met.K.Rank.ordered a n f is level) in
    sound_of less (links d l.root) done.0
