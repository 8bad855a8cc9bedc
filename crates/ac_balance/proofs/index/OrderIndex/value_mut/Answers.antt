use Rattle.std.proofs.Common.{◌≡◌, Some, None, sym, ap, ◌∙◌, subst, inr}
use Rattle.std.specs.Option.{option_map, option_copied_mut}
use Rattle.ac_pool.specs.Contents as pool
use Rattle.ac_balance.specs.declared.entry.Entry.{Entry}
use Rattle.ac_balance.specs.declared.links.Node.{Node}
use Rattle.ac_balance.specs.TreeFields.{links}
use Rattle.ac_balance.specs.Indexed.{entry, value_of, with_value}
use Rattle.ac_balance.specs.IndexFields.{rows_in}
use Rattle.ac_balance.proofs.Indexes.{view_of, values_are}
use Rattle.ac_balance.proofs.Writing.{revalued, written, lent_same}
use Rattle.ac_balance.proofs.index.OrderIndex.value_mut.Goals as goal

pub invariant_of-self-lent : goal.invariant_of-self-lent
invariant_of-self-lent g c = λ w.
    let l = c.self.inside.links in let a = c.args.name in
    (written g.K.Rank.is_less l c.self.invariant a c.in-Some.node.now w (sym c.get_mut.ensures.value ∙ ap option_copied_mut c.in-Some.is)).0

pub returns-in-Some : goal.returns-in-Some
returns-in-Some g c =
    let l = c.self.inside.links in let a = c.args.name in let i = c.self.invariant in let n = c.in-Some.node.now in
    let is : pool.value_of l.nodes a ≡ Some n = sym c.get_mut.ensures.value ∙ ap option_copied_mut c.in-Some.is in
    let view : (w : g.row.V.Denot) → view_of (links (pool.with_value l.nodes a (revalued g.K.Rank.is_less l i n (entry n.value.key w))) l.root) ≡ with_value c.args.self.now a w = λ w.
    subst (λ x. view_of (links (pool.with_value l.nodes a (revalued g.K.Rank.is_less l i n (entry n.value.key w))) l.root) ≡ with_value x a w) c.self.view_is (written g.K.Rank.is_less l i a n w is).1 in (
      lent_same _ _ _ view,
      record {
        writes_back = tt;
        value = subst (λ x. Some n.value.value ≡ value_of x a) c.self.view_is
            (ap (λ o. option_map (λ (e : Entry _ _). e.value) (option_map (λ (k : Node (Entry _ _)). k.value) o)) (sym is) ∙ ap (option_map (λ (e : Entry _ _). e.value)) (values_are l (rows_in l) i.closed i.all a));
      },
    )

pub returns-in-None : goal.returns-in-None
returns-in-None g c =
    let l = c.self.inside.links in let a = c.args.name in let i = c.self.invariant in
    let is : pool.value_of l.nodes a ≡ None = sym c.get_mut.ensures.value ∙ ap option_copied_mut c.in-None.is in (
      (λ j. inr (c.self.view_is j)),
      record {
        writes_back = tt;
        value = subst (λ x. None ≡ value_of x a) c.self.view_is
            (ap (λ o. option_map (λ (e : Entry _ _). e.value) (option_map (λ (k : Node (Entry _ _)). k.value) o)) (sym is) ∙ ap (option_map (λ (e : Entry _ _). e.value)) (values_are l (rows_in l) i.closed i.all a));
      },
    )
