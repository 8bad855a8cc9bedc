use Rattle.std.proofs.Common.{◌≡◌, Some, None, sym, ap, ◌∙◌, subst}
use Rattle.std.specs.Option.{option_map, option_copied}
use Rattle.ac_pool.specs.Contents as pool
use Rattle.ac_balance.specs.declared.entry.Entry.{Entry}
use Rattle.ac_balance.specs.declared.links.Node.{Node}
use Rattle.ac_balance.specs.IndexFields.{rows_in}
use Rattle.ac_balance.specs.Indexed.{key_of}
use Rattle.ac_balance.proofs.Indexes.{values_are}
use Rattle.ac_balance.proofs.index.OrderIndex.key.Goals as goal

pub returns-in-Some : goal.returns-in-Some
returns-in-Some g c =
    let l = c.self.inside.links in let a = c.args.name in let s = c.self.invariant in
    let is : pool.value_of l.nodes a ≡ Some c.in-Some.node.now = sym c.get.ensures ∙ ap option_copied c.in-Some.is in
    record {
      key = subst (λ x. Some c.in-Some.node.now.value.key ≡ key_of x a) c.self.view_is
          (ap (λ o. option_map (λ (e : Entry _ _). e.key) (option_map (λ (n : Node (Entry _ _)). n.value) o)) (sym is) ∙ ap (option_map (λ (e : Entry _ _). e.key)) (values_are l (rows_in l) s.closed s.all a));
    }

pub returns-in-None : goal.returns-in-None
returns-in-None g c =
    let l = c.self.inside.links in let a = c.args.name in let s = c.self.invariant in
    let is : pool.value_of l.nodes a ≡ None = sym c.get.ensures ∙ ap option_copied c.in-None.is in
    record {
      key = subst (λ x. None ≡ key_of x a) c.self.view_is
          (ap (λ o. option_map (λ (e : Entry _ _). e.key) (option_map (λ (n : Node (Entry _ _)). n.value) o)) (sym is) ∙ ap (option_map (λ (e : Entry _ _). e.key)) (values_are l (rows_in l) s.closed s.all a));
    }
