use Rattle.std.proofs.Common.{rules, ◌≡◌, ap, subst, sym, ◌∙◌, take, filter, nat_lt}
use Rattle.std.proofs.lemmas.Fn.{filter_same}
use Rattle.std.specs.List.{take-map}
use Rattle.ac_rules.specs.Scopes.{Scope}
use Rattle.ac_check.specs.Meanings.{entries_view}
use Rattle.ac_check.specs.NameOrders.{IsNameOrder, bytes_of}
use Rattle.ac_check.proofs.Names.{kept_alone}
use Rattle.ac_check.proofs.scope.Scope.leave.Goals as goal

pub invariant_of-self : goal.invariant_of-self
invariant_of-self c =
    let len = c.args.len in
    let named = c.self.inside.names.items in
    let kept : c.retain.new.self.items ≡ filter (λ p. nat_lt p len) c.self.inside.sorted.items = filter_same _ _ _ (λ x b f' k. search rules) _ _ c.retain.ensures.filtered in
    subst (λ l. IsNameOrder (bytes_of l) c.retain.new.self.items) (sym c.truncate.ensures.items)
    (subst (λ s. IsNameOrder (bytes_of (take len named)) s) (sym kept) (kept_alone named c.self.inside.sorted.items len c.self.invariant))

pub returns : goal.returns
returns c =
    ap entries_view c.truncate.ensures.items
    ∙ sym (take-map _ c.args.len c.self.inside.names.items)
    ∙ ap (λ (scope : Scope). take c.args.len scope) c.self.view_is
