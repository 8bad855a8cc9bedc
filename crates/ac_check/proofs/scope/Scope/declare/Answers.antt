use Rattle.std.proofs.Common.{rules, ◌≡◌, true≢false, ap, subst, sym, ◌∙◌, [], ◌∷◌, ◌++◌, length}
use Rattle.std.specs.List.{insert}
use Rattle.ac_rules.specs.Scopes.{Scope}
use Rattle.ac_rules.specs.Faults.{is_in_scope}
use Rattle.ac_check.specs.NameOrders.{IsNameOrder, IsPlace, IsGap, bytes_of}
use Rattle.ac_check.proofs.Names.{known, declared_more}
use Rattle.ac_check.proofs.scope.Scope.declare.Goals as goal

pub unreachable-requires : goal.unreachable-requires
unreachable-requires c =
    let name = c.args.name.now in
    let at = subst (λ l. IsPlace (bytes_of l) name c.in_default.field-0) c.deref.ensures.value c.in_default.ensures.found in
    true≢false (sym (known name c.self.inside.names.items c.in_default.field-0 at) ∙ ap (λ (scope : Scope). is_in_scope scope name) c.self.view_is ∙ c.requires)

pub invariant_of-self-2 : goal.invariant_of-self-2
invariant_of-self-2 c =
    let named = c.self.inside.names.items in
    let sorted = c.self.inside.sorted.items in
    let at = c.in-Err.at in
    let same : c.args.name.now ≡ c.in_ok-name.name.items = search rules in
    let first = subst (λ l. IsGap (bytes_of l) c.deref-2.result.now c.args.name.now at) c.deref.ensures.value c.in-Err.ensures.absent in
    let second = subst (λ s. IsGap (bytes_of named) s c.args.name.now at) c.deref-2.ensures.value first in
    let gap = subst (λ n. IsGap (bytes_of named) sorted n at) same second in
    let names_are : c.push_reserved.new.self.items ≡ named ++ (c.in_ok-name.name, c.args.meaning) ∷ [] = c.push_reserved.ensures.items ∙ ap (λ l. l ++ (c.in_ok-name.name, c.args.meaning) ∷ []) c.in_ok-reserve.ensures.items in
    let len : c.len.result ≡ length named = search rules in
    let sorted_are : c.insert.new.self.items ≡ insert sorted at (length named) = c.in_ok-insert.ensures.items ∙ ap (insert sorted at) len in
    subst (λ l. IsNameOrder (bytes_of l) c.insert.new.self.items) (sym names_are)
    (subst (λ s. IsNameOrder (bytes_of (named ++ (c.in_ok-name.name, c.args.meaning) ∷ [])) s) (sym sorted_are) (declared_more named sorted (c.in_ok-name.name, c.args.meaning) at c.self.invariant gap))
