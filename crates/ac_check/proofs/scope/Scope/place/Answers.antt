use Rattle.std.proofs.Common.{rules, ◌≡◌, length, ap, subst, sym, ◌∙◌}
use Rattle.ac_rules.specs.Scopes.{Scope}
use Rattle.ac_rules.specs.Resolved.{place_of}
use Rattle.ac_check.specs.NameOrders.{IsPlace, bytes_of}
use Rattle.ac_check.proofs.Names.{place_among, no_place}
use Rattle.ac_check.proofs.scope.Scope.place.Goals as goal

pub returns-in-Ok : goal.returns-in-Ok
returns-in-Ok c =
    let name = c.args.name.now in
    let named = c.self.inside.names.items in
    let at = subst (λ l. IsPlace (bytes_of l) name c.in-Ok.place) c.deref.ensures.value c.in-Ok.ensures.found in
    sym at.is_first ∙ place_among name named ∙ ap (λ (scope : Scope). place_of scope name) c.self.view_is

pub returns-in-Err : goal.returns-in-Err
returns-in-Err c =
    let name = c.args.name.now in
    let named = c.self.inside.names.items in
    let len : c.len.result ≡ length named = search rules in
    len
    ∙ sym (no_place name named _ _ _ c.deref.ensures.value c.deref-2.ensures.value c.self.invariant c.in-Err.ensures.absent)
    ∙ place_among name named
    ∙ ap (λ (scope : Scope). place_of scope name) c.self.view_is
