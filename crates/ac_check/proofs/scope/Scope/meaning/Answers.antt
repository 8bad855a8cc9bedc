use Rattle.std.proofs.Common.{ap, subst, ◌∙◌, Some}
use Rattle.ac_rules.specs.Scopes.{Scope, meaning_in}
use Rattle.ac_check.specs.Meanings.{meaning_view}
use Rattle.ac_check.specs.NameOrders.{IsPlace, bytes_of}
use Rattle.ac_check.proofs.Names.{meaning_among, no_place, no_meaning}
use Rattle.ac_check.proofs.scope.Scope.meaning.Goals as goal

pub returns-in-Ok : goal.returns-in-Ok
returns-in-Ok c =
    let name = c.args.name.now in
    let named = c.self.inside.names.items in
    let at = subst (λ l. IsPlace (bytes_of l) name c.in-Ok.place) c.deref.ensures.value c.in-Ok.ensures.found in
    ap (λ n. Some (meaning_view n.1)) c.index.ensures
    ∙ meaning_among name named c.in-Ok.place c.index.result.now at
    ∙ ap (λ (scope : Scope). meaning_in scope name) c.self.view_is

pub returns-in-Err : goal.returns-in-Err
returns-in-Err c =
    let name = c.args.name.now in
    let named = c.self.inside.names.items in
    no_meaning name named (no_place name named _ _ _ c.deref.ensures.value c.deref-2.ensures.value c.self.invariant c.in-Err.ensures.absent)
    ∙ ap (λ (scope : Scope). meaning_in scope name) c.self.view_is
