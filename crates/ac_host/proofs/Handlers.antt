-- The first handler that takes an exception.
use Rattle.std.proofs.Common.{◌≡◌, ◌+◌, ◌<◌, ◌≤◌, ℕ, true, false, List, length, drop, get_or, ap, ◌∙◌, Some, None, if◌then◌else◌}
use Rattle.std.proofs.lemmas.List.{at_drop_all}
use Rattle.ac_base.specs.declared.reason.Exception.{Exception}
use Rattle.ac_rules.specs.ResolvedStatements.{resolved_handlers_of}
use Rattle.ac_rules.specs.declared.resolved.ResolvedHandler.{ResolvedHandler}
use Rattle.ac_rules.proofs.Outcomes.{next_item}
use Rattle.ac_meaning.specs.Execution.{takes_any}
use Rattle.ac_host.specs.Handling.{handler_in}

module _ (handlers : List ResolvedHandler) (raised : Exception) where
  pub this_takes : (i : ℕ) (handler : ResolvedHandler) → i < length handlers → handler ≡ get_or handlers i handler → takes_any handler.catches raised ≡ true →
      handler_in (resolved_handlers_of (drop i handlers)) raised ≡ Some handler.body
  this_takes i handler within is takes =
      ap (λ (l : List ResolvedHandler). handler_in (resolved_handlers_of l) raised) (next_item handlers i handler within is)
      ∙ ap (λ b. if b then Some handler.body else handler_in (resolved_handlers_of (drop (i + 1) handlers)) raised) takes

  pub later_takes : (i : ℕ) (handler : ResolvedHandler) → i < length handlers → handler ≡ get_or handlers i handler → takes_any handler.catches raised ≡ false →
      handler_in (resolved_handlers_of (drop i handlers)) raised ≡ handler_in (resolved_handlers_of (drop (i + 1) handlers)) raised
  later_takes i handler within is takes =
      ap (λ (l : List ResolvedHandler). handler_in (resolved_handlers_of l) raised) (next_item handlers i handler within is)
      ∙ ap (λ b. if b then Some handler.body else handler_in (resolved_handlers_of (drop (i + 1) handlers)) raised) takes

  pub none_takes : (i : ℕ) → length handlers ≤ i → handler_in (resolved_handlers_of (drop i handlers)) raised ≡ None
  none_takes i end = at_drop_all (λ (l : List ResolvedHandler). handler_in (resolved_handlers_of l) raised) handlers i end
