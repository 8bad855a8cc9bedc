use Rattle.std.proofs.Common.{◌++◌, ap, sym, append_assoc, ◌∙◌}
use Rattle.std.proofs.lemmas.Result.{on_ok_weaker}
use Rattle.std.specs.List.{flat_map}
use Rattle.ac_syntax.specs.Canonical.{literal_text}
use Rattle.ac_calls.specs.Listings.{separated}
use Rattle.ac_aggregate.specs.Answers.{givens_view}
use Rattle.ac_top.specs.Asks.{next_text}
use Rattle.ac_top.proofs.Items.{separated_items}
use Rattle.ac_top.proofs.asking.append_items.Goals as goal

pub returns-in_ok-append_given-in-Some : goal.returns-in_ok-append_given-in-Some
returns-in_ok-append_given-in-Some c =
    let text = c.args.text.now.items in
    on_ok_weaker c.append_rest.result
    (λ is. is
    ∙ (ap (λ t. t ++ flat_map next_text c.in-Some.rest.now) c.in_ok-append_given-in-Some.ensures
    ∙ (append_assoc text _ _
    ∙ (ap (λ t. text ++ t) (separated_items c.in-Some.first.now c.in-Some.rest.now)
    ∙ ap (λ vs. text ++ separated literal_text (givens_view vs)) (sym c.in-Some.ensures.cases.0)))))
    c.append_rest.ensures
