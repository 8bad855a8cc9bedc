-- The items of a listing, one behind another.
use Rattle.std.proofs.Common.{◌≡◌, ◌++◌, ◌∷◌, [], List, flat_map, refl, ap}
use Rattle.ac_syntax.specs.Canonical.{literal_text}
use Rattle.ac_calls.specs.Listings.{after_commas, separated}
use Rattle.ac_aggregate.specs.declared.values.Given.{Given}
use Rattle.ac_aggregate.specs.Answers.{given_view, givens_view}
use Rattle.ac_top.specs.Asks.{next_text}

behind : (vs : List Given) → flat_map next_text vs ≡ after_commas literal_text (givens_view vs)
behind [] = refl
behind (v ∷ vs) = ap (λ rest. next_text v ++ rest) (behind vs)

pub separated_items : (v : Given) (vs : List Given) → literal_text (given_view v) ++ flat_map next_text vs ≡ separated literal_text (givens_view (v ∷ vs))
separated_items v vs = ap (λ rest. literal_text (given_view v) ++ rest) (behind vs)
