use Rattle.std.proofs.Common.{◌≡◌, rules, is_lt}
use Rattle.std.proofs.lemmas.List.Sorted.{answers_always}
use Rattle.ac_chain.proofs.Sorts.{keys_order, sorted_order}
use Rattle.ac_chain.proofs.sort.sorted_names.Goals as goal

pub returns : goal.returns
returns g c =
    let less = g.T.Rank.is_less in let order = g.met.T.Rank.ordered in
    let compares = answers_always _ (λ a r. is_lt r ≡ less a.0.now.value.now a.1.0.now.value.now) _ (λ f a r q k. search rules) in
    let s = c.in_ok-sort_by.ensures in
    sorted_order less order c.args.chain.now.rows c.in_ok-rows.rows.items c.sort_by.new.self.items c.in_ok-rows.ensures.rows s.permutation (s.sorted _ (keys_order less order) compares) (s.stable _ (keys_order less order) compares)
    c.names_of.result c.deref.result.now c.deref.ensures.value c.names_of.ensures.names
