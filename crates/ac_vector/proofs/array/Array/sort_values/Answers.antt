use Rattle.std.proofs.Common.{◌≡◌, rules, is_lt, sym, subst}
use Rattle.std.proofs.lemmas.List.Sorted.{answers_always}
use Rattle.ac_base.specs.Rows.{values}
use Rattle.ac_chain.specs.Rows.{IsSound}
use Rattle.ac_model.specs.Objects.{plains}
use Rattle.ac_model.specs.Rows.{sorted}
use Rattle.ac_vector.proofs.Arrays.{old_stands, sound_of}
use Rattle.ac_vector.proofs.Rewrites.{over_array}
use Rattle.ac_vector.proofs.Slots.{slotted, slot_view}
use Rattle.ac_vector.proofs.Orderings.{strict, sorted_is, sorted_long}
use Rattle.ac_vector.proofs.array.Array.sort_values.Goals as goal

pub returns-in_err-sort_by-clause-sound : goal.returns-in_err-sort_by-clause-sound
returns-in_err-sort_by-clause-sound g c =
    subst (λ us. IsSound (slot_view c.self.inside.slots.items us c.self.inside.places)) (sym c.in_err-sort_by.ensures.err) (sound_of c.self.invariant.array.stands)

pub invariant_of-self-2 : goal.invariant_of-self-2
invariant_of-self-2 g c =
    let less = g.T.Rank.is_less in let order = g.met.T.Rank.ordered in let rows = c.args.self.now.rows in let s = c.in_ok-sort_by.ensures in
    let compares = answers_always _ (λ a r. is_lt r ≡ less a.0.now a.1.0.now) _ (λ f a r q k. search rules) in
    let are = sorted_is less order rows c.self.inside.values.items c.sort_by.new.self.items (old_stands c.self.invariant.array c.self.view_is).valued s.permutation (s.sorted _ (strict less order) compares) (s.stable _ (strict less order) compares) in
    (slotted (over_array c.self.invariant.array c.self.view_is c.sort_by.new.self.items (values (sorted less (plains rows))) _ are (sorted_long less rows) s.capacity) _ c.self.invariant.slots).invariant

pub returns-clause-ok : goal.returns-clause-ok
returns-clause-ok g c =
    let less = g.T.Rank.is_less in let order = g.met.T.Rank.ordered in let rows = c.args.self.now.rows in let s = c.in_ok-sort_by.ensures in
    let compares = answers_always _ (λ a r. is_lt r ≡ less a.0.now a.1.0.now) _ (λ f a r q k. search rules) in
    let are = sorted_is less order rows c.self.inside.values.items c.sort_by.new.self.items (old_stands c.self.invariant.array c.self.view_is).valued s.permutation (s.sorted _ (strict less order) compares) (s.stable _ (strict less order) compares) in
    (slotted (over_array c.self.invariant.array c.self.view_is c.sort_by.new.self.items (values (sorted less (plains rows))) _ are (sorted_long less rows) s.capacity) _ c.self.invariant.slots).view

pub returns-clause-sound : goal.returns-clause-sound
returns-clause-sound g c =
    let less = g.T.Rank.is_less in let order = g.met.T.Rank.ordered in let rows = c.args.self.now.rows in let s = c.in_ok-sort_by.ensures in
    let compares = answers_always _ (λ a r. is_lt r ≡ less a.0.now a.1.0.now) _ (λ f a r q k. search rules) in
    let are = sorted_is less order rows c.self.inside.values.items c.sort_by.new.self.items (old_stands c.self.invariant.array c.self.view_is).valued s.permutation (s.sorted _ (strict less order) compares) (s.stable _ (strict less order) compares) in
    (slotted (over_array c.self.invariant.array c.self.view_is c.sort_by.new.self.items (values (sorted less (plains rows))) _ are (sorted_long less rows) s.capacity) _ c.self.invariant.slots).sound
