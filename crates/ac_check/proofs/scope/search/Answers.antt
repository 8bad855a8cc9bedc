use Rattle.std.proofs.Common.{◌≡◌, ◌+◌, ◌-◌, ◌/◌, ◌<◌, length, get_or, sym, ap, ◌∙◌, arith}
use Rattle.std.specs.declared.cmp.Ordering.TheVariants.{Less, Equal, Greater}
use Rattle.ac_check.specs.NameOrders.{bytes_of, name_cmp, sorted_at}
use Rattle.ac_check.proofs.NameOrders.{read_name, long_as, below_lower, above_higher, found}
use Rattle.ac_check.proofs.scope.search.Goals as goal

pub loop-low-init : goal.loop-low-init
loop-low-init c = (omega arith, omega arith, λ k before. absurd (omega (arith, before)), λ k from within. absurd (omega (arith, from, within)))

pub bounds-sorted-middle : goal.bounds-sorted-middle
bounds-sorted-middle c = omega (arith, c.loop-low.invariant.1, c.loop-low-test.true)

pub bounds-names-place : goal.bounds-names-place
bounds-names-place c =
    let middle = c.loop-low.low + (c.loop-low.high - c.loop-low.low) / 2 in
    rw (← long_as c.args.names.now) (c.requires.within middle 0 (omega (arith, c.loop-low.invariant.1, c.loop-low-test.true)))

pub returns-in-Equal-clause-found : goal.returns-in-Equal-clause-found
returns-in-Equal-clause-found c =
    let named = c.args.names.now in
    let places = c.args.sorted.now in
    let name = c.args.name.now in
    let middle = c.loop-low.low + (c.loop-low.high - c.loop-low.low) / 2 in
    let inside : middle < length places = omega (arith, c.loop-low.invariant.1, c.loop-low-test.true) in
    let within : get_or places middle 0 < length named = rw (← long_as named) (c.requires.within middle 0 inside) in
    let read = read_name named (get_or places middle 0) c.index-names-place.result within in
    let here : name_cmp (sorted_at (bytes_of named) places middle) name ≡ Equal = ap (λ n. name_cmp n name) (read ∙ sym c.deref.ensures.value) ∙ sym c.compare.ensures ∙ c.in-Equal.is in
    found (bytes_of named) places c.requires name middle inside here

pub loop-low-preserved-in-Less : goal.loop-low-preserved-in-Less
loop-low-preserved-in-Less c =
    let named = c.args.names.now in
    let places = c.args.sorted.now in
    let name = c.args.name.now in
    let middle = c.loop-low.low + (c.loop-low.high - c.loop-low.low) / 2 in
    let inside : middle < length places = omega (arith, c.loop-low.invariant.1, c.loop-low-test.true) in
    let within : get_or places middle 0 < length named = rw (← long_as named) (c.requires.within middle 0 inside) in
    let read = read_name named (get_or places middle 0) c.index-names-place.result within in
    let here : name_cmp (sorted_at (bytes_of named) places middle) name ≡ Less = ap (λ n. name_cmp n name) (read ∙ sym c.deref.ensures.value) ∙ sym c.compare.ensures ∙ c.in-Less.is in
    (omega (arith, c.loop-low-test.true), c.loop-low.invariant.1, λ k before. below_lower (bytes_of named) places c.requires name middle k inside here before, c.loop-low.invariant.3)

pub loop-low-preserved : goal.loop-low-preserved
loop-low-preserved c =
    let named = c.args.names.now in
    let places = c.args.sorted.now in
    let name = c.args.name.now in
    let middle = c.loop-low.low + (c.loop-low.high - c.loop-low.low) / 2 in
    let inside : middle < length places = omega (arith, c.loop-low.invariant.1, c.loop-low-test.true) in
    let within : get_or places middle 0 < length named = rw (← long_as named) (c.requires.within middle 0 inside) in
    let read = read_name named (get_or places middle 0) c.index-names-place.result within in
    let here : name_cmp (sorted_at (bytes_of named) places middle) name ≡ Greater = ap (λ n. name_cmp n name) (read ∙ sym c.deref.ensures.value) ∙ sym c.compare.ensures ∙ c.in-Greater.is in
    (omega arith, omega (arith, inside), c.loop-low.invariant.2, λ k from upto. above_higher (bytes_of named) places c.requires name middle k here from upto)

pub returns-clause-absent : goal.returns-clause-absent
returns-clause-absent c =
    let low : c.loop-low.high ≡ c.loop-low.low = omega (arith, c.loop-low.invariant.0, c.loop-low-test.false) in
    record {
      within = omega (arith, low, c.loop-low.invariant.1);
      below = c.loop-low.invariant.2;
      above = λ k from within. c.loop-low.invariant.3 k (omega (arith, low, from)) within;
    }
