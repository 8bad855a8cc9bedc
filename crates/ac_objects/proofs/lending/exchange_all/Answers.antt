use Rattle.std.proofs.Common.{◌≡◌, ◌≤◌, length, sym, subst, ◌∙◌, arith}
use Rattle.std.specs.Ordering.{nat_cmp, ord_min}
use Rattle.ac_objects.proofs.Lent.{end_put, end_out}
use Rattle.ac_objects.proofs.lending.exchange_all.Goals as goal

pub returns-clause-put : goal.returns-clause-put
returns-clause-put c =
    let l = c.loop-i in
    let places = c.args.places.now in
    let many : c.len.result ≡ length l.queues.items = omega (arith, c.len.ensures, c.args.queues.now.ok.0, l.invariant.as_many) in
    let past = subst (λ n. ord_min nat_cmp (length places) n ≤ l.i) many (subst (λ end. end ≤ l.i) c.min-i-end.ensures c.loop-i-test.false) in
    sym (end_put places l.queues.items l.bounds.items l.i past) ∙ l.invariant.put

pub returns-clause-out : goal.returns-clause-out
returns-clause-out c =
    let l = c.loop-i in
    let places = c.args.places.now in
    let many : c.len.result ≡ length l.queues.items = omega (arith, c.len.ensures, c.args.queues.now.ok.0, l.invariant.as_many) in
    let past = subst (λ n. ord_min nat_cmp (length places) n ≤ l.i) many (subst (λ end. end ≤ l.i) c.min-i-end.ensures c.loop-i-test.false) in
    sym (end_out places l.queues.items l.bounds.items l.i past) ∙ l.invariant.out
