use Rattle.std.proofs.Common.{rules, ◌≡◌, ◌≤◌, ℤ, true, map, drop, sym, ap, ◌∙◌, arith, to_z, of_z, to_z-of_z, w64}
use Rattle.std.specs.List.{list_any}
use Rattle.std.specs.Ordering.{int_eq}
use Rattle.std.proofs.lemmas.Bool.{not-false}
use Rattle.ac_snapshot.specs.RowKeys.{key_integer}
use Rattle.ac_snapshot.proofs.RowsTogether.{keys_clash}
use Rattle.ac_snapshot.proofs.row_test.integers_differ.Goals as goal

pub returns-then-not-branch : goal.returns-then-not-branch
returns-then-not-branch c =
    let rows = c.args.rows.now in
    let at = c.loop-at.at in
    let x = c.index-rows-at.result in
    let keys = c.loop-at.seen.keys in
    let some : 1 ≤ at = omega (arith, c.loop-at-test.true) in
    let same : to_z w64 (of_z w64 c.key_integer.result) ≡ c.key_integer.result = to_z-of_z {w = w64} {z = c.key_integer.result} (search rules) in
    let seen : list_any (int_eq (to_z w64 (of_z w64 c.key_integer.result))) keys ≡ true = not-false _ (sym c.in_ok-is_new_integer.ensures.new ∙ c.if-not-branch.true) in
    let clash : list_any (int_eq (key_integer x)) (map key_integer (drop at rows)) ≡ true =
    sym (c.loop-at.invariant.2 (key_integer x)) ∙ ap (λ (own : ℤ). list_any (int_eq own) keys) (sym (same ∙ c.key_integer.ensures)) ∙ seen in
    keys_clash int_eq key_integer rows at x some c.loop-at.invariant.0 c.index-rows-at.is clash
