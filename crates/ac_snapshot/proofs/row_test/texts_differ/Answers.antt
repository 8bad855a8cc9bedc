use Rattle.std.proofs.Common.{◌≡◌, ◌≤◌, true, map, drop, sym, ap, ◌∙◌, arith}
use Rattle.std.specs.List.{list_any}
use Rattle.std.specs.Str.{bytes_eq}
use Rattle.std.proofs.lemmas.Bool.{not-false}
use Rattle.ac_snapshot.specs.Keys.{has_text}
use Rattle.ac_snapshot.specs.RowKeys.{key_text}
use Rattle.ac_snapshot.proofs.RowsTogether.{keys_clash}
use Rattle.ac_snapshot.proofs.row_test.texts_differ.Goals as goal

pub returns-then-not-branch : goal.returns-then-not-branch
returns-then-not-branch c =
    let rows = c.args.rows.now in
    let at = c.loop-at.at in
    let f = key_text c.args.keyed in
    let x = c.index-rows-at.result in
    let some : 1 ≤ at = omega (arith, c.loop-at-test.true) in
    let seen : has_text c.loop-at.seen.keys c.key_text.result.now ≡ true = not-false _ (sym c.in_ok-is_new_text.ensures.new ∙ c.if-not-branch.true) in
    let clash : list_any (bytes_eq (f x)) (map f (drop at rows)) ≡ true =
    sym (c.loop-at.invariant.2 (f x)) ∙ ap (has_text c.loop-at.seen.keys) (sym c.key_text.ensures) ∙ seen in
    keys_clash bytes_eq f rows at x some c.loop-at.invariant.0 c.index-rows-at.is clash
