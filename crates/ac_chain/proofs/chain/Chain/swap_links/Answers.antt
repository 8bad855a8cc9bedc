use Rattle.std.proofs.Common.{sym, ap, ◌∙◌, subst}
use Rattle.ac_chain.specs.Rows.{IsLive, moved}
use Rattle.ac_chain.proofs.Moves.{once_from}
use Rattle.ac_chain.proofs.Orders.{two_moves, live_at, live_moved}
use Rattle.ac_chain.proofs.chain.Chain.swap_links.Goals as goal

pub move_before-requires-clause-place : goal.move_before-requires-clause-place
move_before-requires-clause-place g c = λ x e. live_at c.args.self.now _ x (sym c.next-after_b.ensures.name ∙ e)

pub move_before-requires-2-clause-place : goal.move_before-requires-2-clause-place
move_before-requires-2-clause-place g c = λ x e.
    let now = c.args.self.now in let a = c.args.a in
    subst (λ d. IsLive d x) (sym c.move_before.ensures.moved)
    (live_moved now c.next-after_b.result a (λ y p. live_at now _ y (sym c.next-after_b.ensures.name ∙ p)) c.requires.a x (live_at now _ x (sym c.next-after_a.ensures.name ∙ e)))

pub move_before-requires-2-clause-name : goal.move_before-requires-2-clause-name
move_before-requires-2-clause-name g c =
    let now = c.args.self.now in let a = c.args.a in
    subst (λ d. IsLive d c.args.b) (sym c.move_before.ensures.moved)
    (live_moved now c.next-after_b.result a (λ y p. live_at now _ y (sym c.next-after_b.ensures.name ∙ p)) c.requires.a c.args.b c.requires.b)

pub returns-clause-swapped : goal.returns-clause-swapped
returns-clause-swapped g c =
    let now = c.args.self.now in let a = c.args.a in let b = c.args.b in
    c.move_before-2.ensures.moved ∙ (λ i. moved ((c.move_before.ensures.moved ∙ ap (λ p. moved now p a) c.next-after_b.ensures.name) i) (c.next-after_a.ensures.name i) b)
    ∙ two_moves now a b (once_from now.rows c.next-after_a.ensures.sound.once) c.requires.a c.requires.b
