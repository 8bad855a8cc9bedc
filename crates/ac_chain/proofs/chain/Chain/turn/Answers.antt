use Rattle.std.proofs.Common.{◌-◌, ◌<◌, length, sym, ap, ◌∙◌, subst}
use Rattle.ac_chain.specs.Rows.{Chained, chained}
use Rattle.ac_pool.specs.NamedRows.{index_of, IsOnce}
use Rattle.ac_chain.proofs.Moves.{once_from}
use Rattle.ac_chain.proofs.Orders.{Turned, turn_start, turned_live, turned_more, turned_falls, turned_all, live_at}
use Rattle.ac_chain.proofs.chain.Chain.turn.Goals as goal

pub loop-name-init : goal.loop-name-init
loop-name-init g c = record { turned = turn_start c.args.self.now.rows c.args.head c.requires.head; next = search; spare = search; sound = c.requires.sound }

pub next-requires : goal.next-requires
next-requires g c = turned_live c.loop-name.self c.args.head c.args.self.now.rows c.loop-name.invariant.turned

pub move_before-requires-clause-place : goal.move_before-requires-clause-place
move_before-requires-clause-place g c = λ x e. live_at c.loop-name.self 0 x (sym c.first-first.ensures.name ∙ e)

pub move_before-requires-clause-name : goal.move_before-requires-clause-name
move_before-requires-clause-name g c = live_at c.loop-name.self _ c.in-Some.name (sym c.in-Some.ensures.name)

pub loop-name-smaller : goal.loop-name-smaller
loop-name-smaller g c =
    let now = c.loop-name.self in let inv = c.loop-name.invariant in let head = c.args.head in
    let once = once_from now.rows inv.sound.once in
    let after = subst (λ (d : Chained _). IsOnce d.rows) c.move_before.ensures.moved (once_from c.move_before.new.self.rows c.move_before.ensures.sound.once) in
    subst (λ (d : Chained _). length d.rows - index_of head d.rows < length now.rows - index_of head now.rows) (sym c.move_before.ensures.moved)
    (turned_falls now head c.args.self.now.rows c.in-Some.name c.first-first.result once inv.turned (sym c.in-Some.ensures.name) c.first-first.ensures.name after)

pub loop-name-preserved : goal.loop-name-preserved
loop-name-preserved g c =
    let now = c.loop-name.self in let inv = c.loop-name.invariant in
    record {
      turned = subst (λ d. Turned c.args.head c.args.self.now.rows d.rows) (sym c.move_before.ensures.moved)
          (turned_more now c.args.head c.args.self.now.rows c.in-Some.name c.first-first.result (once_from now.rows inv.sound.once) inv.turned (sym c.in-Some.ensures.name) c.first-first.ensures.name);
      next = ap (λ d. d.next_serial) c.move_before.ensures.moved ∙ inv.next;
      spare = ap (λ d. d.spare) c.move_before.ensures.moved ∙ inv.spare;
      sound = c.move_before.ensures.sound;
    }

pub returns-clause-reversed : goal.returns-clause-reversed
returns-clause-reversed g c =
    let now = c.loop-name.self in let inv = c.loop-name.invariant in
    let rows = turned_all now c.args.head c.args.self.now.rows (once_from now.rows inv.sound.once) inv.turned (sym c.in_default.ensures.name) in
    λ i. chained (rows i) (inv.next i) (inv.spare i)
