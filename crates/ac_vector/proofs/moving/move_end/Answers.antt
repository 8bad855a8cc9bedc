use Rattle.std.proofs.Common.{◌≡◌, ◌≤◌, ◌<◌, ◌+◌, ◌^◌, None, sym, ◌∙◌, subst}
use Rattle.ac_chain.specs.Put.{IsPut}
use Rattle.ac_vector.proofs.Drains.{turned_back, turned_cleared, turned_count}
use Rattle.ac_vector.proofs.moving.move_end.Goals as goal

pub move_back-requires-clause-spare : goal.move_back-requires-clause-spare
move_back-requires-clause-spare g c =
    subst (λ n. n ≤ c.args.target.now.spare) (sym (turned_count c.args.source.now c.reverse_values.new.self c.reverse_values.ensures.reversed)) c.requires.spare

pub move_back-requires-clause-unspent : goal.move_back-requires-clause-unspent
move_back-requires-clause-unspent g c =
    subst (λ n. c.args.target.now.next_serial + n < 2 ^ 64) (sym (turned_count c.args.source.now c.reverse_values.new.self c.reverse_values.ensures.reversed)) c.requires.unspent

pub returns-clause-put : goal.returns-clause-put
returns-clause-put g c =
    subst (λ vs. IsPut c.args.target.now.rows c.args.target.now.next_serial None vs c.move_back.new.target) (turned_back c.args.source.now c.reverse_values.new.self c.reverse_values.ensures.reversed) c.move_back.ensures.put

pub returns-clause-spare : goal.returns-clause-spare
returns-clause-spare g c =
    subst (λ n. c.move_back.new.target.spare + n ≡ c.args.target.now.spare) (turned_count c.args.source.now c.reverse_values.new.self c.reverse_values.ensures.reversed) c.move_back.ensures.spare

pub returns-clause-cleared : goal.returns-clause-cleared
returns-clause-cleared g c = c.move_back.ensures.cleared ∙ turned_cleared c.args.source.now c.reverse_values.new.self c.reverse_values.ensures.reversed
