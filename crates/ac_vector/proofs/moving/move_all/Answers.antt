use Rattle.std.proofs.Common.{◌+◌, ◌-◌, ◌≤◌, refl, ap, ◌∙◌, subst}
use Rattle.std.proofs.lemmas.List.{length-map}
use Rattle.ac_base.specs.declared.name.Name.{Name}
use Rattle.ac_base.specs.Rows.{Row, values}
use Rattle.ac_vector.proofs.Refills.{filled, filling}
use Rattle.ac_vector.proofs.moving.move_all.Goals as goal

pub move_end-requires-clause-spare : goal.move_end-requires-clause-spare
move_end-requires-clause-spare g c =
    subst (λ n. n ≤ c.clear.new.self.spare) (length-map c.args.source.now.rows (λ (r : Row Name _). r.value))
    (filling c.args.target.now c.reserve.new.self c.clear.new.self c.saturating_sub.result (values c.args.source.now.rows) c.args.source.now.rows c.in_ok-reserve.ensures.ok
    (c.saturating_sub.ensures ∙ (λ i. c.len.ensures.count i - c.len-2.ensures.count i)) c.clear.ensures.cleared refl)

pub returns-clause-put : goal.returns-clause-put
returns-clause-put g c = (
    filled c.args.target.now c.reserve.new.self c.clear.new.self c.move_end.new.target c.saturating_sub.result (values c.args.source.now.rows) c.args.source.now.rows c.in_ok-reserve.ensures.ok
    (c.saturating_sub.ensures ∙ (λ i. c.len.ensures.count i - c.len-2.ensures.count i)) c.clear.ensures.cleared refl c.move_end.ensures.put (ap (λ n. c.move_end.new.target.spare + n) (length-map c.args.source.now.rows (λ (r : Row Name _). r.value)) ∙ c.move_end.ensures.spare)
    ).put

pub returns-clause-slots : goal.returns-clause-slots
returns-clause-slots g c = (
    filled c.args.target.now c.reserve.new.self c.clear.new.self c.move_end.new.target c.saturating_sub.result (values c.args.source.now.rows) c.args.source.now.rows c.in_ok-reserve.ensures.ok
    (c.saturating_sub.ensures ∙ (λ i. c.len.ensures.count i - c.len-2.ensures.count i)) c.clear.ensures.cleared refl c.move_end.ensures.put (ap (λ n. c.move_end.new.target.spare + n) (length-map c.args.source.now.rows (λ (r : Row Name _). r.value)) ∙ c.move_end.ensures.spare)
    ).slots

pub returns-clause-grown : goal.returns-clause-grown
returns-clause-grown g c = (
    filled c.args.target.now c.reserve.new.self c.clear.new.self c.move_end.new.target c.saturating_sub.result (values c.args.source.now.rows) c.args.source.now.rows c.in_ok-reserve.ensures.ok
    (c.saturating_sub.ensures ∙ (λ i. c.len.ensures.count i - c.len-2.ensures.count i)) c.clear.ensures.cleared refl c.move_end.ensures.put (ap (λ n. c.move_end.new.target.spare + n) (length-map c.args.source.now.rows (λ (r : Row Name _). r.value)) ∙ c.move_end.ensures.spare)
    ).grown
