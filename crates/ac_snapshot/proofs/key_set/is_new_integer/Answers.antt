use Rattle.std.proofs.Common.{◌||◌, ℤ, not, ap, ◌∙◌, to_z, of_z, to_z-of_z, w64}
use Rattle.std.specs.List.{list_any}
use Rattle.std.specs.Ordering.{int_eq}
use Rattle.ac_snapshot.proofs.KeySets.{integer_added}
use Rattle.ac_snapshot.proofs.key_set.is_new_integer.Goals as goal

pub returns-clause-new : goal.returns-clause-new
returns-clause-new c = c.in_ok-new.ensures.added ∙ ap (λ (k : ℤ). not (list_any (int_eq k) c.args.seen.now.keys)) (to_z-of_z {w = w64} {z = c.args.key} c.ranges.key)

pub returns-clause-seen : goal.returns-clause-seen
returns-clause-seen c is own =
    integer_added (to_z w64 (of_z w64 c.args.key)) c.args.seen.now.keys c.insert.new.self.keys c.in_ok-new.new c.in_ok-new.ensures.added c.in_ok-new.ensures.keys is own
    ∙ ap (λ (k : ℤ). int_eq own k || list_any (int_eq own) c.args.seen.now.keys) (to_z-of_z {w = w64} {z = c.args.key} c.ranges.key)
