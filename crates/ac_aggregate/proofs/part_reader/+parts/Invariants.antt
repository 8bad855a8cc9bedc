use Rattle.std.proofs.Common.{◌+◌, ◌*◌}
use Rattle.ac_aggregate.proofs.part_reader.+parts.Given as goal

abbrev pub decreases-aggregate : goal.decreases-aggregate
decreases-aggregate l = 2 * l.steps

abbrev pub decreases-atom : goal.decreases-atom
decreases-atom l = 2 * l.steps

abbrev pub decreases-bare : goal.decreases-bare
decreases-bare l = 2 * l.steps + 1

abbrev pub decreases-compared : goal.decreases-compared
decreases-compared l = 2 * l.steps

abbrev pub decreases-condition : goal.decreases-condition
decreases-condition l = 2 * l.steps

abbrev pub decreases-conditions : goal.decreases-conditions
decreases-conditions l = 2 * l.steps

abbrev pub decreases-expr : goal.decreases-expr
decreases-expr l = 2 * l.steps

abbrev pub decreases-factor : goal.decreases-factor
decreases-factor l = 2 * l.steps

abbrev pub decreases-factors : goal.decreases-factors
decreases-factors l = 2 * l.steps

abbrev pub decreases-filter : goal.decreases-filter
decreases-filter l = 2 * l.steps

abbrev pub decreases-given : goal.decreases-given
decreases-given l = 2 * l.steps

abbrev pub decreases-source : goal.decreases-source
decreases-source l = 2 * l.steps

abbrev pub decreases-term : goal.decreases-term
decreases-term l = 2 * l.steps

abbrev pub decreases-terms : goal.decreases-terms
decreases-terms l = 2 * l.steps
