use Rattle.std.proofs.Common.{ap, ◌∙◌, ◌≤◌, sym, subst}
use Rattle.std.proofs.Common as std
use Rattle.ac_base.specs.declared.limit.TheConstants.{GREATEST_LENGTH}
use Rattle.ac_base.specs.declared.name.Name.{Name}
use Rattle.ac_model.specs.Objects.{Object}
use Rattle.ac_chain.proofs.calls.refusing.length.Goals as goal

pub returns-clause-count : goal.returns-clause-count
returns-clause-count g c = c.len.ensures.count ∙ ap (λ (p : Object Name _). std.length p.rows) c.rows.ensures.object

pub returns-clause-few : goal.returns-clause-few
returns-clause-few g c = subst (λ n. n ≤ GREATEST_LENGTH) (sym c.len.ensures.count) c.rows.ensures.sequence.within_greatest
