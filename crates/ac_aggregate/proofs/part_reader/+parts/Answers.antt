use Rattle.std.proofs.Common.{◌∙◌}
use Rattle.ac_aggregate.specs.Outcomes.{gives, onward}
use Rattle.ac_aggregate.specs.Readers.{spelled, reduced_or, as_factor}
use Rattle.ac_aggregate.specs.Reading.{read_by, factor, term, expr, atom, condition, filter, aggregate, source, factors, terms, conditions, given}
use Rattle.ac_aggregate.specs.Views.{asked_in}
use Rattle.ac_aggregate.proofs.Steps.{stepped, behind, taken, left}
use Rattle.ac_aggregate.proofs.part_reader.+parts.Goals as goal

pub expr-returns-in-Some : goal.expr-returns-in-Some
expr-returns-in-Some v c =
    rw (stepped c.args.steps expr c.args.tokens.now c.if-steps-eq0.false ∙ behind _ _ _ _ (rw c.in-Some.is at c.in_ok-e.ensures)) c.terms.ensures

pub term-returns-in-Some : goal.term-returns-in-Some
term-returns-in-Some v c =
    rw (stepped c.args.steps term c.args.tokens.now c.if-steps-eq0.false ∙ behind _ _ _ _ (rw c.in-Some.is at c.in_ok-e.ensures)) c.factors.ensures

pub condition-returns-in-Some : goal.condition-returns-in-Some
condition-returns-in-Some v c =
    rw (stepped c.args.steps condition c.args.tokens.now c.if-steps-eq0.false ∙ behind _ _ _ _ (rw c.in-Some.is at c.in_ok-c.ensures)) c.conditions.ensures

pub factor-returns-in-Some-2 : goal.factor-returns-in-Some-2
factor-returns-in-Some-2 v c =
    rw (stepped c.args.steps factor c.args.tokens.now c.if-steps-eq0.false ∙ taken _ _ _ _ _ _ c.in-Some.ensures
    ∙ behind _ _ _ _ (rw c.in-Some-2.is at c.in_ok-e.ensures)) c.group.ensures

pub factor-returns : goal.factor-returns
factor-returns v c =
    rw (stepped c.args.steps factor c.args.tokens.now c.if-steps-eq0.false ∙ left _ _ _ _ c.in_default.ensures) c.bare.ensures

pub bare-returns-in-Some : goal.bare-returns-in-Some
bare-returns-in-Some v c = taken _ _ _ _ _ _ (rw c.in-Some.is at c.in_ok-e.ensures)

pub bare-returns-in-Some-2 : goal.bare-returns-in-Some-2
bare-returns-in-Some-2 v c =
    rw (left (spelled c.args.tokens.now) (λ e. gives e) (λ ts. onward (read_by c.args.steps source ts) (reduced_or as_factor)) c.args.tokens.now (rw c.in_default.is at c.in_ok-e.ensures)
    ∙ behind (read_by c.args.steps source c.args.tokens.now) _ _ (reduced_or as_factor) (rw c.in-Some-2.is at c.in_ok-s.ensures)) c.factor_of.ensures

pub factors-returns-in_ok-l-in-Some-2 : goal.factors-returns-in_ok-l-in-Some-2
factors-returns-in_ok-l-in-Some-2 v c =
    rw (stepped c.args.steps (factors (asked_in c.args.l)) c.args.tokens.now c.if-steps-eq0.false ∙ taken _ _ _ _ _ _ c.in-Some.ensures
    ∙ behind _ _ _ _ (rw c.in-Some-2.is at c.in_ok-r-in-Some.ensures))
    (rw c.in_ok-l-in-Some-2.ensures at c.factors.ensures)

pub terms-returns-in_ok-l-in-Some-2 : goal.terms-returns-in_ok-l-in-Some-2
terms-returns-in_ok-l-in-Some-2 v c =
    rw (stepped c.args.steps (terms (asked_in c.args.l)) c.args.tokens.now c.if-steps-eq0.false ∙ taken _ _ _ _ _ _ c.in-Some.ensures
    ∙ behind _ _ _ _ (rw c.in-Some-2.is at c.in_ok-r-in-Some.ensures))
    (rw c.in_ok-l-in-Some-2.ensures at c.terms.ensures)

pub conditions-returns-in_ok-l-in-Some-2 : goal.conditions-returns-in_ok-l-in-Some-2
conditions-returns-in_ok-l-in-Some-2 v c =
    rw (stepped c.args.steps (conditions (asked_in c.args.l)) c.args.tokens.now c.if-steps-eq0.false ∙ taken _ _ _ _ _ _ c.in-Some.ensures
    ∙ behind _ _ _ _ (rw c.in-Some-2.is at c.in_ok-r-in-Some.ensures))
    (rw c.in_ok-l-in-Some-2.ensures at c.conditions.ensures)

pub atom-returns-in-Some-2 : goal.atom-returns-in-Some-2
atom-returns-in-Some-2 v c =
    rw (stepped c.args.steps atom c.args.tokens.now c.if-steps-eq0.false ∙ taken _ _ _ _ _ _ c.in-Some.ensures
    ∙ behind _ _ _ _ (rw c.in-Some-2.is at c.in_ok-c.ensures)) c.negated.ensures

pub atom-returns-in-Some-3 : goal.atom-returns-in-Some-3
atom-returns-in-Some-3 v c =
    rw (stepped c.args.steps atom c.args.tokens.now c.if-steps-eq0.false ∙ left _ _ _ _ c.in_default.ensures
    ∙ behind _ _ _ _ (rw c.in-Some-3.is at c.in_ok-l.ensures)) c.compared.ensures

pub filter-returns-in-Some : goal.filter-returns-in-Some
filter-returns-in-Some v c =
    rw (stepped c.args.steps filter c.args.tokens.now c.if-steps-eq0.false ∙ taken _ _ _ _ _ _ c.in-Some.ensures) c.condition.ensures

pub given-returns-in-Some-2 : goal.given-returns-in-Some-2
given-returns-in-Some-2 v c =
    rw (stepped c.args.steps (given c.args.heading.now.generator.now c.args.heading.now.object.now (asked_in c.args.condition)) c.args.tokens.now c.if-steps-eq0.false
    ∙ behind _ _ _ _ c.in-Some.ensures ∙ behind _ _ _ _ (rw c.in-Some-2.is at c.in_ok-e-in-Some.ensures)) c.each.ensures

pub aggregate-returns-in-Some-2 : goal.aggregate-returns-in-Some-2
aggregate-returns-in-Some-2 v c =
    rw (stepped c.args.steps aggregate c.args.tokens.now c.if-steps-eq0.false
    ∙ behind _ _ _ _ c.in-Some.ensures ∙ behind _ _ _ _ (rw c.in-Some-2.is at c.in_ok-c-in-Some.ensures)) c.given.ensures

pub source-returns-in-Some : goal.source-returns-in-Some
source-returns-in-Some v c =
    rw (stepped c.args.steps source c.args.tokens.now c.if-steps-eq0.false ∙ taken _ _ _ _ _ _ c.in-Some.ensures) c.aggregate.ensures

pub source-returns-in-None : goal.source-returns-in-None
source-returns-in-None v c =
    rw (stepped c.args.steps source c.args.tokens.now c.if-steps-eq0.false ∙ left _ _ _ _ c.in-None.ensures) c.object.ensures

pub filter-returns-in-None : goal.filter-returns-in-None
filter-returns-in-None v c =
    rw (stepped c.args.steps filter c.args.tokens.now c.if-steps-eq0.false ∙ left _ _ _ _ c.in-None.ensures) c.always.ensures
