use Rattle.std.proofs.Common.{[], sym, ◌∙◌, subst}
use Rattle.ac_aggregate.specs.Answers.{answer_view}
use Rattle.ac_aggregate.specs.Asking.{asked_by}
use Rattle.ac_aggregate.specs.Settled.{StandsFor}
use Rattle.ac_aggregate.specs.Views.{asked, asked_in}
use Rattle.ac_aggregate.proofs.Answered.{listed_is}
use Rattle.ac_aggregate.proofs.question.Question.answer.Goals as goal

pub returns-then-is_aggregate : goal.returns-then-is_aggregate
returns-then-is_aggregate c =
    listed_is c.args.plains.now (asked c.deref-part.result.now) (asked_by c.args.self.now) _ (answer_view c.listed.result)
    (subst (λ p. StandsFor c.args.plains.now [] (asked p) (asked_by c.args.self.now)) (sym c.deref-part.ensures)
    (subst (λ ps. StandsFor ps [] (asked_in c.in_ok-made.made) (asked_by c.args.self.now)) c.items.ensures
    (subst (λ q. StandsFor c.items.result.now [] (asked_in c.in_ok-made.made) q) c.part.ensures c.in_ok-made.ensures)))
    (sym c.is_aggregate.ensures ∙ c.if-is_aggregate.true) (rw c.items-then-is_aggregate.ensures at c.in_ok-listing.ensures) c.listed.ensures
