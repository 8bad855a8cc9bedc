-- Values and answers in memory as contracts see them.
use Rattle.std.specs.Prelude.{List, map}
use Rattle.ac_base.specs.declared.value.Value.{Value}
use Rattle.ac_base.specs.declared.value.Value.TheVariants as value
use Rattle.ac_aggregate.specs.declared.values.Val.{Val}
use Rattle.ac_aggregate.specs.declared.values.Val.TheVariants as val
use Rattle.ac_aggregate.specs.declared.values.Given.{Given}
use Rattle.ac_aggregate.specs.declared.values.Given.TheVariants as given
use Rattle.ac_aggregate.specs.declared.valuing.Bound.{Bound}
use Rattle.ac_aggregate.specs.declared.answering.AskAnswer.{AskAnswer}
use Rattle.ac_aggregate.specs.declared.answering.AskAnswer.TheVariants as answer
use Rattle.ac_aggregate.specs.Generators.{Generator, generator}
use Rattle.ac_aggregate.specs.Values.{Answer, number, listing, overflow}

abbrev pub val_view : Val → Value
val_view (val.Int z) = value.Int z
val_view (val.Text bytes) = value.Text bytes.now

abbrev pub given_view : Given → Value
given_view (given.Int z) = value.Int z
given_view (given.Text bytes) = value.Text bytes

abbrev pub givens_view : List Given → List Value
givens_view items = map given_view items

abbrev pub bound_view : Bound → Generator Value
bound_view b = generator b.name.now (val_view b.value)

abbrev pub bounds_view : List Bound → List (Generator Value)
bounds_view bounds = map bound_view bounds

abbrev pub answer_view : AskAnswer → Answer
answer_view (answer.Number z) = number z
answer_view (answer.Listing values) = listing (givens_view values.items.items)
answer_view answer.Overflow = overflow
