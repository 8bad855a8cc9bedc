use Rattle.std.proofs.Common.{rules, sym, subst}
use Rattle.std.specs.Option.{option_map}
use Rattle.ac_aggregate.specs.Answers.{val_view, bounds_view}
use Rattle.ac_aggregate.specs.Settled.{StandsFor}
use Rattle.ac_aggregate.specs.Views.{asked, asked_in}
use Rattle.ac_aggregate.proofs.Stands.{known_stands}
use Rattle.ac_aggregate.proofs.settling.once.Goals as goal

pub returns : goal.returns
returns c =
    subst (λ p. StandsFor c.args.plains.now c.args.generators.now (asked p) (asked c.args.part.now)) (sym c.in_ok-new.ensures.ok)
    (known_stands c.args.plains.now c.args.generators.now (asked c.known-made.result) (asked_in c.args.made) (asked c.args.part.now)
    (bounds_view c.in_ok-blanks.blanks.items) (option_map val_view c.in_ok-value.field-0) c.requires.reduced c.in_ok-blanks.ensures c.requires.stands
    (search rules) (rw c.deref.ensures at (rw c.deref-2.ensures.value at c.in_ok-value.ensures)) c.known-made.ensures)
