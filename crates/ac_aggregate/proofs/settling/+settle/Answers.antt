use Rattle.std.proofs.Common.{ap, rules}
use Rattle.ac_aggregate.specs.Views.{asked, asked_in}
use Rattle.ac_aggregate.proofs.Settles.{group_ok, negated_ok, product_ok, sum_ok, compares_ok, both_ok, each_ok, reduced_at}
use Rattle.ac_aggregate.proofs.settling.+settle.Goals as goal

pub once-requires-clause-stands : goal.once-requires-clause-stands
once-requires-clause-stands t c =
    reduced_at c.args.plains.now c.args.generators.now c.in-Reduced.by c.in-Reduced.minus c.in-Reduced.number (asked_in c.in_ok-made-in-Reduced.made)
    (asked_in c.in_ok-source-in-Reduced.source) (asked c.in-Reduced.source.value) (asked c.args.part.now) c.in_ok-made-in-Reduced.ensures (search rules)
    (ap asked c.in-Reduced.is)

pub returns-in_ok-e-in-Group : goal.returns-in_ok-e-in-Group
returns-in_ok-e-in-Group t c =
    group_ok c.args.plains.now c.args.generators.now c.group.result (asked_in c.in_ok-e-in-Group.e) (asked c.in-Group.e.value) (asked c.args.part.now)
    c.group.ensures (search rules) (ap asked c.in-Group.is)

pub returns-in_ok-c-in-Negated : goal.returns-in_ok-c-in-Negated
returns-in_ok-c-in-Negated t c =
    negated_ok c.args.plains.now c.args.generators.now c.negated.result (asked_in c.in_ok-c-in-Negated.c) (asked c.in-Negated.c.value) (asked c.args.part.now)
    c.negated.ensures (search rules) (ap asked c.in-Negated.is)

pub returns-in_ok-r-in-Product : goal.returns-in_ok-r-in-Product
returns-in_ok-r-in-Product t c =
    product_ok c.args.plains.now c.args.generators.now c.product.result (asked_in c.in_ok-l-in-Product.l) (asked_in c.in_ok-r-in-Product.r)
    (asked c.in-Product.l.value) (asked c.in-Product.r.value) (asked c.args.part.now) c.product.ensures (search rules) (search rules) (ap asked c.in-Product.is)

pub returns-in_ok-r-in-Sum : goal.returns-in_ok-r-in-Sum
returns-in_ok-r-in-Sum t c =
    sum_ok c.args.plains.now c.args.generators.now c.in-Sum.minus c.sum.result (asked_in c.in_ok-l-in-Sum.l) (asked_in c.in_ok-r-in-Sum.r)
    (asked c.in-Sum.l.value) (asked c.in-Sum.r.value) (asked c.args.part.now) c.sum.ensures (search rules) (search rules) (ap asked c.in-Sum.is)

pub returns-in_ok-r-in-Compares : goal.returns-in_ok-r-in-Compares
returns-in_ok-r-in-Compares t c =
    compares_ok c.args.plains.now c.args.generators.now c.in-Compares.by c.compares.result (asked_in c.in_ok-l-in-Compares.l) (asked_in c.in_ok-r-in-Compares.r)
    (asked c.in-Compares.l.value) (asked c.in-Compares.r.value) (asked c.args.part.now) c.compares.ensures (search rules) (search rules) (ap asked c.in-Compares.is)

pub returns-in_ok-r-in-Both : goal.returns-in_ok-r-in-Both
returns-in_ok-r-in-Both t c =
    both_ok c.args.plains.now c.args.generators.now c.both.result (asked_in c.in_ok-l-in-Both.l) (asked_in c.in_ok-r-in-Both.r)
    (asked c.in-Both.l.value) (asked c.in-Both.r.value) (asked c.args.part.now) c.both.ensures (search rules) (search rules) (ap asked c.in-Both.is)

pub returns-in_ok-e-in-Each : goal.returns-in_ok-e-in-Each
returns-in_ok-e-in-Each t c =
    each_ok c.args.plains.now c.args.generators.now c.in-Each.own c.in-Each.object c.each.result (asked_in c.in_ok-c-in-Each.c) (asked_in c.in_ok-e-in-Each.e)
    (asked c.in-Each.c.value) (asked c.in-Each.e.value) (asked c.args.part.now) c.each.ensures (search rules) (search rules) (ap asked c.in-Each.is)
