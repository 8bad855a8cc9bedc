use Rattle.ac_calls.specs.Arguments.{arguments_of}
use Rattle.ac_calls.specs.Holdings.{a_tree, of_rows}
use Rattle.ac_plains.proofs.FillingCalls.{root_stays}
use Rattle.ac_plains.proofs.nodes.root_of.Goals as goal

pub returns-in-Place-clause-same : goal.returns-in-Place-clause-same
returns-in-Place-clause-same c =
    let tree = of_rows (a_tree c.requires.elements) c.requires.tree in
    root_stays c.args.place c.args.objects.now c.call_at.new.self c.requires (arguments_of c.args.frame.now.arguments) c.call_at.new.frame.reply
    (c.in-Ok.ensures.called tree c.requires.there)
