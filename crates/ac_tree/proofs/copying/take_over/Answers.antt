use Rattle.std.proofs.lemmas.Option.{none-some}
use Rattle.ac_tree.proofs.Assigning.{cleared_rows, emptied_forest}
use Rattle.ac_tree.proofs.copying.take_over.Goals as goal

pub remove_below-requires-clause-live : goal.remove_below-requires-clause-live
remove_below-requires-clause-live g c = λ a e. absurd (none-some a e)

pub returns-clause-cleared : goal.returns-clause-cleared
returns-clause-cleared g c = cleared_rows c.args.source.now c.remove_below.new.links c.requires.source c.remove_below.ensures

pub returns-clause-source : goal.returns-clause-source
returns-clause-source g c = emptied_forest c.args.source.now c.remove_below.new.links c.requires.source c.remove_below.ensures
