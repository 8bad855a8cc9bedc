use Rattle.std.proofs.Common.{subst}
use Rattle.ac_pool.specs.Contents.{IsLive}
use Rattle.ac_tree.proofs.Standing.{some_name}
use Rattle.ac_tree.proofs.Emptying.{uprooted}
use Rattle.ac_tree.proofs.clearing.remove_subtree.Goals as goal

pub remove_below-requires-clause-live : goal.remove_below-requires-clause-live
remove_below-requires-clause-live g c = λ b e. subst (λ n. IsLive c.args.links.now.nodes n) (some_name c.args.name b e) c.requires.live

pub returns : goal.returns
returns g c = uprooted c.args.links.now c.remove_below.new.links c.remove.new.self c.args.name c.remove_below.ensures c.remove.ensures
