use Rattle.std.proofs.Common.{◌∙◌, ap, sym}
use Rattle.std.proofs.lemmas.List.{map-set}
use Rattle.ac_buckets.specs.declared.linked.Node.{Node}
use Rattle.ac_buckets.specs.Linked.{links_below, links_of}
use Rattle.ac_buckets.proofs.Links.{rows_relinked}
use Rattle.ac_buckets.proofs.linked.set_link_below.Goals as goal

pub returns-in-Some-clause-links : goal.returns-in-Some-clause-links
returns-in-Some-clause-links c = map-set (λ (n : Node). n.next) c.args.nodes.now c.in-Some.index _ ∙ sym (ap (λ above. links_below (links_of c.args.nodes.now) above c.args.link) c.in-Some.is)

pub returns-in-Some-clause-rows : goal.returns-in-Some-clause-rows
returns-in-Some-clause-rows c = rows_relinked c.args.nodes.now c.in-Some.index c.args.link
